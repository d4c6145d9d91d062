-- Batches of generated messages that are joined from the last one to the first.
use Rattle.std.proofs.Common.{◌≡◌, ◌≢◌, ◌⊎◌, ℕ, zero, suc, ◌+◌, ◌-◌, ◌*◌, ◌<◌, ◌≤◌, List, [], ◌∷◌, ◌++◌, map, refl, sym, ap, ◌∙◌, subst, inl, inr, arith}
use Rattle.std.specs.Prelude.{min}
use Rattle.std.specs.List.{AllByRecursion, Contains, range_with_len}
use Rattle.std.proofs.lemmas.Bool.{cases_lt}
use Rattle.std.proofs.lemmas.List.Elements.{Contains-append_left, Contains-append_right, Contains-append_cases}
use Rattle.hybrid_clock.specs.declared.stamp.Stamp.{Stamp}
use Rattle.hybrid_clock.specs.Order.{stamp_cmp}
use Rattle.field_merge.specs.declared.message.Message.{Message}
use Rattle.field_merge.specs.Log.{IsRising, join}
use Rattle.field_merge.specs.Joining.{HasOneEach, HaveSame}
use Rattle.field_merge.proofs.Joining.{stamp_of, rising, found, in_turn, in_any_order}
use Rattle.field_merge.proofs.Members.{all_of}
use Rattle.field_merge.proofs.Orders.{stamps_total, stamps_exact}
use Rattle.field_merge.proofs.Ordered.{same, in_order_nil}
use Rattle.hybrid_clock.specs.Stamp.{window}
use Rattle.generated_books.specs.Clocks.{IsWithin, IsBy, AreBy, last_time}
use Rattle.generated_books.specs.Numbers.{count_of, message_at, messages_at, messages_from}
use Rattle.generated_books.proofs.Ranges.{split, all_in, all_append}
use Rattle.generated_books.proofs.Rising.{rising_at}

none_rises : IsRising []
none_rises = in_order_nil stamp_of stamp_cmp

-- messages that rise are their own join
alone : (ms : List Message) → IsRising ms → join [] ms ≡ ms
alone ms h = same stamp_of stamp_cmp stamps_total (join [] ms) ms (rising [] ms none_rises) h (λ s. found [] ms s)

-- it is the message of some number
IsNumbered : Message → Type 0
IsNumbered m = (j : ℕ) × (m ≡ message_at j)

numbered_at : (a n : ℕ) → AllByRecursion IsNumbered (messages_at a n)
unfolding IsNumbered
numbered_at a n = all_in message_at IsNumbered a n (λ j low high. (j, refl))

-- one timestamp, one number
same_number : (j k : ℕ) → (message_at j).stamp ≡ (message_at k).stamp → j ≡ k
unfolding message_at
same_number j k e = let time : 1_704_067_200_000 + 1000 * j ≡ 1_704_067_200_000 + 1000 * k = ap (λ (s : Stamp). s.millis) e in omega arith

one_each : (ms : List Message) → AllByRecursion IsNumbered ms → HasOneEach ms
unfolding IsNumbered
one_each ms h m n at_m at_n e =
    let p : (j : ℕ) × (m ≡ message_at j) = all_of IsNumbered ms h m at_m in
    let q : (j : ℕ) × (n ≡ message_at j) = all_of IsNumbered ms h n at_n in
    p.1 ∙ ap message_at (same_number p.0 q.0 (ap (λ (x : Message). x.stamp) (sym p.1) ∙ e ∙ ap (λ (x : Message). x.stamp) q.1)) ∙ sym q.1

turned : (xs ys : List Message) (m : Message) → Contains (xs ++ ys) m → Contains (ys ++ xs) m
turned xs ys m h = elim (Contains-append_cases xs ys m h) [
  | inl left ↦ Contains-append_right ys xs m left
  | inr right ↦ Contains-append_left ys xs m right
]

-- those before join those behind
pub joined_before : (a m n k : ℕ) → a + m ≡ k → join (messages_at k n) (messages_at a m) ≡ messages_at a (m + n)
joined_before a m n k e =
    let behind = messages_at k n in
    let before = messages_at a m in
    ap (λ (ms : List Message). join ms before) (sym (alone behind (rising_at k n)))
    ∙ in_turn [] behind before
    ∙ in_any_order [] (behind ++ before) (before ++ behind) none_rises (one_each (behind ++ before) (all_append IsNumbered behind before (numbered_at k n) (numbered_at a m)))
    (λ x. (turned behind before x, turned before behind x))
    ∙ ap (join []) (sym (split message_at a m n k e))
    ∙ alone (messages_at a (m + n)) (rising_at a (m + n))

-- a batch, of which those behind it came before: it ends with the last message, or where those behind it begin
pub batch_joined : (n from to more : ℕ) → from ≤ to → to ≤ count_of n → to ≤ more → (to < more → to ≡ count_of n)
    → join (messages_from more n) (messages_at from (to - from)) ≡ messages_from from n
batch_joined n from to more low high within last =
    elim (cases_lt to more) [
      | inl short ↦
          let none : count_of n - more ≡ 0 = omega (arith, last short) in
          let all : to - from ≡ count_of n - from = omega (arith, last short) in
          ap (λ (l : ℕ). join (messages_at more l) (messages_at from (to - from))) none
          ∙ alone (messages_at from (to - from)) (rising_at from (to - from)) ∙ ap (messages_at from) all
      | inr full ↦
          let rest : (to - from) + (count_of n - more) ≡ count_of n - from = omega arith in
          joined_before from (to - from) (count_of n - more) more (omega arith) ∙ ap (messages_at from) rest
    ]

-- there is one
pub some_at : (a n : ℕ) → 0 < n → messages_at a n ≢ []
some_at a zero h e = omega arith
some_at a (suc n) h e = cc

-- none is past the time of the last, and each has the counter 0
pub by_last : (n from count : ℕ) → from + count ≤ count_of n → AreBy (last_time n) (messages_at from count)
unfolding message_at
by_last n from count low = all_in message_at (λ m. IsBy (last_time n) m.stamp) from count (λ j first last. record { time = omega arith; counter = refl })

pub last_inside : (n : ℕ) → n ≤ 100_000 → last_time n < 60_000 * window
last_inside n few = omega arith

-- a batch of 1,000 messages, or of those that are left at the end, of which those behind it came before
pub batch_step : (n at to : ℕ) (old batch new : List Message) → to ≡ min (1000 * at + 1000) (15 + 4 * n) → 1000 * at < count_of n
    → old ≡ messages_from (1000 * (at + 1)) n → batch ≡ messages_at (1000 * at) (to - 1000 * at) → new ≡ join old batch → new ≡ messages_from (1000 * at) n
batch_step n at to old batch new end within behind is joined =
    joined ∙ ap (λ (ms : List Message). join ms batch) behind ∙ ap (join (messages_from (1000 * (at + 1)) n)) is
    ∙ batch_joined n (1000 * at) to (1000 * (at + 1)) (omega arith) (omega arith) (omega arith) (λ short. omega arith)

-- behind the last batch there are none
pub none_behind : (n batches : ℕ) → count_of n ≤ 1000 * batches → [] ≡ messages_from (1000 * batches) n
none_behind n batches high =
    let none : count_of n - 1000 * batches ≡ 0 = omega arith in
    ap (messages_at (1000 * batches)) (sym none)

-- ---- the clock

pub weaker : (reading m n : ℕ) (clock : Stamp) → m ≤ n → IsWithin reading m clock → IsWithin reading n clock
weaker reading m n clock low h = let t = h.time in let k = h.counter in record { time = t; counter = omega arith }

pub later_within : (early reading m n : ℕ) (clock : Stamp) → early ≤ reading → m ≤ n → IsWithin early m clock → IsWithin reading n clock
later_within early reading m n clock before low h = let t = h.time in let k = h.counter in record { time = omega arith; counter = omega arith }
