-- The greatest timestamp of messages, and a clock that is not behind messages.
use Rattle.std.proofs.Common.{◌≡◌, inl, inr, ℕ, suc, ◌-◌, Bool, true, false, cond, List, [], ◌∷◌, ◌++◌, Option, None, Some, length, refl, sym, ap, ◌∙◌, subst, arith, true≢false, Ordering, Less, Equal, Greater}
use Rattle.std.specs.Prelude.{slice_get, option_map}
use Rattle.std.specs.Option.{ForSome}
use Rattle.std.specs.Ordering.{is_lt, nat_cmp, ordering_then}
use Rattle.std.specs.Cmp.{ranked}
use Rattle.std.specs.Cmp.Lexicographic.{slice_cmp}
use Rattle.hybrid_clock.specs.declared.stamp.Stamp.{Stamp}
use Rattle.hybrid_clock.specs.Stamp.{IsStamp}
use Rattle.hybrid_clock.specs.Order.{stamp_cmp}
use Rattle.hybrid_clock.specs.Clock.{IsLater, clock_after}
use Rattle.field_merge.specs.declared.message.Message.{Message}
use Rattle.field_merge.specs.Log.{IsRising, last_stamp}
use Rattle.field_merge.specs.Messages.{AreMessages}
use Rattle.field_merge.proofs.Members.{all_keys}
use Rattle.field_merge.proofs.Ordered.{head, tail}
use Rattle.field_merge.proofs.Joining.{stamp_of}
use Rattle.device_core.specs.Beginning.{DevicesBegin}
use Rattle.device_core.specs.Device.{later_of, greatest, greatest_of, IsUpTo, IsAhead}

pub up_to_itself : (s : Stamp) → IsUpTo s s
up_to_itself s = inr (refl, omega arith)

pub up_to_trans : (c b a : Stamp) → IsUpTo c b → IsUpTo b a → IsUpTo c a
up_to_trans c b a (inl p) (inl q) = inl (omega arith)
up_to_trans c b a (inl p) (inr q) = let e = q.0 in inl (omega arith)
up_to_trans c b a (inr p) (inl q) = let e = p.0 in inl (omega arith)
up_to_trans c b a (inr p) (inr q) = inr (q.0 ∙ p.0, (let x = p.1 in let y = q.1 in omega arith))

pub up_to_later : (old new : Stamp) → IsLater old new → IsUpTo new old
up_to_later old new (inl less) = inl less
up_to_later old new (inr same) = inr (same.0, (let x = same.1 in omega arith))

pub ahead_up_to : (old new : Stamp) (ms : List Message) → IsUpTo new old → IsAhead old ms → IsAhead new ms
ahead_up_to old new [] up ahead = tt
ahead_up_to old new (m ∷ ms) up ahead = (up_to_trans new old m.stamp up ahead.0, ahead_up_to old new ms up ahead.1)

pub ahead_later : (old new : Stamp) (ms : List Message) → IsLater old new → IsAhead old ms → IsAhead new ms
ahead_later old new ms later ahead = ahead_up_to old new ms (up_to_later old new later) ahead

-- what the order of timestamps says of their times and counters
less_up_to : (s t : Stamp) → stamp_cmp s t ≡ Less → IsUpTo t s
less_up_to s t h = go (nat_cmp s.millis t.millis) (nat_cmp s.counter t.counter) refl refl h
  where
    go : (a b : Ordering) → a ≡ nat_cmp s.millis t.millis → b ≡ nat_cmp s.counter t.counter → ordering_then a (ordering_then b (slice_cmp nat_cmp s.node t.node)) ≡ Less → IsUpTo t s
    go Less b is also e = inl (ranked s.millis t.millis Less is)
    go Equal Less is also e = inr (ranked s.millis t.millis Equal is, (let x = ranked s.counter t.counter Less also in omega arith))
    go Equal Equal is also e = inr (ranked s.millis t.millis Equal is, (let x = ranked s.counter t.counter Equal also in omega arith))
    go Equal Greater is also e = absurd (cc)
    go Greater b is also e = absurd (cc)

not_less_up_to : (s t : Stamp) → is_lt (stamp_cmp s t) ≡ false → IsUpTo s t
not_less_up_to s t h = go (nat_cmp s.millis t.millis) (nat_cmp s.counter t.counter) refl refl h
  where
    go : (a b : Ordering) → a ≡ nat_cmp s.millis t.millis → b ≡ nat_cmp s.counter t.counter → is_lt (ordering_then a (ordering_then b (slice_cmp nat_cmp s.node t.node))) ≡ false → IsUpTo s t
    go Less b is also e = absurd (true≢false e)
    go Equal Less is also e = absurd (true≢false e)
    go Equal Equal is also e = inr (sym (ranked s.millis t.millis Equal is), (let x = ranked s.counter t.counter Equal also in omega arith))
    go Equal Greater is also e = inr (sym (ranked s.millis t.millis Equal is), (let x = ranked s.counter t.counter Greater also in omega arith))
    go Greater b is also e = inl (ranked s.millis t.millis Greater is)

is_less : (o : Ordering) → is_lt o ≡ true → o ≡ Less
is_less Less h = refl
is_less Equal h = absurd (true≢false (sym h))
is_less Greater h = absurd (true≢false (sym h))

later_up_to : (s t : Stamp) → IsUpTo (later_of s t) s × IsUpTo (later_of s t) t
later_up_to s t = go (is_lt (stamp_cmp s t)) refl
  where
    go : (b : Bool) → is_lt (stamp_cmp s t) ≡ b → IsUpTo (cond b t s) s × IsUpTo (cond b t s) t
    go true h = (less_up_to s t (is_less _ h), up_to_itself t)
    go false h = (up_to_itself s, not_less_up_to s t h)

pub greatest_ahead : (s : Stamp) (ms : List Message) → IsUpTo (greatest s ms) s × IsAhead (greatest s ms) ms
greatest_ahead s [] = (up_to_itself s, tt)
greatest_ahead s (m ∷ ms) =
    let rest = greatest_ahead (later_of s m.stamp) ms in
    let both = later_up_to s m.stamp in (
      up_to_trans (greatest s (m ∷ ms)) (later_of s m.stamp) s rest.0 both.0,
      (up_to_trans (greatest s (m ∷ ms)) (later_of s m.stamp) m.stamp rest.0 both.1, rest.1),
    )

-- the greatest timestamp is not behind one of the messages
pub of_ahead : (g : Stamp) (ms : List Message) → greatest_of ms ≡ Some g → IsAhead g ms
of_ahead g [] is = tt
of_ahead g (m ∷ ms) is =
    let same : greatest m.stamp ms ≡ g = cc in
    subst (λ (s : Stamp). IsAhead s (m ∷ ms)) same (greatest_ahead m.stamp ms)

later_valid : (s t : Stamp) → IsStamp s → IsStamp t → IsStamp (later_of s t)
later_valid s t a b = elim (is_lt (stamp_cmp s t)) as (λ x. IsStamp (cond x t s)) [ true ↦ b | false ↦ a ]

greatest_valid : (s : Stamp) (ms : List Message) → IsStamp s → AreMessages ms → IsStamp (greatest s ms)
greatest_valid s [] valid all = valid
greatest_valid s (m ∷ ms) valid all = greatest_valid (later_of s m.stamp) ms (later_valid s m.stamp valid all.0.stamp) all.1

pub of_valid : (g : Stamp) (ms : List Message) → greatest_of ms ≡ Some g → AreMessages ms → IsStamp g
of_valid g [] is valid = absurd (cc)
of_valid g (m ∷ ms) is valid =
    let same : greatest m.stamp ms ≡ g = cc in
    subst IsStamp same (greatest_valid m.stamp ms valid.0.stamp valid.1)

-- ---- the last message

last_on : (m n : Message) (ms : List Message) → last_stamp (m ∷ n ∷ ms) ≡ last_stamp (n ∷ ms)
last_on m n ms = let e : length (m ∷ n ∷ ms) - 1 ≡ suc (length (n ∷ ms) - 1) = omega arith in ap (λ i. option_map (λ (x : Message). x.stamp) (slice_get (m ∷ n ∷ ms) i)) e

pub last_is : (front : List Message) (m : Message) → last_stamp (front ++ m ∷ []) ≡ Some m.stamp
last_is [] m = refl
last_is (n ∷ []) m = refl
last_is (n ∷ o ∷ front) m = last_on n o (front ++ m ∷ []) ∙ last_is (o ∷ front) m

own_node : (node : List ℕ) (o : Option Stamp) → (clock_after node o).node ≡ node
own_node node None = refl
own_node node (Some s) = refl

pub last_valid : (ms : List Message) → AreMessages ms → ForSome (last_stamp ms) IsStamp
last_valid [] valid = λ s e. cc
last_valid (m ∷ []) valid = λ s e. let same : m.stamp ≡ s = cc in subst IsStamp same valid.0.stamp
last_valid (m ∷ n ∷ ms) valid = subst (λ (o : Option Stamp). ForSome o IsStamp) (sym (last_on m n ms)) (last_valid (n ∷ ms) valid.1)

-- a clock that begins after the last of rising messages is not behind one of them
pub after_ahead : (node : List ℕ) (ms : List Message) → IsRising ms → IsAhead (clock_after node (last_stamp ms)) ms
after_ahead node [] up = tt
after_ahead node (m ∷ []) up = (inr (refl, omega arith), tt)
after_ahead node (m ∷ n ∷ ms) up =
    let rest : IsAhead (clock_after node (last_stamp (n ∷ ms))) (n ∷ ms) = after_ahead node (n ∷ ms) (tail stamp_of stamp_cmp m (n ∷ ms) up) in
    let low : stamp_cmp m.stamp n.stamp ≡ Less = (all_keys stamp_of (λ (t : Stamp). stamp_cmp m.stamp t ≡ Less) (n ∷ ms) (head stamp_of stamp_cmp m (n ∷ ms) up)).0 in
    let first : IsUpTo (clock_after node (last_stamp (n ∷ ms))) m.stamp = up_to_trans (clock_after node (last_stamp (n ∷ ms))) n.stamp m.stamp rest.0 (less_up_to m.stamp n.stamp low) in
    subst (λ (o : Option Stamp). IsAhead (clock_after node o) (m ∷ n ∷ ms)) (sym (last_on m n ms)) (first, rest)

pub devices_begin : DevicesBegin
devices_begin node ms = record {
  messages = refl;
  own = own_node node (last_stamp ms);
  at_last = λ front m is.
      let last : last_stamp ms ≡ Some m.stamp = ap last_stamp is ∙ last_is front m in
      (ap (λ (o : Option Stamp). (clock_after node o).millis) last, ap (λ (o : Option Stamp). (clock_after node o).counter) last);
  at_start = λ none.
      let last : last_stamp ms ≡ None = ap last_stamp none in
      (ap (λ (o : Option Stamp). (clock_after node o).millis) last, ap (λ (o : Option Stamp). (clock_after node o).counter) last);
  ahead = λ up. after_ahead node ms up;
}
