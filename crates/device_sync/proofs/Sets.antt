-- Message sets by the timestamps that they have.
use Rattle.std.proofs.Common.{◌≡◌, List, [], ◌∷◌, Bool, true, false, ◌&&◌, ◌||◌, cond, Option, None, Some, map, map-id, filter, refl, sym, ap, ap₂, ◌∙◌, subst, inl, inr}
use Rattle.std.specs.Ordering.{is_eq}
use Rattle.std.specs.Option.{is_some, option_or}
use Rattle.std.specs.List.{find, list_any}
use Rattle.std.specs.List.Sorted.{IsStrictlySortedBy}
use Rattle.std.specs.declared.cmp.Ordering.{Ordering}
use Rattle.hybrid_clock.specs.declared.stamp.Stamp.{Stamp}
use Rattle.hybrid_clock.specs.Order.{stamp_cmp}
use Rattle.hybrid_clock.specs.Stamp.{IsStamp}
use Rattle.field_merge.specs.declared.message.Message.{Message}
use Rattle.field_merge.specs.Messages.{IsMessage, AreMessages}
use Rattle.field_merge.specs.Log.{IsRising, at_stamp, has_stamp, join}
use Rattle.field_merge.proofs.Joining.{found, is_join, stamp_of}
use Rattle.field_merge.proofs.Members.{all_from, all_of, is_some-find}
use Rattle.field_merge.proofs.Ordered.{IsBelow, IsInOrder, cons, equal, head, same, tail}
use Rattle.field_merge.proofs.Orders.{stamps_exact, stamps_total}
use Rattle.minute_trie.specs.Trie.{Pair, stamp_pair}
use Rattle.kept_messages.specs.Pairs.{pairs_of}

-- whether a set has a timestamp
abbrev pub has : Stamp → List Message → Bool
has k ms = list_any (has_stamp k) ms

-- those whose timestamp passes
abbrev pub those : (Stamp → Bool) → List Message → List Message
those f ms = filter (λ m. f m.stamp) ms

either_some : (o p : Option Message) → is_some (option_or o p) ≡ (is_some o || is_some p)
either_some None p = refl
either_some (Some m) p = refl

pub has_join : (k : Stamp) (ms ns : List Message) → has k (join ms ns) ≡ (has k ms || has k ns)
has_join k ms ns =
    sym (is_some-find (has_stamp k) (join ms ns)) ∙ ap is_some (found ms ns k) ∙ either_some (at_stamp ms k) (at_stamp ns k)
    ∙ ap₂ (λ (a b : Bool). a || b) (is_some-find (has_stamp k) ms) (is_some-find (has_stamp k) ns)

and_false : (b : Bool) → false ≡ (b && false)
and_false true = refl
and_false false = refl

-- the timestamp is that of the message that has it
of_one : (f : Stamp → Bool) (k : Stamp) (m : Message) → has_stamp k m ≡ true → f k ≡ f m.stamp
of_one f k m h = ap f (stamps_exact k m.stamp (equal _ h))

pub has_those : (f : Stamp → Bool) (k : Stamp) (ms : List Message) → has k (those f ms) ≡ (f k && has k ms)
has_those f k [] = and_false (f k)
has_those f k (m ∷ ms) = one (f m.stamp) (has_stamp k m) refl refl (has_those f k ms)
  where
    one : (a c : Bool) → f m.stamp ≡ a → has_stamp k m ≡ c → has k (those f ms) ≡ (f k && has k ms) → has k (cond a (m ∷ those f ms) (those f ms)) ≡ (f k && (has_stamp k m || has k ms))
    one true true ha hc rest = let e : f k ≡ true = of_one f k m hc ∙ ha in rw (hc, e) refl
    one true false ha hc rest = rw hc rest
    one false true ha hc rest = let e : f k ≡ false = of_one f k m hc ∙ ha in rest ∙ (rw e refl)
    one false false ha hc rest = rw hc rest

none_of : (b : Bool) → ◌≡◌ {A = Option Message} None (cond b None None)
none_of true = refl
none_of false = refl

pub at_those : (f : Stamp → Bool) (k : Stamp) (ms : List Message) → at_stamp (those f ms) k ≡ cond (f k) (at_stamp ms k) None
at_those f k [] = none_of (f k)
at_those f k (m ∷ ms) = one (f m.stamp) (has_stamp k m) refl refl (at_those f k ms)
  where
    one : (a c : Bool) → f m.stamp ≡ a → has_stamp k m ≡ c → at_stamp (those f ms) k ≡ cond (f k) (at_stamp ms k) None
        → at_stamp (cond a (m ∷ those f ms) (those f ms)) k ≡ cond (f k) (cond (has_stamp k m) (Some m) (at_stamp ms k)) None
    one true true ha hc rest = let e : f k ≡ true = of_one f k m hc ∙ ha in rw (hc, e) refl
    one true false ha hc rest = rw hc rest
    one false true ha hc rest = let e : f k ≡ false = of_one f k m hc ∙ ha in rest ∙ (rw e refl)
    one false false ha hc rest = rw hc rest

-- ---- what is kept of a set

module _ {A K : Type 0} (key : A → K) (R : K → K → Ordering) (p : A → Bool) where
  kept_below : (k : K) (xs : List A) → IsBelow key R k xs → IsBelow key R k (filter p xs)
  kept_below k [] h = tt
  kept_below k (x ∷ xs) h =
      elim (p x) as (λ b. IsBelow key R k (cond b (x ∷ filter p xs) (filter p xs))) [
        | true ↦ (h.0, kept_below k xs h.1)
        | false ↦ kept_below k xs h.1
      ]

  kept_in_order : (xs : List A) → IsInOrder key R xs → IsInOrder key R (filter p xs)
  kept_in_order [] s = s
  kept_in_order (x ∷ xs) s =
      let rest = kept_in_order xs (tail key R x xs s) in
      elim (p x) as (λ b. IsInOrder key R (cond b (x ∷ filter p xs) (filter p xs))) [
        | true ↦ cons key R x (filter p xs) (kept_below (key x) xs (head key R x xs s)) rest
        | false ↦ rest
      ]

pub those_rise : (f : Stamp → Bool) (ms : List Message) → IsRising ms → IsRising (those f ms)
those_rise f ms up = kept_in_order stamp_of stamp_cmp (λ m. f m.stamp) ms up

pub those_valid : (f : Stamp → Bool) (ms : List Message) → AreMessages ms → AreMessages (those f ms)
those_valid f [] valid = tt
those_valid f (m ∷ ms) valid =
    elim (f m.stamp) as (λ b. AreMessages (cond b (m ∷ those f ms) (those f ms))) [
      | true ↦ (valid.0, those_valid f ms valid.1)
      | false ↦ those_valid f ms valid.1
    ]

pub join_valid : (ms ns : List Message) → AreMessages ms → AreMessages ns → AreMessages (join ms ns)
join_valid ms ns one other =
    all_from IsMessage (join ms ns) (λ m c. elim ((is_join ms ns).no_other m c) [
      | inl here ↦ all_of IsMessage ms one m here
      | inr there ↦ all_of IsMessage ns other m there
    ])

-- ---- sets with the same timestamps have the same pairs

find_stamp : (k : Stamp) (ms : List Message) → find (λ s. is_eq (stamp_cmp k s)) (map stamp_of ms) ≡ cond (has k ms) (Some k) None
find_stamp k [] = refl
find_stamp k (m ∷ ms) = one (has_stamp k m) refl (find_stamp k ms)
  where
    one : (c : Bool) → has_stamp k m ≡ c → find (λ s. is_eq (stamp_cmp k s)) (map stamp_of ms) ≡ cond (has k ms) (Some k) None
        → cond c (Some m.stamp) (find (λ s. is_eq (stamp_cmp k s)) (map stamp_of ms)) ≡ cond (c || has k ms) (Some k) None
    one true hc rest = ap (λ (s : Stamp). Some s) (sym (stamps_exact k m.stamp (equal _ hc)))
    one false hc rest = rest

stamps_in_order : (ms : List Message) → IsRising ms → IsInOrder (λ (s : Stamp). s) stamp_cmp (map stamp_of ms)
stamps_in_order ms up = subst (λ (ss : List Stamp). IsStrictlySortedBy stamp_cmp ss) (sym (map-id (map stamp_of ms))) up

pub same_stamps : (ms ns : List Message) → IsRising ms → IsRising ns → ((k : Stamp) → has k ms ≡ has k ns) → map stamp_of ms ≡ map stamp_of ns
same_stamps ms ns one other h =
    same (λ (s : Stamp). s) stamp_cmp stamps_total (map stamp_of ms) (map stamp_of ns) (stamps_in_order ms one) (stamps_in_order ns other)
    (λ k. find_stamp k ms ∙ ap (λ (b : Bool). cond b (Some k) None) (h k) ∙ sym (find_stamp k ns))

pairs_stamps : (ms : List Message) → pairs_of ms ≡ map stamp_pair (map stamp_of ms)
pairs_stamps [] = refl
pairs_stamps (m ∷ ms) = ap (λ (ps : List Pair). stamp_pair m.stamp ∷ ps) (pairs_stamps ms)

pub same_pairs : (ms ns : List Message) → IsRising ms → IsRising ns → ((k : Stamp) → has k ms ≡ has k ns) → pairs_of ms ≡ pairs_of ns
same_pairs ms ns one other h = pairs_stamps ms ∙ ap (map stamp_pair) (same_stamps ms ns one other h) ∙ sym (pairs_stamps ns)

-- the pairs that pass are those of the messages whose timestamp passes
pub filter_pairs : (f : Pair → Bool) (g : Stamp → Bool) → ((s : Stamp) → IsStamp s → f (stamp_pair s) ≡ g s) → (ms : List Message) → AreMessages ms
    → filter f (pairs_of ms) ≡ pairs_of (those g ms)
filter_pairs f g h [] valid = refl
filter_pairs f g h (m ∷ ms) valid = one (f (stamp_pair m.stamp)) (g m.stamp) (h m.stamp valid.0.stamp) (filter_pairs f g h ms valid.1)
  where
    one : (a b : Bool) → a ≡ b → filter f (pairs_of ms) ≡ pairs_of (those g ms)
        → cond a (stamp_pair m.stamp ∷ filter f (pairs_of ms)) (filter f (pairs_of ms)) ≡ pairs_of (cond b (m ∷ those g ms) (those g ms))
    one true true e rest = ap (λ (ps : List Pair). stamp_pair m.stamp ∷ ps) rest
    one false false e rest = rest
    one true false e rest = absurd (cc)
    one false true e rest = absurd (cc)
