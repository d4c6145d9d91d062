-- What the latest message of each field is once a message with a new timestamp has taken its place.
use Rattle.std.proofs.Common.{◌≡◌, List, [], ◌∷◌, Bool, true, false, ◌&&◌, cond, Option, None, Some, refl, sym, ap, ◌∙◌, subst}
use Rattle.std.specs.Ordering.{is_eq, is_lt, ordering_reverse}
use Rattle.std.specs.Option.{option_or}
use Rattle.std.specs.Cmp.{tied_itself}
use Rattle.std.specs.List.{AllByRecursion}
use Rattle.std.specs.declared.cmp.Ordering.TheVariants.{Less, Equal, Greater}
use Rattle.field_values.specs.Names.{FieldNames}
use Rattle.hybrid_clock.specs.declared.stamp.Stamp.{Stamp}
use Rattle.hybrid_clock.specs.Order.{stamp_cmp}
use Rattle.field_merge.specs.declared.message.Message.{Message}
use Rattle.field_merge.specs.Log.{IsRising, at_stamp, by_stamp, has_field, latest, placed}
use Rattle.field_merge.specs.Stored.{is_newer}
use Rattle.field_merge.proofs.Orders.{stamps_total, names_exact, names_total}
use Rattle.field_merge.proofs.Members.{all_of, all_keys, missed, or_none}
use Rattle.field_merge.proofs.Ordered.{IsBelow, below_less, equal, head, tail}
use Rattle.field_merge.proofs.Joining.{stamp_of}
use Rattle.field_merge.proofs.Latest.{latest-cons, latest_there}

-- whether a message is newer than the latest of its field
abbrev pub wins : List Message → Message → Bool
wins ms n = is_newer (latest ms n.field) n.stamp

-- ---- another field
other_field : (ms : List Message) (n : Message) (f : FieldNames) → has_field f n ≡ false → latest (placed by_stamp ms n) f ≡ latest ms f
other_field [] n f h = latest-cons n [] f ∙ ap (λ b. option_or None (cond b (Some n) None)) h
other_field (m ∷ ms) n f h =
    elim (is_lt (stamp_cmp n.stamp m.stamp)) as (λ b. latest (cond b (n ∷ m ∷ ms) (m ∷ placed by_stamp ms n)) f ≡ latest (m ∷ ms) f) [
      | true ↦ latest-cons n (m ∷ ms) f ∙ ap (λ b. option_or (latest (m ∷ ms) f) (cond b (Some n) None)) h ∙ sym (or_none (latest (m ∷ ms) f))
      | false ↦ latest-cons m (placed by_stamp ms n) f ∙ ap (λ o. option_or o (cond (has_field f m) (Some m) None)) (other_field ms n f h) ∙ sym (latest-cons m ms f)
    ]

-- ---- its own field
step : (o : Option Message) (b : Bool) (m n : Message) → is_lt (stamp_cmp m.stamp n.stamp) ≡ true → option_or (cond (is_newer o n.stamp) (Some n) o) (cond b (Some m) None) ≡ cond (is_newer (option_or o (cond b (Some m) None)) n.stamp) (Some n) (option_or o (cond b (Some m) None))
step None true m n h = rw h refl
step None false m n h = refl
step (Some l) b m n h =
    elim (is_lt (stamp_cmp l.stamp n.stamp)) as (λ t. option_or (cond t (Some n) (Some l)) (cond b (Some m) None) ≡ cond t (Some n) (Some l)) [ true ↦ refl | false ↦ refl ]

last_of_its_field : (o : Option Message) (n : Message) → ((l : Message) → o ≡ Some l → is_lt (stamp_cmp l.stamp n.stamp) ≡ false) → option_or o (Some n) ≡ cond (is_newer o n.stamp) (Some n) o
last_of_its_field None n h = refl
last_of_its_field (Some l) n h = rw (h l refl) refl

own_field : (ms : List Message) (n : Message) → IsRising ms → at_stamp ms n.stamp ≡ None → latest (placed by_stamp ms n) n.field ≡ cond (wins ms n) (Some n) (latest ms n.field)
own_field [] n s h = latest-cons n [] n.field ∙ ap (λ r. option_or None (cond (is_eq r) (Some n) None)) (tied_itself names_total n.field)
own_field (m ∷ ms) n s h =
    let new = missed (is_eq (stamp_cmp n.stamp m.stamp)) m (at_stamp ms n.stamp) h in
    elim (stamp_cmp n.stamp m.stamp) as (λ r. stamp_cmp n.stamp m.stamp ≡ r → is_eq r ≡ false → latest (cond (is_lt r) (n ∷ m ∷ ms) (m ∷ placed by_stamp ms n)) n.field ≡ cond (wins (m ∷ ms) n) (Some n) (latest (m ∷ ms) n.field)) [
      | Less ↦ λ p _.
          let below : IsBelow stamp_of stamp_cmp n.stamp (m ∷ ms) = (p, below_less stamp_of stamp_cmp stamps_total n.stamp m.stamp ms p (head stamp_of stamp_cmp m ms s)) in
          let above : AllByRecursion (λ (l : Message). stamp_cmp n.stamp l.stamp ≡ Less) (m ∷ ms) = all_keys stamp_of (λ (t : Stamp). stamp_cmp n.stamp t ≡ Less) (m ∷ ms) below in
          latest-cons n (m ∷ ms) n.field
          ∙ ap (λ r. option_or (latest (m ∷ ms) n.field) (cond (is_eq r) (Some n) None)) (tied_itself names_total n.field)
          ∙ last_of_its_field (latest (m ∷ ms) n.field) n (λ l e.
          let less : stamp_cmp n.stamp l.stamp ≡ Less = all_of (λ (l : Message). stamp_cmp n.stamp l.stamp ≡ Less) (m ∷ ms) above l (latest_there (m ∷ ms) n.field l e).0 in
          ap is_lt (stamps_total.antisymm l.stamp n.stamp ∙ ap ordering_reverse less))
      | Equal ↦ λ p e. cc
      | Greater ↦ λ p _.
          let less : is_lt (stamp_cmp m.stamp n.stamp) ≡ true = ap is_lt (stamps_total.antisymm m.stamp n.stamp ∙ ap ordering_reverse p) in
          latest-cons m (placed by_stamp ms n) n.field
          ∙ ap (λ o. option_or o (cond (has_field n.field m) (Some m) None)) (own_field ms n (tail stamp_of stamp_cmp m ms s) new.1)
          ∙ step (latest ms n.field) (has_field n.field m) m n less
          ∙ sym (ap (λ o. cond (is_newer o n.stamp) (Some n) o) (latest-cons m ms n.field))
    ] refl new.0

and_true : (b : Bool) → (b && true) ≡ b
and_true true = refl
and_true false = refl

and_false : (b : Bool) → (b && false) ≡ false
and_false true = refl
and_false false = refl

-- the new message is the latest of its field if it is newer; each other field keeps its latest
pub latest-placed : (ms : List Message) (n : Message) → IsRising ms → at_stamp ms n.stamp ≡ None → (f : FieldNames) → latest (placed by_stamp ms n) f ≡ cond (wins ms n && has_field f n) (Some n) (latest ms f)
latest-placed ms n s h f =
    elim (has_field f n) as (λ b. has_field f n ≡ b → latest (placed by_stamp ms n) f ≡ cond (wins ms n && b) (Some n) (latest ms f)) [
      | true ↦ λ t.
          let its_own : n.field ≡ f = sym (names_exact f n.field (equal _ t)) in
          subst (λ (g : FieldNames). latest (placed by_stamp ms n) g ≡ cond (wins ms n && true) (Some n) (latest ms g)) its_own
          (own_field ms n s h ∙ ap (λ b. cond b (Some n) (latest ms n.field)) (sym (and_true (wins ms n))))
      | false ↦ λ t. other_field ms n f t ∙ ap (λ b. cond b (Some n) (latest ms f)) (sym (and_false (wins ms n)))
    ] refl
