-- A message at its place among messages in the order of a key, which is their timestamp or their field.
use Rattle.std.proofs.Common.{◌≡◌, suc, List, [], ◌∷◌, Bool, true, false, cond, None, Some, map, length, refl, sym, ap, ◌∙◌}
use Rattle.std.specs.Ordering.{is_eq, is_lt, ordering_reverse}
use Rattle.std.specs.Cmp.{IsTotalOrder}
use Rattle.std.specs.List.{find, AllByRecursion}
use Rattle.std.specs.declared.cmp.Ordering.{Ordering}
use Rattle.std.specs.declared.cmp.Ordering.TheVariants.{Less, Equal, Greater}
use Rattle.field_merge.specs.declared.message.Message.{Message}
use Rattle.field_merge.specs.Log.{placed}
use Rattle.field_merge.proofs.Members.{missed}
use Rattle.field_merge.proofs.Ordered.{has, IsInOrder, head, tail, cons, below_less, equal}

-- what holds of the messages and of a new one holds of all
pub all_placed : (cmp : Message → Message → Ordering) (P : Message → Type 0) (ms : List Message) (n : Message) → P n → AllByRecursion P ms → AllByRecursion P (placed cmp ms n)
all_placed cmp P [] n p h = (p, tt)
all_placed cmp P (m ∷ ms) n p h =
    elim (is_lt (cmp n m)) as (λ b. AllByRecursion P (cond b (n ∷ m ∷ ms) (m ∷ placed cmp ms n))) [ true ↦ (p, h) | false ↦ (h.0, all_placed cmp P ms n p h.1) ]

pub length-placed : (cmp : Message → Message → Ordering) (ms : List Message) (n : Message) → length (placed cmp ms n) ≡ suc (length ms)
length-placed cmp [] n = refl
length-placed cmp (m ∷ ms) n =
    elim (is_lt (cmp n m)) as (λ b. length (cond b (n ∷ m ∷ ms) (m ∷ placed cmp ms n)) ≡ suc (suc (length ms))) [ true ↦ refl | false ↦ ap suc (length-placed cmp ms n) ]

swapped : {A : Type 0} (a b : Bool) (x y z : A) → (a ≡ true → b ≡ true → ⊥) → cond a x (cond b y z) ≡ cond b y (cond a x z)
swapped true true x y z apart = absurd (apart refl refl)
swapped true false x y z apart = refl
swapped false b x y z apart = refl

module _ {K : Type 0} (key : Message → K) (R : K → K → Ordering) where
  abbrev pub by : Message → Message → Ordering
  by m n = R (key m) (key n)

  below_placed : (P : K → Type 0) (ms : List Message) (n : Message) → P (key n) → AllByRecursion P (map key ms) → AllByRecursion P (map key (placed by ms n))
  below_placed P [] n p h = (p, tt)
  below_placed P (m ∷ ms) n p h =
      elim (is_lt (R (key n) (key m))) as (λ b. AllByRecursion P (map key (cond b (n ∷ m ∷ ms) (m ∷ placed by ms n)))) [ true ↦ (p, h) | false ↦ (h.0, below_placed P ms n p h.1) ]

  module _ (o : IsTotalOrder R) where
    -- the order stays
    pub in_order : (ms : List Message) (n : Message) → find (has key R (key n)) ms ≡ None → IsInOrder key R ms → IsInOrder key R (placed by ms n)
    in_order [] n h s = cons key R n [] tt s
    in_order (m ∷ ms) n h s =
        let new = missed (is_eq (R (key n) (key m))) m (find (has key R (key n)) ms) h in
        elim (R (key n) (key m)) as (λ r. R (key n) (key m) ≡ r → is_eq r ≡ false → IsInOrder key R (cond (is_lt r) (n ∷ m ∷ ms) (m ∷ placed by ms n))) [
          | Less ↦ λ p _. cons key R n (m ∷ ms) (p, below_less key R o (key n) (key m) ms p (head key R m ms s)) s
          | Equal ↦ λ p e. cc
          | Greater ↦ λ p _. cons key R m (placed by ms n) (below_placed (λ j. R (key m) j ≡ Less) ms n (o.antisymm (key m) (key n) ∙ ap ordering_reverse p) (head key R m ms s)) (in_order ms n new.1 (tail key R m ms s))
        ] refl new.0

    -- a key finds the new message where it is its own, and else what it found before
    pub find-placed : (ms : List Message) (n : Message) → find (has key R (key n)) ms ≡ None → (k : K) → find (has key R k) (placed by ms n) ≡ cond (is_eq (R k (key n))) (Some n) (find (has key R k) ms)
    find-placed [] n h k = refl
    find-placed (m ∷ ms) n h k =
        let new = missed (is_eq (R (key n) (key m))) m (find (has key R (key n)) ms) h in
        let apart : is_eq (R k (key m)) ≡ true → is_eq (R k (key n)) ≡ true → ⊥ =
        λ a b. let tied : R (key n) (key m) ≡ Equal = sym (o.congr k (key n) (key m) (equal _ b)) ∙ equal _ a in
        let yes : is_eq (R (key n) (key m)) ≡ true = ap is_eq tied in cc in
        elim (is_lt (R (key n) (key m))) as (λ b. find (has key R k) (cond b (n ∷ m ∷ ms) (m ∷ placed by ms n)) ≡ cond (is_eq (R k (key n))) (Some n) (cond (is_eq (R k (key m))) (Some m) (find (has key R k) ms))) [
          | true ↦ refl
          | false ↦ ap (cond (is_eq (R k (key m))) (Some m)) (find-placed ms n new.1 k) ∙ swapped (is_eq (R k (key m))) (is_eq (R k (key n))) (Some m) (Some n) (find (has key R k) ms) apart
        ]
