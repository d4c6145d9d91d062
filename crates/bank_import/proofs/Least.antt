-- The least id of the rows that pass a test, by what is found under each id.
use Rattle.std.proofs.Common.{◌≡◌, Bool, true, false, cond, List, [], ◌∷◌, Option, Some, None, refl, sym, ap, ◌∙◌, inl, inr, ◌⊎◌, ⊎_elim, subst}
use Rattle.std.specs.Prelude.{◌||◌, map as list_map}
use Rattle.std.specs.Option.{option_map}
use Rattle.std.specs.List as list
use Rattle.std.specs.List.{filter}
use Rattle.std.specs.declared.cmp.Ordering.TheVariants.{Less}
use Rattle.std.specs.Cmp.Lexicographic.{nat_list_cmp_total}
use Rattle.std.specs.FinMap.{get, entries, entries_sorted}
use Rattle.finite_sums.specs.Maps.{Text, Texts, text_cmp, some_and, keys_where, is_among}
use Rattle.finite_sums.proofs.MapSums.{so, among-keys_where}
use Rattle.finite_sums.proofs.Texts.{text_total, text_same}
use Rattle.book_edits.specs.Checks.{same_id, least_where}
use Rattle.bank_import.proofs.Nearest.{id_same, id_itself}
use Rattle.bank_import.proofs.Again.{irreflexive}
use Rattle.bank_import.proofs.Listed.{Below, Up, up_keys}

abbrev first_of : List Text → Option Text
first_of [] = None
first_of (k ∷ ks) = Some k

abbrev key : {X : Type 0} → Option (Text × X) → Option Text
key o = option_map (λ e. e.0) o

is_first : {X : Type 0} (p : X → Bool) (es : List (Text × X)) → least_where p es ≡ first_of (keys_where p es)
is_first p [] = refl
is_first {X = X} p (e ∷ es) = by (p e.1) (is_first p es)
  where
    by : (b : Bool) → key (list.find (λ e. p e.1) es) ≡ first_of (keys_where p es)
        → key (cond b (Some e) (list.find (λ e. p e.1) es)) ≡ first_of (list_map (λ e. e.0) (cond b (e ∷ filter (λ e. p e.1) es) (filter (λ e. p e.1) es)))
    by true h = refl
    by false h = h

no : {P : Type 0} → false ≡ true → P
no h = absurd (clash h)
  where
    clash : false ≡ true → ⊥
    clash h = cc

among_cases : (k q : Text) (ks : List Text) → is_among text_cmp (k ∷ ks) q ≡ true → (q ≡ k) ⊎ (is_among text_cmp ks q ≡ true)
among_cases k q ks h = by (same_id q k) refl h
  where
    by : (b : Bool) → same_id q k ≡ b → (b || is_among text_cmp ks q) ≡ true → (q ≡ k) ⊎ (is_among text_cmp ks q ≡ true)
    by true e g = inl (id_same q k e)
    by false e g = inr g

among_head : (k : Text) (ks : List Text) → is_among text_cmp (k ∷ ks) k ≡ true
among_head k ks = ap (λ b. b || is_among text_cmp ks k) (id_itself k)

below_among : (k q : Text) (ks : List Text) → Below k ks → is_among text_cmp ks q ≡ true → text_cmp k q ≡ Less
below_among k q [] h a = no a
below_among k q (x ∷ ks) h a = ⊎_elim (λ e. subst (λ (t : Text). text_cmp k t ≡ Less) (sym e) h.0) (λ r. below_among k q ks h.1 r) (among_cases x q ks a)

-- lists in order with the same texts begin alike
same_first : (ks ls : List Text) → Up ks → Up ls → ((q : Text) → is_among text_cmp ks q ≡ is_among text_cmp ls q) → first_of ks ≡ first_of ls
same_first [] [] u v h = refl
same_first [] (l ∷ ls) u v h = no (h l ∙ among_head l ls)
same_first (k ∷ ks) [] u v h = no (sym (h k) ∙ among_head k ks)
same_first (k ∷ ks) (l ∷ ls) u v h =
    ⊎_elim (λ e. ap Some e)
    (λ a. ⊎_elim (λ e. ap Some (sym e))
    (λ b. absurd (irreflexive k (nat_list_cmp_total.trans k l k (below_among k l ks u.0 b) (below_among l k ls v.0 a))))
    (among_cases k l ks (h l ∙ among_head l ls)))
    (among_cases l k ls (sym (h k) ∙ among_head k ks))

from_first : (ks : List Text) → ((k : Text) → is_among text_cmp ks k ≡ true → ⊥) → first_of ks ≡ None
from_first [] h = refl
from_first (k ∷ ks) h = absurd (h k (among_head k ks))

only_first : (ks : List Text) (k : Text) → is_among text_cmp ks k ≡ true → ((q : Text) → is_among text_cmp ks q ≡ true → q ≡ k) → first_of ks ≡ Some k
only_first [] k a h = no a
only_first (q ∷ ks) k a h = ap Some (h q (among_head q ks))

first_none : (ks : List Text) (k : Text) → first_of ks ≡ None → is_among text_cmp ks k ≡ true → ⊥
first_none [] k e a = no a
first_none (q ∷ ks) k e a = let bad : Some q ≡ None = e in cc

some_passes : {X : Type 0} (p : X → Bool) (o : Option X) → some_and p o ≡ true → (x : X) × (o ≡ Some x) × (p x ≡ true)
some_passes p None h = no h
some_passes p (Some x) h = (x, refl, h)

module _ {X : Type 0} (p : X → Bool) (m : Texts X) where
  abbrev ks : List Text
  ks = keys_where p (entries m)

  among : (q : Text) → is_among text_cmp ks q ≡ some_and p (get m q)
  among q = among-keys_where text_total text_same p m q

  pub up : Up ks
  up = up_keys p (entries m) (so _ (entries_sorted m))

  -- there is none where none passes
  pub least_none : ((q : Text) (x : X) → get m q ≡ Some x → p x ≡ true → ⊥) → least_where p (entries m) ≡ None
  least_none h = is_first p (entries m) ∙ from_first ks (λ q a. let w = some_passes p (get m q) (sym (among q) ∙ a) in h q w.0 w.1 w.2)

  -- the only one that passes
  pub least_only : (k : Text) (v : X) → get m k ≡ Some v → p v ≡ true → ((q : Text) (x : X) → get m q ≡ Some x → p x ≡ true → q ≡ k) → least_where p (entries m) ≡ Some k
  least_only k v there pass h =
      is_first p (entries m)
      ∙ only_first ks k (among k ∙ ap (some_and p) there ∙ pass) (λ q a. let w = some_passes p (get m q) (sym (among q) ∙ a) in h q w.0 w.1 w.2)

  -- where there is none, none passes
  pub none_passes : least_where p (entries m) ≡ None → (q : Text) (x : X) → get m q ≡ Some x → p x ≡ true → ⊥
  none_passes e q x there pass = first_none ks q (sym (is_first p (entries m)) ∙ e) (among q ∙ ap (some_and p) there ∙ pass)

-- where the same rows pass, the least is the same
pub same_least : {X : Type 0} (p : X → Bool) (m n : Texts X) → ((q : Text) → some_and p (get m q) ≡ some_and p (get n q)) → least_where p (entries m) ≡ least_where p (entries n)
same_least p m n h =
    is_first p (entries m)
    ∙ same_first (keys_where p (entries m)) (keys_where p (entries n)) (up p m) (up p n) (λ q. among p m q ∙ h q ∙ sym (among p n q))
    ∙ sym (is_first p (entries n))
