-- Ids of which each is taken once.
use Rattle.std.proofs.Common.{◌≡◌, ℕ, ◌+◌, ◌<◌, Bool, true, false, cond, List, [], ◌∷◌, ◌++◌, length, get_or, drop, filter, refl, ap, sym, subst, ◌∙◌, append_assoc, add-one, drop-cons}
use Rattle.std.specs.Prelude.{not, flat_map}
use Rattle.std.specs.declared.cmp.Ordering.{Ordering}
use Rattle.std.specs.declared.cmp.Ordering.TheVariants.{Less, Equal, Greater}
use Rattle.std.specs.Ordering.{is_eq}
use Rattle.std.specs.List.{list_any}
use Rattle.std.specs.BTreeMap.{is_at}
use Rattle.std.specs.BTreeSet as set
use Rattle.std.specs.BTreeSet.{BTreeSet}
use Rattle.finite_sums.specs.Maps.{Text, text_cmp}
use Rattle.finite_sums.proofs.Texts.{text_same}
use Rattle.book_edits.specs.Checks.{same_id, distinct}

-- an id that was not taken yet
abbrev pub is_new : BTreeSet Text → Text → Bool
is_new s id = not (set.contains text_cmp s id)

equal : (r : Ordering) → is_eq r ≡ true → r ≡ Equal
equal Less h = cc
equal Equal h = refl
equal Greater h = cc

pub one_text : (a b : Text) → same_id a b ≡ true → a ≡ b
one_text a b h = text_same a b (equal (text_cmp a b) h)

-- one more is taken
abbrev pub Takes : BTreeSet Text → BTreeSet Text → Text → Type 0
Takes s n id = (q : Text) → set.contains text_cmp n q ≡ cond (same_id id q) true (set.contains text_cmp s q)

left : (s n : BTreeSet Text) (id : Text) (ds : List Text) → Takes s n id → filter (is_new s) (filter (λ o. not (same_id id o)) ds) ≡ filter (is_new n) ds
left s n id [] t = refl
left s n id (d ∷ ds) t =
    let others = filter (λ o. not (same_id id o)) ds in
    elim (same_id id d) as (λ b. set.contains text_cmp n d ≡ cond b true (set.contains text_cmp s d) → filter (is_new s) (cond (not b) (d ∷ others) others) ≡ filter (is_new n) (d ∷ ds)) [
      | true ↦ λ e. left s n id ds t ∙ sym (ap (λ b. cond (not b) (d ∷ filter (is_new n) ds) (filter (is_new n) ds)) e)
      | false ↦ λ e. ap (λ xs. cond (is_new s d) (d ∷ xs) xs) (left s n id ds t) ∙ sym (ap (λ b. cond (not b) (d ∷ filter (is_new n) ds) (filter (is_new n) ds)) e)
    ] (t d)

-- an id more, which was not taken, or was
pub taken : {W : Type 0} (f : Text → List W) (s n : BTreeSet Text) (id : Text) (ids : List Text) (before after whole : List W) → Takes s n id
    → after ≡ cond (is_new s id) (before ++ f id) before
    → before ++ flat_map f (filter (is_new s) (distinct (id ∷ ids))) ≡ whole
    → after ++ flat_map f (filter (is_new n) (distinct ids)) ≡ whole
taken {W} f s n id ids before after whole t is inv =
    let rest = flat_map f (filter (is_new n) (distinct ids)) in
    let same : filter (is_new s) (filter (λ o. not (same_id id o)) (distinct ids)) ≡ filter (is_new n) (distinct ids) = left s n id (distinct ids) t in
    let F : List Text → List W = λ xs. before ++ flat_map f (cond (is_new s id) (id ∷ xs) xs) in
    let inv2 : F (filter (is_new n) (distinct ids)) ≡ whole = sym (ap F same) ∙ inv in
    (elim (is_new s id) as (λ b. after ≡ cond b (before ++ f id) before → before ++ flat_map f (cond b (id ∷ filter (is_new n) (distinct ids)) (filter (is_new n) (distinct ids))) ≡ whole → after ++ rest ≡ whole) [
      | true ↦ λ e v. ap (λ xs. xs ++ rest) e ∙ append_assoc before (f id) rest ∙ v
      | false ↦ λ e v. ap (λ xs. xs ++ rest) e ∙ v
    ]) is inv2

-- as the loop has it: the id at a place, of which a copy is taken
pub taken_at : {W : Type 0} (f : Text → List W) (s n : BTreeSet Text) (ids : List Text) (i : ℕ) (id key : Text) (before after whole : List W) → id ≡ get_or ids i id → i < length ids → key ≡ id → Takes s n key
    → after ≡ cond (is_new s key) (before ++ f id) before
    → before ++ flat_map f (filter (is_new s) (distinct (drop i ids))) ≡ whole
    → after ++ flat_map f (filter (is_new n) (distinct (drop (i + 1) ids))) ≡ whole
taken_at {W} f s n ids i id key before after whole item h copied t is inv =
    let next : drop i ids ≡ get_or ids i id ∷ drop (i + 1) ids = rw add-one (drop-cons ids i id h) in
    let split : drop i ids ≡ id ∷ drop (i + 1) ids = next ∙ ap (λ (x : Text). x ∷ drop (i + 1) ids) (sym item) in
    taken f s n id (drop (i + 1) ids) before after whole (subst (Takes s n) copied t)
    (subst (λ (k : Text). after ≡ cond (is_new s k) (before ++ f id) before) copied is)
    (subst (λ (xs : List Text). before ++ flat_map f (filter (is_new s) (distinct xs)) ≡ whole) split inv)

none_taken : (s : BTreeSet Text) → s.keys ≡ [] → (ids : List Text) → filter (is_new s) ids ≡ ids
none_taken s empty [] = refl
none_taken s empty (id ∷ ids) =
    ap (λ (ks : List Text). cond (not (list_any (is_at (text_cmp id)) ks)) (id ∷ filter (is_new s) ids) (filter (is_new s) ids)) empty ∙ ap (λ (xs : List Text). id ∷ xs) (none_taken s empty ids)

pub at_first : {W : Type 0} (f : Text → List W) (s : BTreeSet Text) (before : List W) (ids : List Text) → before ≡ [] → s.keys ≡ [] → before ++ flat_map f (filter (is_new s) (distinct ids)) ≡ flat_map f (distinct ids)
at_first {W} f s before ids none empty = ap (λ (xs : List W). xs ++ flat_map f (filter (is_new s) (distinct ids))) none ∙ ap (flat_map f) (none_taken s empty (distinct ids))
