-- Rules with ids that differ have one order.
use Rattle.std.proofs.Common.{◌≡◌, ℕ, zero, suc, ◌+◌, ◌<◌, List, [], ◌∷◌, length, get_or, false, arith, refl, ap, sym, ◌∙◌, inl, inr, ◌⊎◌, subst}
use Rattle.std.specs.List.{AllByRecursion, IsDistinct, Contains}
use Rattle.std.specs.List.Sorted.{IsPermutation, IsSorted, IsStrictlySortedBy}
use Rattle.std.specs.Prelude.{true, if◌then◌else◌}
use Rattle.std.specs.Ordering.{is_eq, is_lt, is_gt, nat_cmp, ordering_then, ordering_reverse}
use Rattle.std.specs.Cmp.Lexicographic.{slice_cmp}
use Rattle.std.specs.declared.cmp.Ordering.{Ordering}
use Rattle.std.specs.declared.cmp.Ordering.TheVariants.{Less, Equal, Greater}
use Rattle.std.specs.Str.{bytes_eq}
use Rattle.std.proofs.lemmas.Bool.{both_ways}
use Rattle.std.proofs.lemmas.Bool.Decides.{same_from_decides, Decides-like}
use Rattle.std.proofs.lemmas.Cmp.{tied_itself}
use Rattle.std.proofs.lemmas.List.Sorted.{Contains-permutation, IsPermutation-refl, IsPermutation-sym, IsPermutation-trans, IsPermutation-cons, IsPermutation-middle, ranks_by, sorted_far}
use Rattle.std.proofs.lemmas.Map.Keys.{IsDistinct-head, IsDistinct-tail, IsDistinct-IsPermutation}
use Rattle.std.proofs.lemmas.Map.Text.{is_eq-slice_cmp}
use Rattle.std.proofs.lemmas.Slice.Eq.{bytes_eq-Decides}
use Rattle.rule_engine.specs.declared.rule.Rule.{Rule}
use Rattle.rule_engine.specs.Scores.{rank_cmp, rank_total, same_id, placed, ranked}
use Rattle.rule_engine.specs.Laws.{RanksAreOneOrder}

flips : (a b : Rule) → same_id a b ≡ same_id b a
flips a b =
    same_from_decides {P = a.id ≡ b.id} (bytes_eq a.id b.id) (bytes_eq b.id a.id) (bytes_eq-Decides a.id b.id)
    (Decides-like (bytes_eq b.id a.id) (λ e. sym e) (λ e. sym e) (bytes_eq-Decides b.id a.id))

then_equal : (x y : Ordering) → ordering_then x y ≡ Equal → y ≡ Equal
then_equal Less y e = absurd (cc)
then_equal Equal y e = e
then_equal Greater y e = absurd (cc)

-- of two rules with two ids one is before the other
less_or : (a b : Rule) → is_lt (rank_cmp b a) ≡ false → same_id a b ≡ false → rank_cmp a b ≡ Less
less_or a b late apart =
    elim (rank_cmp a b) as (λ o. rank_cmp a b ≡ o → o ≡ Less) [
      | Less ↦ λ e. refl
      | Equal ↦ λ e. absurd (both_ways (same_id a b) apart (sym (is_eq-slice_cmp a.id b.id) ∙ ap is_eq (then_equal _ (slice_cmp nat_cmp a.id b.id) e)))
      | Greater ↦ λ e. absurd (both_ways (is_lt (rank_cmp b a)) late (ap is_lt (rank_total.antisymm b a ∙ ap ordering_reverse e)))
    ] refl

all_less : (x : Rule) (xs : List Rule) → AllByRecursion (λ y. same_id x y ≡ false) xs → ((k : ℕ) (d : Rule) → k < length xs → is_lt (rank_cmp (get_or xs k d) x) ≡ false) → AllByRecursion (λ y. rank_cmp x y ≡ Less) xs
all_less x [] apart late = tt
all_less x (y ∷ ys) apart late =
    (less_or x y (late 0 y (omega arith)) apart.0, all_less x ys apart.1 (λ k d h. late (suc k) d (omega arith)))

sorted_rest : (x : Rule) (xs : List Rule) → IsSorted rank_cmp (x ∷ xs) → IsSorted rank_cmp xs
sorted_rest x xs sorted k d from below =
    let next : suc k + 1 ≡ suc (k + 1) = omega arith in
    rw next at (sorted (suc k) d (omega arith) (omega arith))

pub strict : (xs : List Rule) → IsSorted rank_cmp xs → IsDistinct same_id xs → IsStrictlySortedBy rank_cmp xs
unfolding IsStrictlySortedBy
strict [] sorted distinct = tt
strict (x ∷ xs) sorted distinct = (
  all_less x xs (IsDistinct-head same_id x xs distinct)
      (λ k d h. sorted_far (λ a b. is_lt (rank_cmp a b)) (ranks_by rank_total (λ (r : Rule). r)) (x ∷ xs) sorted 0 (suc k) d (omega arith) (omega arith)),
  strict xs (sorted_rest x xs sorted) (IsDistinct-tail same_id x xs distinct),
)

pub first_or_rest : (x : Rule) (xs : List Rule) (q : Rule) → Contains (x ∷ xs) q → (x ≡ q) ⊎ Contains xs q
first_or_rest x xs q c = by_place c.0 c.1 c.2
  where
    by_place : (k : ℕ) → k < length (x ∷ xs) → get_or (x ∷ xs) k q ≡ q → (x ≡ q) ⊎ Contains xs q
    by_place zero h e = inl e
    by_place (suc k) h e = inr (k, omega arith, e)

one_of : (P : Rule → Type 0) (xs : List Rule) → AllByRecursion P xs → (q : Rule) → Contains xs q → P q
one_of P [] all q c = absurd (omega (arith, c.1))
one_of P (x ∷ xs) all q c = elim (first_or_rest x xs q c) [ inl e ↦ subst P e all.0 | inr r ↦ one_of P xs all.1 q r ]

pub here : (x : Rule) (xs : List Rule) → Contains (x ∷ xs) x
here x xs = (0, omega arith, refl)

pub there : (x : Rule) (xs : List Rule) (q : Rule) → Contains xs q → Contains (x ∷ xs) q
there x xs q c = (suc c.0, omega (arith, c.1), c.2)

not_both : (a b : Rule) → rank_cmp a b ≡ Less → rank_cmp b a ≡ Less → ⊥
not_both a b e f = let g : Less ≡ Greater = sym e ∙ rank_total.antisymm a b ∙ ap ordering_reverse f in cc

rest : (x y : Rule) (xs ys : List Rule) → x ≡ y → AllByRecursion (λ q. rank_cmp x q ≡ Less) xs → ((q : Rule) → Contains (x ∷ xs) q → Contains (y ∷ ys) q) → (q : Rule) → Contains xs q → Contains ys q
rest x y xs ys e less all q c =
    elim (first_or_rest y ys q (all q (there x xs q c))) [
      | inl f ↦
          let P : Rule → Type 0 = λ p. rank_cmp x p ≡ Less in
          let before : rank_cmp x x ≡ Less = subst P (sym (e ∙ f)) (one_of P xs less q c) in
          let tied = tied_itself rank_total x in
          let bad : Less ≡ Equal = sym before ∙ tied in
          absurd (cc)
      | inr r ↦ r
    ]

pub unique : (xs ys : List Rule) → IsStrictlySortedBy rank_cmp xs → IsStrictlySortedBy rank_cmp ys → ((q : Rule) → Contains xs q → Contains ys q) → ((q : Rule) → Contains ys q → Contains xs q) → xs ≡ ys
unfolding IsStrictlySortedBy
unique [] [] up again to from = refl
unique [] (y ∷ ys) up again to from = let c = from y (here y ys) in absurd (omega (arith, c.1))
unique (x ∷ xs) [] up again to from = let c = to x (here x xs) in absurd (omega (arith, c.1))
unique (x ∷ xs) (y ∷ ys) up again to from =
    let e : x ≡ y = elim (first_or_rest y ys x (to x (here x xs))) [
      | inl f ↦ sym f
      | inr r ↦ elim (first_or_rest x xs y (from y (here y ys))) [
        | inl g ↦ g
        | inr s ↦ absurd (not_both x y (one_of (λ p. rank_cmp x p ≡ Less) xs up.0 y s) (one_of (λ p. rank_cmp y p ≡ Less) ys again.0 x r))
      ]
    ] in
    let tails = unique xs ys up.1 again.1 (rest x y xs ys e up.0 to) (rest y x ys xs (sym e) again.0 from) in
    ap (λ (r : Rule). r ∷ xs) e ∙ ap (λ (rs : List Rule). y ∷ rs) tails

-- ---- at its place

placed_shuffles : (r : Rule) (rs : List Rule) → IsPermutation (r ∷ rs) (placed r rs)
placed_shuffles r [] = IsPermutation-refl (r ∷ [])
placed_shuffles r (s ∷ rs) =
    elim (is_gt (rank_cmp r s)) as (λ b. IsPermutation (r ∷ s ∷ rs) (if b then s ∷ placed r rs else r ∷ s ∷ rs)) [
      | true ↦ IsPermutation-trans _ _ _ (IsPermutation-middle (r ∷ []) s rs) (IsPermutation-cons s (r ∷ rs) (placed r rs) (placed_shuffles r rs))
      | false ↦ IsPermutation-refl (r ∷ s ∷ rs)
    ]

pub ranked_shuffles : (rs : List Rule) → IsPermutation rs (ranked rs)
ranked_shuffles [] = IsPermutation-refl []
ranked_shuffles (r ∷ rs) =
    IsPermutation-trans _ _ _ (IsPermutation-cons r rs (ranked rs) (ranked_shuffles rs)) (placed_shuffles r (ranked rs))

all_placed : (P : Rule → Type 0) (r : Rule) (rs : List Rule) → P r → AllByRecursion P rs → AllByRecursion P (placed r rs)
all_placed P r [] p all = (p, tt)
all_placed P r (s ∷ rs) p all =
    elim (is_gt (rank_cmp r s)) as (λ b. AllByRecursion P (if b then s ∷ placed r rs else r ∷ s ∷ rs)) [
      | true ↦ (all.0, all_placed P r rs p all.1)
      | false ↦ (p, all)
    ]

all_ranked : (P : Rule → Type 0) (rs : List Rule) → AllByRecursion P rs → AllByRecursion P (ranked rs)
all_ranked P [] all = tt
all_ranked P (r ∷ rs) all = all_placed P r (ranked rs) all.0 (all_ranked P rs all.1)

further : (r s : Rule) (rs : List Rule) → rank_cmp r s ≡ Less → AllByRecursion (λ y. rank_cmp s y ≡ Less) rs → AllByRecursion (λ y. rank_cmp r y ≡ Less) rs
further r s [] before all = tt
further r s (y ∷ ys) before all = (rank_total.trans r s y before all.0, further r s ys before all.1)

placed_rises : (r : Rule) (rs : List Rule) → IsStrictlySortedBy rank_cmp rs → AllByRecursion (λ y. same_id r y ≡ false) rs → IsStrictlySortedBy rank_cmp (placed r rs)
unfolding IsStrictlySortedBy
placed_rises r [] up apart = (tt, tt)
placed_rises r (s ∷ rs) up apart =
    elim (rank_cmp r s) as (λ o. rank_cmp r s ≡ o → IsStrictlySortedBy rank_cmp (if is_gt o then s ∷ placed r rs else r ∷ s ∷ rs)) [
      | Less ↦ λ e. ((e, further r s rs e up.0), up)
      | Equal ↦ λ e. absurd (both_ways (same_id r s) apart.0 (sym (is_eq-slice_cmp r.id s.id) ∙ ap is_eq (then_equal _ (slice_cmp nat_cmp r.id s.id) e)))
      | Greater ↦ λ e.
          let after : rank_cmp s r ≡ Less = rank_total.antisymm s r ∙ ap ordering_reverse e in
          (all_placed (λ y. rank_cmp s y ≡ Less) r rs after up.0, placed_rises r rs up.1 apart.1)
    ] refl

pub ranked_rises : (rs : List Rule) → IsDistinct same_id rs → IsStrictlySortedBy rank_cmp (ranked rs)
unfolding IsStrictlySortedBy
ranked_rises [] distinct = tt
ranked_rises (r ∷ rs) distinct =
    placed_rises r (ranked rs) (ranked_rises rs (IsDistinct-tail same_id r rs distinct)) (all_ranked (λ y. same_id r y ≡ false) rs (IsDistinct-head same_id r rs distinct))

-- rules in rising order are in the one order
pub one_rising : (rules rising : List Rule) → IsDistinct same_id rules → IsPermutation rules rising → IsStrictlySortedBy rank_cmp rising → rising ≡ ranked rules
one_rising rules rising distinct same up =
    unique rising (ranked rules) up (ranked_rises rules distinct)
    (λ q c. Contains-permutation rules (ranked rules) q (ranked_shuffles rules) (Contains-permutation rising rules q (IsPermutation-sym rules rising same) c))
    (λ q c. Contains-permutation rules rising q same (Contains-permutation (ranked rules) rules q (IsPermutation-sym rules (ranked rules) (ranked_shuffles rules)) c))

pub is_ranked : (rules sorted : List Rule) → IsDistinct same_id rules → IsPermutation rules sorted → IsSorted rank_cmp sorted → sorted ≡ ranked rules
is_ranked rules sorted distinct same in_order =
    one_rising rules sorted distinct same (strict sorted in_order (IsDistinct-IsPermutation same_id flips rules sorted same distinct))

pub one_order : RanksAreOneOrder
one_order = record {
  same = ranked_shuffles;
  rises = ranked_rises;
  one = λ rules others distinct same.
      sym (one_rising rules (ranked others) distinct (IsPermutation-trans rules others (ranked others) same (ranked_shuffles others))
      (ranked_rises others (IsDistinct-IsPermutation same_id flips rules others same distinct)));
}
