-- The answer of a query on one table, row by row.
use Rattle.std.proofs.Common.{◌≡◌, ℕ, Bool, true, false, cond, List, [], ◌∷◌, ◌++◌, map, subst, inl, inr, IsPermutation, refl, sym, ap, ◌∙◌}
use Rattle.std.specs.List.{list_all, flat_map}
use Rattle.std.proofs.lemmas.List.Sorted.{IsPermutation-sym}
use Rattle.sqlite_trees.proofs.ListLemmas.{all-permutation}
use Rattle.sqlite_rules.specs.Lists.{Has}
use Rattle.sqlite_rules.proofs.ListLemmas.{all_has, all_from, has_right}
use Rattle.sqlite_rules.proofs.ProbeLemmas.{has_mapped, mapped_has}
use Rattle.sqlite_value.specs.declared.keys.Key.{Key}
use Rattle.sqlite_value.specs.Order.{Row}
use Rattle.sqlite_trees.specs.Tree.{Trees}
use Rattle.sqlite_sql.specs.Term.{Term, holds, eval_all}
use Rattle.sqlite_sql.specs.Query.{Output, output, matches, inner, end, IsAnswer}
use Rattle.store_tables.specs.Texts.{query_of}

has_matched : {X Y : Type 0} (p : X → Bool) (f : X → Y) (xs : List X) (y : Y) → Has (flat_map (λ x. cond (p x) (f x ∷ []) []) xs) y → (x : X) × Has xs x × (p x ≡ true) × (y ≡ f x)
has_matched p f [] y h = absurd h
has_matched {X} {Y} p f (x ∷ xs) y h = go (p x) refl h (has_matched p f xs y)
  where
    go : (b : Bool) → p x ≡ b → Has (cond b (f x ∷ []) [] ++ flat_map (λ z. cond (p z) (f z ∷ []) []) xs) y
        → (Has (flat_map (λ z. cond (p z) (f z ∷ []) []) xs) y → (z : X) × Has xs z × (p z ≡ true) × (y ≡ f z)) → (z : X) × Has (x ∷ xs) z × (p z ≡ true) × (y ≡ f z)
    go true is (inl same) later = (x, inl refl, is, same)
    go true is (inr there) later = let r = later there in (r.0, inr r.1, r.2, r.3)
    go false is there later = let r = later there in (r.0, inr r.1, r.2, r.3)

matched_has : {X Y : Type 0} (p : X → Bool) (f : X → Y) (xs : List X) (x : X) → Has xs x → p x ≡ true → Has (flat_map (λ z. cond (p z) (f z ∷ []) []) xs) (f x)
matched_has p f [] x h passes = absurd h
matched_has p f (z ∷ xs) x (inl same) passes = rw (← same, passes) (inl refl)
matched_has p f (z ∷ xs) x (inr later) passes = has_right (cond (p z) (f z ∷ []) []) (flat_map (λ w. cond (p w) (f w ∷ []) []) xs) (f x) (matched_has p f xs x later passes)

has_permuted : {X : Type 0} (xs ys : List X) (x : X) → IsPermutation xs ys → Has ys x → Has xs x
has_permuted xs ys x same = all_has (Has xs) ys x (all-permutation (Has xs) xs ys same (all_from (Has xs) xs (λ e h. h)))

-- each row of the answer shows a row of the table that passes, and each such row is shown
pub record Shows (db : Trees) (tree : ℕ) (filter project : List Term) (given : Row) (rows : List Row) : Type 0 where
  pub sound : (x : Row) → Has rows x → (r : Row) × Has (db tree) r × (list_all (holds (given ∷ r ∷ [])) filter ≡ true) × (x ≡ eval_all project (given ∷ r ∷ []))
  pub complete : (r : Row) → Has (db tree) r → list_all (holds (given ∷ r ∷ [])) filter ≡ true → Has rows (eval_all project (given ∷ r ∷ []))

pub shows : (tree : ℕ) (filter project : List Term) (order : List (Term × Key)) (db : Trees) (given : Row) (rows : List Row)
    → IsAnswer (query_of tree filter project order) db given rows → Shows db tree filter project given rows
shows tree filter project order db given rows answer =
    let q = query_of tree filter project order in
    let test = λ (r : Row). list_all (holds (given ∷ r ∷ [])) filter in
    let env = λ (r : Row). given ∷ r ∷ [] in
    let all = matches db filter (inner tree end) (given ∷ []) in
    let kept : answer.kept ≡ map (output q) all = answer.distinct ∙ ap (map (output q)) answer.grouped in
    record {
      sound = λ x h.
          let o = has_mapped (λ (k : Output). k.1) answer.ordered x (subst (λ l. Has l x) answer.shown h) in
          let e = has_mapped (output q) all o.0 (subst (λ l. Has l o.0) kept (has_permuted answer.kept answer.ordered o.0 answer.same o.1)) in
          let r = has_matched test env (db tree) e.0 e.1 in
          (r.0, r.1, r.2, o.2 ∙ ap (λ (k : Output). k.1) (e.2 ∙ ap (output q) r.3));
      complete = λ r h passes.
          let o = output q (env r) in
          let there = subst (λ l. Has l o) (sym kept) (mapped_has (output q) all (env r) (matched_has test env (db tree) r h passes)) in
          subst (λ l. Has l (eval_all project (env r))) (sym answer.shown) (mapped_has (λ (k : Output). k.1) answer.ordered o (has_permuted answer.ordered answer.kept o (IsPermutation-sym _ _ answer.same) there));
    }

-- where a table has the same rows, the answer is the same
pub shows_same : (a b : Trees) (tree : ℕ) (filter project : List Term) (given : Row) (rows : List Row) → a tree ≡ b tree → Shows a tree filter project given rows → Shows b tree filter project given rows
shows_same a b tree filter project given rows same all = record {
  sound = λ x at. let r = all.sound x at in (r.0, subst (λ rs. Has rs r.0) same r.1, r.2, r.3);
  complete = λ r there. all.complete r (subst (λ rs. Has rs r) (sym same) there);
}
