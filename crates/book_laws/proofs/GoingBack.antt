-- Entries are taken back the other way round than they came.
use Rattle.std.proofs.Common.{◌≡◌, ◌-◌, List, [], ◌∷◌, ◌++◌, length, take, Some, refl, ap, ◌∙◌, arith, length-append}
use Rattle.std.specs.List.{slice_get}
use Rattle.edit_history.specs.declared.before.Before.{Before}
use Rattle.edit_history.specs.History.{latest_of, but_latest}
use Rattle.book_laws.specs.Histories.{HistoriesGoBack}

at_end : {X : Type 0} (xs : List X) (x : X) → slice_get (xs ++ x ∷ []) (length xs) ≡ Some x
at_end [] x = refl
at_end (y ∷ ys) x = at_end ys x

before_end : {X : Type 0} (xs : List X) (x : X) → take (length xs) (xs ++ x ∷ []) ≡ xs
before_end [] x = refl
before_end (y ∷ ys) x = ap (λ zs. y ∷ zs) (before_end ys x)

one_less : {X : Type 0} (xs : List X) (x : X) → length (xs ++ x ∷ []) - 1 ≡ length xs
one_less xs x = let long = length-append xs (x ∷ []) in omega (arith, long)

latest_is : (others : List (List Before)) (entry : List Before) → latest_of (others ++ entry ∷ []) ≡ Some entry
latest_is others entry = ap (slice_get (others ++ entry ∷ [])) (one_less others entry) ∙ at_end others entry

others_are : (others : List (List Before)) (entry : List Before) → but_latest (others ++ entry ∷ []) ≡ others
others_are others entry = ap (λ n. take n (others ++ entry ∷ [])) (one_less others entry) ∙ before_end others entry

pub go_back : HistoriesGoBack
go_back = record {
  first_undo = refl;
  first_redo = refl;
  latest = latest_is;
  edited = λ h entry. refl;
  undone = λ undo redo last entry. ap (λ (es : List (List Before)). record { undo = es; redo = redo ++ entry ∷ [] }) (others_are undo last);
  redone = λ undo redo last entry. ap (λ (es : List (List Before)). record { undo = undo ++ entry ∷ []; redo = es }) (others_are redo last);
}
