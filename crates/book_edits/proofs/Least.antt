-- The least id of a row that passes a test.
use Rattle.std.proofs.Common.{◌≡◌, Bool, true, false, cond, List, ◌∷◌, Some, ap, ◌∙◌}
use Rattle.std.specs.Option.{option_map}
use Rattle.std.specs.List as list
use Rattle.finite_sums.specs.Maps.{Text}
use Rattle.book_edits.specs.Checks.{least_where}

module _ {X : Type 0} (p : X → Bool) (rest more : List (Text × X)) (id : Text) (x : X) (is : more ≡ (id, x) ∷ rest) where
  -- the first entry passes
  pub least_here : p x ≡ true → least_where p more ≡ Some id
  least_here h = ap (least_where p) is ∙ ap (λ b. option_map (λ (e : Text × X). e.0) (cond b (Some (id, x)) (list.find (λ e. p e.1) rest))) h

  -- it does not
  pub least_after : p x ≡ false → least_where p more ≡ least_where p rest
  least_after h = ap (least_where p) is ∙ ap (λ b. option_map (λ (e : Text × X). e.0) (cond b (Some (id, x)) (list.find (λ e. p e.1) rest))) h
