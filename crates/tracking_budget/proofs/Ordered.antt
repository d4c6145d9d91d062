-- In which order cells stand.
use Rattle.std.proofs.Common.{◌≡◌, ℕ, Bool, List, [], ◌∷◌, ◌++◌, map, flat_map, refl, ap, sym, ◌∙◌, append_assoc}
use Rattle.std.specs.Fmt.{signed_decimal}
use Rattle.finite_sums.specs.Maps.{Text}
use Rattle.book_rows.specs.declared.rows.Rows.{Rows}
use Rattle.envelope_cells.specs.Budget.{Budget, categories_of}
use Rattle.envelope_cells.specs.BudgetOf.{groups_of}
use Rattle.envelope_cells.specs.declared.groups.BudgetGroup.{BudgetGroup}
use Rattle.envelope_cells.specs.Ids.{month_number}
use Rattle.tracking_budget.specs.declared.live.LiveCategory.{LiveCategory}
use Rattle.tracking_budget.specs.declared.name.TrackName.{TrackName}
use Rattle.tracking_budget.specs.Tracked.{tracked_of}
use Rattle.tracking_budget.specs.CellOf.{live_on, live_of}
use Rattle.tracking_budget.specs.SheetOf.{live_cells}
use Rattle.tracking_budget.specs.Names.{kind_text}
use Rattle.tracking_budget.specs.Told.{names_of, month_kinds, category_kinds, TrackSheetsAreInOrder}

module _ (month : ℕ) where
  abbrev names : Text → List TrackName
  names id = names_of month id category_kinds

  named : (b : Budget) (m : ℕ) (ls : List LiveCategory) → map (λ c. c.name) (live_cells b month m ls) ≡ flat_map (λ l. names l.id) ls
  named b m [] = refl
  named b m (l ∷ ls) = ap (λ ns. names l.id ++ ns) (named b m ls)

  flat-append : (xs ys : List Text) → flat_map names (xs ++ ys) ≡ flat_map names xs ++ flat_map names ys
  flat-append [] ys = refl
  flat-append (x ∷ xs) ys = ap (λ ns. names x ++ ns) (flat-append xs ys)

  on_side : (t : Bool) (cs : List Text) (ls : List LiveCategory) → flat_map (λ l. names l.id) (live_on t cs ++ ls) ≡ flat_map names cs ++ flat_map (λ l. names l.id) ls
  on_side t [] ls = refl
  on_side t (c ∷ cs) ls = ap (λ ns. names c ++ ns) (on_side t cs ls)

  all_named : (gs : List BudgetGroup) → flat_map (λ l. names l.id) (live_of gs) ≡ flat_map names (categories_of gs)
  all_named [] = refl
  all_named (g ∷ gs) = on_side g.is_income g.categories (live_of gs) ∙ ap (λ ns. flat_map names g.categories ++ ns) (all_named gs) ∙ sym (flat-append g.categories (categories_of gs))

pub track_sheets_are_in_order_lem : (rows : Rows) → TrackSheetsAreInOrder rows
track_sheets_are_in_order_lem rows = record {
  cells = λ month. ap (λ ns. names_of month [] month_kinds ++ ns) (named month (tracked_of rows) (month_number month) (live_of (groups_of rows)) ∙ all_named month (groups_of rows));
  line = λ c. sym (append_assoc (kind_text c.name.kind ++ c.name.id) (32 ∷ []) (signed_decimal c.value));
  month_names = refl;
  category_names = refl;
}
