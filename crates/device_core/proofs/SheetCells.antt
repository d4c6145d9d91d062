-- The cells of a month's names are those of its sheet.
use Rattle.std.proofs.Common.{◌≡◌, ℕ, Bool, true, false, List, [], ◌∷◌, ◌++◌, map, Option, Some, refl, ap, sym, ◌∙◌}
use Rattle.std.specs.Prelude.{ℤ, flat_map}
use Rattle.std.specs.List.{AllByRecursion}
use Rattle.finite_sums.specs.Maps.{Text}
use Rattle.book_rows.specs.declared.rows.Rows.{Rows}
use Rattle.envelope_cells.specs.Budget.{Budget}
use Rattle.envelope_cells.specs.BudgetOf.{budget_of, groups_of}
use Rattle.envelope_cells.specs.CellOf.{cell_of}
use Rattle.envelope_cells.specs.SheetOf.{sheet_of}
use Rattle.envelope_cells.specs.NamesOf.{names_of, groups_names, group_names, categories_names, category_names}
use Rattle.envelope_cells.specs.Laws.{SheetsAreNamed}
use Rattle.envelope_cells.specs.declared.groups.BudgetGroup.{BudgetGroup}
use Rattle.envelope_cells.specs.declared.name.Cell.{Cell}
use Rattle.envelope_cells.specs.declared.name.CellName.{CellName}
use Rattle.device_core.specs.Sheets.{told, told_of}

-- ---- each name is of the month

abbrev AreOf : ℕ → List CellName → Type 0
AreOf month names = AllByRecursion (λ name. name.month ≡ month) names

both : (month : ℕ) (xs ys : List CellName) → AreOf month xs → AreOf month ys → AreOf month (xs ++ ys)
both month [] ys a b = b
both month (x ∷ xs) ys a b = (a.0, both month xs ys a.1 b)

of_category : (month : ℕ) (is_income : Bool) (c : Text) → AreOf month (category_names month is_income c)
of_category month true c = (refl, tt)
of_category month false c = (refl, (refl, (refl, (refl, tt))))

of_categories : (month : ℕ) (is_income : Bool) (cs : List Text) → AreOf month (categories_names month is_income cs)
of_categories month is_income [] = tt
of_categories month is_income (c ∷ cs) = both month (category_names month is_income c) (categories_names month is_income cs) (of_category month is_income c) (of_categories month is_income cs)

of_group : (month : ℕ) (g : BudgetGroup) (is_income : Bool) → g.is_income ≡ is_income → AreOf month (group_names month g)
of_group month g true e = rw e (refl, tt)
of_group month g false e = rw e (refl, (refl, (refl, tt)))

of_groups : (month : ℕ) (gs : List BudgetGroup) → AreOf month (groups_names month gs)
of_groups month [] = tt
of_groups month (g ∷ gs) =
    both month (group_names month g ++ categories_names month g.is_income g.categories) (groups_names month gs)
    (both month (group_names month g) (categories_names month g.is_income g.categories) (of_group month g g.is_income refl) (of_categories month g.is_income g.categories)) (of_groups month gs)

pub names_are_of : (month : ℕ) (gs : List BudgetGroup) → AreOf month (names_of gs month)
names_are_of month gs = (refl, (refl, (refl, (refl, (refl, (refl, (refl, (refl, (refl, of_groups month gs)))))))))

-- ---- the cells

told_cells : (b : Budget) (cs : List Cell) → AllByRecursion (λ c. cell_of b c.name ≡ Some c.value) cs → flat_map (told_of b) (map (λ (c : Cell). c.name) cs) ≡ cs
told_cells b [] all = refl
told_cells b (c ∷ cs) all =
    ap (λ (o : Option ℤ). told c.name o ++ flat_map (told_of b) (map (λ (c : Cell). c.name) cs)) all.0 ∙ ap (λ (l : List Cell). c ∷ l) (told_cells b cs all.1)

pub told_sheet : (rows : Rows) (month : ℕ) → SheetsAreNamed rows month → flat_map (told_of (budget_of rows)) (names_of (groups_of rows) month) ≡ sheet_of (budget_of rows) month
told_sheet rows month h = ap (flat_map (told_of (budget_of rows))) (sym h.names) ∙ told_cells (budget_of rows) (sheet_of (budget_of rows) month) h.values
