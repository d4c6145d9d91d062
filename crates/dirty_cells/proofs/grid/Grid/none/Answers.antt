use Rattle.std.proofs.Common.{◌≡◌, ℕ, Bool, true, false, List, [], ◌∷◌, length, None, refl, ap, ap₂, sym, subst, ◌∙◌, arith, if◌then◌else◌}
use Rattle.std.specs.Prelude.{◌&&◌, nat_lt, nat_le, pos, unwrap_or}
use Rattle.std.specs.FinMap.{entries, empty, get, get-empty, len-empty, len-entries}
use Rattle.std.proofs.lemmas.Bool.Decides.{nat_tests}
use Rattle.finite_sums.specs.Maps.{Text, Texts}
use Rattle.book_rows.specs.Months.{is_month, window_of, hull, span_of, month_of_row, budget_month, month_row_month}
use Rattle.book_rows.specs.Rows.{no_rows}
use Rattle.envelope_cells.specs.BudgetOf.{budget_of, category_sum, groups_of, share}
use Rattle.envelope_cells.specs.Places.{placed, group_places, category_places, with_categories}
use Rattle.finite_sums.specs.Sums.{total}
use Rattle.envelope_cells.specs.CellOf.{cell_of}
use Rattle.envelope_cells.specs.Ids.{month_number}
use Rattle.envelope_cells.specs.Names.{cell_cmp}
use Rattle.envelope_cells.specs.Parts.{sum_name}
use Rattle.dirty_cells.specs.Stands.{HasWindow, is_between, with_window}
use Rattle.dirty_cells.proofs.grid.Grid.none.Goals as goal

no_entries : {X : Type 0} (m : Texts X) → m ≡ empty → entries m ≡ []
no_entries m h = ap entries h ∙ no_length _ (sym (len-entries empty) ∙ len-empty _ _)
  where
    no_length : {A : Type 0} (es : List A) → length es ≡ 0 → es ≡ []
    no_length [] e = refl
    no_length (x ∷ es) e = absurd (omega (arith, e))

none_summed : (c : Text) (month : ℕ) → pos 0 ≡ category_sum no_rows c month
none_summed c month = ap (total (λ e. share no_rows c month e.1)) (sym (no_entries no_rows.txs refl))

none_grouped : [] ≡ groups_of no_rows
none_grouped = ap₂ (λ cs gs. with_categories (placed (category_places cs) []) (placed (group_places gs) [])) (sym (no_entries no_rows.categories refl)) (sym (no_entries no_rows.groups refl))

no_window : window_of no_rows ≡ None
no_window =
    ap (λ es. hull (span_of (λ e. month_of_row e.1) es) (hull (span_of (λ e. budget_month e.0) (entries no_rows.budgets)) (span_of (λ e. month_row_month e.0) (entries no_rows.months)))) (no_entries no_rows.txs refl)
    ∙ ap (λ es. hull (span_of (λ e. budget_month e.0) es) (span_of (λ e. month_row_month e.0) (entries no_rows.months))) (no_entries no_rows.budgets refl)
    ∙ ap (λ es. span_of (λ e. month_row_month e.0) es) (no_entries no_rows.months refl)

none_between : (month : ℕ) → is_between 0 0 month ≡ false
none_between month =
    let no : nat_lt (month_number month) 0 ≡ false = grind (arith, nat_tests) in
    rw no (by (is_month month) (nat_le 0 (month_number month)))
  where
    by : (a b : Bool) → (a && (b && false)) ≡ false
    by true true = refl
    by true false = refl
    by false b = refl

pub returns-clause-stands : goal.returns-clause-stands
returns-clause-stands c = record {
  sums = record { each = λ q month. ap (λ cells. unwrap_or (get cells (sum_name q month)) (pos 0)) c.new.ensures ∙ ap (λ o. unwrap_or o (pos 0)) (get-empty cell_cmp (sum_name q month)) ∙ none_summed q month };
  groups = c.new-4.ensures ∙ c.new-3.ensures.items ∙ none_grouped;
  order = omega arith;
  within = omega arith;
  cells = λ name. ap (λ cells. get cells name) c.new-2.ensures ∙ get-empty cell_cmp name ∙ sym (ap (λ (t : Bool). if t then cell_of (budget_of no_rows) name else None) (none_between name.month));
  window = subst (HasWindow 0 0) (sym no_window) tt;
}

pub returns-clause-range : goal.returns-clause-range
returns-clause-range c = sym (ap (with_window (0, 0)) no_window)
