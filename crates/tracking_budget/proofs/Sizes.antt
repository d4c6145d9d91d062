-- How much is added up for the tracking budget.
use Rattle.std.proofs.Common.{◌≡◌, ℕ, ◌+◌, ◌^◌, ◌<◌, ◌≤◌, Bool, List, [], ◌∷◌, arith}
use Rattle.finite_sums.specs.Sums.{weight}
use Rattle.finite_sums.specs.Maps.{Text}
use Rattle.book_rows.specs.Book.{HasSizes}
use Rattle.book_rows.specs.declared.rows.Rows.{Rows}
use Rattle.envelope_cells.specs.Budget.{Budget, categories_of}
use Rattle.envelope_cells.specs.BudgetOf.{groups_of}
use Rattle.envelope_cells.specs.declared.groups.BudgetGroup.{BudgetGroup}
use Rattle.envelope_cells.specs.Parts.{IsSmall, weight_before}
use Rattle.envelope_cells.proofs.Bounds.{rows_are_small}
use Rattle.envelope_cells.proofs.Lists.{weight-append}
use Rattle.tracking_budget.specs.Tracked.{tracked_of}
use Rattle.tracking_budget.specs.CellOf.{live_on, live_of}
use Rattle.tracking_budget.specs.Parts.{weight_of}

-- it is the envelope budget of rows in which its own rows stand for those of budgets
abbrev with_tracked : Rows → Rows
with_tracked r = record r { budgets = r.tracked }

sizes_of : (r : Rows) → HasSizes r → HasSizes (with_tracked r)
sizes_of r h = record {
  accounts = h.accounts;
  groups = h.groups;
  categories = h.categories;
  payees = h.payees;
  txs = h.txs;
  budgets = h.tracked;
  months = h.months;
  notes = h.notes;
  rules = h.rules;
  schedules = h.schedules;
  category_mappings = h.category_mappings;
  payee_mappings = h.payee_mappings;
  tracked = h.tracked;
  numbers = record { txs = h.numbers.txs; budgets = h.numbers.tracked; months = h.numbers.months; tracked = h.numbers.tracked };
  days = h.days;
}

tracked_small : (r : Rows) (n : ℕ) → n ≤ 2760 → HasSizes r → IsSmall (tracked_of r) n
tracked_small r n le h = record { all = (rows_are_small (with_tracked r) n le (sizes_of r h)).all }

-- the same of the live categories, group by group
on_weight : (b : Budget) (m : ℕ) (t : Bool) (cs : List Text) → weight (weight_of b m) (live_on t cs) ≡ weight (λ c. weight_before b c (m + 1)) cs
on_weight b m t [] = omega arith
on_weight b m t (c ∷ cs) = omega (arith, on_weight b m t cs)

live_weight : (b : Budget) (m : ℕ) (gs : List BudgetGroup) → weight (weight_of b m) (live_of gs) ≡ weight (λ c. weight_before b c (m + 1)) (categories_of gs)
live_weight b m [] = omega arith
live_weight b m (g ∷ gs) =
    omega (
      arith,
      live_weight b m gs,
      on_weight b m g.is_income g.categories,
      weight-append (weight_of b m) (live_on g.is_income g.categories) (live_of gs),
      weight-append (λ c. weight_before b c (m + 1)) g.categories (categories_of gs),
    )

pub live_small : (r : Rows) (m : ℕ) → m < 2760 → HasSizes r → weight (weight_of (tracked_of r) m) (live_of (groups_of r)) ≤ 2 ^ 120
live_small r m l h = omega (arith, live_weight (tracked_of r) m (groups_of r), (tracked_small r (m + 1) (omega arith) h).all)
