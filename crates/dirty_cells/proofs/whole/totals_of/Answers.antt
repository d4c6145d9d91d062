use Rattle.std.proofs.Common.{◌≤◌, ◌^◌, unsigned_abs, true, false, rules, ap, sym, ◌∙◌, subst, List}
use mir.Syntax.{w128}
use mir.Val.{SFits}
use Rattle.std.proofs.lemmas.Int.{to_z-of_z}
use Rattle.finite_sums.specs.Sums.{total, weight}
use Rattle.envelope_cells.specs.declared.groups.BudgetGroup.{BudgetGroup}
use Rattle.envelope_cells.specs.declared.name.CellKind.TheVariants.{GroupSum, GroupBudget, GroupLeftover}
use Rattle.dirty_cells.specs.WholeOf.{kept_of_group}
use Rattle.dirty_cells.proofs.Wholes.{income_kept, spent_kept, budgets_kept, leftover_kept, income_weight, spent_weight, budgets_weight, leftover_weight}
use Rattle.dirty_cells.proofs.whole.totals_of.Goals as goal

pub side_kept-requires-clause-small : goal.side_kept-requires-clause-small
side_kept-requires-clause-small c = subst (λ (gs : List BudgetGroup). weight (λ g. unsigned_abs (kept_of_group c.args.cells.now c.args.number GroupSum true g)) gs ≤ 2 ^ 120) (sym c.requires.groups) (income_weight c.args.book.now.rows c.args.cells.now c.args.number c.requires.right c.sizes.ensures c.requires.number)

pub spending_kept-spending-requires-clause-spent : goal.spending_kept-spending-requires-clause-spent
spending_kept-spending-requires-clause-spent c = subst (λ (gs : List BudgetGroup). weight (λ g. unsigned_abs (kept_of_group c.args.cells.now c.args.number GroupSum false g)) gs ≤ 2 ^ 120) (sym c.requires.groups) (spent_weight c.args.book.now.rows c.args.cells.now c.args.number c.requires.right c.sizes.ensures c.requires.number)

pub spending_kept-spending-requires-clause-budgets : goal.spending_kept-spending-requires-clause-budgets
spending_kept-spending-requires-clause-budgets c = subst (λ (gs : List BudgetGroup). weight (λ g. unsigned_abs (kept_of_group c.args.cells.now c.args.number GroupBudget false g)) gs ≤ 2 ^ 120) (sym c.requires.groups) (budgets_weight c.args.book.now.rows c.args.cells.now c.args.number c.requires.right c.sizes.ensures c.requires.number)

pub spending_kept-spending-requires-clause-leftover : goal.spending_kept-spending-requires-clause-leftover
spending_kept-spending-requires-clause-leftover c = subst (λ (gs : List BudgetGroup). weight (λ g. unsigned_abs (kept_of_group c.args.cells.now c.args.number GroupLeftover false g)) gs ≤ 2 ^ 120) (sym c.requires.groups) (leftover_weight c.args.book.now.rows c.args.cells.now c.args.number c.requires.right c.sizes.ensures c.requires.number)

pub returns : goal.returns
returns c =
    let cells = c.args.cells.now in
    let n = c.args.number in
    let f1 : SFits w128 c.in_ok-income.income = search rules in
    let f2 : SFits w128 c.spending_kept-spending.result.spent = search rules in
    let f3 : SFits w128 c.spending_kept-spending.result.budgets = search rules in
    let f4 : SFits w128 c.spending_kept-spending.result.leftover = search rules in
    record {
      income = to_z-of_z w128 c.in_ok-income.income f1 ∙ c.in_ok-income.ensures ∙ ap (total (kept_of_group cells n GroupSum true)) c.requires.groups ∙ income_kept c.args.book.now.rows cells n c.requires.right;
      spent = to_z-of_z w128 c.spending_kept-spending.result.spent f2 ∙ c.spending_kept-spending.ensures.spent ∙ ap (total (kept_of_group cells n GroupSum false)) c.requires.groups ∙ spent_kept c.args.book.now.rows cells n c.requires.right;
      budgets = to_z-of_z w128 c.spending_kept-spending.result.budgets f3 ∙ c.spending_kept-spending.ensures.budgets ∙ ap (total (kept_of_group cells n GroupBudget false)) c.requires.groups ∙ budgets_kept c.args.book.now.rows cells n c.requires.right;
      leftover = to_z-of_z w128 c.spending_kept-spending.result.leftover f4 ∙ c.spending_kept-spending.ensures.leftover ∙ ap (total (kept_of_group cells n GroupLeftover false)) c.requires.groups ∙ leftover_kept c.args.book.now.rows cells n c.requires.right;
    }
