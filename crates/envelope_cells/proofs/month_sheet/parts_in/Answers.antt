use Rattle.std.proofs.Common.{◌+◌, ◌≤◌, ◌^◌, List, map, ap, sym, ◌∙◌, subst, arith}
use Rattle.finite_sums.specs.Sums.{weight}
use Rattle.envelope_cells.specs.declared.groups.BudgetGroup.{BudgetGroup}
use Rattle.envelope_cells.specs.declared.part.GroupParts.{GroupParts}
use Rattle.envelope_cells.specs.Budget.{categories, categories_of}
use Rattle.envelope_cells.specs.BudgetOf.{budget_of}
use Rattle.envelope_cells.specs.Parts.{group_of, groups_weight, weight_before, IsSmall}
use Rattle.envelope_cells.proofs.Bounds.{rows_are_small}
use Rattle.envelope_cells.proofs.Parts.{groups_small}
use Rattle.envelope_cells.proofs.month_sheet.parts_in.Goals as goal

pub groups_parts-requires-clause-small : goal.groups_parts-requires-clause-small
groups_parts-requires-clause-small g c =
    let b = budget_of c.args.book.now.rows in
    let small : IsSmall b (c.args.number + 1) = rows_are_small c.args.book.now.rows (c.args.number + 1) (omega arith) c.sizes.ensures in
    let all : weight (λ q. weight_before b q (c.args.number + 1)) (categories b) ≤ 2 ^ 120 = omega (arith, small.all) in
    let P = λ (gs : List BudgetGroup). weight (λ q. weight_before b q (c.args.number + 1)) (categories_of gs) ≤ 2 ^ 120 in
    subst P (sym (c.as_slice-list.ensures ∙ c.in_ok-groups.ensures)) all

pub returns-clause-parts : goal.returns-clause-parts
returns-clause-parts g c = c.in_ok-parts.ensures ∙ ap (map (group_of (budget_of c.args.book.now.rows) c.args.number)) (c.as_slice-list.ensures ∙ c.in_ok-groups.ensures)

pub returns-clause-small : goal.returns-clause-small
returns-clause-small g c = λ k.
    let b = budget_of c.args.book.now.rows in
    let small : IsSmall b (c.args.number + 1) = rows_are_small c.args.book.now.rows (c.args.number + 1) (omega arith) c.sizes.ensures in
    let P = λ (gs : List GroupParts). groups_weight k gs ≤ 2 ^ 120 in
    subst P (sym (c.in_ok-parts.ensures ∙ ap (map (group_of b c.args.number)) (c.as_slice-list.ensures ∙ c.in_ok-groups.ensures))) (groups_small b c.args.number small k)
