use Rattle.std.proofs.Common.{ap, sym, ◌∙◌, rules, OnOk, Result, Ok, Err, Some}
use mir.Val.{SFits}
use mir.Syntax.{w128}
use Rattle.std.proofs.lemmas.Int.{to_z-of_z}
use Rattle.envelope_cells.specs.BudgetOf.{budget_of}
use Rattle.envelope_cells.specs.Cells.{leftover}
use Rattle.envelope_cells.specs.CellOf.{of_group}
use Rattle.envelope_cells.specs.declared.groups.BudgetGroup.{BudgetGroup}
use Rattle.dirty_cells.proofs.Summed.{group_sum, group_budget, group_leftover, sums_small, budgets_small, leftovers_small, small_rows}
use Rattle.dirty_cells.proofs.group.refresh_group.Goals as goal

on_ok : {A E : Type 0} {P Q : Type 0} (r : Result A E) → (P → Q) → OnOk r P → OnOk r Q
on_ok (Ok x) f p = f p
on_ok (Err e) f p = p

pub sum_kept-requires-clause-small : goal.sum_kept-requires-clause-small
sum_kept-requires-clause-small g c =
    let r = c.args.book.now.rows in
    let n = c.args.number in
    let k : BudgetGroup = record { id = c.args.id.now; is_income = c.args.is_income; categories = c.args.categories.now } in
    sums_small c.args.cells.now (budget_of r) n c.requires.has c.args.id.now k (small_rows r n c.requires.number c.sizes.ensures) c.requires.group

pub sums_kept-sums-requires-clause-sum : goal.sums_kept-sums-requires-clause-sum
sums_kept-sums-requires-clause-sum g c =
    let r = c.args.book.now.rows in
    let n = c.args.number in
    let k : BudgetGroup = record { id = c.args.id.now; is_income = c.args.is_income; categories = c.args.categories.now } in
    sums_small c.args.cells.now (budget_of r) n c.requires.has c.args.id.now k (small_rows r n c.requires.number c.sizes.ensures) c.requires.group

pub sums_kept-sums-requires-clause-budget : goal.sums_kept-sums-requires-clause-budget
sums_kept-sums-requires-clause-budget g c =
    let r = c.args.book.now.rows in
    let n = c.args.number in
    let k : BudgetGroup = record { id = c.args.id.now; is_income = c.args.is_income; categories = c.args.categories.now } in
    budgets_small c.args.cells.now (budget_of r) n c.requires.has c.args.id.now k (small_rows r n c.requires.number c.sizes.ensures) c.requires.group (c.requires.expense c.if-is_income.false)

pub sums_kept-sums-requires-clause-leftover : goal.sums_kept-sums-requires-clause-leftover
sums_kept-sums-requires-clause-leftover g c =
    let r = c.args.book.now.rows in
    let n = c.args.number in
    let k : BudgetGroup = record { id = c.args.id.now; is_income = c.args.is_income; categories = c.args.categories.now } in
    leftovers_small c.args.cells.now (budget_of r) n c.requires.has c.args.id.now k (small_rows r n c.requires.number c.sizes.ensures) c.requires.group (c.requires.expense c.if-is_income.false)

pub returns-then-is_income-clause-right : goal.returns-then-is_income-clause-right
returns-then-is_income-clause-right g c =
    let b = budget_of c.args.book.now.rows in
    let n = c.args.number in
    let k : BudgetGroup = record { id = c.args.id.now; is_income = c.args.is_income; categories = c.args.categories.now } in
    let fits : SFits w128 c.in_ok-sum.sum = search rules in
    on_ok c.settle_group.result (λ h cs rest right. h b cs rest
    (ap Some (to_z-of_z w128 c.in_ok-sum.sum fits ∙ c.in_ok-sum.ensures) ∙ group_sum c.args.cells.now b n c.requires.has c.args.id.now k c.requires.group)
    (sym (ap (of_group (λ q. b.budgeted q n)) (c.requires.income c.if-is_income.true)))
    (sym (ap (of_group (λ q. leftover b q n)) (c.requires.income c.if-is_income.true))) right) c.settle_group.ensures.right

pub returns-clause-right : goal.returns-clause-right
returns-clause-right g c =
    let b = budget_of c.args.book.now.rows in
    let n = c.args.number in
    let k : BudgetGroup = record { id = c.args.id.now; is_income = c.args.is_income; categories = c.args.categories.now } in
    let one : SFits w128 c.sums_kept-sums.result.sum = search rules in
    let two : SFits w128 c.sums_kept-sums.result.budget = search rules in
    let three : SFits w128 c.sums_kept-sums.result.leftover = search rules in
    let spends = c.requires.expense c.if-is_income.false in
    on_ok c.settle_group-2.result (λ h cs rest right. h b cs rest
    (ap Some (to_z-of_z w128 c.sums_kept-sums.result.sum one ∙ c.sums_kept-sums.ensures.sum) ∙ group_sum c.args.cells.now b n c.requires.has c.args.id.now k c.requires.group)
    (ap Some (to_z-of_z w128 c.sums_kept-sums.result.budget two ∙ c.sums_kept-sums.ensures.budget) ∙ group_budget c.args.cells.now b n c.requires.has c.args.id.now k spends)
    (ap Some (to_z-of_z w128 c.sums_kept-sums.result.leftover three ∙ c.sums_kept-sums.ensures.leftover) ∙ group_leftover c.args.cells.now b n c.requires.has c.args.id.now k spends) right) c.settle_group-2.ensures.right
