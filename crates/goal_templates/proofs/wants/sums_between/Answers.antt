use Rattle.std.proofs.Common.{◌≡◌, ◌-◌, ◌∙◌, rules, arith}
use mir.Syntax.{w128}
use mir.Val.{SFits}
use Rattle.std.proofs.lemmas.Int.{ints}
use Rattle.envelope_cells.specs.BudgetOf.{budget_of}
use Rattle.envelope_cells.specs.Ids.{month_at}
use Rattle.envelope_cells.proofs.Parts.{weight_rises}
use Rattle.goal_templates.proofs.Wanting.{latest_small, latest_turn, sum_small}
use Rattle.goal_templates.proofs.wants.sums_between.Goals as goal

pub overflow_add-sum : goal.overflow_add-sum
overflow_add-sum c =
    let b = budget_of c.args.book.now.rows in
    let id = c.args.id.now in
    let at = c.loop-at.at in
    let fits : SFits w128 c.in_ok-sum.field-0 = search rules in
    let is : c.in_ok-sum.field-0 ≡ b.category_sum id at = c.in_ok-sum.ensures ∙ c.requires.hand.added.each id (month_at at) in
    omega (arith, ints, is, c.loop-at.invariant, sum_small b id at c.args.number (omega arith), latest_small b id at (at - c.args.from), weight_rises b id at c.args.number (omega arith), c.requires.small)

pub loop-at-preserved : goal.loop-at-preserved
loop-at-preserved c =
    let b = budget_of c.args.book.now.rows in
    let id = c.args.id.now in
    let at = c.loop-at.at in
    let fits : SFits w128 c.in_ok-sum.field-0 = search rules in
    let is : c.in_ok-sum.field-0 ≡ b.category_sum id at = c.in_ok-sum.ensures ∙ c.requires.hand.added.each id (month_at at) in
    omega (arith, ints, is, c.loop-at.invariant, latest_turn b id c.args.from at (omega arith), sum_small b id at c.args.number (omega arith), latest_small b id at (at - c.args.from), weight_rises b id at c.args.number (omega arith), c.requires.small)
