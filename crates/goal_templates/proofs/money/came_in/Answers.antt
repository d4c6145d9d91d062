use Rattle.std.proofs.Common.{◌≡◌, [], ◌∙◌, rules, arith}
use mir.Syntax.{w128}
use mir.Val.{SFits}
use Rattle.std.proofs.lemmas.Int.{ints}
use Rattle.envelope_cells.specs.BudgetOf.{budget_of}
use Rattle.envelope_cells.specs.Ids.{month_at}
use Rattle.goal_templates.proofs.ToShare.{came_small}
use Rattle.goal_templates.proofs.money.came_in.Goals as goal

pub overflow_add-result : goal.overflow_add-result
overflow_add-result c =
    let b = budget_of c.args.book.now.rows in
    let id = c.args.id.now in
    let moved : SFits w128 c.in_ok-past.past.moved = search rules in
    let fits : SFits w128 c.in_ok-sum.sum = search rules in
    let is : c.in_ok-sum.sum ≡ b.category_sum id c.args.number = c.in_ok-sum.ensures ∙ c.requires.hand.added.each id (month_at c.args.number) in
    omega (arith, ints, moved, fits, is, c.in_ok-past.ensures.moved, came_small b c.args.number [] id, c.requires.small)

pub returns : goal.returns
returns c =
    let b = budget_of c.args.book.now.rows in
    let id = c.args.id.now in
    let moved : SFits w128 c.in_ok-past.past.moved = search rules in
    let fits : SFits w128 c.in_ok-sum.sum = search rules in
    let is : c.in_ok-sum.sum ≡ b.category_sum id c.args.number = c.in_ok-sum.ensures ∙ c.requires.hand.added.each id (month_at c.args.number) in
    omega (arith, ints, moved, fits, is, c.in_ok-past.ensures.moved, came_small b c.args.number [] id, c.requires.small)
