use Rattle.std.proofs.Common.{◌-◌, ◌∙◌, rules, ap, arith, unsigned_abs}
use lib.IntN.{pos}
use mir.Syntax.{w128}
use mir.Val.{SFits}
use Rattle.std.proofs.lemmas.Int.{ints, to_z-of_z}
use Rattle.envelope_cells.specs.BudgetOf.{budget_of}
use Rattle.goal_templates.specs.Wanted.{latest_sums, average_of}
use Rattle.goal_templates.proofs.Wanting.{latest_small, latest_from}
use Rattle.goal_templates.proofs.wants.average.Goals as goal

pub average_of-requires-clause-sum : goal.average_of-requires-clause-sum
average_of-requires-clause-sum c =
    let fits : SFits w128 c.in_ok-sum.sum = search rules in
    omega (arith, ints, ap unsigned_abs c.in_ok-sum.ensures, latest_small (budget_of c.args.book.now.rows) c.args.id.now c.args.number (c.args.number - c.saturating_sub-from.result), c.requires.small)

pub returns : goal.returns
returns c =
    let b = budget_of c.args.book.now.rows in
    let id = c.args.id.now in
    let n = c.args.number in
    let fits : SFits w128 c.average_of.result = search rules in
    let sum : SFits w128 c.in_ok-sum.sum = search rules in
    to_z-of_z w128 c.average_of.result fits ∙ c.average_of.ensures
    ∙ ap (λ z. pos (average_of z c.args.months)) (to_z-of_z w128 c.in_ok-sum.sum sum ∙ c.in_ok-sum.ensures ∙ ap (λ k. latest_sums b id n (n - k)) c.saturating_sub-from.ensures ∙ latest_from b id n c.args.months)
