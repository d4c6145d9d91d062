use Rattle.std.proofs.Common.{◌≡◌, ◌<◌, ◌^◌, length, true, rules, sym, ap, ◌∙◌, subst}
use mir.Syntax.{w128}
use mir.Val.{SFits}
use Rattle.std.proofs.lemmas.Int.{to_z-of_z}
use Rattle.envelope_cells.specs.BudgetOf.{budget_of}
use Rattle.goal_templates.specs.Notes.{asked_for, templates}
use Rattle.goal_templates.specs.Sides.{ids_on}
use Rattle.goal_templates.specs.Wanted.{want_of}
use Rattle.goal_templates.specs.Sharing.{shares}
use Rattle.goal_templates.specs.Allocation.{allocation}
use Rattle.goal_templates.specs.Sizes.{AreAsked}
use Rattle.goal_templates.proofs.Asking.{all_asked}
use Rattle.goal_templates.proofs.Sizes.{all_before, expense_distinct, shares_small}
use Rattle.goal_templates.proofs.granting.shares_over.Goals as goal

pub shared_money-requires-clause-hand : goal.shared_money-requires-clause-hand
shared_money-requires-clause-hand g c = record {
  within = c.first_month-first.ensures.within;
  valid = c.requires.number;
  added = c.in_ok-sums.ensures.sums;
  quiet = c.first_month-first.ensures.quiet;
  sizes = c.sizes.ensures;
}

pub shared_money-requires-clause-incomes : goal.shared_money-requires-clause-incomes
shared_money-requires-clause-incomes g c = c.as_slice-incomes.ensures.value ∙ c.in_ok-income.ensures ∙ ap (ids_on true) c.requires.groups

pub share_out-requires-clause-hand : goal.share_out-requires-clause-hand
share_out-requires-clause-hand g c = record {
  within = c.first_month-first.ensures.within;
  valid = c.requires.number;
  added = c.in_ok-sums.ensures.sums;
  quiet = c.first_month-first.ensures.quiet;
  sizes = c.sizes.ensures;
}

pub share_out-requires-clause-asked : goal.share_out-requires-clause-asked
share_out-requires-clause-asked g c =
    let r = c.args.book.now.rows in
    subst (AreAsked (budget_of r)) (sym (c.as_slice-all.ensures.value ∙ c.in_ok-asked.ensures ∙ ap (asked_for r) c.requires.ids)) (all_asked r)

pub returns-clause-shares : goal.returns-clause-shares
returns-clause-shares g c =
    let r = c.args.book.now.rows in
    let b = budget_of r in
    let fits : SFits w128 c.in_ok-money.money = search rules in
    let all : c.as_slice-all.result.now ≡ templates r = c.as_slice-all.ensures.value ∙ c.in_ok-asked.ensures ∙ ap (asked_for r) c.requires.ids in
    c.in_ok-shares.ensures.shares
    ∙ ap (λ z. shares (want_of b c.args.number) z c.as_slice-all.result.now) (to_z-of_z w128 c.in_ok-money.money fits ∙ c.in_ok-money.ensures.value)
    ∙ ap (allocation b c.args.number) all

pub returns-clause-small : goal.returns-clause-small
returns-clause-small g c =
    let r = c.args.book.now.rows in
    let few : length c.in_ok-shares.shares.items < 2 ^ 64 = search rules in
    shares_small (budget_of r) c.args.number c.in_ok-shares.shares.items (expense_distinct r) (all_before r c.args.number c.requires.number c.sizes.ensures) few c.in_ok-shares.ensures.within
