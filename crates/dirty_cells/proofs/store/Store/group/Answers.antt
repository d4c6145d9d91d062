use Rattle.std.proofs.Common.{◌≡◌, ◌∙◌, ap, Some, None, rules}
use lib.IntN.{pos}
use Rattle.std.specs.Prelude.{unwrap_or}
use Rattle.std.specs.BTreeMap as tree
use Rattle.finite_sums.specs.Maps.{text_cmp}
use Rattle.envelope_cells.specs.declared.name.CellKind.TheVariants.{GroupSum, GroupBudget, GroupLeftover}
use Rattle.dirty_cells.specs.Spots.{spot_at}
use Rattle.dirty_cells.proofs.Spots.{got}
use Rattle.dirty_cells.proofs.store.Store.group.Goals as goal

pub returns-in-Some-clause-sum : goal.returns-in-Some-clause-sum
returns-in-Some-clause-sum c =
    let rows = c.self.inside.rows in
    let there : tree.get text_cmp rows c.args.id.now ≡ Some c.in-Some.row.now = search rules in
    c.group_amounts.ensures.sum ∙ ap (λ o. unwrap_or o (pos 0)) (got rows.entries c.args.self.now c.args.id.now (Some c.in-Some.row.now) c.self.view_is there (spot_at c.args.month GroupSum))

pub returns-in-Some-clause-budget : goal.returns-in-Some-clause-budget
returns-in-Some-clause-budget c =
    let rows = c.self.inside.rows in
    let there : tree.get text_cmp rows c.args.id.now ≡ Some c.in-Some.row.now = search rules in
    c.group_amounts.ensures.budget ∙ ap (λ o. unwrap_or o (pos 0)) (got rows.entries c.args.self.now c.args.id.now (Some c.in-Some.row.now) c.self.view_is there (spot_at c.args.month GroupBudget))

pub returns-in-Some-clause-leftover : goal.returns-in-Some-clause-leftover
returns-in-Some-clause-leftover c =
    let rows = c.self.inside.rows in
    let there : tree.get text_cmp rows c.args.id.now ≡ Some c.in-Some.row.now = search rules in
    c.group_amounts.ensures.leftover ∙ ap (λ o. unwrap_or o (pos 0)) (got rows.entries c.args.self.now c.args.id.now (Some c.in-Some.row.now) c.self.view_is there (spot_at c.args.month GroupLeftover))

pub returns-in-None-clause-sum : goal.returns-in-None-clause-sum
returns-in-None-clause-sum c =
    let rows = c.self.inside.rows in
    let none : tree.get text_cmp rows c.args.id.now ≡ None = search rules in
    ap (λ o. unwrap_or o (pos 0)) (got rows.entries c.args.self.now c.args.id.now None c.self.view_is none (spot_at c.args.month GroupSum))

pub returns-in-None-clause-budget : goal.returns-in-None-clause-budget
returns-in-None-clause-budget c =
    let rows = c.self.inside.rows in
    let none : tree.get text_cmp rows c.args.id.now ≡ None = search rules in
    ap (λ o. unwrap_or o (pos 0)) (got rows.entries c.args.self.now c.args.id.now None c.self.view_is none (spot_at c.args.month GroupBudget))

pub returns-in-None-clause-leftover : goal.returns-in-None-clause-leftover
returns-in-None-clause-leftover c =
    let rows = c.self.inside.rows in
    let none : tree.get text_cmp rows c.args.id.now ≡ None = search rules in
    ap (λ o. unwrap_or o (pos 0)) (got rows.entries c.args.self.now c.args.id.now None c.self.view_is none (spot_at c.args.month GroupLeftover))
