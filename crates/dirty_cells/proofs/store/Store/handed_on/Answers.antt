use Rattle.std.proofs.Common.{◌≡◌, ◌∙◌, ap, Some, None, rules}
use lib.IntN.{pos}
use Rattle.std.specs.Prelude.{unwrap_or}
use Rattle.std.specs.BTreeMap as tree
use Rattle.finite_sums.specs.Maps.{text_cmp}
use Rattle.envelope_cells.specs.declared.name.CellKind.TheVariants.{ToBudget, Buffered, TotalLeftover}
use Rattle.dirty_cells.specs.Spots.{spot_at}
use Rattle.dirty_cells.proofs.Spots.{got}
use Rattle.dirty_cells.proofs.store.Store.handed_on.Goals as goal

pub returns-in-Some-clause-to_budget : goal.returns-in-Some-clause-to_budget
returns-in-Some-clause-to_budget c =
    let rows = c.self.inside.rows in
    let there : tree.get text_cmp rows c.args.id.now ≡ Some c.in-Some.row.now = search rules in
    c.handed_on.ensures.to_budget ∙ ap (λ o. unwrap_or o (pos 0)) (got rows.entries c.args.self.now c.args.id.now (Some c.in-Some.row.now) c.self.view_is there (spot_at c.args.month ToBudget))

pub returns-in-Some-clause-buffered : goal.returns-in-Some-clause-buffered
returns-in-Some-clause-buffered c =
    let rows = c.self.inside.rows in
    let there : tree.get text_cmp rows c.args.id.now ≡ Some c.in-Some.row.now = search rules in
    c.handed_on.ensures.buffered ∙ ap (λ o. unwrap_or o (pos 0)) (got rows.entries c.args.self.now c.args.id.now (Some c.in-Some.row.now) c.self.view_is there (spot_at c.args.month Buffered))

pub returns-in-Some-clause-leftover : goal.returns-in-Some-clause-leftover
returns-in-Some-clause-leftover c =
    let rows = c.self.inside.rows in
    let there : tree.get text_cmp rows c.args.id.now ≡ Some c.in-Some.row.now = search rules in
    c.handed_on.ensures.leftover ∙ ap (λ o. unwrap_or o (pos 0)) (got rows.entries c.args.self.now c.args.id.now (Some c.in-Some.row.now) c.self.view_is there (spot_at c.args.month TotalLeftover))

pub returns-in-None-clause-to_budget : goal.returns-in-None-clause-to_budget
returns-in-None-clause-to_budget c =
    let rows = c.self.inside.rows in
    let none : tree.get text_cmp rows c.args.id.now ≡ None = search rules in
    ap (λ o. unwrap_or o (pos 0)) (got rows.entries c.args.self.now c.args.id.now None c.self.view_is none (spot_at c.args.month ToBudget))

pub returns-in-None-clause-buffered : goal.returns-in-None-clause-buffered
returns-in-None-clause-buffered c =
    let rows = c.self.inside.rows in
    let none : tree.get text_cmp rows c.args.id.now ≡ None = search rules in
    ap (λ o. unwrap_or o (pos 0)) (got rows.entries c.args.self.now c.args.id.now None c.self.view_is none (spot_at c.args.month Buffered))

pub returns-in-None-clause-leftover : goal.returns-in-None-clause-leftover
returns-in-None-clause-leftover c =
    let rows = c.self.inside.rows in
    let none : tree.get text_cmp rows c.args.id.now ≡ None = search rules in
    ap (λ o. unwrap_or o (pos 0)) (got rows.entries c.args.self.now c.args.id.now None c.self.view_is none (spot_at c.args.month TotalLeftover))
