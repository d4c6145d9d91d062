use Rattle.std.proofs.Common.{◌≤◌, ◌^◌, List, map, ap, sym, ◌∙◌, ◌≡◌, subst}
use Rattle.finite_sums.specs.Sums.{weight}
use Rattle.envelope_cells.specs.BudgetOf.{groups_of}
use Rattle.tracking_budget.specs.declared.live.LiveCategory.{LiveCategory}
use Rattle.tracking_budget.specs.Tracked.{tracked_of}
use Rattle.tracking_budget.specs.CellOf.{live_of}
use Rattle.tracking_budget.specs.Parts.{part_of, weight_of}
use Rattle.tracking_budget.proofs.Sizes.{live_small}
use Rattle.tracking_budget.proofs.Totals.{parts_small}
use Rattle.tracking_budget.proofs.month_sheet.parts_in.Goals as goal

pub parts_of-requires-clause-small : goal.parts_of-requires-clause-small
parts_of-requires-clause-small c =
    let b = tracked_of c.args.book.now.rows in
    let P = λ (ls : List LiveCategory). weight (weight_of b c.args.number) ls ≤ 2 ^ 120 in
    subst P (sym (c.as_slice-categories.ensures ∙ c.in_ok-live.ensures ∙ ap live_of (c.as_slice-listed.ensures ∙ c.in_ok-groups.ensures))) (live_small c.args.book.now.rows c.args.number c.requires.number c.sizes.ensures)

pub returns-clause-parts : goal.returns-clause-parts
returns-clause-parts c =
    c.in_ok-parts.ensures ∙ ap (map (part_of (tracked_of c.args.book.now.rows) c.args.number)) (c.as_slice-categories.ensures ∙ c.in_ok-live.ensures ∙ ap live_of (c.as_slice-listed.ensures ∙ c.in_ok-groups.ensures))

pub returns-clause-small : goal.returns-clause-small
returns-clause-small c = λ k.
    let r = c.args.book.now.rows in
    let b = tracked_of r in
    let all : c.in_ok-parts.parts ≡ map (part_of b c.args.number) (live_of (groups_of r)) =
    c.in_ok-parts.ensures ∙ ap (map (part_of b c.args.number)) (c.as_slice-categories.ensures ∙ c.in_ok-live.ensures ∙ ap live_of (c.as_slice-listed.ensures ∙ c.in_ok-groups.ensures)) in
    parts_small b c.args.number k (live_of (groups_of r)) c.in_ok-parts.parts all (live_small r c.args.number c.requires.number c.sizes.ensures)
