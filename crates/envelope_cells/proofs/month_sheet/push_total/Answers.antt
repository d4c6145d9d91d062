use Rattle.std.proofs.Common.{◌≡◌, ◌++◌, ◌∷◌, [], OnOk, rules, ap, ◌∙◌, subst, to_z, of_z, ℤ}
use mir.Syntax.{w128}
use mir.Val.{SFits}
use Rattle.std.proofs.lemmas.Int.{to_z-of_z}
use Rattle.finite_sums.specs.Sums.{total}
use Rattle.envelope_cells.specs.SheetOf.{cell}
use Rattle.envelope_cells.specs.Parts.{picked, group_total}
use Rattle.envelope_cells.proofs.month_sheet.push_total.Goals as goal

pub returns : goal.returns
returns c =
    let fits : SFits w128 c.total_of-sum.result = search rules in
    let sum : to_z w128 (of_z w128 c.total_of-sum.result) ≡ group_total c.args.pick c.args.group.now = to_z-of_z w128 c.total_of-sum.result fits ∙ c.total_of-sum.ensures ∙ ap (total (picked c.args.pick)) c.as_slice.ensures in
    let P = λ (z : ℤ). OnOk c.push.result (c.push.new.cells.items ≡ c.args.cells.now.items ++ cell c.args.month c.args.kind c.args.group.now.id z ∷ []) in
    subst P sum c.push.ensures
