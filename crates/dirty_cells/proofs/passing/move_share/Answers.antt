use Rattle.std.proofs.Common.{◌≡◌, ap, sym, ◌∙◌, rules, to_z, of_z, ◌/◌}
use lib.IntN.{◌+ℤ◌}
use mir.Val.{SFits}
use mir.Syntax.{w64, w128}
use Rattle.std.specs.FinMap as map
use Rattle.std.specs.Option.{option_map}
use Rattle.std.proofs.lemmas.Int.{to_z-of_z}
use Rattle.envelope_cells.specs.Parts.{value_at, sum_name}
use Rattle.dirty_cells.specs.Changes.{signed}
use Rattle.dirty_cells.proofs.Moved.{moved}
use Rattle.dirty_cells.proofs.passing.move_share.Goals as goal

pub returns-in_ok-add-clause-moved : goal.returns-in_ok-add-clause-moved
returns-in_ok-add-clause-moved g c =
    let sums = c.args.sums.now in
    let d = c.args.category.now in
    let x = c.args.row.now in
    let m = c.in-Some.day / 100 in
    let name = sum_name d m in
    let amount_fits : SFits w64 x.amount = search rules in
    let by_fits : SFits w128 c.signed_amount.result = search rules in
    let by : to_z w128 (of_z w128 c.signed_amount.result) ≡ signed c.args.into x.amount =
    to_z-of_z w128 c.signed_amount.result by_fits ∙ c.signed_amount.ensures.value ∙ ap (signed c.args.into) (to_z-of_z w64 x.amount amount_fits) in
    moved c.args.book.now.rows sums c.add.new.self d m x c.args.into c.requires.category (ap (option_map (λ day. day / 100)) c.in-Some.is) (sym c.counts.ensures.is ∙ c.if-counts.true)
    (c.in_ok-add.ensures ∙ ap (λ n. map.insert sums n (value_at sums n +ℤ to_z w128 (of_z w128 c.signed_amount.result))) c.in_ok-name.ensures ∙ ap (λ z. map.insert sums name (value_at sums name +ℤ z)) by)
