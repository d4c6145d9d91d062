use Rattle.std.proofs.Common.{◌≡◌, Some, ap, sym, ◌∙◌, rules, arith, to_z, of_z, ◌/◌}
use lib.IntN.{◌+ℤ◌}
use mir.Val.{SFits}
use mir.Syntax.{w64, w128}
use Rattle.std.specs.FinMap as map
use Rattle.std.specs.Option.{option_map, option_copied}
use Rattle.std.proofs.lemmas.Int.{ints}
use Rattle.book_rows.specs.Live.{category_of}
use Rattle.envelope_cells.specs.Parts.{value_at, sum_name}
use Rattle.envelope_cells.proofs.Added.{added}
use Rattle.envelope_cells.proofs.sums.add_row.Goals as goal

pub returns-in_ok-add-clause-added : goal.returns-in_ok-add-clause-added
returns-in_ok-add-clause-added g c =
    let sums = c.args.sums.now in
    let x = c.args.row.now in
    let name = sum_name c.in-Some.category.now (c.in-Some-date.day / 100) in
    let amount_fits : SFits w64 c.args.row.now.amount = search rules in
    let by_fits : SFits w128 c.from.result = search rules in
    let by : to_z w128 (of_z w128 c.from.result) ≡ x.amount = omega (arith, ints, c.from.ensures) in
    let of : category_of c.args.book.now.rows x ≡ Some c.in-Some.category.now = sym c.resolved_category.ensures ∙ ap option_copied c.in-Some.is in
    added c.args.book.now.rows sums c.add.new.self c.in-Some.category.now (c.in-Some-date.day / 100) x of (ap (option_map (λ day. day / 100)) c.in-Some-date.is) (sym c.counts.ensures.is ∙ c.if-counts.true)
    (c.in_ok-add.ensures ∙ ap (λ n. map.insert sums n (value_at sums n +ℤ to_z w128 (of_z w128 c.from.result))) c.in_ok-name.ensures ∙ ap (λ z. map.insert sums name (value_at sums name +ℤ z)) by)
