use Rattle.std.proofs.Common.{◌≡◌, ◌∙◌, ◌*◌, length, map, ap, arith}
use Rattle.std.specs.List.{range_with_len}
use Rattle.std.proofs.lemmas.List.FromFn.{length-map-range_with_len}
use Rattle.generated_books.specs.Draws.{draw}
use Rattle.generated_books.proofs.Drawn.{draw_at}
use Rattle.generated_books.proofs.contents.draw_of.Goals as goal

pub bounds-draws-before : goal.bounds-draws-before
bounds-draws-before c =
    let long : length c.args.draws.now ≡ 4 * c.args.count = ap length c.requires.draws ∙ length-map-range_with_len draw 1 (4 * c.args.count) in
    omega arith

pub returns : goal.returns
returns c = draw_at c.args.draws.now c.args.count c.args.before c.args.nth c.requires.draws c.requires.within c.requires.first c.requires.last
