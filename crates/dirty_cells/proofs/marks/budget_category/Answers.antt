use Rattle.std.proofs.Common.{◌<◌, arith, length, get_or, ap}
use Rattle.std.proofs.lemmas.Str.{IsCharBoundary-after_ascii}
use Rattle.dirty_cells.proofs.marks.budget_category.Goals as goal

pub split_at-requires : goal.split_at-requires
split_at-requires c =
    let same = c.as_bytes-bytes.ensures.value in
    let long : 6 < length c.args.row.now = omega (arith, c.if-bytes-lt7.false, ap length same) in
    let ascii : get_or c.args.row.now 6 0 < 128 = omega (arith, c.if-bytes-ne45.false, ap (λ l. get_or l 6 0) same) in
    IsCharBoundary-after_ascii c.args.row.now 6 c.utf8.row long ascii
