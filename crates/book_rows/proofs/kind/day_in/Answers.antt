use Rattle.std.proofs.Common.{arith}
use Rattle.std.proofs.lemmas.Int.{ints}
use Rattle.book_rows.proofs.Days.{no_day-low, no_day-high}
use Rattle.book_rows.proofs.kind.day_in.Goals as goal
use Rattle.book_rows.proofs.kind.day_in.Goals.{then-n-lt0-via-then-n-lt0, then-n-lt0-via-else-n-lt0+then-n-gt21999999}

pub returns-then-n-lt0 : goal.returns-then-n-lt0
returns-then-n-lt0 c = elim c.then-n-lt0.branch [
  | then-n-lt0-via-then-n-lt0 w ↦ let l = w.if-n-lt0.true in no_day-low c.args.n (omega (arith, ints))
  | then-n-lt0-via-else-n-lt0+then-n-gt21999999 w ↦ let l = w.if-n-gt21999999.true in no_day-high c.args.n (omega (arith, ints))
]
