use Rattle.std.proofs.Common.{arith}
use Rattle.dirty_cells.proofs.month.cover_months.Goals as goal

pub returns-then-to-from-clause-right : goal.returns-then-to-from-clause-right
returns-then-to-from-clause-right g c = record { each = λ n h l. absurd (omega (arith, h, l)) }
