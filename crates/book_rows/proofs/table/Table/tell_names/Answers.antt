use Rattle.std.proofs.Common.{subst}
use Rattle.book_rows.specs.Tables.{AreNamed}
use Rattle.book_rows.proofs.table.Table.tell_names.Goals as goal

pub returns : goal.returns
returns g c = subst AreNamed c.self.view_is c.self.invariant.1
