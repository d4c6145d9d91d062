use Rattle.std.proofs.Common.{◌≡◌, rules, sym, subst}
use Rattle.std.specs.FinMap as map
use Rattle.finite_sums.specs.Maps.{map_of}
use Rattle.book_rows.specs.Tables.{AreNamed}
use Rattle.book_rows.proofs.RowNames.{named-empty}
use Rattle.book_rows.proofs.table.Table.new.Goals as goal

pub invariant_of-result : goal.invariant_of-result
invariant_of-result g c =
    let empty : map_of c.new.result ≡ map.empty = search rules in
    (c.new.ensures.ordered, subst AreNamed (sym empty) named-empty)
