use Rattle.std.proofs.Common.{rules, ◌≡◌}
use Rattle.sqlite_value.specs.Keys.{plain}
use Rattle.sqlite_keeper.proofs.Layouts.{keyed, is_zero}
use Rattle.sqlite_keeper.proofs.layout.is_keyed.Goals as goal

pub returns-clause-same : goal.returns-clause-same
returns-clause-same c zero =
    let unique : c.unique-item.result ≡ c.args.places.now = search rules in
    keyed c.args.table.now c.args.places.now c.unique-item.result plain (rw c.as_slice.ensures at c.in-len1.len_at_least) (rw c.as_slice.ensures at c.in-len1.len_below) (rw c.as_slice.ensures at c.unique-item.is) unique
    (rw c.as_slice-2.ensures at c.in-len1-as_slice.len_at_least) (rw c.as_slice-2.ensures at c.in-len1-as_slice.len_below) (is_zero _ (rw c.as_slice-2.ensures at zero))
