use Rattle.std.proofs.Common.{rules}
use Rattle.std.specs.FinMap as map
use Rattle.book_examples.proofs.sheets.values.Goals as goal

pub add-requires : goal.add-requires
add-requires c = rw (c.new-values.ensures, map.get-empty _ c.in_ok-named.field-0) (search rules)
