-- What is marked of changes, over the transactions that they touch.
use Rattle.std.specs.Prelude.{List}
use Rattle.finite_sums.specs.Maps.{Text}
use Rattle.book_rows.specs.declared.rows.Rows.{Rows}
use Rattle.dirty_cells.specs.Changes.{Change, Spares, Within, AreDifferent, with_fields}
use Rattle.dirty_cells.specs.Marking.{IsFollowed}
use Rattle.dirty_cells.specs.Bound.{touched_txs}
use Rattle.dirty_cells.specs.declared.marks.Marked.{Marked}

-- all is marked that these changes of the rows call for: of some transactions, off which the rows tell what they told, and which are among those
-- that change or are governed
pub record Follows (r : Rows) (changes : List Change) (m : Marked) : Type 0 where
  pub ids : List Text
  pub spares : Spares r (with_fields r changes) ids
  pub within : AreDifferent changes → Within ids (touched_txs r (with_fields r changes) changes)
  pub followed : IsFollowed r (with_fields r changes) changes ids m
