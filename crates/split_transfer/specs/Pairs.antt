-- Pairs of transactions, and the parts of a split one.
use Rattle.std.specs.Prelude.{ℤ, Bool, not, ◌&&◌, List, filter, Option, None, Some, if◌then◌else◌}
use Rattle.std.specs.FinMap as map
use Rattle.finite_sums.specs.Sums.{only_if}
use Rattle.finite_sums.specs.Maps.{Text, some_and, total_of}
use Rattle.book_rows.specs.declared.rows.Rows.{Rows}
use Rattle.book_rows.specs.declared.rows.TxRow.{TxRow}
use Rattle.book_rows.specs.Live.{is_live_tx}
use Rattle.book_rows.specs.Parts.{is_text, is_child_of, children_of}
use Rattle.book_edits.specs.Checks.{same_id}

-- the value, where it passes a test
abbrev pub only_where : {X : Type 0} → (X → Bool) → Option X → Option X
only_where p None = None
only_where p (Some x) = if p x then Some x else None

-- the transaction of an id, where it is live
abbrev pub live_row : Rows → Text → Option TxRow
live_row rows id = only_where (is_live_tx rows) (map.get rows.txs id)

-- a live transaction names this one as its other part
abbrev pub names_back : Rows → Text → Text → Bool
names_back rows id other = some_and (λ y. is_text id y.transferred_id) (live_row rows other)

-- two live transactions that name each other are a pair: the other part of the pair that a live transaction is in, if it is in one
abbrev pub partner_of : Rows → Text → TxRow → Option Text
partner_of rows id x = only_where (λ other. not (same_id other id) && names_back rows id other) x.transferred_id

-- the transaction is a part of the one with this id, and was not deleted
abbrev pub is_part : Text → TxRow → Bool
is_part id x = is_child_of id x && not x.tombstone

-- the transaction is there and was not deleted
abbrev pub is_kept : Rows → Text → Bool
is_kept rows id = some_and (λ x. not x.tombstone) (map.get rows.txs id)

-- the ids of the parts of a transaction that were not deleted, in order
abbrev pub parts_of : Rows → Text → List Text
parts_of rows id = filter (is_kept rows) (children_of rows id)

-- what a transaction adds to the parts of the one with this id
abbrev pub share : Text → TxRow → ℤ
share id x = only_if (is_part id x) x.amount

-- what the parts of a transaction that were not deleted add up to
abbrev pub parts_sum : Rows → Text → ℤ
parts_sum rows id = total_of (share id) rows.txs
