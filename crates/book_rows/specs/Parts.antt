-- The parts of a split, and the transactions of an account, of a category and of a schedule.
use Rattle.std.specs.Prelude.{Bool, ◌&&◌, List, Option}
use Rattle.std.specs.Ordering.{eq_by_cmp}
use Rattle.std.specs.FinMap as map
use Rattle.finite_sums.specs.Maps.{Text, text_cmp, some_and, keys_where}
use Rattle.book_rows.specs.declared.rows.Rows.{Rows}
use Rattle.book_rows.specs.declared.rows.TxRow.{TxRow}

-- the text is there, and it is this one
abbrev pub is_text : Text → Option Text → Bool
is_text t text = some_and (λ own. eq_by_cmp text_cmp own t) text

-- the transaction says that it is a part of the one with this id
abbrev pub is_child_of : Text → TxRow → Bool
is_child_of id x = x.is_child && is_text id x.parent_id

-- the transaction says that it is one of the account with this id
abbrev pub is_in_account : Text → TxRow → Bool
is_in_account id x = is_text id x.acct

-- the transaction says that it is one of the category with this id, whatever that is mapped to
abbrev pub is_in_category : Text → TxRow → Bool
is_in_category id x = is_text id x.category

-- the transaction says that it is one of the schedule with this id
abbrev pub is_of_schedule : Text → TxRow → Bool
is_of_schedule id x = is_text id x.schedule

-- the ids of the parts of a transaction, dead or alive, in order
abbrev pub children_of : Rows → Text → List Text
children_of rows id = keys_where (is_child_of id) (map.entries rows.txs)

-- the ids of the transactions of an account, dead or alive, in order
abbrev pub account_txs : Rows → Text → List Text
account_txs rows id = keys_where (is_in_account id) (map.entries rows.txs)

-- the ids of the transactions whose category column is this id, dead or alive, in order
abbrev pub category_txs : Rows → Text → List Text
category_txs rows id = keys_where (is_in_category id) (map.entries rows.txs)

-- the ids of the transactions whose schedule column is this id, dead or alive, in order
abbrev pub schedule_txs : Rows → Text → List Text
schedule_txs rows id = keys_where (is_of_schedule id) (map.entries rows.txs)
