-- What an account has.
use Rattle.std.specs.Prelude.{not, ◌&&◌, ℤ}
use Rattle.finite_sums.specs.Sums.{only_if}
use Rattle.finite_sums.specs.Maps.{Text, total_of}
use Rattle.book_rows.specs.declared.rows.Rows.{Rows}
use Rattle.book_rows.specs.declared.rows.TxRow.{TxRow}
use Rattle.book_rows.specs.Live.{is_live_tx}
use Rattle.book_rows.specs.Parts.{is_in_account}

-- what a transaction adds to the balance of its account: nothing where it is dead, or where its parts add it
abbrev pub adds : Rows → TxRow → ℤ
adds rows x = only_if (is_live_tx rows x && not x.is_parent) x.amount

-- the balance of an account: what all transactions of it add, whether it stands in the budget or not
abbrev pub balance_of : Rows → Text → ℤ
balance_of rows account = total_of (λ x. only_if (is_in_account account x) (adds rows x)) rows.txs
