-- What a register tells.
use Rattle.std.specs.Prelude.{◌≡◌, ◌↔◌, List, map as list_map, Some, true}
use Rattle.std.specs.List.{Contains}
use Rattle.std.specs.List.Sorted.{IsStrictlySortedBy}
use Rattle.std.specs.FinMap as map
use Rattle.finite_sums.specs.Maps.{Text}
use Rattle.book_rows.specs.declared.rows.Rows.{Rows}
use Rattle.book_rows.specs.declared.rows.TxRow.{TxRow}
use Rattle.book_rows.specs.Live.{is_live_tx}
use Rattle.book_rows.specs.Parts.{is_in_account}
use Rattle.book_rows.specs.Book.{dated_cmp}
use Rattle.command_lines.specs.Register.{Entry, day_or_first, register_line}

-- the entry is that of a live transaction of the account
pub record IsRegistered (rows : Rows) (account : Text) (e : Entry) : Type 0 where
  pub row : TxRow
  pub there : map.get rows.txs e.0.1 ≡ Some row
  pub of_account : is_in_account account row ≡ true
  pub live : is_live_tx rows row ≡ true
  pub day : e.0.0 ≡ day_or_first row.date
  pub line : e.1 ≡ register_line rows e.0.1 row

-- these are the entries of all live transactions of an account, each once, by day and id
pub record IsRegister (rows : Rows) (account : Text) (told : List Entry) : Type 0 where
  pub in_order : IsStrictlySortedBy dated_cmp (list_map (λ e. e.0) told)
  pub exactly : (e : Entry) → Contains told e ↔ IsRegistered rows account e
