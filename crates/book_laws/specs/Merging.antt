-- What is left where payees become another one.
use Rattle.std.specs.Prelude.{◌≡◌, ◌≢◌, true, false, List, Some, Ok}
use Rattle.std.specs.FinMap as map
use Rattle.finite_sums.specs.Maps.{Text, text_cmp, is_among}
use Rattle.book_rows.specs.declared.rows.Rows.{Rows}
use Rattle.book_rows.specs.declared.rows.TxRow.{TxRow}
use Rattle.book_rows.specs.declared.write.Write.{Write}
use Rattle.book_rows.specs.Live.{is_live_payee, payee_of}
use Rattle.book_edits.specs.Mappings.{payee_merge}
use Rattle.split_transfer.specs.After.{Ids, with_writes}

pub record AreMerged (before after : Rows) (to : Text) (these : List Text) : Type 0 where
  -- each transaction that was of one of these is of the one that stays, and so is each that has the id of one of them in its column
  pub merged : (x : TxRow) (p : Text) → is_among text_cmp these p ≡ true → payee_of before x ≡ Some p → payee_of after x ≡ Some to
  pub named : (x : TxRow) (p : Text) → is_among text_cmp these p ≡ true → x.description ≡ Some p → payee_of after x ≡ Some to
  -- each other one is of what it was of
  pub others : (x : TxRow) → ((p : Text) → is_among text_cmp these p ≡ true → payee_of before x ≢ Some p) → ((p : Text) → is_among text_cmp these p ≡ true → x.description ≢ Some p)
      → payee_of after x ≡ payee_of before x
  -- so none is of one of these any more
  pub none : (x : TxRow) (p : Text) → is_among text_cmp these p ≡ true → payee_of after x ≢ Some p
  -- these aren't live any more, each other payee is as it was, and the one that stays is live
  pub gone : (p : Text) → is_among text_cmp these p ≡ true → is_live_payee after p ≡ false
  pub kept : (p : Text) → is_among text_cmp these p ≡ false → map.get after.payees p ≡ map.get before.payees p
  pub stays : is_live_payee after to ≡ true
  -- no row changes but those of payees and of their mappings, so none of a transaction does
  pub elsewhere : after ≡ record before { payee_mappings = after.payee_mappings; payees = after.payees }

-- where the merge of payees is accepted
abbrev pub PayeesAreMerged : Type 0
PayeesAreMerged = (ids : Ids) (rows : Rows) (to : Text) (these : List Text) (ws : List Write) → payee_merge rows to these ≡ Ok ws → AreMerged rows (with_writes ids rows ws) to these
