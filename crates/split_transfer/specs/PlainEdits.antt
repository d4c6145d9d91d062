-- Plain edits leave pairs and splits right.
use Rattle.std.specs.Prelude.{◌≡◌, ◌≢◌, ℕ, Bool, true, false, List, None, Some, Ok}
use Rattle.std.specs.FinMap as map
use Rattle.finite_sums.specs.Maps.{Text}
use Rattle.book_rows.specs.declared.rows.Rows.{Rows}
use Rattle.book_rows.specs.declared.rows.TxRow.{TxRow}
use Rattle.book_rows.specs.declared.write.Write.{Write}
use Rattle.book_edits.specs.declared.edit.BookEdit.{BookEdit}
use Rattle.book_edits.specs.declared.edit.BookEdit.TheVariants.{Set}
use Rattle.book_edits.specs.Edits.{book_writes}
use Rattle.split_transfer.specs.After.{Ids, with_writes, makes}
use Rattle.split_transfer.specs.Right.{StayRight}

-- the edit that gives any field any value
abbrev pub sets_any_field : BookEdit → Bool
sets_any_field (Set dataset row column value) = true
sets_any_field edit = false

-- what is asked of the rows before, and of the ids of made rows
pub record IsAdded (ids : Ids) (rows : Rows) (ws : List Write) : Type 0 where
  -- the ids of made rows are new
  pub new : (at : ℕ) → makes ws at ≡ true → map.get rows.txs (ids at) ≡ None
  -- no transaction names one that the writes add as what it is a part of, whether the id of that one is made or given
  pub childless : (added id : Text) (y x : TxRow) → map.get rows.txs added ≡ None → map.get (with_writes ids rows ws).txs added ≡ Some y
      → map.get rows.txs id ≡ Some x → x.parent_id ≢ Some added

-- after a plain edit that is accepted, but the one that gives any field any value, each pair and each split that was right is right
-- if it is still there, and so is each that it makes
abbrev pub PlainEditsKeepPairsAndSplits : Type 0
PlainEditsKeepPairsAndSplits = (ids : Ids) (rows : Rows) (edit : BookEdit) (ws : List Write) → book_writes rows edit ≡ Ok ws → sets_any_field edit ≡ false
    → IsAdded ids rows ws → StayRight rows (with_writes ids rows ws)
