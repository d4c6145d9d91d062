-- An import writes only what changes, and no field twice.
use Rattle.std.specs.Prelude.{◌≡◌, ◌≢◌, ◌⊎◌, ℕ, false, List, [], ◌∷◌, ◌++◌, Option, Some, None, Ok, codes}
use Rattle.std.specs.List.{Contains}
use Rattle.std.specs.FinMap as map
use Rattle.finite_sums.specs.Maps.{Text}
use Rattle.book_rows.specs.declared.rows.Rows.{Rows}
use Rattle.book_rows.specs.declared.rows.TxRow.{TxRow}
use Rattle.book_rows.specs.declared.write.RowName.TheVariants.{Given, Made}
use Rattle.book_rows.specs.declared.write.Write.{Write}
use Rattle.split_transfer.specs.After.{Ids, with_writes}
use Rattle.bank_import.specs.declared.edit.ImportEdit.{ImportEdit}
use Rattle.bank_import.specs.Edits.{import_writes}

-- the texts of a transaction that an import fills in, each with the name of its column
abbrev pub texts_of : TxRow → List (Text × Option Text)
texts_of x =
    (codes "description", x.description)
    ∷ (codes "category", x.category)
    ∷ (codes "notes", x.notes)
    ∷ (codes "imported_description", x.imported_description)
    ∷ (codes "financial_id", x.financial_id)
    ∷ (codes "schedule", x.schedule)
    ∷ []

-- a write into a row that was there: of a transaction, into a text that was missing, or into the flag that the bank has it, which was not set.
-- Whatever ids the new rows get, this write alone makes another transaction of it
pub record IsChange (rows : Rows) (id : Text) (w : Write) : Type 0 where
  pub tx : TxRow
  pub there : map.get rows.txs id ≡ Some tx
  pub dataset : w.dataset ≡ codes "transactions"
  pub bare : Contains (texts_of tx) (w.column, None) ⊎ ((w.column ≡ codes "cleared") × (tx.cleared ≡ false))
  pub other : (ids : Ids) → map.get (with_writes ids rows (w ∷ [])).txs id ≢ Some tx

-- the columns that a new transaction gets
abbrev pub columns : List Text
columns =
    codes "acct"
    ∷ codes "date"
    ∷ codes "amount"
    ∷ codes "description"
    ∷ codes "category"
    ∷ codes "notes"
    ∷ codes "imported_description"
    ∷ codes "financial_id"
    ∷ codes "schedule"
    ∷ codes "cleared"
    ∷ []

-- a write into a new row: the name of a payee, or one of these columns of a transaction
abbrev pub IsOfNew : Write → Type 0
IsOfNew w = ((w.dataset ≡ codes "payees") × (w.column ≡ codes "name")) ⊎ ((w.dataset ≡ codes "transactions") × Contains columns w.column)

-- what is so of the writes of an import
pub record AreChanges (rows : Rows) (ws : List Write) : Type 0 where
  -- each write into a row that was there changes it
  pub changes : (w : Write) (id : Text) → Contains ws w → w.row ≡ Given id → IsChange rows id w
  -- each other one is of a new row
  pub new : (w : Write) (at : ℕ) → Contains ws w → w.row ≡ Made at → IsOfNew w
  -- no field is written twice
  pub once : (before after : List Write) (w v : Write) → ws ≡ before ++ w ∷ after → Contains after v → v.row ≡ w.row → v.column ≢ w.column

abbrev pub ImportsWriteChanges : Type 0
ImportsWriteChanges = (rows : Rows) (edit : ImportEdit) (ws : List Write) → import_writes rows edit ≡ Ok ws → AreChanges rows ws
