-- How imports of statements are refused.
use Rattle.std.specs.Prelude.{◌≡◌, ◌↔◌, ◌⊎◌, ℕ, true, false, List, [], ◌∷◌, length, Ok, Err, codes}
use Rattle.finite_sums.specs.Maps.{Text}
use Rattle.book_rows.specs.declared.rows.Rows.{Rows}
use Rattle.book_rows.specs.declared.write.Write.{Write}
use Rattle.book_rows.specs.declared.fault.EditFault.{EditFault}
use Rattle.book_rows.specs.declared.fault.EditFault.TheVariants.{NoSuchAccount, BadStatement}
use Rattle.book_rows.specs.Live.{is_live_account}
use Rattle.bank_import.specs.declared.edit.ImportEdit.{ImportEdit}
use Rattle.bank_import.specs.declared.entry.Entry.{Entry}
use Rattle.bank_import.specs.Statement.{columns_of, bad_place, rows_in}
use Rattle.bank_import.specs.Read.{IsColumn, AreEntries, IsRefused}
use Rattle.bank_import.specs.Edits.{import_writes}

-- rows of fields say these entries: the first is a header that names the days and the amounts, and each other one is an entry
abbrev pub AreStatement : List (List Text) → List Entry → Type 0
AreStatement [] es = ⊥
AreStatement (header ∷ records) es =
    (date : ℕ) × (amount : ℕ) × IsColumn (codes "date") header date × IsColumn (codes "amount") header amount
    × AreEntries (columns_of header date amount) (length header) records es

-- no column of the header has this name
abbrev pub Lacks : List Text → Text → Type 0
Lacks header name = (k : ℕ) → IsColumn name header k → ⊥

-- rows of fields are no statement, and the first bad place is told: without a header the very first one, of a header that lacks days or
-- amounts the one behind its last field, and else that of the first bad record, the header being row 0
abbrev pub IsNoStatement : List (List Text) → EditFault → Type 0
IsNoStatement [] fault = fault ≡ BadStatement 0 0
IsNoStatement (header ∷ records) fault =
    ((Lacks header (codes "date") ⊎ Lacks header (codes "amount")) × (fault ≡ bad_place 0 (length header)))
    ⊎ ((date : ℕ) × (amount : ℕ) × IsColumn (codes "date") header date × IsColumn (codes "amount") header amount
    × IsRefused (columns_of header date amount) (length header) records fault)

-- what an import asks for, in this order, and the fault that is told where it isn't so: that the account is live, and that the text is a
-- statement
abbrev pub IsImportRefused : Rows → ImportEdit → EditFault → Type 0
IsImportRefused rows edit fault =
    ((is_live_account rows edit.account ≡ false) × (fault ≡ NoSuchAccount edit.account))
    ⊎ ((is_live_account rows edit.account ≡ true) × IsNoStatement (rows_in edit.statement) fault)

pub record ImportsAreJudged (rows : Rows) (edit : ImportEdit) : Type 0 where
  -- an import is refused with the first of these faults
  pub refused : (fault : EditFault) → (import_writes rows edit ≡ Err fault) ↔ IsImportRefused rows edit fault
  -- and it is accepted where there is none: the account is live, and the text is a statement
  pub accepted : ((ws : List Write) × (import_writes rows edit ≡ Ok ws))
      ↔ ((is_live_account rows edit.account ≡ true) × ((es : List Entry) × AreStatement (rows_in edit.statement) es))
