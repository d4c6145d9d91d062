-- Which payee of the book the record of a statement means.
use Rattle.std.specs.Prelude.{◌≡◌, ◌↔◌, false, Some, None}
use Rattle.std.specs.FinMap as map
use Rattle.finite_sums.specs.Maps.{Text}
use Rattle.book_rows.specs.declared.rows.Rows.{Rows}
use Rattle.book_rows.specs.declared.rows.PayeeRow.{PayeeRow}
use Rattle.book_edits.specs.Laws.{IsLeast}
use Rattle.rule_engine.specs.Conditions.{folded}
use Rattle.bank_import.specs.declared.entry.Entry.{Entry}
use Rattle.bank_import.specs.Drafts.{payee_of}

-- a payee that was not deleted, that stands for no account, and whose name is this one but for the case of letters
pub record IsNamed (rows : Rows) (name id : Text) : Type 0 where
  pub payee : PayeeRow
  pub own : Text
  pub there : map.get rows.payees id ≡ Some payee
  pub kept : payee.tombstone ≡ false
  pub alone : payee.transfer_acct ≡ None
  pub named : payee.name ≡ Some own
  pub same : folded own ≡ folded name

pub record PayeesAreFound (rows : Rows) (e : Entry) : Type 0 where
  -- of the payees that have its name it is the one of the least id
  pub found : (name id : Text) → e.payee ≡ Some name → (payee_of rows e ≡ Some id) ↔ IsLeast (IsNamed rows name) id
  -- where none has it, there is none
  pub none : (name : Text) → e.payee ≡ Some name → (payee_of rows e ≡ None) ↔ ((id : Text) → IsNamed rows name id → ⊥)
  -- a record that names none has none
  pub unnamed : e.payee ≡ None → payee_of rows e ≡ None
