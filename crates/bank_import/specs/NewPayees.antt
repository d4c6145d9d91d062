-- The law on the payees that an import makes.
use Rattle.std.specs.Prelude.{◌≡◌, ◌≢◌, ℕ, ◌<◌, false, List, Some}
use Rattle.std.specs.List.{slice_get}
use Rattle.std.specs.FinMap as finite
use Rattle.finite_sums.specs.Maps.{Text}
use Rattle.book_rows.specs.declared.rows.Rows.{Rows}
use Rattle.book_rows.specs.declared.rows.PayeeRow.{PayeeRow}
use Rattle.rule_engine.specs.Conditions.{folded}
use Rattle.bank_import.specs.declared.entry.Entry.{Entry}
use Rattle.bank_import.specs.declared.drafts.Draft.{Draft}
use Rattle.bank_import.specs.Drafts.{is_called, new_names}
use Rattle.bank_import.specs.Rest.{drafts_in}

-- the first record that wants a payee of this name, whatever the case of its letters, and it wants this one
pub record IsFirst (ds : List Draft) (i : ℕ) (name : Text) : Type 0 where
  pub draft : Draft
  pub at : slice_get ds i ≡ Some draft
  pub wants : draft.wanted ≡ Some name
  pub before : (j : ℕ) (d : Draft) (other : Text) → j < i → slice_get ds j ≡ Some d → d.wanted ≡ Some other → folded other ≢ folded name

pub record LawOfNames : Type 0 where
  -- each new name is as the first record has it that wants it
  pub first : (ds : List Draft) (k : ℕ) (name : Text) → slice_get (new_names ds) k ≡ Some name → (i : ℕ) × IsFirst ds i name
  -- each name that a record wants is there, but for the case of letters
  pub each : (ds : List Draft) (i : ℕ) (d : Draft) (name : Text) → slice_get ds i ≡ Some d → d.wanted ≡ Some name
      → (k : ℕ) × (other : Text) × (slice_get (new_names ds) k ≡ Some other) × (folded other ≡ folded name)
  -- none is there twice
  pub once : (ds : List Draft) (k l : ℕ) (name other : Text) → slice_get (new_names ds) k ≡ Some name → slice_get (new_names ds) l ≡ Some other → folded name ≡ folded other → k ≡ l
  -- they stand in the order of their first records
  pub order : (ds : List Draft) (k l i j : ℕ) (name other : Text) → k < l → slice_get (new_names ds) k ≡ Some name → slice_get (new_names ds) l ≡ Some other
      → IsFirst ds i name → IsFirst ds j other → i < j
  -- no payee of the book is found by one of them
  pub new : (rows : Rows) (account : Text) (es : List Entry) (k : ℕ) (name id : Text) (p : PayeeRow) → slice_get (new_names (drafts_in rows account es)) k ≡ Some name
      → finite.get rows.payees id ≡ Some p → is_called (folded name) p ≡ false
