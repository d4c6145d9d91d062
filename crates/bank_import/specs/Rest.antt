-- When an import writes nothing, and that a second one does not.
use Rattle.std.specs.Prelude.{◌≡◌, ℕ, true, List, [], None, Some, length, map}
use Rattle.std.specs.List.{slice_get}
use Rattle.std.specs.FinMap as finite
use Rattle.finite_sums.specs.Maps.{Text}
use Rattle.book_rows.specs.declared.rows.Rows.{Rows}
use Rattle.book_rows.specs.declared.rows.TxRow.{TxRow}
use Rattle.bank_import.specs.declared.entry.Entry.{Entry}
use Rattle.bank_import.specs.declared.drafts.Draft.{Draft}
use Rattle.bank_import.specs.declared.facts.Facts.{Facts}
use Rattle.bank_import.specs.Matching.{facts_of, candidates, matched_among, matched}
use Rattle.bank_import.specs.Drafts.{draft_of}
use Rattle.bank_import.specs.Edits.{missing, payee_value, missing_category, takes_none, entries_writes}
use Rattle.bank_import.specs.Second.{but_payee, IsAfter, HaveIdsOrRows, MadeRise}

-- a transaction has all that a record would write into it
pub record IsFull (rows : Rows) (id : Text) (x : TxRow) (d : Draft) : Type 0 where
  pub payee : missing x.description (payee_value [] d) ≡ None
  pub category : missing_category (takes_none rows id x) x.category d.row.category ≡ None
  pub notes : missing x.notes d.row.notes ≡ None
  pub imported : missing x.imported_description d.row.imported_description ≡ None
  pub id_there : missing x.financial_id d.row.financial_id ≡ None
  pub schedule : missing x.schedule d.row.schedule ≡ None
  pub cleared : x.cleared ≡ true

-- what records make
abbrev pub drafts_in : Rows → Text → List Entry → List Draft
drafts_in rows account es = map (draft_of rows account) es

abbrev pub rows_in_drafts : List Draft → List TxRow
rows_in_drafts ds = map (λ (d : Draft). d.row) ds

-- no record wants a payee made, and each one's own transaction is there and has all that it would write
pub record AreFull (rows : Rows) (ds : List Draft) (os : List Text) : Type 0 where
  pub len : length os ≡ length ds
  pub named : (i : ℕ) (d : Draft) → slice_get ds i ≡ Some d → d.wanted ≡ None
  pub full : (i : ℕ) (d : Draft) (o : Text) → slice_get ds i ≡ Some d → slice_get os i ≡ Some o → (x : TxRow) × (finite.get rows.txs o ≡ Some x) × IsFull rows o x d

abbrev pub facts_in : Rows → Text → List Entry → List Facts
facts_in rows account es = map (facts_of rows) (rows_in_drafts (drafts_in rows account es))

-- an import of the same records into later rows
pub record IsAgain (rows later : Rows) (account : Text) (es : List Entry) (os : List Text) : Type 0 where
  -- rules make of each record what they made before, as far as it is compared, but for its payee
  pub same : map but_payee (facts_in later account es) ≡ map but_payee (facts_in rows account es)
  -- each record has a day, and an id of its own, or no id and made a row; and the ids of all made rows rise
  pub own : HaveIdsOrRows (facts_in later account es) (matched_among (candidates rows account) (facts_in rows account es))
  pub rise : MadeRise (matched_among (candidates rows account) (facts_in rows account es)) os
  -- the later candidates are those that a first import leaves
  pub after : IsAfter (candidates rows account) (facts_in later account es) (matched_among (candidates rows account) (facts_in rows account es)) os (candidates later account)
  pub full : AreFull later (drafts_in later account es) os

pub record LawOfRest : Type 0 where
  -- where each record matches its own transaction, which has all, nothing is written
  pub rests : (rows : Rows) (account : Text) (es : List Entry) (os : List Text) → matched rows account (rows_in_drafts (drafts_in rows account es)) ≡ map (λ x. Some x) os
      → AreFull rows (drafts_in rows account es) os → entries_writes rows account es ≡ []
  -- and so it is when the statement comes again
  pub again : (rows later : Rows) (account : Text) (es : List Entry) (os : List Text) → IsAgain rows later account es os → entries_writes later account es ≡ []
