-- What the records of a statement make, before they are matched: their payees, and what rules make of them.
use Rattle.std.specs.Prelude.{ℕ, ◌+◌, pos, Bool, true, false, ◌||◌, List, [], ◌∷◌, ◌++◌, Option, Some, None, is_some, if◌then◌else◌}
use Rattle.std.specs.List.{fold}
use Rattle.std.specs.Option.{option_map, option_and_then}
use Rattle.std.specs.FinMap as map
use Rattle.finite_sums.specs.Maps.{Text}
use Rattle.book_rows.specs.declared.rows.Rows.{Rows}
use Rattle.book_rows.specs.declared.rows.TxRow.{TxRow}
use Rattle.book_rows.specs.declared.rows.PayeeRow.{PayeeRow}
use Rattle.book_rows.specs.Parts.{is_text}
use Rattle.book_edits.specs.Checks.{same_id, least_where}
use Rattle.rule_engine.specs.Conditions.{folded}
use Rattle.rule_engine.specs.Running.{run, rules_of}
use Rattle.bank_import.specs.declared.entry.Entry.{Entry}
use Rattle.bank_import.specs.declared.drafts.Draft.{Draft}

-- ---- the payee of a record

-- the name by which a payee is found, whatever the case of its letters: one that was deleted has none, nor one that stands for an account
abbrev pub key_of : PayeeRow → Option Text
key_of p = if p.tombstone || is_some p.transfer_acct then None else option_map folded p.name

abbrev pub is_called : Text → PayeeRow → Bool
is_called key p = is_text key (key_of p)

-- of the payees of a name the one of the least id
abbrev pub payee_named : Rows → Text → Option Text
payee_named rows name = least_where (is_called (folded name)) (map.entries rows.payees)

abbrev pub payee_of : Rows → Entry → Option Text
payee_of rows e = option_and_then (payee_named rows) e.payee

-- ---- the transaction of a record

-- the transaction that a record makes, before rules see it. It is in no book yet
abbrev pub new_tx : Text → Option Text → Entry → TxRow
new_tx account payee e = record {
  id = [];
  acct = Some account;
  date = Some e.date;
  amount = e.amount;
  description = payee;
  category = None;
  notes = e.notes;
  imported_description = e.payee;
  financial_id = e.id;
  transferred_id = None;
  schedule = None;
  is_parent = false;
  is_child = false;
  parent_id = None;
  cleared = true;
  reconciled = false;
  sort_order = pos 0;
  tombstone = false;
}

-- what the rules of the book make of it
abbrev pub ruled : Rows → Text → Entry → TxRow
ruled rows account e = run rows (rules_of rows) (new_tx account (payee_of rows e) e)

-- the name of the payee that a record wants made: the book has none of the name, and rules gave none
abbrev pub wanted_by : Bool → TxRow → Option Text → Option Text
wanted_by found x name = if found || is_some x.description then None else name

unfoldable pub draft_of : Rows → Text → Entry → Draft
draft_of rows account e = record { row = ruled rows account e; wanted = wanted_by (is_some (payee_of rows e)) (ruled rows account e) e.payee }

-- ---- new payees

-- the place of a name among names, but for the case of letters: the first of those from one on
abbrev pub place_from : ℕ → List Text → Text → Option ℕ
place_from at [] key = None
place_from at (name ∷ names) key = if same_id (folded name) key then Some at else place_from (at + 1) names key

abbrev pub place_of : List Text → Text → Option ℕ
place_of names key = place_from 0 names key

-- a name is put behind others, unless it is among them
abbrev pub with_name : List Text → Option Text → List Text
with_name names None = names
with_name names (Some name) = if is_some (place_of names (folded name)) then names else names ++ name ∷ []

-- the names of the payees that are made, each once, as the first record has it that wants it
unfoldable pub new_names : List Draft → List Text
new_names ds = fold (λ names (d : Draft). with_name names d.wanted) [] ds
