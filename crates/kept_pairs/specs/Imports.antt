-- What an import of a statement leaves of transactions and payees.
use Rattle.std.specs.Prelude.{◌≡◌, ◌||◌, ℕ, true, List, [], length, map as list_map, Option, Some, None, Ok, is_some, if◌then◌else◌}
use Rattle.std.specs.List.{slice_get}
use Rattle.std.specs.Option.{option_or}
use Rattle.std.specs.FinMap as map
use Rattle.finite_sums.specs.Maps.{Text}
use Rattle.book_rows.specs.declared.rows.Rows.{Rows}
use Rattle.book_rows.specs.declared.rows.TxRow.{TxRow}
use Rattle.book_rows.specs.declared.write.Write.{Write}
use Rattle.book_rows.specs.Rules.{payee_table, tx_table}
use Rattle.book_rows.specs.Tables.{blank_row}
use Rattle.split_transfer.specs.Pairs.{partner_of}
use Rattle.split_transfer.specs.After.{Ids, with_writes, makes}
use Rattle.rule_engine.specs.Conditions.{folded}
use Rattle.rule_engine.specs.Running.{run, rules_of}
use Rattle.bank_import.specs.declared.edit.ImportEdit.{ImportEdit}
use Rattle.bank_import.specs.declared.entry.Entry.{Entry}
use Rattle.bank_import.specs.Statement.{rows_in}
use Rattle.bank_import.specs.Matching.{facts_of, candidates, matched_among}
use Rattle.bank_import.specs.Drafts.{payee_of, new_names}
use Rattle.bank_import.specs.Edits.{import_writes}
use Rattle.bank_import.specs.Rest.{drafts_in}
use Rattle.kept_pairs.specs.Judged.{AreStatement}

-- ---- what a record tells of its transaction

-- what the statement says of it, with this payee: nothing else is known of it, but that the bank has it
abbrev pub said : Text → Option Text → Entry → TxRow
said account payee e = record (blank_row tx_table []) {
  acct = Some account;
  date = Some e.date;
  amount = e.amount;
  description = payee;
  notes = e.notes;
  imported_description = e.payee;
  financial_id = e.id;
  cleared = true;
}

-- what the rules of the book make of it, where the payee is the one of the book that the record names
abbrev pub by_rules : Rows → Text → Entry → TxRow
by_rules rows account e = run rows (rules_of rows) (said account (payee_of rows e) e)

-- the category, the notes and the schedule are those that rules leave it
abbrev pub told : Rows → Text → Option Text → Entry → TxRow
told rows account payee e = record (said account payee e) {
  category = (by_rules rows account e).category;
  notes = (by_rules rows account e).notes;
  schedule = (by_rules rows account e).schedule;
}

-- a record wants a payee of this name made: the book has none of the name, and rules gave none
abbrev pub Wants : Rows → Text → Entry → Text → Type 0
Wants rows account e name = (e.payee ≡ Some name) × (payee_of rows e ≡ None) × ((by_rules rows account e).description ≡ None)

-- the names of the payees that an import makes
abbrev pub names : Rows → Text → List Entry → List Text
names rows account es = new_names (drafts_in rows account es)

-- the payee that a record gets
pub record GetsPayee (ids : Ids) (rows : Rows) (account : Text) (es : List Entry) (e : Entry) (payee : Option Text) : Type 0 where
  -- it is a made one, where it wants one made: that of the name, but for the case of letters
  pub new : (name : Text) → Wants rows account e name
      → (k : ℕ) × (other : Text) × (slice_get (names rows account es) k ≡ Some other) × (folded other ≡ folded name) × (payee ≡ Some (ids k))
  -- and else the one that rules leave it
  pub kept : ((name : Text) → Wants rows account e name → ⊥) → payee ≡ (by_rules rows account e).description

-- ---- what is left

-- a transaction that a record matches has then what the record tells where it had nothing, and the bank has it. What it had it keeps; and so
-- it keeps the category, or none, where it is split or in a pair
abbrev pub filled : Rows → Text → TxRow → TxRow → TxRow
filled rows id new x = record x {
  description = option_or x.description new.description;
  category = if x.is_parent || is_some (partner_of rows id x) then x.category else option_or x.category new.category;
  notes = option_or x.notes new.notes;
  imported_description = option_or x.imported_description new.imported_description;
  financial_id = option_or x.financial_id new.financial_id;
  schedule = option_or x.schedule new.schedule;
  cleared = true;
}

-- for each record the transaction of the account that it matches, as rules leave it
abbrev pub matches : Rows → Text → List Entry → List (Option Text)
matches rows account es = matched_among (candidates rows account) (list_map (facts_of rows) (list_map (by_rules rows account) es))

-- what the writes of an import of entries leave: the rows that were there, but for what is said here
pub record AreImported (ids : Ids) (rows : Rows) (ws : List Write) (account : Text) (es : List Entry) : Type 0 where
  -- for each record the id of its own transaction
  pub own : List Text
  pub len : length own ≡ length es
  -- no two records have the same
  pub apart : (i j : ℕ) (id : Text) → slice_get own i ≡ Some id → slice_get own j ≡ Some id → i ≡ j
  -- it is the one that the record matches, in which what was missing is filled in
  pub fills : (i : ℕ) (e : Entry) (id : Text) → slice_get es i ≡ Some e → slice_get (matches rows account es) i ≡ Some (Some id)
      → (x : TxRow) × (payee : Option Text) × (slice_get own i ≡ Some id) × (map.get rows.txs id ≡ Some x) × GetsPayee ids rows account es e payee
      × (map.get (with_writes ids rows ws).txs id ≡ Some (filled rows id (told rows account payee e) x))
  -- or one that is made, which was not there, and has all that the record tells
  pub made : (i : ℕ) (e : Entry) (id : Text) → slice_get es i ≡ Some e → slice_get (matches rows account es) i ≡ Some None → slice_get own i ≡ Some id
      → (at : ℕ) × (payee : Option Text) × (makes ws at ≡ true) × (id ≡ ids at) × (map.get rows.txs id ≡ None) × GetsPayee ids rows account es e payee
      × (map.get (with_writes ids rows ws).txs id ≡ Some (record (told rows account payee e) { id = id }))
  -- no other transaction changes, or is made
  pub others : (q : Text) → ((i : ℕ) → slice_get own i ≡ Some q → ⊥) → map.get (with_writes ids rows ws).txs q ≡ map.get rows.txs q
  -- a payee is made of each name that is new
  pub payees : (k : ℕ) (name : Text) → slice_get (names rows account es) k ≡ Some name
      → (makes ws k ≡ true) × (map.get (with_writes ids rows ws).payees (ids k) ≡ Some (record (blank_row payee_table (ids k)) { name = Some name }))
  -- such a name is one that some record wants
  pub wanted : (k : ℕ) (name : Text) → slice_get (names rows account es) k ≡ Some name → (i : ℕ) × (e : Entry) × (slice_get es i ≡ Some e) × Wants rows account e name
  -- no other payee changes, or is made
  pub other_payees : (q : Text) → ((k : ℕ) (name : Text) → slice_get (names rows account es) k ≡ Some name → q ≡ ids k → ⊥)
      → map.get (with_writes ids rows ws).payees q ≡ map.get rows.payees q
  -- nothing else changes
  pub rest : with_writes ids rows ws ≡ record rows { txs = (with_writes ids rows ws).txs; payees = (with_writes ids rows ws).payees }

-- the ids of the rows that writes make
pub record AreNewIds (ids : Ids) (rows : Rows) (ws : List Write) : Type 0 where
  -- no transaction has one, and no payee
  pub txs : (at : ℕ) → makes ws at ≡ true → map.get rows.txs (ids at) ≡ None
  pub payees : (at : ℕ) → makes ws at ≡ true → map.get rows.payees (ids at) ≡ None
  -- no two are the same
  pub apart : (a b : ℕ) → makes ws a ≡ true → makes ws b ≡ true → ids a ≡ ids b → a ≡ b

-- an import of a statement that is accepted leaves this
abbrev pub ImportsWrite : Type 0
ImportsWrite = (ids : Ids) (rows : Rows) (edit : ImportEdit) (es : List Entry) (ws : List Write) → AreStatement (rows_in edit.statement) es
    → import_writes rows edit ≡ Ok ws → AreNewIds ids rows ws → AreImported ids rows ws edit.account es
