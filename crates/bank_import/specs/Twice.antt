-- A statement that is imported twice, with nothing between.
use Rattle.std.specs.Prelude.{◌≡◌, ℕ, ◌<◌, true, List, [], Some, None, Ok}
use Rattle.std.specs.List.{slice_get}
use Rattle.std.specs.FinMap as finite
use Rattle.std.specs.declared.cmp.Ordering.TheVariants.{Less}
use Rattle.finite_sums.specs.Maps.{Text, text_cmp}
use Rattle.book_rows.specs.declared.rows.Rows.{Rows}
use Rattle.book_rows.specs.declared.rows.TxRow.{TxRow}
use Rattle.book_rows.specs.declared.write.Write.{Write}
use Rattle.book_rows.specs.Live.{mapped_payee}
use Rattle.split_transfer.specs.After.{Ids, with_writes, makes}
use Rattle.rule_engine.specs.declared.rule.Action.TheVariants.{SetDescription}
use Rattle.rule_engine.specs.declared.rule.CondField.TheVariants.{Description}
use Rattle.rule_engine.specs.declared.rule.Condition.{Condition}
use Rattle.rule_engine.specs.declared.rule.Rule.{Rule}
use Rattle.rule_engine.specs.Conditions.{with_ids, id_holds}
use Rattle.rule_engine.specs.Running.{run, rules_of}
use Rattle.bank_import.specs.declared.edit.ImportEdit.{ImportEdit}
use Rattle.bank_import.specs.declared.entry.Entry.{Entry}
use Rattle.bank_import.specs.Statement.{statement}
use Rattle.bank_import.specs.Matching.{candidates, matched}
use Rattle.bank_import.specs.Laws.{IsIn}
use Rattle.bank_import.specs.Second.{or_else, IsAfter}
use Rattle.bank_import.specs.Drafts.{new_tx, payee_of}
use Rattle.bank_import.specs.Edits.{import_writes}
use Rattle.bank_import.specs.Rest.{AreFull, drafts_in, rows_in_drafts, facts_in}

-- the ids of the rows that an import makes are new
pub record AreNew (ids : Ids) (rows : Rows) (ws : List Write) : Type 0 where
  -- no transaction and no payee has one
  pub txs : (at : ℕ) → makes ws at ≡ true → finite.get rows.txs (ids at) ≡ None
  pub payees : (at : ℕ) → makes ws at ≡ true → finite.get rows.payees (ids at) ≡ None
  -- no rule gives one as a payee
  pub ungiven : (at : ℕ) (r : Rule) → makes ws at ≡ true → IsIn (rules_of rows) r → IsIn r.actions (SetDescription (Some (ids at))) → ⊥
  -- they rise in the order of their writes
  pub rise : (a b : ℕ) → a < b → makes ws a ≡ true → makes ws b ≡ true → text_cmp (ids a) (ids b) ≡ Less

-- each record has an id of its own, or has none and matches nothing, so that it makes a row of its own
pub record HaveOwn (rows : Rows) (account : Text) (es : List Entry) : Type 0 where
  pub apart : (i j : ℕ) (e f : Entry) (k : Text) → slice_get es i ≡ Some e → slice_get es j ≡ Some f → e.id ≡ Some k → f.id ≡ Some k → i ≡ j
  pub makes : (i : ℕ) (e : Entry) → slice_get es i ≡ Some e → e.id ≡ None → slice_get (matched rows account (rows_in_drafts (drafts_in rows account es))) i ≡ Some None

-- the transaction with a payee, where it has none
abbrev pub with_payee : Text → TxRow → TxRow
with_payee payee x = record x { description = or_else x.description (Some payee) }

-- rules make of a record that has this payee what they make of it without one, but for the payee where they give none
abbrev pub LeavePayee : Rows → Text → Entry → Text → Type 0
LeavePayee rows account e payee = run rows (rules_of rows) (new_tx account (Some payee) e) ≡ with_payee payee (run rows (rules_of rows) (new_tx account None e))

-- where the book has no payee of a record, rules don't ask for an id that the import makes
abbrev pub AskNothingNew : Ids → Rows → Text → List Entry → List Write → Type 0
AskNothingNew ids rows account es ws = (i at : ℕ) (e : Entry) → slice_get es i ≡ Some e → payee_of rows e ≡ None → makes ws at ≡ true → LeavePayee rows account e (ids at)

-- an import that leaves a second one nothing to do
pub record IsFirstImport (ids : Ids) (rows : Rows) (edit : ImportEdit) (es : List Entry) (ws : List Write) : Type 0 where
  pub said : statement edit.statement ≡ Ok es
  pub writes : import_writes rows edit ≡ Ok ws
  pub new : AreNew ids rows ws
  pub own : HaveOwn rows edit.account es
  pub asked : AskNothingNew ids rows edit.account es ws

-- a rule that does not tell a payee from none: each condition on the payee answers alike for what the payee stands for and for none, and no
-- action takes the payee away
pub record TellsNot (rows : Rows) (payee : Text) (r : Rule) : Type 0 where
  pub conditions : (c : Condition) → IsIn r.conditions c → c.field ≡ Description
      → id_holds c.op (with_ids (mapped_payee rows) c.value) (Some (mapped_payee rows payee)) ≡ id_holds c.op (with_ids (mapped_payee rows) c.value) None
  pub actions : IsIn r.actions (SetDescription None) → ⊥

pub record LawOfImports : Type 0 where
  -- a statement that comes again writes nothing
  pub again : (ids : Ids) (rows : Rows) (edit : ImportEdit) (es : List Entry) (ws : List Write) → IsFirstImport ids rows edit es ws → import_writes (with_writes ids rows ws) edit ≡ Ok []
  -- since the candidates are then each record's own row and others that nobody took, and each own row has all that its record would write
  pub left : (ids : Ids) (rows : Rows) (edit : ImportEdit) (es : List Entry) (ws : List Write) → IsFirstImport ids rows edit es ws → (os : List Text)
      × IsAfter (candidates rows edit.account) (facts_in (with_writes ids rows ws) edit.account es) (matched rows edit.account (rows_in_drafts (drafts_in rows edit.account es))) os
      (candidates (with_writes ids rows ws) edit.account)
      × AreFull (with_writes ids rows ws) (drafts_in (with_writes ids rows ws) edit.account es) os
  -- rules that don't tell a payee from none leave it to a record
  pub untold : (rows : Rows) (account : Text) (e : Entry) (payee : Text) → ((r : Rule) → IsIn (rules_of rows) r → TellsNot rows payee r) → LeavePayee rows account e payee
