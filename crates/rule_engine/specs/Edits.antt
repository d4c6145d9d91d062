-- The writes of an edit of rules, or of transactions by rules, or its first refusal.
use Rattle.std.specs.Prelude.{Bool, true, false, List, [], ◌∷◌, ◌++◌, flat_map, Option, None, Some, is_some, Result, Ok, Err, if◌then◌else◌, codes}
use Rattle.std.specs.FinMap as map
use Rattle.field_values.specs.declared.value.Value.{Value}
use Rattle.field_values.specs.declared.value.Value.TheVariants.{Null, Text as IsText}
use Rattle.finite_sums.specs.Maps.{Text}
use Rattle.book_rows.specs.declared.rows.Rows.{Rows}
use Rattle.book_rows.specs.declared.rows.TxRow.{TxRow}
use Rattle.book_rows.specs.declared.write.RowName.{RowName}
use Rattle.book_rows.specs.declared.write.RowName.TheVariants.{Given}
use Rattle.book_rows.specs.declared.write.Write.{Write}
use Rattle.book_rows.specs.declared.fault.RulePart.TheVariants.{Id, Conditions, Actions}
use Rattle.book_rows.specs.declared.fault.EditFault.{EditFault}
use Rattle.book_rows.specs.declared.fault.EditFault.TheVariants.{BadRule, NoSuchTransaction}
use Rattle.book_rows.specs.Live.{is_live_rule, is_alive}
use Rattle.book_edits.specs.Faults.{◌>>=◌, Check, must, each}
use Rattle.book_edits.specs.Checks.{new_row, same_id, distinct}
use Rattle.book_edits.specs.Writing.{write, flag, text_or_null}
use Rattle.split_transfer.specs.Pairs.{live_row}
use Rattle.split_transfer.specs.Writing.{tx_write}
use Rattle.rule_engine.specs.declared.edit.RuleEdit.{RuleEdit}
use Rattle.rule_engine.specs.declared.edit.RuleEdit.TheVariants.{RuleAdd, RuleDelete, RulesRun}
use Rattle.rule_engine.specs.declared.rule.Rule.{Rule}
use Rattle.rule_engine.specs.declared.rule.Stage.{Stage}
use Rattle.rule_engine.specs.declared.rule.Stage.TheVariants.{Pre, Plain, Post}
use Rattle.rule_engine.specs.declared.rule.RuleOp.{RuleOp}
use Rattle.rule_engine.specs.declared.rule.RuleOp.TheVariants.{And, Or}
use Rattle.rule_engine.specs.Conditions.{same_flag}
use Rattle.rule_engine.specs.Reading.{read_part, condition_of, action_of}
use Rattle.rule_engine.specs.Running.{run, rules_of}

-- ---- rules

-- there is a row of the id, dead or alive
abbrev pub is_rule : Rows → Text → Bool
is_rule rows id = is_some (map.get rows.rules id)

-- a part of a rule can be read
abbrev pub readable : {A : Type 0} → Result (List A) EditFault → Check
readable (Ok found) = Ok tt
readable (Err fault) = Err fault

abbrev pub stage_value : Stage → Value
stage_value Pre = IsText (codes "pre")
stage_value Plain = Null
stage_value Post = IsText (codes "post")

abbrev pub op_text : RuleOp → Text
op_text And = codes "and"
op_text Or = codes "or"

abbrev pub rule_row_writes : RowName → Stage → RuleOp → Text → Text → List Write
rule_row_writes row stage op conditions actions =
    write (codes "rules") row (codes "stage") (stage_value stage)
    ∷ write (codes "rules") row (codes "conditions_op") (IsText (op_text op))
    ∷ write (codes "rules") row (codes "conditions") (IsText conditions)
    ∷ write (codes "rules") row (codes "actions") (IsText actions)
    ∷ []

-- a new rule, which can be read
abbrev pub rule_add : Rows → Option Text → Stage → RuleOp → Text → Text → Result (List Write) EditFault
rule_add rows id stage op conditions actions = do
  row ← new_row (is_rule rows) id
  _ ← readable (read_part Conditions condition_of (Some conditions))
  _ ← readable (read_part Actions action_of (Some actions))
  Ok (rule_row_writes row stage op conditions actions)

-- a live rule is deleted
abbrev pub rule_delete : Rows → Text → Result (List Write) EditFault
rule_delete rows id = do
  _ ← must (is_live_rule rows id) (BadRule Id 0)
  Ok (write (codes "rules") (Given id) (codes "tombstone") (flag true) ∷ [])

-- ---- transactions

unfoldable pub same_text : Option Text → Option Text → Bool
same_text None None = true
same_text (Some a) (Some b) = same_id a b
same_text a b = false

-- a text of a transaction, where it has changed
abbrev pub changed_text : Text → Text → Option Text → Option Text → List Write
changed_text id column old new = if same_text old new then [] else tx_write (Given id) column (text_or_null new) ∷ []

abbrev pub changed_flag : Text → Text → Bool → Bool → List Write
changed_flag id column old new = if same_flag old new then [] else tx_write (Given id) column (flag new) ∷ []

-- the columns of a transaction that actions set, where they have changed
abbrev pub changed : Text → TxRow → TxRow → List Write
changed id old new =
    changed_text id (codes "description") old.description new.description
    ++ changed_text id (codes "category") old.category new.category
    ++ changed_text id (codes "notes") old.notes new.notes
    ++ changed_text id (codes "schedule") old.schedule new.schedule
    ++ changed_flag id (codes "cleared") old.cleared new.cleared

abbrev pub changes_of : Rows → List Rule → Text → Option TxRow → List Write
changes_of rows rules id None = []
changes_of rows rules id (Some x) = changed id x (run rows rules x)

-- what rules change of the live transaction of an id
abbrev pub changes : Rows → List Rule → Text → List Write
changes rows rules id = changes_of rows rules id (live_row rows id)

-- the rules of the book run on each of these transactions, which all have to be live, over the book as it stands before
abbrev pub rules_run : Rows → List Text → Result (List Write) EditFault
rules_run rows ids = do
  _ ← each (λ id. must (is_alive rows id) (NoSuchTransaction id)) ids
  Ok (flat_map (changes rows (rules_of rows)) (distinct ids))

-- the writes of an edit of a book with these rows, in the order in which they are made, or the first refusal
abbrev pub rule_writes : Rows → RuleEdit → Result (List Write) EditFault
rule_writes rows (RuleAdd id stage op conditions actions) = rule_add rows id stage op conditions actions
rule_writes rows (RuleDelete id) = rule_delete rows id
rule_writes rows (RulesRun ids) = rules_run rows ids
