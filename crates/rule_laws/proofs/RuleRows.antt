-- The rows that edits of rules leave.
use Rattle.std.proofs.Common.{◌≡◌, true, false, List, [], ◌∷◌, Option, None, Some, Ok, refl, ap, sym, ◌∙◌}
use Rattle.std.specs.Prelude.{not, is_some, unwrap_or}
use Rattle.std.specs.FinMap.{get, insert}
use Rattle.field_values.specs.declared.value.Value.{Value}
use Rattle.field_values.specs.declared.value.Value.TheVariants.{Text as IsText}
use Rattle.finite_sums.specs.Maps.{Text, Texts}
use Rattle.book_rows.specs.declared.column.Dataset.TheVariants.{Rules}
use Rattle.book_rows.specs.declared.column.Column.{Column}
use Rattle.book_rows.specs.declared.column.Column.TheVariants as of
use Rattle.book_rows.specs.declared.rows.Rows.{Rows}
use Rattle.book_rows.specs.declared.rows.RuleRow.{RuleRow}
use Rattle.book_rows.specs.declared.write.RowName.{RowName}
use Rattle.book_rows.specs.declared.write.RowName.TheVariants.{Given, Made}
use Rattle.book_rows.specs.declared.write.WriteValue.TheVariants.{Plain}
use Rattle.book_rows.specs.declared.write.Write.{Write}
use Rattle.book_rows.specs.declared.fault.RulePart.TheVariants.{Id, Conditions, Actions}
use Rattle.book_rows.specs.declared.fault.EditFault.TheVariants.{BadRule}
use Rattle.book_rows.specs.Live.{is_live_rule}
use Rattle.book_rows.specs.Rules.{rule_table}
use Rattle.book_rows.specs.Tables.{blank_row}
use Rattle.book_edits.specs.Faults.{must}
use Rattle.book_edits.specs.Checks.{new_row}
use Rattle.book_edits.specs.Writing.{flag}
use Rattle.book_edits.proofs.Valid.{inside, passed, was_so}
use Rattle.split_transfer.specs.After.{Ids, row_of, with_write, with_writes}
use Rattle.split_transfer.proofs.Basics.{holds_some, not_true}
use Rattle.rule_engine.specs.declared.rule.Stage.{Stage}
use Rattle.rule_engine.specs.declared.rule.RuleOp.{RuleOp}
use Rattle.rule_engine.specs.Reading.{read_part, condition_of, action_of}
use Rattle.rule_engine.specs.Edits.{is_rule, readable, stage_value, op_text, rule_row_writes, rule_add, rule_delete}
use Rattle.rule_laws.specs.Making.{added_row, own_id, RuleEditsDo}
use Rattle.rule_laws.proofs.Written.{one_more, into, cell, made, given_is}

module _ (ids : Ids) (r : Rows) (ws : List Write) where
  own_is : (given : Option Text) (row : RowName) → new_row (is_rule r) given ≡ Ok row → row_of ids row ≡ own_id ids 0 given
  own_is None row h = ap (row_of ids) (sym (inside (Made 0) row h))
  own_is (Some id) row h = ap (row_of ids) (given_is (is_rule r id) id row h)

  module _ (row : RowName) where
    abbrev key : Text
    key = row_of ids row

    abbrev with_rule : RuleRow → Rows
    with_rule x = record r { rules = insert r.rules key x }

    into_rule : (c : Column) (v : Value) (x : RuleRow) → is_some (rule_table.kind c) ≡ true → with_write ids (with_rule x) (into Rules row c (Plain v)) ≡ with_rule (rule_table.set c v x)
    into_rule c v x h = cell ids (with_rule x) Rules row c (Plain v) ∙ ap (λ (m : Texts RuleRow). record r { rules = m }) (one_more rule_table key c v r.rules x h)

    row_made : (stage : Stage) (op : RuleOp) (conditions actions : Text) → get r.rules key ≡ None
        → with_writes ids r (rule_row_writes row stage op conditions actions) ≡ with_rule (added_row key stage op conditions actions)
    row_made stage op conditions actions none =
        let x1 : RuleRow = rule_table.set of.Stage (stage_value stage) (blank_row rule_table key) in
        let x2 : RuleRow = rule_table.set of.ConditionsOp (IsText (op_text op)) x1 in
        let x3 : RuleRow = rule_table.set of.Conditions (IsText conditions) x2 in
        let w2 : Write = into Rules row of.ConditionsOp (Plain (IsText (op_text op))) in
        let w3 : Write = into Rules row of.Conditions (Plain (IsText conditions)) in
        let w4 : Write = into Rules row of.Actions (Plain (IsText actions)) in
        ap (λ (s : Rows). with_writes ids s (w2 ∷ w3 ∷ w4 ∷ [])) (cell ids r Rules row of.Stage (Plain (stage_value stage)) ∙ ap (λ (o : Option RuleRow). with_rule (rule_table.set of.Stage (stage_value stage) (unwrap_or o (blank_row rule_table key)))) none)
        ∙ ap (λ (s : Rows). with_writes ids s (w3 ∷ w4 ∷ [])) (into_rule of.ConditionsOp (IsText (op_text op)) x1 refl)
        ∙ ap (λ (s : Rows). with_writes ids s (w4 ∷ [])) (into_rule of.Conditions (IsText conditions) x2 refl)
        ∙ into_rule of.Actions (IsText actions) x3 refl

  rule_added : (given : Option Text) (stage : Stage) (op : RuleOp) (conditions actions : Text) → rule_add r given stage op conditions actions ≡ Ok ws → get r.rules (own_id ids 0 given) ≡ None
      → with_writes ids r ws ≡ record r { rules = insert r.rules (own_id ids 0 given) (added_row (own_id ids 0 given) stage op conditions actions) }
  rule_added given stage op conditions actions h none =
      let p = passed (new_row (is_rule r) given) _ _ h in
      let c = passed (readable (read_part Conditions condition_of (Some conditions))) _ _ p.2 in
      let a = passed (readable (read_part Actions action_of (Some actions))) _ _ c.2 in
      let is = own_is given p.0 p.1 in
      made ids r ws (rule_row_writes p.0 stage op conditions actions) _ (inside _ _ a.2)
      (row_made p.0 stage op conditions actions (ap (get r.rules) is ∙ none)
      ∙ ap (λ k. record r { rules = insert r.rules k (added_row k stage op conditions actions) }) is)

  rule_gone : (id : Text) → rule_delete r id ≡ Ok ws
      → (x : RuleRow) × (get r.rules id ≡ Some x) × (x.tombstone ≡ false) × (with_writes ids r ws ≡ record r { rules = insert r.rules id (record x { tombstone = true }) })
  rule_gone id h =
      let a = passed (must (is_live_rule r id) (BadRule Id 0)) _ _ h in
      let x = holds_some (λ (y : RuleRow). not y.tombstone) (get r.rules id) (was_so (is_live_rule r id) (BadRule Id 0) a.0 a.1) in (
        x.0,
        x.1,
        not_true x.0.tombstone x.2,
        made ids r ws (into Rules (Given id) of.Tombstone (Plain (flag true)) ∷ []) _ (inside _ _ a.2)
            (cell ids r Rules (Given id) of.Tombstone (Plain (flag true)) ∙ ap (λ (o : Option RuleRow). record r { rules = insert r.rules id (record (unwrap_or o (blank_row rule_table id)) { tombstone = true }) }) x.1),
      )

pub rules_done : (ids : Ids) (rows : Rows) (ws : List Write) → RuleEditsDo ids rows ws
rules_done ids rows ws = record { added = rule_added ids rows ws; deleted = rule_gone ids rows ws }
