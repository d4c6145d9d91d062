-- The writes of each edit are valid.
use Rattle.std.proofs.Common.{◌≡◌, ℕ, Bool, true, false, List, [], ◌∷◌, length, Option, None, Some, Ok, refl, subst, arith}
use Rattle.std.specs.Prelude.{codes, flat_map, if◌then◌else◌}
use Rattle.std.specs.List.{AllByRecursion}
use Rattle.std.specs.FinMap as map
use Rattle.field_values.specs.declared.name.NamePart.TheVariants.{Row}
use Rattle.field_values.specs.Names.{IsName, name_fault}
use Rattle.field_values.specs.Value.{IsValue}
use Rattle.field_values.specs.declared.value.Value.TheVariants.{Text as IsText}
use Rattle.finite_sums.specs.Maps.{Text}
use Rattle.book_rows.specs.declared.rows.Rows.{Rows}
use Rattle.book_rows.specs.declared.rows.TxRow.{TxRow}
use Rattle.book_rows.specs.declared.write.RowName.TheVariants.{Given}
use Rattle.book_rows.specs.declared.write.Write.{Write}
use Rattle.book_rows.specs.declared.fault.RulePart.TheVariants.{Id, Conditions, Actions}
use Rattle.book_rows.specs.declared.fault.EditFault.TheVariants.{BadRule, NoSuchTransaction}
use Rattle.book_rows.specs.Live.{is_live_rule, is_live_tx, is_alive}
use Rattle.book_rows.specs.Named.{HasNames}
use Rattle.book_rows.specs.Writes.{IsWrite, AreWrites}
use Rattle.book_edits.specs.Faults.{must, each}
use Rattle.book_edits.specs.Checks.{new_row, distinct}
use Rattle.book_edits.specs.Writing.{flag, text_or_null}
use Rattle.book_edits.proofs.Valid.{inside, passed, was_so, flag_is, text_or_null_is, name_there, new_row_is, write_is, all_append}
use Rattle.split_transfer.specs.Pairs.{only_where, live_row}
use Rattle.split_transfer.specs.Writing.{tx_write}
use Rattle.rule_engine.specs.declared.edit.RuleEdit.{RuleEdit}
use Rattle.rule_engine.specs.declared.edit.RuleEdit.TheVariants.{RuleAdd, RuleDelete, RulesRun}
use Rattle.rule_engine.specs.declared.rule.Rule.{Rule}
use Rattle.rule_engine.specs.declared.rule.RuleOp.{RuleOp}
use Rattle.rule_engine.specs.declared.rule.Stage.{Stage}
use Rattle.rule_engine.specs.declared.rule.Stage.TheVariants.{Pre, Plain, Post}
use Rattle.rule_engine.specs.Conditions.{same_flag}
use Rattle.rule_engine.specs.Reading.{read_part, condition_of, action_of}
use Rattle.rule_engine.specs.Running.{run, rules_of}
use Rattle.rule_engine.specs.Edits.{is_rule, readable, stage_value, op_text, rule_add, rule_delete, same_text, changed_text, changed_flag, changed, changes_of, changes, rules_run, rule_writes}

stage_is : (stage : Stage) → IsValue (stage_value stage)
stage_is Pre = tt
stage_is Plain = tt
stage_is Post = tt

all_flat : {X Y : Type 0} (P : Y → Type 0) (f : X → List Y) (xs : List X) → ((x : X) → AllByRecursion P (f x)) → AllByRecursion P (flat_map f xs)
all_flat P f [] each_one = tt
all_flat P f (x ∷ xs) each_one = all_append P (f x) (flat_map f xs) (each_one x) (all_flat P f xs each_one)

there : (p : TxRow → Bool) (o : Option TxRow) (x : TxRow) → only_where p o ≡ Some x → o ≡ Some x
there p None x h = cc
there p (Some y) x h = (elim (p y) as (λ b. (if b then Some y else None) ≡ Some x → Some y ≡ Some x) [ true ↦ λ e. e | false ↦ λ e. cc ]) h

text_valid : (n : ℕ) (id column : Text) (old new : Option Text) → IsName id → name_fault Row column ≡ None → AllByRecursion (IsWrite n) (changed_text id column old new)
text_valid n id column old new name c =
    elim (same_text old new) as (λ b. AllByRecursion (IsWrite n) (if b then [] else tx_write (Given id) column (text_or_null new) ∷ [])) [
      | true ↦ tt
      | false ↦ (write_is n (codes "transactions") (Given id) column (text_or_null new) refl name c (text_or_null_is new), tt)
    ]

flag_valid : (n : ℕ) (id column : Text) (old new : Bool) → IsName id → name_fault Row column ≡ None → AllByRecursion (IsWrite n) (changed_flag id column old new)
flag_valid n id column old new name c =
    elim (same_flag old new) as (λ b. AllByRecursion (IsWrite n) (if b then [] else tx_write (Given id) column (flag new) ∷ [])) [
      | true ↦ tt
      | false ↦ (write_is n (codes "transactions") (Given id) column (flag new) refl name c (flag_is new), tt)
    ]

changed_valid : (n : ℕ) (id : Text) (old new : TxRow) → IsName id → AllByRecursion (IsWrite n) (changed id old new)
changed_valid n id old new name =
    let description = text_valid n id (codes "description") old.description new.description name refl in
    let category = text_valid n id (codes "category") old.category new.category name refl in
    let notes = text_valid n id (codes "notes") old.notes new.notes name refl in
    let schedule = text_valid n id (codes "schedule") old.schedule new.schedule name refl in
    let cleared = flag_valid n id (codes "cleared") old.cleared new.cleared name refl in
    all_append (IsWrite n) _ _ (all_append (IsWrite n) _ _ (all_append (IsWrite n) _ _ (all_append (IsWrite n) _ _ description category) notes) schedule) cleared

module _ (rows : Rows) (names : HasNames rows) where
  changes_valid : (n : ℕ) (rules : List Rule) (id : Text) → AllByRecursion (IsWrite n) (changes rows rules id)
  changes_valid n rules id =
      (elim (live_row rows id) as (λ o. live_row rows id ≡ o → AllByRecursion (IsWrite n) (changes_of rows rules id o)) [
        | None ↦ λ e. tt
        | Some x ↦ λ e. changed_valid n id x (run rows rules x) (names.txs id x (there (is_live_tx rows) (map.get rows.txs id) x e))
      ]) refl

  rule_add_valid : (id : Option Text) (stage : Stage) (op : RuleOp) (conditions actions : Text) (ws : List Write) → rule_add rows id stage op conditions actions ≡ Ok ws → AreWrites ws
  rule_add_valid id stage op conditions actions ws h =
      let p = passed (new_row (is_rule rows) id) _ _ h in
      let q = passed (readable (read_part Conditions condition_of (Some conditions))) _ _ p.2 in
      let a = passed (readable (read_part Actions action_of (Some actions))) _ _ q.2 in
      let row = new_row_is _ id p.0 4 p.1 (omega arith) in
      subst AreWrites (inside _ _ a.2) (
        write_is 4 (codes "rules") p.0 (codes "stage") (stage_value stage) refl row refl (stage_is stage),
        (
          write_is 4 (codes "rules") p.0 (codes "conditions_op") (IsText (op_text op)) refl row refl tt,
          (
            write_is 4 (codes "rules") p.0 (codes "conditions") (IsText conditions) refl row refl tt,
            (write_is 4 (codes "rules") p.0 (codes "actions") (IsText actions) refl row refl tt, tt),
          ),
        ),
      )

  rule_delete_valid : (id : Text) (ws : List Write) → rule_delete rows id ≡ Ok ws → AreWrites ws
  rule_delete_valid id ws h =
      let p = passed (must (is_live_rule rows id) (BadRule Id 0)) _ _ h in
      let name = name_there rows.rules _ id names.rules (was_so _ _ _ p.1) in
      subst AreWrites (inside _ _ p.2) (write_is 1 (codes "rules") (Given id) (codes "tombstone") (flag true) refl name refl (flag_is true), tt)

  rules_run_valid : (ids : List Text) (ws : List Write) → rules_run rows ids ≡ Ok ws → AreWrites ws
  rules_run_valid ids ws h =
      let p = passed (each (λ id. must (is_alive rows id) (NoSuchTransaction id)) ids) _ _ h in
      let made = flat_map (changes rows (rules_of rows)) (distinct ids) in
      subst AreWrites (inside _ _ p.2) (all_flat (IsWrite (length made)) (changes rows (rules_of rows)) (distinct ids) (changes_valid (length made) (rules_of rows)))

  -- the writes of any edit
  pub writes_valid : (edit : RuleEdit) (ws : List Write) → rule_writes rows edit ≡ Ok ws → AreWrites ws
  writes_valid (RuleAdd id stage op conditions actions) ws h = rule_add_valid id stage op conditions actions ws h
  writes_valid (RuleDelete id) ws h = rule_delete_valid id ws h
  writes_valid (RulesRun ids) ws h = rules_run_valid ids ws h
