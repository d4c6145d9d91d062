-- Edits of rules, and of transactions by rules, leave pairs and splits right.
use Rattle.std.proofs.Common.{◌≡◌, Bool, List, Option, Some, None, Ok, refl, sym, subst, codes}
use Rattle.finite_sums.specs.Maps.{Text}
use Rattle.book_rows.specs.declared.rows.Rows.{Rows}
use Rattle.book_rows.specs.declared.rows.TxRow.{TxRow}
use Rattle.book_rows.specs.declared.write.RowName.TheVariants.{Given}
use Rattle.book_rows.specs.declared.write.WriteValue.TheVariants.{Plain}
use Rattle.book_rows.specs.declared.write.Write.{Write}
use Rattle.book_rows.specs.declared.fault.RulePart.TheVariants.{Id, Conditions, Actions}
use Rattle.book_rows.specs.declared.fault.EditFault.TheVariants.{BadRule, NoSuchTransaction}
use Rattle.book_rows.specs.Columns.{column_name}
use Rattle.book_rows.specs.Live.{is_live_rule, is_alive}
use Rattle.book_edits.specs.Faults.{must, each}
use Rattle.book_edits.specs.Checks.{new_row, distinct}
use Rattle.book_edits.specs.Writing.{flag, text_or_null}
use Rattle.book_edits.proofs.Valid.{inside, passed}
use Rattle.split_transfer.specs.Pairs.{live_row}
use Rattle.split_transfer.specs.After.{Ids}
use Rattle.split_transfer.proofs.Columns.{TxColumn, Description, Category, Notes, Cleared, Schedule}
use Rattle.split_transfer.proofs.Elsewhere.{IsOther}
use Rattle.rule_engine.specs.declared.edit.RuleEdit.TheVariants.{RuleAdd, RuleDelete, RulesRun}
use Rattle.rule_engine.specs.declared.rule.Rule.{Rule}
use Rattle.rule_engine.specs.declared.rule.Stage.{Stage}
use Rattle.rule_engine.specs.declared.rule.RuleOp.{RuleOp}
use Rattle.rule_engine.specs.Conditions.{same_flag}
use Rattle.rule_engine.specs.Reading.{read_part, condition_of, action_of}
use Rattle.rule_engine.specs.Running.{run, rules_of}
use Rattle.rule_engine.specs.Edits.{is_rule, readable, rule_add, rule_delete, same_text, changed_text, changed_flag, changed, changes_of, changes, rules_run}
use Rattle.kept_pairs.specs.Kept.{RulesKeepPairsAndSplits}
use Rattle.kept_pairs.proofs.Harmless.{IsPlain, IsHarmless, AreHarmless, elsewhere, harmless_stays_right}
use Rattle.kept_pairs.proofs.Written.{rules, payee, category, notes, cleared, schedule, into, tx_plain, both, unless, each_of}

module _ (ids : Ids) (r : Rows) where
  into_rules : (w : Write) → w.dataset ≡ codes "rules" → IsHarmless ids r w
  into_rules w e = elsewhere ids r w (subst (λ t. IsOther t) (sym e) rules)

  rule_add_harmless : (id : Option Text) (stage : Stage) (op : RuleOp) (conditions actions : Text) (ws : List Write) → rule_add r id stage op conditions actions ≡ Ok ws → AreHarmless ids r ws
  rule_add_harmless id stage op conditions actions ws h =
      let p = passed (new_row (is_rule r) id) _ _ h in
      let c = passed (readable (read_part Conditions condition_of (Some conditions))) _ _ p.2 in
      let a = passed (readable (read_part Actions action_of (Some actions))) _ _ c.2 in
      subst (AreHarmless ids r) (inside _ _ a.2) (into_rules _ refl, (into_rules _ refl, (into_rules _ refl, (into_rules _ refl, tt))))

  rule_delete_harmless : (id : Text) (ws : List Write) → rule_delete r id ≡ Ok ws → AreHarmless ids r ws
  rule_delete_harmless id ws h =
      let p = passed (must (is_live_rule r id) (BadRule Id 0)) _ _ h in
      subst (AreHarmless ids r) (inside _ _ p.2) (into_rules _ refl, tt)

  text_harmless : (id : Text) (c : TxColumn) (plain : IsPlain c) (old new : Option Text) → AreHarmless ids r (changed_text id (column_name c.0) old new)
  text_harmless id c plain old new = unless ids r (same_text old new) (into (Given id) c (Plain (text_or_null new))) (tx_plain ids r (Given id) c (Plain (text_or_null new)) plain)

  flag_harmless : (id : Text) (c : TxColumn) (plain : IsPlain c) (old new : Bool) → AreHarmless ids r (changed_flag id (column_name c.0) old new)
  flag_harmless id c plain old new = unless ids r (same_flag old new) (into (Given id) c (Plain (flag new))) (tx_plain ids r (Given id) c (Plain (flag new)) plain)

  changed_harmless : (id : Text) (old new : TxRow) → AreHarmless ids r (changed id old new)
  changed_harmless id old new =
      both ids r _ (changed_flag id (codes "cleared") old.cleared new.cleared)
      (both ids r _ (changed_text id (codes "schedule") old.schedule new.schedule)
      (both ids r _ (changed_text id (codes "notes") old.notes new.notes)
      (both ids r (changed_text id (codes "description") old.description new.description) (changed_text id (codes "category") old.category new.category)
      (text_harmless id Description payee old.description new.description)
      (text_harmless id Category category old.category new.category))
      (text_harmless id Notes notes old.notes new.notes))
      (text_harmless id Schedule schedule old.schedule new.schedule))
      (flag_harmless id Cleared cleared old.cleared new.cleared)

  changes_harmless : (all : List Rule) (id : Text) (o : Option TxRow) → AreHarmless ids r (changes_of r all id o)
  changes_harmless all id None = tt
  changes_harmless all id (Some x) = changed_harmless id x (run r all x)

  rules_run_harmless : (txs : List Text) (ws : List Write) → rules_run r txs ≡ Ok ws → AreHarmless ids r ws
  rules_run_harmless txs ws h =
      let p = passed (each (λ id. must (is_alive r id) (NoSuchTransaction id)) txs) _ _ h in
      subst (AreHarmless ids r) (inside _ _ p.2) (each_of ids r (changes r (rules_of r)) (distinct txs) (λ id. changes_harmless (rules_of r) id (live_row r id)))

pub rules_keep : RulesKeepPairsAndSplits
rules_keep r (RuleAdd id stage op conditions actions) ws h ids a = harmless_stays_right ids r ws (rule_add_harmless ids r id stage op conditions actions ws h) a
rules_keep r (RuleDelete id) ws h ids a = harmless_stays_right ids r ws (rule_delete_harmless ids r id ws h) a
rules_keep r (RulesRun txs) ws h ids a = harmless_stays_right ids r ws (rules_run_harmless ids r txs ws h) a
