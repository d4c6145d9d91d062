-- Of each line that edits rules, and transactions by rules: its words can be given, and its command is told by them.
use Rattle.std.proofs.Common.{◌≡◌, ℕ, List, [], ◌∷◌, ◌⊎◌, refl}
use Rattle.std.specs.Prelude.{codes}
use Rattle.rule_engine.specs.declared.edit.RuleEdit.TheVariants.{RuleAdd}
use Rattle.command_lines.specs.Forms.{misfit, no_more, word, id_of, stage_of, op_of, stage_word, op_word}
use Rattle.command_lines.specs.Commands.{rule, rule_add_words, rule_delete_words, rules_run_words, rule_lines, words_of_rule_lines, words_of_schedule_lines}
use Rattle.command_lines.proofs.Amounts.{id_told}
use Rattle.command_lines.proofs.FormTexts.{stage_written, op_written}
use Rattle.command_lines.proofs.Opening.{Opens, open_end, open_word, open_id, open_stage, open_op}
use Rattle.command_lines.proofs.Telling.{Tells, tells_form}
use Rattle.command_lines.proofs.Known.{IsKnown, AreKnown, known_in}
use Rattle.command_lines.proofs.ScheduleLines.{schedule_lines_known}

rule_add_opens : Opens rule_add_words
rule_add_opens = open_id _ (λ id. open_stage _ (λ stage. open_op _ (λ op. open_word _ (λ conditions. open_word _ (λ actions. open_end _)))))

rule_add_tells : Tells (codes "rule-add" ∷ []) rule_add_words
rule_add_tells = λ id_t.
    tells_form (id_of id_t) (codes "rule-add" ∷ id_t ∷ []) id_t id_of (λ id. stage_word (λ stage. op_word (λ op. word (λ conditions. word (λ actions. no_more (rule (RuleAdd id stage op conditions actions))))))) refl (λ id id_read. λ stage_t.
    tells_form (stage_of stage_t) (codes "rule-add" ∷ id_t ∷ stage_t ∷ []) stage_t stage_of (λ stage. op_word (λ op. word (λ conditions. word (λ actions. no_more (rule (RuleAdd id stage op conditions actions)))))) refl (λ stage stage_read. λ op_t.
    tells_form (op_of op_t) (codes "rule-add" ∷ id_t ∷ stage_t ∷ op_t ∷ []) op_t op_of (λ op. word (λ conditions. word (λ actions. no_more (rule (RuleAdd id stage op conditions actions))))) refl (λ op op_read. λ conditions actions.
    record {
      same = λ i. codes "rule-add" ∷ (id_told id_t id id_read).1 i ∷ (stage_written stage_t stage stage_read) i ∷ (op_written op_t op op_read) i ∷ conditions ∷ actions ∷ [];
      valid = tt;
      can = (id_told id_t id id_read).0;
    })))

rule_delete_opens : Opens rule_delete_words
rule_delete_opens = open_word _ (λ id. open_end _)

rules_run_tells : Tells (codes "rules-run" ∷ []) rules_run_words
rules_run_tells = λ ids some. record { same = refl; valid = tt; can = some }

rule_lines_are : AreKnown rule_lines
rule_lines_are = (
  record { good = refl; plain = refl; form = tt; goes = rule_add_opens.1; tells = rule_add_tells },
  (
    record { good = refl; plain = refl; form = tt; goes = rule_delete_opens.1; tells = λ id. record { same = refl; valid = tt; can = tt } },
    (record { good = refl; plain = refl; form = tt; goes = tt; tells = rules_run_tells }, tt),
  ),
)

pub rule_lines_known : (name : List ℕ) → (words_of_rule_lines name ≡ misfit) ⊎ IsKnown name (words_of_rule_lines name)
unfolding words_of_rule_lines
rule_lines_known name = known_in rule_lines name (words_of_schedule_lines name) rule_lines_are (schedule_lines_known name)
