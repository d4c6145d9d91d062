-- The line of an edit of rules, of transactions by rules, or of a schedule is read as the edit.
use Rattle.std.proofs.Common.{◌≡◌, [], ◌∷◌, Ok, refl}
use Rattle.std.specs.Prelude.{codes}
use Rattle.std.specs.Fmt.{signed_decimal}
use Rattle.field_merge.specs.Lines.{parts}
use Rattle.rule_engine.specs.declared.edit.RuleEdit.{RuleEdit}
use Rattle.rule_engine.specs.declared.edit.RuleEdit.TheVariants.{RuleAdd, RuleDelete, RulesRun}
use Rattle.rule_engine.specs.Edits.{op_text}
use Rattle.schedules.specs.declared.edit.ScheduleEdit.{ScheduleEdit}
use Rattle.schedules.specs.declared.edit.ScheduleEdit.TheVariants.{Add, Post, Skip, Delete}
use Rattle.command_lines.specs.Forms.{word, no_more, id_of, amount_of, stage_of, op_of, id_word, amount_word, stage_word, op_word}
use Rattle.command_lines.specs.FormLaws.{id_text}
use Rattle.command_lines.specs.Commands.{rule, scheduling, words_of_row_lines, words_of_state_lines, words_of_add_lines, words_of_month_lines, words_of_book_lines, words_of_pair_lines, words_of_rule_lines, words_of_schedule_lines, of_words}
use Rattle.command_lines.specs.Written.{stage_text, CanWriteRule, CanWriteSchedule, command_line}
use Rattle.command_lines.proofs.Amounts.{amount_back, id_of_back}
use Rattle.command_lines.proofs.FormTexts.{stage_back, op_back}
use Rattle.command_lines.proofs.LineBack.{makes_form, line_back}
use Rattle.command_lines.proofs.RepeatLemmas.{texts_make}

pub rules_back : (edit : RuleEdit) → CanWriteRule edit → of_words (parts (command_line (rule edit))) ≡ Ok (rule edit)
unfolding words_of_row_lines words_of_state_lines words_of_add_lines words_of_month_lines words_of_book_lines words_of_pair_lines words_of_rule_lines
rules_back (RuleAdd id stage op conditions actions) can =
    line_back (codes "rule-add") (id_text id ∷ stage_text stage ∷ op_text op ∷ conditions ∷ actions ∷ []) (rule (RuleAdd id stage op conditions actions)) refl
    (makes_form id_of (λ id. stage_word (λ stage. op_word (λ op. word (λ conditions. word (λ actions. no_more (rule (RuleAdd id stage op conditions actions))))))) id (id_text id) (stage_text stage ∷ op_text op ∷ conditions ∷ actions ∷ []) (rule (RuleAdd id stage op conditions actions)) (id_of_back id can)
    (makes_form stage_of (λ stage. op_word (λ op. word (λ conditions. word (λ actions. no_more (rule (RuleAdd id stage op conditions actions)))))) stage (stage_text stage) (op_text op ∷ conditions ∷ actions ∷ []) (rule (RuleAdd id stage op conditions actions)) (stage_back stage)
    (makes_form op_of (λ op. word (λ conditions. word (λ actions. no_more (rule (RuleAdd id stage op conditions actions))))) op (op_text op) (conditions ∷ actions ∷ []) (rule (RuleAdd id stage op conditions actions)) (op_back op) refl)))
rules_back (RuleDelete id) can = line_back (codes "rule-delete") (id ∷ []) (rule (RuleDelete id)) refl refl
rules_back (RulesRun ids) can = line_back (codes "rules-run") ids (rule (RulesRun ids)) refl (texts_make ids [] (λ ids. rule (RulesRun ids)) can)

pub schedules_back : (edit : ScheduleEdit) → CanWriteSchedule edit → of_words (parts (command_line (scheduling edit))) ≡ Ok (scheduling edit)
unfolding words_of_row_lines words_of_state_lines words_of_add_lines words_of_month_lines words_of_book_lines words_of_pair_lines words_of_rule_lines words_of_schedule_lines
schedules_back (Add id name account payee amount recur) can =
    line_back (codes "schedule-add") (id_text id ∷ name ∷ account ∷ id_text payee ∷ signed_decimal amount ∷ recur ∷ []) (scheduling (Add id name account payee amount recur)) refl
    (makes_form id_of (λ id. word (λ name. word (λ account. id_word (λ payee. amount_word (λ amount. word (λ recur. no_more (scheduling (Add id name account payee amount recur)))))))) id (id_text id) (name ∷ account ∷ id_text payee ∷ signed_decimal amount ∷ recur ∷ []) (scheduling (Add id name account payee amount recur)) (id_of_back id can.0)
    (makes_form id_of (λ payee. amount_word (λ amount. word (λ recur. no_more (scheduling (Add id name account payee amount recur))))) payee (id_text payee) (signed_decimal amount ∷ recur ∷ []) (scheduling (Add id name account payee amount recur)) (id_of_back payee can.1)
    (makes_form amount_of (λ amount. word (λ recur. no_more (scheduling (Add id name account payee amount recur)))) amount (signed_decimal amount) (recur ∷ []) (scheduling (Add id name account payee amount recur)) (amount_back amount can.2) refl)))
schedules_back (Post id) can = line_back (codes "schedule-post") (id ∷ []) (scheduling (Post id)) refl refl
schedules_back (Skip id) can = line_back (codes "schedule-skip") (id ∷ []) (scheduling (Skip id)) refl refl
schedules_back (Delete id) can = line_back (codes "schedule-delete") (id ∷ []) (scheduling (Delete id)) refl refl
