use Rattle.std.proofs.Common.{◌∙◌, ℕ, List, Ok, ap, sym}
use Rattle.rule_engine.specs.declared.edit.RuleEdit.TheVariants.{RulesRun}
use Rattle.command_lines.specs.Commands.{rule}
use Rattle.command_lines.proofs.WordLemmas.{at_exit}
use Rattle.command_lines.proofs.rule_lines.rules_run.Goals as goal

pub returns-in_err-ids-clause-read : goal.returns-in_err-ids-clause-read
returns-in_err-ids-clause-read c = at_exit _ c.from_residual.result c.in_err-ids.field-0.0 c.from_residual.ensures.1 (c.in_err-ids.ensures.err _)

pub returns-clause-read : goal.returns-clause-read
returns-clause-read c =
    c.in_ok-ids.ensures.ok (λ (ids : List (List ℕ)). rule (RulesRun ids))
    ∙ ap (λ (ids : List (List ℕ)). Ok (rule (RulesRun ids))) (sym c.new.ensures)
