use Rattle.std.proofs.Common.{◌≡◌, ◌∙◌, ap, codes}
use Rattle.std.proofs.lemmas.Result.{IfOk-weaker}
use Rattle.clap.specs.Words.{App, Text, with_rule}
use Rattle.budget_top.specs.Clap.{option_rule}
use Rattle.budget_top.proofs.line.plan_command.Goals as goal

more : (id : Text) {a b : App} → a ≡ b → with_rule a (option_rule id) ≡ with_rule b (option_rule id)
more id e = ap (λ a. with_rule a (option_rule id)) e

pub returns : goal.returns
returns c =
    IfOk-weaker c.with_option-8.result _ _ (λ r h. h ∙ more (codes "peer") (c.in_ok-command-8.ensures
    ∙ more (codes "listen") (c.in_ok-command-7.ensures
    ∙ more (codes "count") (c.in_ok-command-6.ensures
    ∙ more (codes "group") (c.in_ok-command-5.ensures
    ∙ more (codes "file") (c.in_ok-command-4.ensures
    ∙ more (codes "token") (c.in_ok-command-3.ensures
    ∙ more (codes "node") (c.in_ok-command-2.ensures
    ∙ more (codes "store") c.in_ok-command.ensures)))))))) c.with_option-8.ensures
