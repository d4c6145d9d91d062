use Rattle.std.proofs.Common.{◌≡◌, List, [], ℕ, Ok, Option, Result, IfErr, rules, ap, sym, subst, ◌∙◌}
use Rattle.std.specs.Prelude.{unwrap_or, codes}
use Rattle.clap.specs.Words.{first_value, found_of}
use Rattle.budget_top.specs.declared.words.Plan.{Plan}
use Rattle.budget_top.specs.declared.words.WordFault.{WordFault}
use Rattle.budget_top.specs.Line.{mode}
use Rattle.budget_top.specs.Words.{◌>>=◌, IsWordFault, planned_by, plan_with, mode_named, node_for, count_from}
use Rattle.budget_top.proofs.planning.plan_of.Goals as goal

-- the parts of a plan, one after the other
abbrev Given : Type 0
Given = List ℕ → Option (List ℕ)

pub returns-clause-err : goal.returns-clause-err
returns-clause-err c =
    let given : Given = λ name. first_value (found_of c.args.given.now) name in
    let is_mode : mode_named (unwrap_or (given mode) []) ≡ Ok c.in_ok-mode.mode = search rules in
    let is_node : node_for c.in_ok-mode.mode (given (codes "node")) ≡ Ok c.in_ok-node.node = search rules in
    let is_count : count_from c.in_ok-mode.mode (given (codes "count")) ≡ Ok c.in_ok-count.count = search rules in
    let same : planned_by given ≡ plan_with given c.in_ok-mode.mode c.in_ok-node.node c.in_ok-count.count =
    ap (λ r. r >>= λ m. node_for m (given (codes "node")) >>= λ n. count_from m (given (codes "count")) >>= λ k. plan_with given m n k) is_mode
    ∙ ap (λ r. r >>= λ n. count_from c.in_ok-mode.mode (given (codes "count")) >>= λ k. plan_with given c.in_ok-mode.mode n k) is_node
    ∙ ap (λ r. r >>= λ k. plan_with given c.in_ok-mode.mode c.in_ok-node.node k) is_count in
    subst (λ (due : Result Plan WordFault). IfErr c.plan_with.result (IsWordFault due)) (sym same) c.plan_with.ensures.err
