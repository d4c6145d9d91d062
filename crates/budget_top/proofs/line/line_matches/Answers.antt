use Rattle.std.proofs.Common.{map, ◌∙◌, true≢false, sym}
use Rattle.clap.specs.Words.{fault_of, rows_of, found_of}
use Rattle.budget_top.specs.Clap.{plan_app}
use Rattle.budget_top.proofs.ClapWhole.{is_line_with, is_no_line, some_of}
use Rattle.budget_top.proofs.Spelled.{are_spelled}
use Rattle.budget_top.proofs.Hyphens.{hyphen_is_no_line, taken_is_line, taken_is_no_line}
use Rattle.budget_top.proofs.line.line_matches.Goals as goal

pub returns-then-has_hyphen_for_value : goal.returns-then-has_hyphen_for_value
returns-then-has_hyphen_for_value c =
    hyphen_is_no_line (map (λ w. w.now) c.args.words.now) (sym c.has_hyphen_for_value.ensures ∙ c.if-has_hyphen_for_value.true)

pub returns-in-Ok : goal.returns-in-Ok
returns-in-Ok c =
    let words = map (λ w. w.now) c.args.words.now in
    let found = is_line_with words (rows_of (found_of c.in-Ok.matches)) (are_spelled c.args.words.now c.requires) c.in-Ok.ensures.fails c.in-Ok.ensures.rows in
    (found.0, taken_is_line words found.0 (sym c.has_hyphen_for_value.ensures ∙ c.if-has_hyphen_for_value.false) found.1 found.2, found.3)

pub returns-else-eq : goal.returns-else-eq
returns-else-eq c =
    let words = map (λ w. w.now) c.args.words.now in
    taken_is_no_line words (sym c.has_hyphen_for_value.ensures ∙ c.if-has_hyphen_for_value.false)
    (is_no_line words (are_spelled c.args.words.now c.requires) (some_of (fault_of plan_app words) c.in-Err.error c.in-Err.ensures.fails
    (λ e. let same = rw (c.kind.ensures, e) at c.if-eq.ensures in true≢false (sym same))))
