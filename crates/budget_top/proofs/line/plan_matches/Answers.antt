use Rattle.std.proofs.Common.{◌≡◌, map, refl, true}
use Rattle.clap.specs.Words.{app_of, is_simple, is_simple_and_free}
use Rattle.budget_top.specs.Clap.{plan_app}
use Rattle.budget_top.proofs.Parses.{rows_at, fails_at}
use Rattle.budget_top.proofs.line.plan_matches.Goals as goal

simple : is_simple plan_app ≡ true
simple = refl

free : is_simple_and_free plan_app ≡ true
free = refl

pub returns-clause-rows : goal.returns-clause-rows
returns-clause-rows c =
    rows_at (app_of c.in_ok-command.command) plan_app c.try_get_matches_from.result (map (λ w. w.now) c.args.words.now) c.in_ok-command.ensures simple c.try_get_matches_from.ensures.matches

pub returns-clause-fails : goal.returns-clause-fails
returns-clause-fails c =
    fails_at (app_of c.in_ok-command.command) plan_app c.try_get_matches_from.result (map (λ w. w.now) c.args.words.now) c.in_ok-command.ensures free c.try_get_matches_from.ensures.kinds
