use Rattle.std.proofs.Common.{◌≡◌, sym, subst, rules}
use Rattle.std.specs.List.{IsDistinct, filter_map}
use Rattle.std.specs.FinMap.{entries}
use Rattle.rule_engine.specs.Running.{read_live}
use Rattle.rule_engine.specs.Scores.{same_id}
use Rattle.rule_engine.proofs.Live.{live_distinct}
use Rattle.rule_engine.proofs.running.rules_of.Goals as goal

pub rank-requires : goal.rank-requires
rank-requires c =
    let all : c.loop-id.rules.items ≡ filter_map read_live (entries c.args.book.now.rows.rules) = search rules in
    subst (IsDistinct same_id) (sym all) (live_distinct c.args.book.now.rows)
