use Rattle.std.proofs.Common.{◌≡◌, lit<, map as list_map}
use Rattle.std.specs.Prelude.{◌==◌}
use Rattle.std.specs.List.{slice_split}
use Rattle.std.proofs.lemmas.Iterator.Consumers.{map_from_collect}
use Rattle.std.proofs.lemmas.Iterator.Splits.{YieldsList-from_str_split}
use Rattle.goal_templates.proofs.Noted.{of_ok}
use Rattle.goal_templates.proofs.notes.lines_of.Goals as goal

pub returns : goal.returns
returns c =
    of_ok c.collect.result c.in_ok-lines.lines (λ w. list_map (λ x. x.now) w.items ≡ slice_split (λ b. b == 10) c.args.text.now) c.in_ok-lines.was
    (map_from_collect _ c.collect.ensures.ran (YieldsList-from_str_split 10 c.args.text.now (lit< tt) c.split.ensures.text c.split.ensures.has_more c.split.ensures.pattern))
