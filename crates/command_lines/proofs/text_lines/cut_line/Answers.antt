use Rattle.std.proofs.Common.{lit<}
use Rattle.std.proofs.lemmas.Str.Pattern.{split_parts}
use Rattle.command_lines.proofs.Cutting.{pieces-cut, cut_shorter}
use Rattle.command_lines.proofs.text_lines.cut_line.Goals as goal

pub returns-clause-pieces : goal.returns-clause-pieces
returns-clause-pieces c =
    pieces-cut 10 c.args.text.now c.split_once.result
    (split_parts 10 c.args.text.now c.split_once.result c.split_once.ensures.cases (lit< tt))

pub returns-clause-shorter : goal.returns-clause-shorter
returns-clause-shorter c =
    cut_shorter 10 c.args.text.now c.split_once.result
    (split_parts 10 c.args.text.now c.split_once.result c.split_once.ensures.cases (lit< tt))
