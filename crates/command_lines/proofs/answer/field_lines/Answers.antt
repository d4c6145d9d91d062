use Rattle.std.proofs.Common.{[], sym, ap, ◌∙◌}
use Rattle.field_merge.specs.Log.{fields}
use Rattle.command_lines.proofs.Cutting.{pieces}
use Rattle.command_lines.proofs.LineLemmas.{pieces-lines, same_before}
use Rattle.command_lines.proofs.answer.field_lines.Goals as goal

pub returns : goal.returns
returns c =
    let cut = c.in_ok-lines.ensures in
    same_before c.in_ok-lines.lines _ cut.0 []
    (sym cut.1 ∙ ap (pieces 10) (c.as_str.ensures ∙ c.in_ok-text.ensures)
    ∙ pieces-lines (fields c.args.log.now.messages) c.message_lines.ensures.one_line)
