use Rattle.std.proofs.Common.{◌≡◌, List, ℕ, ap, ◌∙◌}
use Rattle.sync_world.proofs.News.{after_nothing}
use Rattle.world_lines.specs.Session.{lines_of}
use Rattle.world_lines.proofs.Playing.{on_reply}
use Rattle.world_lines.proofs.obeying.all_lines.Goals as goal

pub returns : goal.returns
returns c =
    on_reply {P = λ (lines : List (List ℕ)). lines ≡ lines_of c.as_slice.result.now} {Q = λ (lines : List (List ℕ)). lines ≡ lines_of c.args.device.now.state.messages} c.lines_of.result
    (λ lines is. is ∙ ap lines_of (c.as_slice.ensures ∙ c.in_ok-messages.ensures.messages ∙ after_nothing c.args.device.now.state.messages)) c.lines_of.ensures
