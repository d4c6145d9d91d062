use Rattle.world_lines.proofs.Playing.{on_reply, done_settled}
use Rattle.world_lines.proofs.obeying.happen.Goals as goal

pub returns-in-Ok-clause-ok : goal.returns-in-Ok-clause-ok
returns-in-Ok-clause-ok g c = on_reply _ (λ r told. done_settled c.args.event.now c.args.world.now c.step.new.self c.in-Ok.outcome r c.in-Ok.ensures.ok told) c.outcome_reply.ensures
