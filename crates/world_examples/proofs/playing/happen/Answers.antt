use Rattle.world_examples.proofs.Steps.{on_ok, done, not_done}
use Rattle.world_examples.proofs.playing.happen.Goals as goal

pub returns-in-Ok : goal.returns-in-Ok
returns-in-Ok g c = on_ok _ _ (done c.steps_send_few.ensures c.args.event.now c.args.world.now c.step.new.self c.in-Ok.outcome c.args.before c.requires.played c.in-Ok.ensures.ok)

pub returns-in_default : goal.returns-in_default
returns-in_default g c = on_ok _ _ (not_done c.args.event.now c.args.world.now c.step.new.self c.in-Err.fault c.args.before c.requires.played c.in-Err.ensures.refused c.in_default.not-NoMemory)
