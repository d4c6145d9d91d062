use Rattle.budget_top.proofs.world_run.run_world.Goals as goal

pub answer_lines-status-requires-clause-fresh : goal.answer_lines-status-requires-clause-fresh
answer_lines-status-requires-clause-fresh g c = c.new-play.ensures.stands (g.W.Sink.taken c.args.sink.now)
