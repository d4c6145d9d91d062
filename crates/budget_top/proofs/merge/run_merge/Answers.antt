use Rattle.budget_top.proofs.merge.run_merge.Goals as goal

pub merge_lines-status-requires : goal.merge_lines-status-requires
merge_lines-status-requires g c = record { fresh = c.new-merge.ensures (g.W.Sink.taken c.args.sink.now) }
