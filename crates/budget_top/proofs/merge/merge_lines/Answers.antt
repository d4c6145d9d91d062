use Rattle.std.proofs.Common.{refl}
use Rattle.budget_top.proofs.Running.{run_too_much, run_stopped, run_unfinished}
use Rattle.budget_top.proofs.merge.merge_lines.Goals as goal

pub returns-in-Err-clause-run : goal.returns-in-Err-clause-run
returns-in-Err-clause-run g c =
    let e = c.in-AtEnd.ensures.ends in
    run_unfinished (g.S.Source.left c.args.source.now) (g.S.Source.left c.read_all.new.source) (g.W.Sink.taken c.args.sink.now) (g.W.Sink.taken c.finish.new.sink) e.0 c.in-Err.stop c.status.result c.status.ensures e.1
    (c.in-AtEnd.ensures.at_end refl) e.2.0 (c.in-Err.ensures.err _ e.0 e.2.1)

pub returns-in-TooMuch-clause-run : goal.returns-in-TooMuch-clause-run
returns-in-TooMuch-clause-run g c =
    let e = c.in-TooMuch.ensures.ends in
    run_too_much (g.S.Source.left c.args.source.now) (g.S.Source.left c.read_all.new.source) (g.W.Sink.taken c.args.sink.now) (g.W.Sink.taken c.read_all.new.sink) e.0 e.1 e.2.0 e.2.1

pub returns-in-Stopped-clause-run : goal.returns-in-Stopped-clause-run
returns-in-Stopped-clause-run g c =
    let e = c.in-Stopped.ensures.ends in
    run_stopped (g.S.Source.left c.args.source.now) (g.S.Source.left c.read_all.new.source) (g.W.Sink.taken c.args.sink.now) (g.W.Sink.taken c.read_all.new.sink) e.0 c.in-Stopped.stop c.status-in-Stopped.result c.status-in-Stopped.ensures e.1 e.2
