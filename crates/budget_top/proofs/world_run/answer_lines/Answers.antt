use Rattle.std.proofs.Common.{true, false, refl, inl, inr}
use Rattle.budget_top.proofs.WorldRuns.{run_all, run_taken, run_limit, run_stop}
use Rattle.budget_top.proofs.world_run.answer_lines.Goals as goal

pub returns-then-play-clause-run : goal.returns-then-play-clause-run
returns-then-play-clause-run g c =
    let r = c.in-AtEnd.ensures.ends in
    run_all true 1 _ _ _ _ c.end_last.new.self r.0 refl c.if-play.true r.1 r.2.0 (c.in-AtEnd.ensures.at_end refl) (c.in-Ok.ensures.ok _ r.0 r.2.1)

pub returns-else-play-clause-run : goal.returns-else-play-clause-run
returns-else-play-clause-run g c =
    let r = c.in-AtEnd.ensures.ends in
    run_all false 0 _ _ _ _ c.end_last.new.self r.0 refl c.if-play.false r.1 r.2.0 (c.in-AtEnd.ensures.at_end refl) (c.in-Ok.ensures.ok _ r.0 r.2.1)

pub returns-in-Err-clause-run : goal.returns-in-Err-clause-run
returns-in-Err-clause-run g c =
    let r = c.in-AtEnd.ensures.ends in
    run_stop c.in-Err.stop _ _ _ _ _ r.0 _ (inr (c.in-AtEnd.ensures.at_end refl, r.2.0, refl)) c.status.ensures r.1 (c.in-Err.ensures.err _ r.0 r.2.1)

pub returns-in-SourceFailed-clause-run : goal.returns-in-SourceFailed-clause-run
returns-in-SourceFailed-clause-run g c =
    let r = c.in-SourceFailed.ensures.ends in
    run_taken _ _ _ _ r.0 r.1 (record { within = r.2.0; written = r.2.1 })

pub returns-in-TooMuch-clause-run : goal.returns-in-TooMuch-clause-run
returns-in-TooMuch-clause-run g c =
    let r = c.in-TooMuch.ensures.ends in
    run_limit _ _ _ _ r.0 r.1 (record { past = r.2.0; written = r.2.1 })

pub returns-in-Stopped-clause-run : goal.returns-in-Stopped-clause-run
returns-in-Stopped-clause-run g c =
    let r = c.in-Stopped.ensures.ends in
    run_stop c.in-Stopped.stop _ _ _ _ _ r.0 _ (inl refl) c.status-in-Stopped.ensures r.1 r.2
