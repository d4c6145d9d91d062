use Rattle.std.proofs.Common.{refl, inl, inr}
use Rattle.budget_top.specs.Seen.{Seen, seen}
use Rattle.budget_top.specs.DeviceRun.{beginning, entry}
use Rattle.budget_top.proofs.Answering.{answered_from, stands_open, alone_still}
use Rattle.budget_top.proofs.device_run.run_device.Goals as goal

pub returns-clause-run : goal.returns-clause-run
returns-clause-run g c =
    let target = c.args.target in
    let old : Seen = seen (g.W.Sink.taken c.args.sink.now) (g.C.WallClock.readings c.args.clock.now) (g.L.Link.exchanges c.args.link.now) (g.L.Link.faults c.args.link.now) (g.K.Keeper.tells c.args.keeper.now) (g.K.Keeper.contents c.args.keeper.now) (g.K.Keeper.left c.args.keeper.now) in
    record {
      told = λ t. c.open.ensures.told (c.answer_lines-status.ensures.told t);
      opening = inr (record {
        first = c.in-Ok-open.device.state.messages;
        has = λ t. c.in-Ok-open.ensures.ok.has (c.answer_lines-status.ensures.told t);
        had = λ k h. elim (c.answer_lines-status.ensures.before k h) [ inl there ↦ c.in-Ok-open.ensures.ok.has (c.in-Ok-open.ensures.known k there) | inr t ↦ c.in-Ok-open.ensures.ok.has t ];
        answered = answered_from _ _ _ _ _ _ _ (alone_still _ _ _ _ _ _ c.open.ensures.same c.open.ensures.left c.in-Ok-open.ensures.known)
            (c.answer_lines-status.ensures.answers (entry old target (beginning c.args.node target c.in-Ok-open.device.state.messages old.contents)) (stands_open c.args.node target _ old _ c.in-Ok-open.ensures.ok c.new.ensures refl refl refl refl refl refl c.open.ensures.same));
      });
    }
