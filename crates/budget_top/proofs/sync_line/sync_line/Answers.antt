use Rattle.std.proofs.Common.{inl, inr, ap, ◌∙◌, Bool}
use Rattle.budget_ports.specs.Faults.{count_after}
use Rattle.budget_top.proofs.Syncing.{sync_oks, sync_errs, beyond_oks, beyond_errs, when_told, told_count, within_or, live_of, idle_of}
use Rattle.budget_top.proofs.sync_line.sync_line.Goals as goal

pub returns-clause-answered : goal.returns-clause-answered
returns-clause-answered g c = elim (within_or c.args.reading) [
  | inl within ↦
      sync_oks c.talks_are_told.ensures _ _ _ _ c.sync-ended.result _ _ _ _ _ _ _ _ _ _ within (rw c.requires.group at (c.sync-ended.ensures.talked within)) c.sync-ended.ensures.synced c.sync-ended.ensures.unsynced
      c.sync-ended.ensures.link_count c.sync-ended.ensures.before c.tell_sync.result c.tell_sync.ensures
  | inr over ↦
      let same = c.sync-ended.ensures.beyond over in
      rw (same.1.0, same.1.1.0, same.1.1.1) (beyond_oks _ _ _ _ _ (g.K.Keeper.tells c.args.keeper.now) (g.K.Keeper.tells c.args.keeper.now) _ (g.K.Keeper.left c.args.keeper.now) over c.sync-ended.result c.tell_sync.result same.0 c.tell_sync.ensures)
]

pub returns-clause-unanswered : goal.returns-clause-unanswered
returns-clause-unanswered g c = elim (within_or c.args.reading) [
  | inl within ↦
      sync_errs c.talks_are_told.ensures _ _ _ _ c.sync-ended.result _ _ _ _ _ _ _ _ _ _ within (rw c.requires.group at (c.sync-ended.ensures.talked within)) c.sync-ended.ensures.synced c.sync-ended.ensures.unsynced
      c.sync-ended.ensures.link_count c.sync-ended.ensures.before c.tell_sync.result
  | inr over ↦
      let same = c.sync-ended.ensures.beyond over in
      rw (same.1.1.0, same.1.1.1) (beyond_errs _ _ _ _ _ (g.K.Keeper.tells c.args.keeper.now) (g.K.Keeper.tells c.args.keeper.now) _ (g.K.Keeper.left c.args.keeper.now) over c.tell_sync.result)
]

pub returns-clause-live : goal.returns-clause-live
returns-clause-live g c = when_told _ c.sync-ended.result c.tell_sync.result c.tell_sync.ensures (live_of _ _ c.sync-ended.result c.sync-ended.ensures.usable)

pub returns-clause-idle : goal.returns-clause-idle
returns-clause-idle g c = when_told _ c.sync-ended.result c.tell_sync.result c.tell_sync.ensures (idle_of _ _ c.sync-ended.result c.sync-ended.ensures.usable)

pub returns-clause-alone : goal.returns-clause-alone
returns-clause-alone g c = when_told _ c.sync-ended.result c.tell_sync.result c.tell_sync.ensures c.sync-ended.ensures.alone

pub returns-clause-count : goal.returns-clause-count
returns-clause-count g c = c.sync-ended.ensures.count ∙ ap (λ (b : Bool). count_after b (g.K.Keeper.faults c.args.keeper.now)) (told_count c.sync-ended.result c.tell_sync.result c.tell_sync.ensures)
