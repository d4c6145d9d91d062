use Rattle.std.proofs.Common.{refl, subst}
use Rattle.field_merge.specs.Log.{LogState, IsRising}
use Rattle.device_sync.specs.Sync.{told}
use Rattle.device_sync.proofs.Promise.{meets_honest}
use Rattle.device_sync.proofs.Loop.{none_by_keeper, none_by_memory, talked_from, usable_result}
use Rattle.device_sync.proofs.syncing.sync.Goals as goal

pub returns-in-Err-Failed-clause-talked : goal.returns-in-Err-Failed-clause-talked
returns-in-Err-Failed-clause-talked g c = λ _. none_by_keeper _ _ _ _ _ _ _ refl c.in-Err-Failed.ensures.same c.in-Err-Failed.ensures.left

pub returns-in-Err-NoMemory-clause-talked : goal.returns-in-Err-NoMemory-clause-talked
returns-in-Err-NoMemory-clause-talked g c = λ _. none_by_memory _ _ _ _ _ _ _ refl c.in-Err-NoMemory.ensures.same c.in-Err-NoMemory.ensures.left

pub returns-in-Err-clause-talked : goal.returns-in-Err-clause-talked
returns-in-Err-clause-talked g c = λ _. none_by_memory _ _ _ _ _ _ _ refl c.in-Ok.ensures.same c.in-Ok.ensures.left

pub returns-clause-talked : goal.returns-clause-talked
returns-clause-talked g c = λ _.
    talked_from _ _ _ _ _ _ (told (g.L.Link.exchanges c.args.link.now) (g.K.Keeper.tells c.last_synced.new.keeper) (g.K.Keeper.contents c.last_synced.new.keeper) (g.K.Keeper.left c.last_synced.new.keeper)) _ c.in-Ok.found c.in-Ok-first_since.first c.sync_from.result refl
    c.in-Ok.ensures.same c.in-Ok.ensures.text c.in-Ok-first_since.ensures c.sync_from.ensures.told c.in-Ok.ensures.alone c.sync_from.ensures.before c.sync_from.ensures.talked

pub returns-clause-met : goal.returns-clause-met
returns-clause-met g c = λ within.
    meets_honest c.args.target.now c.args.group.now c.args.reading c.args.device.now.state
    (told (g.L.Link.exchanges c.args.link.now) (g.K.Keeper.tells c.args.keeper.now) (g.K.Keeper.contents c.args.keeper.now) (g.K.Keeper.left c.args.keeper.now))
    (told (g.L.Link.exchanges c.sync_from.new.link) (g.K.Keeper.tells c.sync_from.new.keeper) (g.K.Keeper.contents c.sync_from.new.keeper) (g.K.Keeper.left c.sync_from.new.keeper)) c.sync_from.new.device.state c.sync_from.result
    (returns-clause-talked g c within) (subst (λ (l : LogState). IsRising l.messages) c.log.ensures.log c.len-count.ensures.rising) c.log.ensures.valid

pub returns-clause-alone : goal.returns-clause-alone
returns-clause-alone g c = usable_result _ _ _ c.sync_from.result c.sync_from.ensures.alone c.in-Ok.ensures.alone
