use Rattle.std.proofs.Common.{ℕ, ◌-◌, length, refl, ap, ap₂, ◌∙◌}
use Rattle.field_merge.specs.Log.{LogState}
use Rattle.device_sync.proofs.Loop.{synced_ends, unput_keeper, unput_memory}
use Rattle.device_sync.proofs.syncing.sync_from.Goals as goal

pub returns-in-Ok-put_synced-clause-talked : goal.returns-in-Ok-put_synced-clause-talked
returns-in-Ok-put_synced-clause-talked g c =
    synced_ends _ _ _ _ _ _ _ _ _ c.in-Ok.requests c.in-Ok.ensures.talked refl c.in-Ok-put_synced.ensures.told c.in-Ok.ensures.texts _ refl
    (c.saturating_sub-received.ensures ∙ ap₂ (λ (a b : ℕ). a - b) (c.len.ensures.count ∙ ap (λ (l : LogState). length l.messages) c.log-in-Ok-put_synced.ensures.log) (c.len-before.ensures.count ∙ ap (λ (l : LogState). length l.messages) c.log.ensures.log))
    c.in-Ok-put_synced.ensures.put (λ a. c.in-Ok-put_synced.ensures.alone (c.in-Ok.ensures.alone a))

pub returns-in-Err-Failed-clause-talked : goal.returns-in-Err-Failed-clause-talked
returns-in-Err-Failed-clause-talked g c = unput_keeper _ _ _ _ _ _ _ _ _ c.in-Ok.requests c.in-Ok.ensures.talked refl c.in-Err-Failed.ensures.told c.in-Ok.ensures.texts c.in-Err-Failed.ensures.same c.in-Err-Failed.ensures.left

pub returns-in-Err-NoMemory-clause-talked : goal.returns-in-Err-NoMemory-clause-talked
returns-in-Err-NoMemory-clause-talked g c = unput_memory _ _ _ _ _ _ _ _ _ c.in-Ok.requests c.in-Ok.ensures.talked refl c.in-Err-NoMemory.ensures.told c.in-Ok.ensures.texts c.in-Err-NoMemory.ensures.same c.in-Err-NoMemory.ensures.left
