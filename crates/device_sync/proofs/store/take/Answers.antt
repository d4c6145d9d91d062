use Rattle.device_sync.proofs.Turns.{take_carries, stops_taken}
use Rattle.device_sync.proofs.store.take.Goals as goal

pub returns-in-Ok-keep-clause-carries : goal.returns-in-Ok-keep-clause-carries
returns-in-Ok-keep-clause-carries g c = λ tells.
    take_carries c.batches_are_kept.ensures c.args.group.now c.args.device.now.state c.args.messages.now c.args.reading c.in-Ok.field-0 c.incoming.new.self c.keep.new.device _ _ c.requires.valid
    c.in-Ok.ensures.ok c.in-Ok-keep.ensures.ok (c.in-Ok-keep.ensures.kept tells)

pub returns-in-Err-Failed-clause-stops : goal.returns-in-Err-Failed-clause-stops
returns-in-Err-Failed-clause-stops g c =
    stops_taken c.batches_are_kept.ensures c.args.group.now c.args.device.now.state c.args.messages.now c.args.reading c.in-Ok.field-0 c.incoming.new.self _ _ _ _ c.requires.valid c.in-Ok.ensures.ok c.in-Err-Failed.ensures.left

pub returns-in-Ok-clause-stops : goal.returns-in-Ok-clause-stops
returns-in-Ok-clause-stops g c =
    stops_taken c.batches_are_kept.ensures c.args.group.now c.args.device.now.state c.args.messages.now c.args.reading c.in-Ok.field-0 c.incoming.new.self _ _ _ _ c.requires.valid c.in-Ok.ensures.ok c.in-Err-NoMemory.ensures.left
