use Rattle.minute_trie.specs.Trie.{held}
use Rattle.device_sync.proofs.Turns.{answer_joined, answer_failed, with_trie}
use Rattle.device_sync.proofs.round.join_answer.Goals as goal

pub returns-in-Ok-clause-settled : goal.returns-in-Ok-clause-settled
returns-in-Ok-clause-settled g c = answer_joined c.args.device.now.state c.args.messages.now (held c.args.trie.now) c.args.reading c.take.new.device.state c.compare.result c.in-Ok.ensures.taken c.compare.ensures.compared

pub returns-in-Err-clause-settled : goal.returns-in-Err-clause-settled
returns-in-Err-clause-settled g c = answer_failed c.args.device.now.state c.args.messages.now (held c.args.trie.now) c.args.reading c.take.new.device.state c.in-Err.fault c.in-Err.ensures.taken

pub returns-in-Err-clause-stops : goal.returns-in-Err-clause-stops
returns-in-Err-clause-stops g c = λ alone k may.
    with_trie c.args.group.now c.args.device.now.state c.args.messages.now (held c.args.trie.now) c.args.reading _ _ k (c.in-Err.ensures.stops alone k may)
