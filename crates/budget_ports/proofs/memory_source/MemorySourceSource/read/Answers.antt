use Rattle.std.proofs.Common.{ap}
use Rattle.budget_ports.specs.Memory.{SourceState}
use Rattle.budget_ports.proofs.Pieces.{moved}
use Rattle.budget_ports.proofs.memory_source.MemorySourceSource.read.Goals as goal

pub returns-clause-bytes : goal.returns-clause-bytes
returns-clause-bytes c =
    moved c.args.self.now.left c.self.inside.bytes.items c.as_slice.result.now c.copy_from_slice.new.self c.args.buffer.now c.self.inside.at c.min-count.result
    (ap (λ (s : SourceState). s.left) c.self.view_is) c.as_slice.ensures.value c.min-count.ensures c.copy_from_slice.ensures.len c.copy_from_slice.ensures.after
