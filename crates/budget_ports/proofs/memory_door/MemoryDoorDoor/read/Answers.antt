use Rattle.std.proofs.Common.{◌<◌, ◌≤◌, length, ap, arith}
use Rattle.budget_ports.specs.MemoryDoor.{DoorState}
use Rattle.budget_ports.proofs.Pieces.{moved_within}
use Rattle.budget_ports.proofs.Visits.{piece_some, piece_fits}
use Rattle.budget_ports.proofs.memory_door.MemoryDoorDoor.read.Goals as goal

pub returns-clause-bytes : goal.returns-clause-bytes
returns-clause-bytes c =
    let some : 0 < length c.args.buffer.now → 0 < c.piece-most.result = λ some. rw c.piece-most.ensures (piece_some c.as_slice-2.result.now c.self.inside.reads (length c.args.buffer.now) some) in
    let within : c.piece-most.result ≤ length c.args.buffer.now = rw c.piece-most.ensures (piece_fits c.as_slice-2.result.now c.self.inside.reads (length c.args.buffer.now)) in
    let least = c.min-count.ensures in
    let fits : c.min-count.result ≤ length c.args.buffer.now = omega arith in
    moved_within c.args.self.now.left c.self.inside.came c.as_slice.result.now c.copy_from_slice.new.self c.args.buffer.now c.self.inside.at c.min-count.result c.piece-most.result
    (ap (λ (s : DoorState). s.left) c.self.view_is) c.as_slice.ensures c.min-count.ensures some fits c.copy_from_slice.ensures.len c.copy_from_slice.ensures.after
