use Rattle.std.proofs.Common.{rules, arith, ◌≡◌, ap, sym, take, length}
use Rattle.std.proofs.lemmas.List.{take_all}
use Rattle.budget_ports.specs.MemoryDoor.{outs}
use Rattle.budget_ports.proofs.Visits.{written_last, as_written}
use Rattle.budget_ports.proofs.memory_door.MemoryDoorDoor.write.Goals as goal

pub returns-clause-bytes : goal.returns-clause-bytes
returns-clause-bytes c =
    let none : c.self.inside.past ≡ 0 = search rules in
    let all : c.args.bytes.now ≡ take (length c.args.bytes.now) c.args.bytes.now = sym (take_all _ _ (omega arith)) in
    as_written _ _ _ _ _ (ap outs c.self.view_is) all
    (written_last c.self.inside.rooms.items c.put_last.new.rooms.items c.self.inside.past c.args.bytes.now none c.put_last.ensures.puts)
