use Rattle.std.proofs.Common.{◌≡◌, ◌≤◌, ◌∙◌, ◌∷◌, [], ◌++◌, sym, ap, subst, length, arith}
use Rattle.budget_ports.specs.Connections.{next_bytes}
use Rattle.budget_ports.specs.MemoryDoor.{DoorState, to_come, outs}
use Rattle.sync_server.specs.declared.served.Served.{Served}
use Rattle.sync_server.specs.Outside.{HasFound}
use Rattle.sync_server.specs.Serving.{IsServed}
use Rattle.peer_link.proofs.Serving.{served_so, written_to, if_both}
use Rattle.peer_link.proofs.server.serve_at.Goals as goal

pub returns-in-Ok-Answered : goal.returns-in-Ok-Answered
returns-in-Ok-Answered c =
    let served = c.in-Ok-Answered.ensures.served in
    let visit = served.0 in
    let all = served.2 in
    let k = c.args.keeper.now.contents in
    let door = c.in-Some.ensures in
    let came_is : c.args.came ≡ visit.came = sym (all.door.came ∙ ap (λ (d : DoorState). next_bytes (to_come d)) door) in
    let wrote_is : outs c.serve_one.new.door ≡ visit.wrote ∷ [] = all.door.wrote ∙ ap (λ (d : DoorState). outs d ++ visit.wrote ∷ []) door in
    let few : length c.args.came ≤ 268_435_456 = omega (arith, c.if-as_slice-gt-MOST_ASKED.false, ap length c.as_slice.ensures) in
    let how = subst (λ (s : Served). IsServed c.args.state.now.token (HasFound k) visit s) c.in-Ok-Answered.field-0-is (all.found tt) in
    if_both c.reply_at.result
    (λ reply brief bytes. served_so c.served_is_honest.ensures c.accepted_are_kept.ensures c.requests_are_judged.ensures c.meanings_are_valid.ensures
    c.args.came reply.items c.args.state.now c.serve_one.new.state k c.serve_one.new.keeper.contents visit c.in-Ok-Answered.field-0-0
    c.requires.asks few brief c.requires.serves (c.in-Ok-Answered.ensures.agrees tt) served.1.token
    came_is (bytes ∙ written_to c.serve_one.new.door.rooms c.serve_one.new.door.past visit.wrote wrote_is) how all.means (all.keeper.keeps tt))
    c.reply_at.ensures.short c.reply_at.ensures.bytes
