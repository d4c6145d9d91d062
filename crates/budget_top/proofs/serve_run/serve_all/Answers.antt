use Rattle.std.proofs.Common.{◌∙◌, refl, sym, arith, ap}
use Rattle.budget_top.specs.ServeRun.{AtDoor, at_door}
use Rattle.budget_ports.specs.Faults.{count_after}
use Rattle.budget_top.proofs.Telling.{has_failed, has_worked}
use Rattle.budget_top.proofs.ServeEnds.{so_far_none, shut_out, so_far_on, cut_short}
use Rattle.budget_top.proofs.serve_run.serve_all.Goals as goal

pub connections-init : goal.connections-init
connections-init g c =
    let entry : AtDoor = at_door (g.W.Sink.taken c.args.sink.now) (g.D.Door.waiting c.args.door.now) (g.D.Door.outs c.args.door.now) (g.D.Door.faults c.args.door.now) (g.K.Keeper.faults c.args.keeper.now) (g.K.Keeper.tells c.args.keeper.now) (g.K.Keeper.contents c.args.keeper.now) (g.K.Keeper.left c.args.keeper.now) in
    record {
      served = so_far_none c.args.state.now.token entry c.requires.alone;
      within = omega arith;
      count = refl;
      token = refl;
      agrees = c.requires.agrees;
      sink = refl;
    }

pub returns-in_default-clause-served : goal.returns-in_default-clause-served
returns-in_default-clause-served g c =
    let entry : AtDoor = at_door (g.W.Sink.taken c.args.sink.now) (g.D.Door.waiting c.args.door.now) (g.D.Door.outs c.args.door.now) (g.D.Door.faults c.args.door.now) (g.K.Keeper.faults c.args.keeper.now) (g.K.Keeper.tells c.args.keeper.now) (g.K.Keeper.contents c.args.keeper.now) (g.K.Keeper.left c.args.keeper.now) in
    let before : AtDoor = at_door (g.W.Sink.taken c.connections.sink) (g.D.Door.waiting c.connections.door) (g.D.Door.outs c.connections.door) (g.D.Door.faults c.connections.door) (g.K.Keeper.faults c.connections.keeper) (g.K.Keeper.tells c.connections.keeper) (g.K.Keeper.contents c.connections.keeper) (g.K.Keeper.left c.connections.keeper) in
    let shut = c.in_default.ensures.shut in
    rw shut.1
    (shut_out c.args.state.now.token entry before c.connections.number c.args.count _ _ _ c.connections.invariant.served (omega (arith, c.connections-test.true)) shut.2 shut.3 shut.4)

pub returns-then-is_err-clause-served : goal.returns-then-is_err-clause-served
returns-then-is_err-clause-served g c =
    let entry : AtDoor = at_door (g.W.Sink.taken c.args.sink.now) (g.D.Door.waiting c.args.door.now) (g.D.Door.outs c.args.door.now) (g.D.Door.faults c.args.door.now) (g.K.Keeper.faults c.args.keeper.now) (g.K.Keeper.tells c.args.keeper.now) (g.K.Keeper.contents c.args.keeper.now) (g.K.Keeper.left c.args.keeper.now) in
    let before : AtDoor = at_door (g.W.Sink.taken c.connections.sink) (g.D.Door.waiting c.connections.door) (g.D.Door.outs c.connections.door) (g.D.Door.faults c.connections.door) (g.K.Keeper.faults c.connections.keeper) (g.K.Keeper.tells c.connections.keeper) (g.K.Keeper.contents c.connections.keeper) (g.K.Keeper.left c.connections.keeper) in
    let now : AtDoor = at_door (g.W.Sink.taken c.tell_end.new.sink) (g.D.Door.waiting c.serve_one.new.door) (g.D.Door.outs c.serve_one.new.door) (g.D.Door.faults c.serve_one.new.door) (g.K.Keeper.faults c.serve_one.new.keeper) (g.K.Keeper.tells c.serve_one.new.keeper) (g.K.Keeper.contents c.serve_one.new.keeper) (g.K.Keeper.left c.serve_one.new.keeper) in
    let one = c.in-Ok.ensures.served in
    cut_short c.args.state.now.token c.connections.state.token entry before now c.connections.number c.args.count c.connections.invariant.served c.connections.invariant.token one.0 c.in-Ok.end one.2
    (omega (arith, c.connections-test.true)) (has_failed c.tell_end.result _ c.if-is_err.ensures.value c.tell_end.ensures.front)

pub connections-preserved : goal.connections-preserved
connections-preserved g c =
    let entry : AtDoor = at_door (g.W.Sink.taken c.args.sink.now) (g.D.Door.waiting c.args.door.now) (g.D.Door.outs c.args.door.now) (g.D.Door.faults c.args.door.now) (g.K.Keeper.faults c.args.keeper.now) (g.K.Keeper.tells c.args.keeper.now) (g.K.Keeper.contents c.args.keeper.now) (g.K.Keeper.left c.args.keeper.now) in
    let before : AtDoor = at_door (g.W.Sink.taken c.connections.sink) (g.D.Door.waiting c.connections.door) (g.D.Door.outs c.connections.door) (g.D.Door.faults c.connections.door) (g.K.Keeper.faults c.connections.keeper) (g.K.Keeper.tells c.connections.keeper) (g.K.Keeper.contents c.connections.keeper) (g.K.Keeper.left c.connections.keeper) in
    let now : AtDoor = at_door (g.W.Sink.taken c.tell_end.new.sink) (g.D.Door.waiting c.serve_one.new.door) (g.D.Door.outs c.serve_one.new.door) (g.D.Door.faults c.serve_one.new.door) (g.K.Keeper.faults c.serve_one.new.keeper) (g.K.Keeper.tells c.serve_one.new.keeper) (g.K.Keeper.contents c.serve_one.new.keeper) (g.K.Keeper.left c.serve_one.new.keeper) in
    let one = c.in-Ok.ensures.served in
    record {
      served = so_far_on c.args.state.now.token c.connections.state.token entry before now c.connections.number c.args.count c.connections.invariant.served c.connections.invariant.token one.0 c.in-Ok.end one.2
          (has_worked c.tell_end.result _ c.if-is_err.ensures.value c.tell_end.ensures.all);
      within = omega (arith, c.connections-test.true);
      count = refl;
      token = one.1.token ∙ c.connections.invariant.token;
      agrees = c.in-Ok.ensures.agrees;
      sink = c.tell_end.ensures.count ∙ ap (λ b. count_after b (g.W.Sink.faults c.connections.sink)) (sym c.if-is_err.ensures.value) ∙ c.connections.invariant.sink;
    }
