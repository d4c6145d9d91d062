use Rattle.std.proofs.Common.{inr}
use Rattle.budget_top.specs.ServeRun.{AtDoor, at_door, with_file}
use Rattle.budget_top.proofs.ServeEnds.{opened}
use Rattle.budget_top.proofs.serve_run.run_serve.Goals as goal

pub returns-in-Ok-put_group-clause-run : goal.returns-in-Ok-put_group-clause-run
returns-in-Ok-put_group-clause-run g c =
    let old : AtDoor = at_door (g.W.Sink.taken c.args.sink.now) (g.D.Door.waiting c.args.door.now) (g.D.Door.outs c.args.door.now) (g.D.Door.faults c.args.door.now) (g.K.Keeper.faults c.args.keeper.now) (g.K.Keeper.tells c.args.keeper.now) (g.K.Keeper.contents c.args.keeper.now) (g.K.Keeper.left c.args.keeper.now) in
    let now : AtDoor = at_door (g.W.Sink.taken c.serve_all.new.sink) (g.D.Door.waiting c.serve_all.new.door) (g.D.Door.outs c.serve_all.new.door) (g.D.Door.faults c.serve_all.new.door) (g.K.Keeper.faults c.serve_all.new.keeper) (g.K.Keeper.tells c.serve_all.new.keeper) (g.K.Keeper.contents c.serve_all.new.keeper) (g.K.Keeper.left c.serve_all.new.keeper) in
    let put = c.in-Ok-put_group.ensures in
    record {
      told = λ t. put.told (c.serve_all.ensures.told t);
      opening = inr
          (opened c.args.plan.now.token c.in-Ok.state.token c.args.plan.now.count (with_file c.args.plan.now old.contents) (g.K.Keeper.contents c.put_group.new.keeper) c.serve_all.result old now
          (g.K.Keeper.faults c.put_group.new.keeper) (g.K.Keeper.tells c.put_group.new.keeper) (g.K.Keeper.left c.put_group.new.keeper) c.in-Ok.ensures.token put.count
          (λ t. put.ok (c.serve_all.ensures.told t)) c.serve_all.ensures.served);
    }
