use Rattle.std.specs.Result.{is_err}
use Rattle.sync_server.proofs.Visits.{closed_visit}
use Rattle.sync_server.proofs.serving.serve_one.Goals as goal

pub returns-clause-served : goal.returns-clause-served
returns-clause-served g c =
    let k = c.args.keeper.now in
    let m = c.serve_open-served.new.keeper in
    let d = c.args.door.now in
    let e = c.accept.new.self in
    let f = c.serve_open-served.new.door in
    let h = c.close-closed.new.self in
    let same = c.close-closed.ensures.same in
    closed_visit c.args.state.now.token (g.K.Keeper.tells k) (g.K.Keeper.tells m) (g.K.Keeper.contents k) (g.K.Keeper.contents m) (g.K.Keeper.left k) (g.K.Keeper.left m) (g.K.Keeper.faults k) (g.K.Keeper.faults m)
    c.args.state.now c.serve_open-served.new.state c.serve_open-served.result (g.D.Door.left e) (g.D.Door.waiting d) (g.D.Door.waiting e) (g.D.Door.waiting f) (g.D.Door.waiting h)
    (g.D.Door.outs d) (g.D.Door.outs e) (g.D.Door.outs f) (g.D.Door.outs h) (g.D.Door.faults d) (g.D.Door.faults e) (g.D.Door.faults f) (g.D.Door.faults h) (is_err c.close-closed.result)
    c.in_ok-accept.ensures.next c.serve_open-served.ensures.others same.0 c.in_ok-accept.ensures.opens c.in_ok-accept.ensures.begins same.2 c.in_ok-accept.ensures.count c.close-closed.ensures.count c.serve_open-served.ensures.served
