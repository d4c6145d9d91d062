use Rattle.std.proofs.Common.{[], arith}
use Rattle.sqlite.specs.State.{HasCleanDisk}
use Rattle.sqlite.specs.Held.{state}
use Rattle.sqlite_keeper.specs.Contents.{with_text}
use Rattle.sqlite_keeper.proofs.Calls.{not_run, refused, left_before, on_err, ready, call_sound, call_done, call_failed, call_alone}
use Rattle.sqlite_keeper.proofs.writing.try_put.Goals as goal

pub returns-in_err-_ready-clause-sound : goal.returns-in_err-_ready-clause-sound
returns-in_err-_ready-clause-sound g c sound clean is_open =
    (refused g.S.Store c.args.conn.now c.prepare.new.self sound c.prepare.ensures.survives.clean (not_run _ [] _ _ _ (c.in_err-_ready.ensures.err clean [])) clean is_open).0

pub returns-in_err-_ready-clause-told : goal.returns-in_err-_ready-clause-told
returns-in_err-_ready-clause-told g c clean sound is_open =
    (refused g.S.Store c.args.conn.now c.prepare.new.self sound c.prepare.ensures.survives.clean (not_run _ [] _ _ _ (c.in_err-_ready.ensures.err clean [])) clean is_open).2

pub returns-in_err-_ready-clause-failed : goal.returns-in_err-_ready-clause-failed
returns-in_err-_ready-clause-failed g c clean sound is_open =
    on_err _ _ (refused g.S.Store c.args.conn.now c.prepare.new.self sound c.prepare.ensures.survives.clean (not_run _ [] _ _ _ (c.in_err-_ready.ensures.err clean [])) clean is_open).1

pub returns-clause-sound : goal.returns-clause-sound
returns-clause-sound g c sound clean is_open =
    let early : HasCleanDisk (state g.S.Store c.prepare.new.self) = omega (arith, c.put.ensures.clean) in
    let was = ready g.S.Store c.args.conn.now c.prepare.new.self sound (c.in_ok-_ready.ensures.ok early).1 c.prepare.ensures.survives.clean early in
    call_sound g.S.Store c.args.conn.now c.prepare.new.self c.put.new.conn c.put.result (λ k. with_text k c.args.name.now c.args.text.now) was.1 (c.put.ensures.done clean was.0) (c.put.ensures.failed clean was.0 is_open)

pub returns-clause-done : goal.returns-clause-done
returns-clause-done g c clean sound =
    let early : HasCleanDisk (state g.S.Store c.prepare.new.self) = omega (arith, c.put.ensures.clean) in
    let was = ready g.S.Store c.args.conn.now c.prepare.new.self sound (c.in_ok-_ready.ensures.ok early).1 c.prepare.ensures.survives.clean early in
    call_done g.S.Store c.args.conn.now c.prepare.new.self c.put.new.conn c.put.result (λ k. with_text k c.args.name.now c.args.text.now) was.1 (c.put.ensures.done clean was.0)

pub returns-clause-failed : goal.returns-clause-failed
returns-clause-failed g c clean sound is_open =
    let early : HasCleanDisk (state g.S.Store c.prepare.new.self) = omega (arith, c.put.ensures.clean) in
    let was = ready g.S.Store c.args.conn.now c.prepare.new.self sound (c.in_ok-_ready.ensures.ok early).1 c.prepare.ensures.survives.clean early in
    call_failed g.S.Store c.args.conn.now c.prepare.new.self c.put.new.conn c.put.result (λ k. with_text k c.args.name.now c.args.text.now) was.1 (c.put.ensures.failed clean was.0 is_open)

pub returns-clause-alone : goal.returns-clause-alone
returns-clause-alone g c clean sound =
    let early : HasCleanDisk (state g.S.Store c.prepare.new.self) = omega (arith, c.put.ensures.clean) in
    let was = ready g.S.Store c.args.conn.now c.prepare.new.self sound (c.in_ok-_ready.ensures.ok early).1 c.prepare.ensures.survives.clean early in
    call_alone g.S.Store c.args.conn.now c.prepare.new.self c.put.new.conn c.put.result (λ k. with_text k c.args.name.now c.args.text.now) was.1 (c.put.ensures.done clean was.0) (c.put.ensures.alone clean was.0)

pub returns-clause-left : goal.returns-clause-left
returns-clause-left g c clean sound k left =
    let early : HasCleanDisk (state g.S.Store c.prepare.new.self) = omega (arith, c.put.ensures.clean) in
    left_before g.S.Store c.args.conn.now c.prepare.new.self k (λ was. with_text was c.args.name.now c.args.text.now) (c.in_ok-_ready.ensures.ok early).1 c.prepare.ensures.survives early (c.put.ensures.left clean (ready g.S.Store c.args.conn.now c.prepare.new.self sound (c.in_ok-_ready.ensures.ok early).1 c.prepare.ensures.survives.clean early).0 k left)
