use Rattle.std.proofs.Common.{refl, rules, subst, sym}
use Rattle.sync_server.specs.Asking.{RefusesBody, encrypted, without_since}
use Rattle.sync_server.proofs.Faults.{body_fault}
use Rattle.sync_server.proofs.asking.read_body.Goals as goal

pub returns-in-Err : goal.returns-in-Err
returns-in-Err c = subst (RefusesBody c.args.body.now) (sym c.refusal_for.ensures) (body_fault c.args.body.now c.in-Err.fault c.in-Err.ensures.fault)

pub returns-then-request : goal.returns-then-request
returns-then-request c = encrypted _ c.in-Ok.ensures.found c.if-request.true refl

pub returns-then-is_empty : goal.returns-then-is_empty
returns-then-is_empty c = without_since _ c.in-Ok.ensures.found c.if-request.false (search rules) refl
