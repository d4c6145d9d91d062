use Rattle.std.proofs.Common.{◌≡◌, Some, ap, ◌-◌, length, arith}
use Rattle.std.specs.List.{slice_get}
use Rattle.std.proofs.lemmas.Option.{slice_get_read}
use Rattle.sync_world.proofs.Covering.{covers_there, there_is}
use Rattle.sync_world.proofs.places.cover_at.Goals as goal

pub returns-in-Ok-clause-ok : goal.returns-in-Ok-clause-ok
returns-in-Ok-clause-ok g c =
    covers_there c.args.devices.now.items c.args.number c.args.month c.index_mut.result.now c.cover.new.self (omega (arith, c.if-number-eq0.false))
    (slice_get_read c.args.devices.now.items (length c.as_slice.result.now) (c.args.number - 1) c.index_mut.result.now (ap length c.as_slice.ensures.value) c.if-index-as_slice.false c.index_mut.ensures.value)
    c.requires.ready c.in-Ok.ensures.ok c.in-Ok.ensures.covered

pub returns-in-Err-clause-none : goal.returns-in-Err-clause-none
returns-in-Err-clause-none g c =
    there_is c.args.devices.now.items c.args.number c.index_mut.result.now (omega (arith, c.if-number-eq0.false))
    (slice_get_read c.args.devices.now.items (length c.as_slice.result.now) (c.args.number - 1) c.index_mut.result.now (ap length c.as_slice.ensures.value) c.if-index-as_slice.false c.index_mut.ensures.value)
