use Rattle.sync_world.proofs.Happening.{events_happen}
use Rattle.sync_world.proofs.laws.events_happen.Goals as goal

pub returns : goal.returns
returns c = events_happen (record {
  begins = c.devices_begin.ensures;
  accepted = c.accepted_are_joined.ensures;
  writes = c.writes_are_joined.ensures;
  received = c.received_are_joined.ensures;
  joined = c.joined.ensures;
  tells = c.answers_tell.ensures;
}) c.joined_in_any_order.ensures
