use Rattle.std.proofs.Common.{length, ◌≤◌}
use Rattle.sync_wire.specs.declared.layout.Layout.TheVariants as layouts
use Rattle.sync_wire.specs.Envelope.{outline_seen, envelope_check, outline_at}
use Rattle.sync_wire.specs.Gather.{with_part}
use Rattle.sync_wire.proofs.Gather.{IsOn}
use Rattle.sync_wire.proofs.envelope.outline_at.Given as goal

abbrev pub invariant-fields : goal.invariant-fields
invariant-fields l = record {
  on : IsOn envelope_check with_part layouts.Envelope l.end (outline_seen l.outline) l.rest (outline_at l.end l.bytes);
  placed : length l.outline.content.now ≤ l.outline.content_end;
}

abbrev pub decreases-fields : goal.decreases-fields
decreases-fields l = length l.rest
