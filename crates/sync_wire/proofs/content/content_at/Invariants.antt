use Rattle.std.proofs.Common.{length}
use Rattle.sync_wire.specs.declared.layout.Layout.TheVariants as layouts
use Rattle.sync_wire.specs.Envelope.{texts_seen, content_check, content_at}
use Rattle.sync_wire.specs.Gather.{with_text}
use Rattle.sync_wire.proofs.Gather.{IsOn}
use Rattle.sync_wire.proofs.content.content_at.Given as goal

abbrev pub invariant-fields : goal.invariant-fields
invariant-fields l = record {
  on : IsOn content_check with_text layouts.Content l.end (texts_seen l.texts) l.rest (content_at l.end l.bytes);
}

abbrev pub decreases-fields : goal.decreases-fields
decreases-fields l = length l.rest
