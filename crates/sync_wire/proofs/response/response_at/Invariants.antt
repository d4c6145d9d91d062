use Rattle.std.proofs.Common.{length}
use Rattle.sync_wire.specs.declared.layout.Layout.TheVariants as layouts
use Rattle.field_merge.specs.Messages.{AreMessages}
use Rattle.sync_wire.specs.Spelling.{BeginsWithKept}
use Rattle.sync_wire.specs.Wire.{response_check, response_kept, response_at}
use Rattle.sync_wire.specs.Gather.{with_response_field}
use Rattle.sync_wire.proofs.Gather.{IsOn}
use Rattle.sync_wire.proofs.response.response_at.Given as goal

abbrev pub invariant-fields : goal.invariant-fields
invariant-fields l = record {
  on : IsOn response_check with_response_field layouts.Response l.end l.response l.rest (response_at l.end l.bytes);
  valid : AreMessages l.response.messages;
  kept : BeginsWithKept response_check response_kept layouts.Response l.end l.rest → BeginsWithKept response_check response_kept layouts.Response l.end l.bytes;
}

abbrev pub decreases-fields : goal.decreases-fields
decreases-fields l = length l.rest
