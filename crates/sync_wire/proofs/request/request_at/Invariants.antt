use Rattle.std.proofs.Common.{length}
use Rattle.sync_wire.specs.declared.layout.Layout.TheVariants as layouts
use Rattle.field_merge.specs.Messages.{AreMessages}
use Rattle.sync_wire.specs.Spelling.{BeginsWithKept}
use Rattle.sync_wire.specs.Wire.{request_check, request_kept, request_at}
use Rattle.sync_wire.specs.Gather.{with_request_field}
use Rattle.sync_wire.proofs.Gather.{IsOn}
use Rattle.sync_wire.proofs.request.request_at.Given as goal

abbrev pub invariant-fields : goal.invariant-fields
invariant-fields l = record {
  on : IsOn request_check with_request_field layouts.Request l.end l.request l.rest (request_at l.end l.bytes);
  valid : AreMessages l.request.messages;
  kept : BeginsWithKept request_check request_kept layouts.Request l.end l.rest → BeginsWithKept request_check request_kept layouts.Request l.end l.bytes;
}

abbrev pub decreases-fields : goal.decreases-fields
decreases-fields l = length l.rest
