-- A message field by field: what one more field changes.
use Rattle.std.specs.Prelude.{[], ◌++◌, ◌||◌}
use Rattle.std.specs.List.{cons_option}
use Rattle.sync_wire.specs.declared.request.SyncRequest.{SyncRequest}
use Rattle.sync_wire.specs.declared.response.SyncResponse.{SyncResponse}
use Rattle.sync_wire.specs.Fields.{Tagged}
use Rattle.sync_wire.specs.Meaning.{or, text_in, flag_in, bytes_in}
use Rattle.sync_wire.specs.Envelope.{Written, Outline}
use Rattle.sync_wire.specs.Wire.{message_in_field, is_closed_field}

abbrev pub with_text : Written → Tagged → Written
with_text w t = record { dataset = or w.dataset (text_in 1 t); row = or w.row (text_in 2 t); column = or w.column (text_in 3 t); value = or w.value (text_in 4 t) }

abbrev pub with_part : Outline → Tagged → Outline
with_part o t = record { stamp = or o.stamp (text_in 1 t); encrypted = or o.encrypted (flag_in 2 t); content = or o.content (bytes_in 3 t) }

abbrev pub with_request_field : SyncRequest → Tagged → SyncRequest
with_request_field r t = record {
  messages = r.messages ++ cons_option (message_in_field t) [];
  encrypted = r.encrypted || is_closed_field t;
  file = or r.file (text_in 2 t);
  group = or r.group (text_in 3 t);
  since = or r.since (text_in 6 t);
}

abbrev pub with_response_field : SyncResponse → Tagged → SyncResponse
with_response_field r t = record {
  messages = r.messages ++ cons_option (message_in_field t) [];
  encrypted = r.encrypted || is_closed_field t;
  merkle = or r.merkle (text_in 2 t);
}
