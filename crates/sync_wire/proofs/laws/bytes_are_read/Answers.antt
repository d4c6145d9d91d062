use Rattle.sync_wire.specs.Wire.{IsRequest, IsRequestFault, IsResponse, IsResponseFault, IsMessageContent, IsContentFault}
use Rattle.sync_wire.proofs.Readings.{is_either, request_reads, response_reads, message_reads}
use Rattle.sync_wire.proofs.laws.bytes_are_read.Goals as goal

pub returns : goal.returns
returns c = record {
  requests = λ bytes. is_either (IsRequest bytes) (IsRequestFault bytes) _ (request_reads bytes);
  replies = λ bytes. is_either (IsResponse bytes) (IsResponseFault bytes) _ (response_reads bytes);
  contents = λ stamp bytes. is_either (IsMessageContent stamp bytes) (IsContentFault stamp bytes) _ (message_reads stamp bytes);
}
