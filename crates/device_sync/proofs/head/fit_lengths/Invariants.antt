use Rattle.std.proofs.Common.{◌≡◌, map, drop}
use Rattle.std.specs.List.{list_all}
use Rattle.httparse.specs.Spans.{header_bytes}
use Rattle.device_sync.specs.Replies.{fits_length}
use Rattle.device_sync.proofs.head.fit_lengths.Given as goal

abbrev pub invariant-loop-header : goal.invariant-loop-header
invariant-loop-header l =
    list_all (fits_length l.size) (map (header_bytes l.bytes) (drop l.header-index l.headers)) ≡ list_all (fits_length l.size) (map (header_bytes l.bytes) l.headers)
