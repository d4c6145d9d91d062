use Rattle.std.proofs.Common.{◌≡◌, map, drop, None}
use Rattle.httparse.specs.Spans.{header_bytes}
use Rattle.sync_server.specs.Headers.{agreed}
use Rattle.sync_server.proofs.judge.agreed.Given as goal

abbrev pub invariant-loop-header : goal.invariant-loop-header
invariant-loop-header l =
    agreed l.found (map (header_bytes l.bytes) (drop l.header-index l.headers)) ≡ agreed None (map (header_bytes l.bytes) l.headers)
