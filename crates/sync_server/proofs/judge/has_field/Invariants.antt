use Rattle.std.proofs.Common.{◌≡◌, map, drop}
use Rattle.httparse.specs.Spans.{header_bytes}
use Rattle.std.specs.List.{list_any}
use Rattle.sync_server.specs.Heads.{has_name}
use Rattle.sync_server.proofs.judge.has_field.Given as goal

abbrev pub invariant-loop-header : goal.invariant-loop-header
invariant-loop-header l =
    list_any (has_name l.name) (map (header_bytes l.bytes) (drop l.header-index l.headers)) ≡ list_any (has_name l.name) (map (header_bytes l.bytes) l.headers)
