use Rattle.std.proofs.Common.{◌≡◌, map, drop, codes}
use Rattle.httparse.specs.Spans.{header_bytes}
use Rattle.sync_server.specs.Heads.{is_token, values_under}
use Rattle.sync_server.proofs.judge.has_token.Given as goal

abbrev pub invariant-loop-header : goal.invariant-loop-header
invariant-loop-header l =
    is_token l.token (values_under (codes "x-actual-token") (map (header_bytes l.bytes) (drop l.header-index l.headers))) ≡ is_token l.token (values_under (codes "x-actual-token") (map (header_bytes l.bytes) l.headers))
