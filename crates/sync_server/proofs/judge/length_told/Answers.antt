use Rattle.std.proofs.Common.{◌∙◌, map}
use Rattle.httparse.specs.Spans.{header_bytes}
use Rattle.sync_server.proofs.Lengths.{all_agree}
use Rattle.sync_server.proofs.judge.length_told.Goals as goal

pub returns : goal.returns
returns c = c.agreed.ensures ∙ all_agree (map (header_bytes c.args.bytes.now) c.args.headers.now)
