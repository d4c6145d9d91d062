-- A TAB is ASCII, so the line may be cut before and behind it.
use Rattle.std.proofs.Common.{lit<}
use Rattle.std.proofs.lemmas.Str.{IsCharBoundary-before_ascii, IsCharBoundary-after_ascii}
use Rattle.field_merge.proofs.LineLemmas.{FirstTab, parts-whole, parts-cut}
use Rattle.field_merge.proofs.line.cut_part.Goals as goal

pub returns-in_err-at : goal.returns-in_err-at
returns-in_err-at c = rw c.from_residual.ensures (parts-whole c.as_bytes.result.now c.args.line.now c.in_err-at.ensures c.as_bytes.ensures.value)

pub split_at-requires : goal.split_at-requires
split_at-requires c =
    let first : FirstTab c.args.line.now c.in_ok-at.at = parts-cut c.as_bytes.result.now c.args.line.now c.in_ok-at.at c.in_ok-at.ensures c.as_bytes.ensures.value in
    IsCharBoundary-before_ascii c.args.line.now c.in_ok-at.at first.0 (rw first.1 (lit< tt))

pub split_at-requires-2 : goal.split_at-requires-2
split_at-requires-2 c =
    let first : FirstTab c.args.line.now c.in_ok-at.at = parts-cut c.as_bytes.result.now c.args.line.now c.in_ok-at.at c.in_ok-at.ensures c.as_bytes.ensures.value in
    IsCharBoundary-after_ascii c.args.line.now c.in_ok-at.at c.utf8.line first.0 (rw first.1 (lit< tt))

pub returns : goal.returns
returns c =
    let first : FirstTab c.args.line.now c.in_ok-at.at = parts-cut c.as_bytes.result.now c.args.line.now c.in_ok-at.at c.in_ok-at.ensures c.as_bytes.ensures.value in
    rw (c.split_at.ensures.front, c.split_at-2.ensures.back) first.2
