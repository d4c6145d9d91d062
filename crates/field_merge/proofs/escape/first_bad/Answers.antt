-- The place in the rest, moved on over one byte or over an escape.
use Rattle.std.proofs.Common.{sym, arith}
use Rattle.field_merge.specs.Escapes as spec
use Rattle.field_merge.proofs.EscapeLemmas.{place_after-zero, bad_escape-on, bad_escape-over}
use Rattle.field_merge.proofs.escape.first_bad.Goals as goal

pub loop-at-init : goal.loop-at-init
loop-at-init c = (omega arith, sym (place_after-zero (spec.bad_escape c.args.text.now)))

pub loop-at-preserved-then-text-at-ne92 : goal.loop-at-preserved-then-text-at-ne92
loop-at-preserved-then-text-at-ne92 c =
    (omega arith, bad_escape-on c.args.text.now c.loop-at.at (omega arith) c.if-text-at-ne92.true c.loop-at.invariant.1)

pub loop-at-preserved : goal.loop-at-preserved
loop-at-preserved c =
    (omega arith, bad_escape-over c.args.text.now c.loop-at.at (omega arith) (omega arith) (grind arith) c.loop-at.invariant.1)
