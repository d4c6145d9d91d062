-- The place of the first bad escape is that in the rest, moved on by what lies behind.
use Rattle.std.proofs.Common.{◌≡◌, ◌-◌, ◌≤◌, length, drop}
use Rattle.field_merge.specs.Escapes as spec
use Rattle.field_merge.proofs.escape.first_bad.Given as goal

abbrev pub invariant-loop-at : goal.invariant-loop-at
invariant-loop-at l = (l.at ≤ length l.text) × (spec.bad_escape l.text ≡ spec.place_after l.at (spec.bad_escape (drop l.at l.text)))

abbrev pub decreases-loop-at : goal.decreases-loop-at
decreases-loop-at l = length l.initial.text - l.at
