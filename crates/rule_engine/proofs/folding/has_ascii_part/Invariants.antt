-- The part stands in the text exactly where it stands in what is left of it.
use Rattle.std.proofs.Common.{◌≡◌, ◌-◌, ◌+◌, ◌≤◌, map, length, drop}
use Rattle.std.specs.Char.{to_ascii_lowercase}
use Rattle.rule_engine.specs.Conditions.{has_part}
use Rattle.rule_engine.proofs.folding.has_ascii_part.Given as goal

abbrev pub invariant-starts : goal.invariant-starts
invariant-starts l = (l.at ≤ length l.text) × (has_part (map to_ascii_lowercase l.part) (map to_ascii_lowercase l.text) ≡ has_part (map to_ascii_lowercase l.part) (map to_ascii_lowercase (drop l.at l.text)))

abbrev pub decreases-starts : goal.decreases-starts
decreases-starts l = length l.text + 1 - l.at
