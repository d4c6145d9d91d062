use Rattle.std.proofs.Common.{◌≡◌, drop}
use denote.Text.{Utf8}
use denote.Shadow.{shadow}
use Rattle.field_merge.specs.Lines.{parts}
use Rattle.world_lines.proofs.words.text_behind.Given as goal

abbrev pub invariant-loop-at : goal.invariant-loop-at
invariant-loop-at l = shadow (Utf8 l.rest) × (parts l.rest ≡ drop l._at (parts l.line))
