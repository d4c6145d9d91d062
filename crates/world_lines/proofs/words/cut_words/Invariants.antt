use Rattle.std.proofs.Common.{◌≡◌, ◌++◌, length}
use denote.Text.{Utf8}
use denote.Shadow.{shadow}
use Rattle.field_merge.specs.Lines.{parts}
use Rattle.world_lines.proofs.words.cut_words.Given as goal

abbrev pub invariant-words : goal.invariant-words
invariant-words l = shadow (Utf8 l.rest) × (l.words.items ++ parts l.rest ≡ parts l.line)

abbrev pub decreases-words : goal.decreases-words
decreases-words l = length (parts l.rest)
