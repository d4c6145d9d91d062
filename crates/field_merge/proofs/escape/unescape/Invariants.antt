-- What is read so far, and what the rest stands for, is what the part stands for.
use Rattle.std.proofs.Common.{◌≡◌, ◌++◌, length, string_bytes}
use denote.Text.{Utf8}
use denote.Shadow.{shadow}
use Rattle.field_merge.specs.Escapes.{unescaped}
use Rattle.field_merge.proofs.escape.unescape.Given as goal

abbrev pub invariant-escapes : goal.invariant-escapes
invariant-escapes l = shadow (Utf8 l.rest) × (string_bytes l.text ++ unescaped l.rest ≡ unescaped l.part)

abbrev pub decreases-escapes : goal.decreases-escapes
decreases-escapes l = length l.rest
