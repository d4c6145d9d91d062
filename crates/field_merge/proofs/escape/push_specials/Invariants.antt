-- What is written so far, and the rest escaped, is the line with the text escaped.
use Rattle.std.proofs.Common.{◌≡◌, ◌++◌, length, string_bytes}
use denote.Text.{Utf8}
use denote.Shadow.{shadow}
use Rattle.field_merge.specs.Escapes.{escaped, BeginsWith}
use Rattle.field_merge.proofs.escape.push_specials.Given as goal

abbrev pub invariant-specials : goal.invariant-specials
invariant-specials l = record {
  utf8 : shadow (Utf8 l.rest);
  told : string_bytes l.line ++ escaped l.rest ≡ string_bytes l.initial.line ++ escaped l.text;
  front : BeginsWith (string_bytes l.initial.line) (string_bytes l.line);
}

abbrev pub decreases-specials : goal.decreases-specials
decreases-specials l = length l.rest
