-- A line that is read as a command is the line of the command, but for the bytes that stand in it without their escape.
use Rattle.std.proofs.Common.{◌≡◌, ℕ, Bool, true, false, cond, List, [], ◌∷◌, map, inl, inr, Result, Ok, Err, ap, sym, subst, ◌∙◌}
use Rattle.std.specs.Prelude.{nat_lt, length}
use Rattle.std.specs.List.{join_with_byte, AllByRecursion}
use Rattle.field_merge.specs.Escapes.{escaped, unescaped}
use Rattle.field_merge.specs.Lines.{parts}
use Rattle.field_merge.proofs.RawLines.{IsGood, parts_write_back}
use Rattle.command_lines.specs.declared.command.Command.{Command}
use Rattle.command_lines.specs.Forms.{misfit, command_of}
use Rattle.command_lines.specs.Commands.{line_words, of_words, longest_line}
use Rattle.command_lines.specs.Written.{LinesWriteBack}
use Rattle.command_lines.proofs.FormLemmas.{read_makes}
use Rattle.command_lines.proofs.KnownLines.{line_known}
use Rattle.command_lines.proofs.Telling.{IsCommandOf, texts_told}

-- the words have no bad escape, and the command is one of their texts
abbrev AreTexts : List (List ℕ) → Command → Type 0
AreTexts ws c = AllByRecursion IsGood ws × IsCommandOf (map unescaped ws) c

texts_of_line : (ws : List (List ℕ)) (c : Command) → of_words ws ≡ Ok c → AreTexts ws c
texts_of_line [] c read = absurd (cc)
texts_of_line (name ∷ ws) c read =
    elim (line_known name) [
      | inl none ↦ absurd (let clash : command_of misfit 0 ws ≡ Ok c = ap (λ x. command_of x 0 ws) (sym none) ∙ read in cc)
      | inr line ↦
          let makes = read_makes ws (line_words name) 0 c read in (
            (line.good, makes.0),
            subst (λ t. IsCommandOf (t ∷ map unescaped ws) c) (sym line.plain) (texts_told (map unescaped ws) (name ∷ []) (line_words name) c line.tells makes.1),
          )
    ]

not_long : (long : Bool) (read : Result Command ℕ) (c : Command) → cond long (Err 0) read ≡ Ok c → read ≡ Ok c
not_long true read c h = absurd (cc)
not_long false read c h = h

pub write_back : LinesWriteBack
write_back line c h =
    let told = texts_of_line (parts line) c (not_long (nat_lt longest_line (length line)) (of_words (parts line)) c h) in
    (told.1.valid, told.1.can, ap (λ texts. join_with_byte 9 (map escaped texts)) told.1.same ∙ parts_write_back line told.0)
