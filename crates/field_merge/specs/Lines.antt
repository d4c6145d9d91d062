-- What a line reads as.
use Rattle.std.specs.Prelude.{◌≡◌, ℕ, List, [], ◌∷◌, ◌++◌, length, true, false, Option, None, Some, Result, Ok, Err, ◌==◌}
use Rattle.std.specs.List.{slice_split}
use Rattle.std.specs.Result.{is_ok}
use Rattle.field_values.specs.declared.name.NameFault.{NameFault}
use Rattle.field_values.specs.Names.{FieldNames, field_of, names_fault}
use Rattle.hybrid_clock.specs.declared.stamp.Stamp.{Stamp}
use Rattle.hybrid_clock.specs.declared.stamp.StampFault.{StampFault}
use Rattle.hybrid_clock.specs.Reading.{read_stamp}
use Rattle.field_merge.specs.declared.message.Message.{Message}
use Rattle.field_merge.specs.declared.line.LineFault.{LineFault}
use Rattle.field_merge.specs.declared.line.LineFault.TheVariants.{Columns, Escape, Stamp as BadStamp, Name as BadName, NoMemory}
use Rattle.field_merge.specs.Escapes.{unescaped, bad_escape, has_backslash}
use Rattle.field_merge.specs.Messages.{message_of}

-- a line with its end
abbrev pub ended : List ℕ → List ℕ
ended line = line ++ 10 ∷ []

-- the parts between TABs
abbrev pub parts : List ℕ → List (List ℕ)
parts line = slice_split (λ b. b == 9) line

-- the message of a timestamp, names and a value text, where the names have no fault
abbrev pub with_names : Option NameFault → Stamp → FieldNames → List ℕ → Result Message LineFault
with_names (Some found) stamp names value = Err (BadName found)
with_names None stamp names value = Ok (message_of stamp names value)

-- the same where the timestamp's text has no fault
abbrev pub with_stamp : Result Stamp StampFault → FieldNames → List ℕ → Result Message LineFault
with_stamp (Err found) names value = Err (BadStamp found)
with_stamp (Ok stamp) names value = with_names (names_fault names) stamp names value

-- the message of five texts, or the first fault in them: that of the timestamp, else that of the names
abbrev pub message_of_texts : List ℕ → FieldNames → List ℕ → Result Message LineFault
message_of_texts stamp names value = with_stamp (read_stamp stamp) names value

-- the message of a line's parts, given the place of the first bad escape: five parts, then no bad escape
abbrev pub of_parts : List (List ℕ) → Option ℕ → Result Message LineFault
of_parts (stamp ∷ dataset ∷ row ∷ column ∷ value ∷ []) (Some at) = Err (Escape at)
of_parts (stamp ∷ dataset ∷ row ∷ column ∷ value ∷ []) None =
    message_of_texts (unescaped stamp) (field_of (unescaped dataset) (unescaped row) (unescaped column)) (unescaped value)
of_parts other bad = Err (Columns (length other))

-- The message of a line, or the first of: not five parts; a backslash that begins no escape, by its
-- place in the line (a TAB is no letter of an escape, so one at the end of a part is found too);
-- the fault of the timestamp; that of the names.
abbrev pub reading : List ℕ → Result Message LineFault
reading line = of_parts (parts line) (bad_escape line)

-- memory ran out, or it is the fault that was read
abbrev pub IsLineFault : Result Message LineFault → LineFault → Type 0
IsLineFault read NoMemory = Unit {0}
IsLineFault read found = read ≡ Err found

-- memory is taken only for a line of five parts without a bad escape, and where it has no backslash at all only for a message's line
pub record TakesMemory (line : List ℕ) : Type 0 where
  pub five : length (parts line) ≡ 5
  pub good : bad_escape line ≡ None
  pub plain : has_backslash line ≡ false → is_ok (reading line) ≡ true
