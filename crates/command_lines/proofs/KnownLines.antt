-- Of each line that there is: its words can be given, and its command is told by them.
use Rattle.std.proofs.Common.{◌≡◌, ℕ, List, [], ◌∷◌, ◌⊎◌, refl, ap, ◌∙◌}
use Rattle.std.specs.Prelude.{codes}
use Rattle.field_values.specs.Names.{field_of}
use Rattle.field_values.specs.Value.{value_text, value_of}
use Rattle.field_values.proofs.Values.{texts_write_back_lem}
use Rattle.hybrid_clock.specs.declared.stamp.Stamp.{Stamp}
use Rattle.hybrid_clock.specs.Reading.{read_stamp}
use Rattle.hybrid_clock.proofs.Texts.{read_text, read_valid}
use Rattle.field_merge.specs.Messages.{message_of}
use Rattle.command_lines.specs.declared.command.Command.TheVariants.{Receive}
use Rattle.command_lines.specs.Forms.{Wanted, word, no_more, name_word, misfit}
use Rattle.command_lines.specs.Commands.{set_words, receive_words, messages_words, value_words, field_lines, words_of_row_lines, line_words}
use Rattle.command_lines.proofs.Known.{IsKnown, AreKnown, known_in}
use Rattle.command_lines.proofs.EditLines.{row_lines_known}
use Rattle.command_lines.proofs.Opening.{Opens, open_end, open_word, open_name, open_stamp}
use Rattle.command_lines.proofs.Telling.{Tells, tells_stamp, tells_name}

-- ---- the lines about messages and fields

set_tells : Tells (codes "set" ∷ []) set_words
set_tells d r c v =
    let value = texts_write_back_lem v in
    record { same = ap (λ t. codes "set" ∷ d ∷ r ∷ c ∷ t ∷ []) value.1; valid = value.0; can = tt }

receive_tells : Tells (codes "receive" ∷ []) receive_words
receive_tells text =
    let value_word : Stamp → List ℕ → List ℕ → List ℕ → Wanted = λ s dataset row column. word (λ value. no_more (Receive (message_of s (field_of dataset row column) value))) in
    let column_word : Stamp → List ℕ → List ℕ → Wanted = λ s dataset row. name_word (λ column. value_word s dataset row column) in
    let row_word : Stamp → List ℕ → Wanted = λ s dataset. name_word (λ row. column_word s dataset row) in
    tells_stamp (read_stamp text) (codes "receive" ∷ text ∷ []) text (λ s. name_word (λ dataset. row_word s dataset)) refl (λ s told d.
    tells_name (codes "receive" ∷ text ∷ d ∷ []) d (row_word s) (λ dataset r.
    tells_name (codes "receive" ∷ text ∷ d ∷ r ∷ []) r (column_word s d) (λ row c.
    tells_name (codes "receive" ∷ text ∷ d ∷ r ∷ c ∷ []) c (value_word s d r) (λ column v.
    let value = texts_write_back_lem v in
    record {
      same =
          ap (λ t. codes "receive" ∷ t ∷ d ∷ r ∷ c ∷ value_text (value_of v) ∷ []) (read_text text s told)
          ∙ ap (λ t. codes "receive" ∷ text ∷ d ∷ r ∷ c ∷ t ∷ []) value.1;
      valid = record { stamp = read_valid text s told; field = record { dataset = dataset; row = row; column = column }; value = value.0 };
      can = tt;
    }))))

set_opens : Opens set_words
set_opens = open_word _ (λ d. open_word _ (λ r. open_word _ (λ c. open_word _ (λ v. open_end _))))

receive_opens : Opens receive_words
receive_opens = open_stamp _ (λ s. open_name _ (λ d. open_name _ (λ r. open_name _ (λ c. open_word _ (λ v. open_end _)))))

messages_opens : Opens messages_words
messages_opens = open_word _ (λ since. open_end _)

value_opens : Opens value_words
value_opens = open_word _ (λ d. open_word _ (λ r. open_word _ (λ c. open_end _)))

field_lines_are : AreKnown field_lines
field_lines_are = (
  record { good = refl; plain = refl; form = tt; goes = set_opens.1; tells = set_tells },
  (
    record { good = refl; plain = refl; form = tt; goes = receive_opens.1; tells = receive_tells },
    (
      record { good = refl; plain = refl; form = tt; goes = tt; tells = record { same = refl; valid = tt; can = tt } },
      (
        record { good = refl; plain = refl; form = tt; goes = messages_opens.1; tells = λ since. record { same = refl; valid = tt; can = tt } },
        (
          record { good = refl; plain = refl; form = tt; goes = value_opens.1; tells = λ d r c. record { same = refl; valid = tt; can = tt } },
          (record { good = refl; plain = refl; form = tt; goes = tt; tells = record { same = refl; valid = tt; can = tt } }, tt),
        ),
      ),
    ),
  ),
)

-- ---- all lines

pub line_known : (name : List ℕ) → (line_words name ≡ misfit) ⊎ IsKnown name (line_words name)
line_known name = known_in field_lines name (words_of_row_lines name) field_lines_are (row_lines_known name)
