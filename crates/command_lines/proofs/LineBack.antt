-- The line of a command, word by word.
use Rattle.std.proofs.Common.{◌≡◌, ℕ, List, [], ◌∷◌, map, Option, Some, Ok, ap, sym, subst, ◌∙◌}
use Rattle.std.specs.List.{join_with_byte}
use Rattle.field_merge.specs.Escapes.{escaped}
use Rattle.field_merge.specs.Lines.{parts}
use Rattle.field_merge.specs.Messages.{line_of_texts}
use Rattle.field_merge.proofs.EscapeLemmas.{escaped-no_tab}
use Rattle.field_merge.proofs.LineLemmas.{parts-none, parts-at}
use Rattle.command_lines.specs.declared.command.Command.{Command}
use Rattle.command_lines.specs.Forms.{Wanted, if_read, form_word}
use Rattle.command_lines.specs.Commands.{line_words, of_words}
use Rattle.command_lines.proofs.FormLemmas.{Makes, makes_written}

parts_written : (text : List ℕ) (texts : List (List ℕ)) → parts (join_with_byte 9 (map escaped (text ∷ texts))) ≡ map escaped (text ∷ texts)
parts_written text [] = parts-none (escaped text) (escaped-no_tab text)
parts_written text (next ∷ texts) =
    parts-at (escaped text) (join_with_byte 9 (map escaped (next ∷ texts))) (escaped-no_tab text)
    ∙ ap (λ ps. escaped text ∷ ps) (parts_written next texts)

-- a word of a form
pub makes_form : {A : Type 0} (read : List ℕ → Option A) (next : A → Wanted) (a : A) (text : List ℕ) (texts : List (List ℕ)) (c : Command) → read text ≡ Some a → Makes (next a) texts c
    → Makes (form_word read next) (text ∷ texts) c
makes_form {A} read next a text texts c e h = subst (λ (o : Option A). Makes (if_read next o) texts c) (sym e) h

-- the line with this name and these texts behind it is read as the command that they make
pub line_back : (name : List ℕ) (texts : List (List ℕ)) (c : Command) → escaped name ≡ name → Makes (line_words name) texts c → of_words (parts (line_of_texts (name ∷ texts))) ≡ Ok c
line_back name texts c plain h =
    ap of_words (parts_written name texts)
    ∙ ap (λ n. of_words (n ∷ map escaped texts)) plain
    ∙ makes_written texts (line_words name) 0 c h
