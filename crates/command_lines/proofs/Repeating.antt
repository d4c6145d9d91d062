-- The words of a line that repeat, one after the other, and those that may be left out.
use Rattle.std.proofs.Common.{◌≡◌, ◌≢◌, ℕ, List, [], ◌∷◌, ◌++◌, Ok, refl}
use Rattle.command_lines.specs.declared.command.Command.{Command}
use Rattle.command_lines.specs.Forms.{Wanted, word, may_end, some_texts, command_of}

-- where texts are wanted, the next word is one; behind others there may be none
abbrev pub next_text : List (List ℕ) → (List (List ℕ) → Command) → List ℕ → Wanted
next_text texts made text = some_texts (texts ++ text ∷ []) made

pub text_next : (texts : List (List ℕ)) (made : List (List ℕ) → Command) (last : ℕ) (words : List (List ℕ)) → (texts ≢ [] → words ≢ [])
    → command_of (some_texts texts made) last words ≡ command_of (word (next_text texts made)) last words
text_next [] made last [] some = refl
text_next (text ∷ texts) made last [] some = absurd (some (λ e. cc) refl)
text_next texts made last (w ∷ ws) some = refl

pub no_text_left : (texts : List (List ℕ)) (made : List (List ℕ) → Command) (last : ℕ) → texts ≢ [] → command_of (some_texts texts made) last [] ≡ Ok (made texts)
no_text_left [] made last some = absurd (some refl)
no_text_left (text ∷ texts) made last some = refl

pub is_some : (texts : List (List ℕ)) (text : List ℕ) → texts ++ text ∷ [] ≢ []
is_some [] text = λ none. cc
is_some (t ∷ texts) text = λ none. cc

-- where the words may end, and do not, a word is wanted
pub more_left : (c : Command) (next : List ℕ → Wanted) (last : ℕ) (words : List (List ℕ)) → words ≢ [] → command_of (may_end c next) last words ≡ command_of (word next) last words
more_left c next last [] more = absurd (more refl)
more_left c next last (w ∷ ws) more = refl
