-- The words of a line, by their index.
use Rattle.std.specs.Prelude.{◌≡◌, ℕ, ◌^◌, List, Bool, Option, None, Some, Result, Ok, Err}
use Rattle.std.specs.List.{slice_get}
use Rattle.std.specs.Option.{ok_or}
use Rattle.field_merge.specs.Escapes.{bad_escape, unescaped}
use Rattle.command_lines.specs.declared.command.CommandFault.{CommandFault}
use Rattle.command_lines.specs.declared.command.CommandFault.TheVariants.{BadCommand, NoMemory}
use Rattle.command_lines.specs.Forms.{flag_of}
use Rattle.world_lines.specs.Numbers.{number_of}

-- what comes next of the value of the first result, or else its fault
infixl 10 ◌>>=◌
abbrev pub ◌>>=◌ : {A B : Type 0} → Result A CommandFault → (A → Result B CommandFault) → Result B CommandFault
Ok value >>= next = next value
Err fault >>= next = Err fault

-- the word at an index as it is written: one that is missing stands behind the others
abbrev pub word_at : List (List ℕ) → ℕ → Result (List ℕ) CommandFault
word_at words index = ok_or (slice_get words index) (BadCommand index)

-- a number of 32 bits, and one of 64
abbrev pub number_at : List (List ℕ) → ℕ → Result ℕ CommandFault
number_at words index = do
  word ← word_at words index
  ok_or (number_of (2 ^ 32) word) (BadCommand index)

abbrev pub long_number_at : List (List ℕ) → ℕ → Result ℕ CommandFault
long_number_at words index = do
  word ← word_at words index
  ok_or (number_of (2 ^ 64) word) (BadCommand index)

abbrev pub flag_at : List (List ℕ) → ℕ → Result Bool CommandFault
flag_at words index = do
  word ← word_at words index
  ok_or (flag_of word) (BadCommand index)

-- a text without a bad escape
abbrev pub text_of : ℕ → List ℕ → Option ℕ → Result (List ℕ) CommandFault
text_of index word None = Ok (unescaped word)
text_of index word (Some at) = Err (BadCommand index)

abbrev pub text_at : List (List ℕ) → ℕ → Result (List ℕ) CommandFault
text_at words index = do
  word ← word_at words index
  text_of index word (bad_escape word)

-- memory ran out, or this is what the words say
abbrev pub IsReadAs : {A : Type 0} → Result A CommandFault → Result A CommandFault → Type 0
IsReadAs meant (Ok found) = meant ≡ Ok found
IsReadAs meant (Err (BadCommand index)) = meant ≡ Err (BadCommand index)
IsReadAs meant (Err NoMemory) = Unit {0}
