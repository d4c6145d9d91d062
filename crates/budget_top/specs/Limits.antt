-- How much input a run takes.
use Rattle.std.specs.Prelude.{◌≡◌, ℕ, ◌+◌, ◌<◌, ◌≤◌, ◌⊎◌, Bool, true, false, List, ◌++◌, length, take, Option}
use Rattle.std.specs.Io.KnownBytes.{Consumes, IsAtEnd}
use Rattle.budget_top.specs.declared.input.Piece.{Piece}
use Rattle.budget_top.specs.declared.input.Piece.TheVariants.{End, Failed, Bytes}
use Rattle.budget_top.specs.Lines.{whole_lines, all_lines}

-- the most bytes of input that a run takes
abbrev pub most_input : ℕ
most_input = 1_073_741_824

-- the source gave these bytes, of which no more than one is past the limit
pub record HasRead (left new_left : Option (List ℕ)) (read : List ℕ) : Type 0 where
  pub reads : Consumes left new_left read
  pub asked : length read ≤ most_input + 1

-- Behind the bytes that were read before, more came: the first `count` of the buffer are those within the limit,
-- and there is one past it or none.
pub record ReadsMore (count : ℕ) (past : Bool) (left new_left : Option (List ℕ)) (read buffer : List ℕ) : Type 0 where
  pub more : List ℕ
  pub has_read : HasRead left new_left (read ++ more)
  pub inside : count ≤ length buffer
  pub within : take most_input (read ++ more) ≡ read ++ take count buffer
  pub on : past ≡ false → (more ≡ take count buffer) × (0 < count) × (length read + count ≤ most_input)
  pub beyond : past ≡ true → most_input < length (read ++ more)

-- what a read gave behind the bytes that were read before
abbrev pub Reads : Piece → Option (List ℕ) → Option (List ℕ) → List ℕ → List ℕ → Type 0
Reads End left new_left read buffer = HasRead left new_left read × IsAtEnd new_left
Reads Failed left new_left read buffer = HasRead left new_left read
Reads (Bytes count past) left new_left read buffer = ReadsMore count past left new_left read buffer

-- whether the source failed
abbrev pub is_failed : Piece → Bool
is_failed End = false
is_failed Failed = true
is_failed (Bytes count past) = false

-- the lines that were to be handled when a run broke off: the whole ones before the limit, or all of them where the input had ended
abbrev pub AreDue : Option (List ℕ) → List ℕ → List (List ℕ) → Type 0
AreDue new_left read due = (due ≡ whole_lines (take most_input read)) ⊎ IsAtEnd new_left × (length read ≤ most_input) × (due ≡ all_lines read)
