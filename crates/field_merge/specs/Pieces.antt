-- The pieces in which lines are given.
use Rattle.std.specs.Prelude.{◌≡◌, ◌⊎◌, ◌<◌, ◌≤◌, ℕ, List, [], ◌++◌, length}
use Rattle.field_merge.specs.declared.message.Message.{Message}
use Rattle.field_merge.specs.Log.{ended_line}

-- so many bytes are enough for a piece, 64 KiB
abbrev pub enough_bytes : ℕ
enough_bytes = 65_536

-- a piece ends with a line before which it has fewer bytes than enough
abbrev pub IsJustEnough : List ℕ → Type 0
IsJustEnough text = (front : List ℕ) × (last : Message) × (text ≡ front ++ ended_line last) × (length front < enough_bytes)

-- how long a piece is where these messages are left behind it: it has just enough bytes, or fewer where none is left
pub record IsPiece (left : List Message) (text : List ℕ) : Type 0 where
  pub no_more : IsJustEnough text
  pub no_less : (left ≡ []) ⊎ (enough_bytes ≤ length text)
