-- What `Txt::make` answers.
use Rattle.std.specs.Prelude.{◌≡◌, ℕ, List, Result, Ok, Err, IsUtf8}
use Rattle.std.specs.Str.Lossy.{utf8_valid_len}
use Rattle.field_values.specs.declared.text.TxtFault.{TxtFault}
use Rattle.field_values.specs.declared.text.TxtFault.TheVariants.{NotUtf8, NoMemory}

-- The text has exactly the bytes, which are UTF-8. Or the bytes are not UTF-8, and the fault's place is the
-- length of their longest front that is: there the first sequence begins that is not. Or memory ran out for the
-- copy of bytes that are UTF-8.
abbrev pub IsMadeOf : List ℕ → Result (List ℕ) TxtFault → Type 0
IsMadeOf bytes (Ok text) = (text ≡ bytes) × IsUtf8 bytes
IsMadeOf bytes (Err (NotUtf8 at)) = (IsUtf8 bytes → ⊥) × (at ≡ utf8_valid_len bytes)
IsMadeOf bytes (Err NoMemory) = IsUtf8 bytes
