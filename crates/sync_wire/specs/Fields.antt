-- A message as a list of tagged fields. Bytes that end at the place `end` of the whole body begin at `end - length bytes`.
use Rattle.std.specs.Prelude.{ℕ, zero, suc, ◌+◌, ◌-◌, ◌*◌, ◌/◌, ◌%◌, ◌^◌, ◌≤◌, List, [], ◌∷◌, length, take, drop, ◌==◌, nat_lt, Result, Ok, Err, if◌then◌else◌}
use Rattle.sync_wire.specs.declared.fault.WireFault.{WireFault}
use Rattle.sync_wire.specs.declared.fault.WireFault.TheVariants.{Truncated, BadTag, LongVarint}
use Rattle.sync_wire.specs.declared.layout.Layout.{Layout}
use Rattle.sync_wire.specs.declared.fields.Held.{Held}
use Rattle.sync_wire.specs.declared.fields.Held.TheVariants as held
use Rattle.sync_wire.specs.declared.fields.Field.{Field}
use Rattle.sync_wire.specs.Reading.{◌>>=◌}
use Rattle.sync_wire.specs.Layouts.{allows}

-- what a field holds: a number, eight or four bytes that no field of ours has, or bytes with the place where they end
pub data Payload : Type 0 where
  Number : ℕ → Payload
  Fixed : Payload
  Bytes : ℕ → List ℕ → Payload

pub record Tagged : Type 0 where
  pub number : ℕ
  pub payload : Payload

-- bytes begin within the whole body
abbrev pub IsPlaced : Payload → Type 0
IsPlaced (Number n) = Unit {0}
IsPlaced Fixed = Unit {0}
IsPlaced (Bytes end bytes) = length bytes ≤ end

abbrev pub payload_of : Held → Payload
payload_of (held.Number n) = Number n
payload_of held.Fixed = Fixed
payload_of (held.Bytes end bytes) = Bytes end bytes.now

abbrev pub tagged_of : Field → Tagged
tagged_of f = record { number = f.number; payload = payload_of f.content }

-- Seven bits a byte, the lowest first, and no more than so many bytes. A byte below 128 is the last.
unfoldable pub digits : ℕ → ℕ → ℕ → List ℕ → Result (ℕ × List ℕ) WireFault
digits at end zero bytes = Err (LongVarint at)
digits at end (suc k) [] = Err (Truncated end)
digits at end (suc k) (b ∷ bytes) = if nat_lt b 128 then Ok (b, bytes) else (digits at end k bytes >>= λ x. Ok (b - 128 + 128 * x.0, x.1))

-- a number of at most ten bytes and 64 bits
unfoldable pub number_at : ℕ → List ℕ → Result (ℕ × List ℕ) WireFault
number_at end bytes = do
  n ← digits (end - length bytes) end 10 bytes
  if nat_lt n.0 (2 ^ 64) then Ok n else Err (LongVarint (end - length bytes))

unfoldable pub fixed_at : ℕ → ℕ → List ℕ → Result (Payload × List ℕ) WireFault
fixed_at width end bytes = if nat_lt (length bytes) width then Err (Truncated end) else Ok (Fixed, drop width bytes)

unfoldable pub bytes_at : ℕ → List ℕ → Result (Payload × List ℕ) WireFault
bytes_at end bytes = do
  n ← number_at end bytes
  if nat_lt (length n.1) n.0 then Err (Truncated end) else Ok (Bytes (end - length (drop n.0 n.1)) (take n.0 n.1), drop n.0 n.1)

unfoldable pub payload_at : ℕ → ℕ → List ℕ → Result (Payload × List ℕ) WireFault
payload_at kind end bytes =
    if kind == 0 then (number_at end bytes >>= λ n. Ok (Number n.0, n.1))
    else if kind == 2 then bytes_at end bytes
    else if kind == 1 then fixed_at 8 end bytes
    else fixed_at 4 end bytes

-- the field at the front, and the bytes after it
unfoldable pub field_at : Layout → ℕ → List ℕ → Result (Tagged × List ℕ) WireFault
field_at layout end bytes = do
  tag ← number_at end bytes
  if allows layout (tag.0 / 8) (tag.0 % 8)
      then (payload_at (tag.0 % 8) end tag.1 >>= λ p. Ok (record { number = tag.0 / 8; payload = p.0 }, p.1))
      else Err (BadTag (end - length bytes))
