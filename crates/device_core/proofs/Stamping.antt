-- Writes under timestamps in a row.
use Rattle.std.proofs.Common.{◌≡◌, inr, ℕ, ◌+◌, ◌<◌, ◌≤◌, Bool, true, ◌&&◌, List, [], ◌∷◌, All, length, refl, arith}
use Rattle.std.specs.Prelude.{nat_lt}
use Rattle.std.specs.List.{AllByRecursion, list_all}
use Rattle.std.proofs.lemmas.Bool.{and_parts}
use Rattle.std.proofs.lemmas.Bool.Decides.{nat_tests}
use Rattle.std.proofs.lemmas.List.Elements.{All-cons, All-nil}
use Rattle.field_values.specs.Names.{IsName, IsNameByte}
use Rattle.field_values.specs.Value.{IsValue}
use Rattle.hybrid_clock.specs.declared.stamp.Stamp.{Stamp}
use Rattle.hybrid_clock.specs.Stamp.{IsStamp, stamp_text}
use Rattle.hybrid_clock.specs.Reading.{form, is_allowed}
use Rattle.hybrid_clock.proofs.Form.{Fits, fits}
use Rattle.hybrid_clock.proofs.Writing.{text_passes}
use Rattle.field_merge.specs.Messages.{IsMessage, AreMessages}
use Rattle.book_rows.specs.declared.write.RowName.{RowName}
use Rattle.book_rows.specs.declared.write.RowName.TheVariants.{Given, Made}
use Rattle.book_rows.specs.declared.write.WriteValue.{WriteValue}
use Rattle.book_rows.specs.declared.write.WriteValue.TheVariants.{Plain, IdOf}
use Rattle.book_rows.specs.declared.write.Write.{Write}
use Rattle.book_rows.specs.Writes.{IsRowName, IsWriteValue, IsWrite, AreWrites}
use Rattle.device_core.specs.Placing.{stamp_at, row_of, value_of, message_at, messages_from}
use Rattle.device_core.specs.Device.{IsAhead}

-- ---- the text of a timestamp is a name

-- a character that a name may have
abbrev is_plain : ℕ → Bool
is_plain b = nat_lt 31 b && nat_lt b 127

-- what the form allows at such a place is a byte of a name
name_byte : (place b : ℕ) → is_plain place ≡ true → is_allowed place b ≡ true → IsNameByte b
name_byte place b plain allowed = (grind (arith, nat_tests), grind (arith, nat_tests))

name_bytes : (places text : List ℕ) → list_all is_plain places ≡ true → Fits places text → All IsNameByte text
name_bytes [] [] plain fit = All-nil IsNameByte
name_bytes [] (b ∷ text) plain fit = absurd fit
name_bytes (p ∷ places) [] plain fit = absurd fit
name_bytes (p ∷ places) (b ∷ text) plain fit =
    let both = and_parts (is_plain p) (list_all is_plain places) plain in
    All-cons IsNameByte b text (name_byte p b both.0 fit.0) (name_bytes places text both.1 fit.1)

pub stamp_named : (s : Stamp) → IsStamp s → IsName (stamp_text s)
stamp_named s valid =
    let p = text_passes s valid in
    let long = p.long in
    record {
      some = omega (arith, long);
      short = omega (arith, long);
      bytes = name_bytes form (stamp_text s) refl (fits (stamp_text s) p.long p.formed);
    }

-- ---- the messages of writes

pub at_valid : (first : Stamp) (n : ℕ) → IsStamp first → first.counter + n ≤ 65_535 → IsStamp (stamp_at first n)
at_valid first n valid room = record { within = valid.within; counter = room; node = valid.node }

-- the id of a row is a name, where so many counters are left
pub row_named : (first : Stamp) (left : ℕ) (row : RowName) → IsStamp first → first.counter + left ≤ 65_536 → IsRowName left row → IsName (row_of first row)
row_named first left (Given id) valid room is = is
row_named first left (Made n) valid room is = stamp_named (stamp_at first n) (at_valid first n valid (omega arith))

pub value_valid : (first : Stamp) (left : ℕ) (value : WriteValue) → IsWriteValue left value → IsValue (value_of first value)
value_valid first left (Plain value) is = is
value_valid first left (IdOf n) is = tt

pub message_valid : (first : Stamp) (left n : ℕ) (w : Write) → IsStamp first → first.counter + left ≤ 65_536 → n < left → IsWrite left w → IsMessage (message_at first n w)
message_valid first left n w valid room within is = record {
  stamp = at_valid first n valid (omega arith);
  field = record { dataset = is.dataset; row = row_named first left w.row valid room is.row; column = is.column };
  value = value_valid first left w.value is.value;
}

-- each is valid where the last counter fits
messages_valid : (first : Stamp) (left n : ℕ) (ws : List Write) → IsStamp first → first.counter + left ≤ 65_536 → n + length ws ≤ left → AllByRecursion (IsWrite left) ws → AreMessages (messages_from first n ws)
messages_valid first left n [] valid room few writes = tt
messages_valid first left n (w ∷ ws) valid room few writes =
    (message_valid first left n w valid room (omega arith) writes.0, messages_valid first left (n + 1) ws valid room (omega arith) writes.1)

pub stamped_valid : (first : Stamp) (ws : List Write) → IsStamp first → first.counter + length ws ≤ 65_536 → AreWrites ws → AreMessages (messages_from first 0 ws)
stamped_valid first ws valid room writes = messages_valid first (length ws) 0 ws valid room (omega arith) writes

-- none is past a clock of their time whose counter is at least the last one's
pub stamped_up_to : (clock first : Stamp) (n : ℕ) (ws : List Write) → first.millis ≡ clock.millis → (first.counter + n) + length ws ≤ clock.counter + 1 → IsAhead clock (messages_from first n ws)
stamped_up_to clock first n [] same room = tt
stamped_up_to clock first n (w ∷ ws) same room = (inr (same, omega arith), stamped_up_to clock first (n + 1) ws same (omega arith))
