-- What a list of fields means: of a singular field the last counts.
use Rattle.std.specs.Prelude.{ℕ, zero, suc, ◌-◌, List, [], ◌∷◌, length, Bool, ◌==◌, nat_lt, Option, Some, None, Result, Ok, Err, if◌then◌else◌}
use Rattle.std.specs.List.{filter_map, last_or}
use Rattle.std.specs.Option.{option_or}
use Rattle.std.specs.Str.Lossy.{utf8_valid_len}
use Rattle.sync_wire.specs.declared.fault.WireFault.{WireFault}
use Rattle.sync_wire.specs.declared.fault.WireFault.TheVariants.{NotUtf8}
use Rattle.sync_wire.specs.declared.layout.Layout.{Layout}
use Rattle.sync_wire.specs.Reading.{answer}
use Rattle.sync_wire.specs.Fields.{Payload, Number, Fixed, Bytes, Tagged, field_at}

-- The fields of a message from the first on. A fault of the spelling is the last step.
abbrev pub then_steps : (List ℕ → List (Result Tagged WireFault)) → Result (Tagged × List ℕ) WireFault → List (Result Tagged WireFault)
then_steps next (Ok x) = Ok x.0 ∷ next x.1
then_steps next (Err f) = Err f ∷ []

unfoldable pub steps_within : Layout → ℕ → ℕ → List ℕ → List (Result Tagged WireFault)
steps_within layout end zero bytes = []
steps_within layout end (suc k) [] = []
steps_within layout end (suc k) (b ∷ bytes) = then_steps (steps_within layout end k) (field_at layout end (b ∷ bytes))

abbrev pub steps : Layout → ℕ → List ℕ → List (Result Tagged WireFault)
steps layout end bytes = steps_within layout end (length bytes) bytes

-- The first fault in reading order: of the spelling, or what check finds in a field.
abbrev pub first_fault : (Tagged → Option WireFault) → List (Result Tagged WireFault) → Option WireFault
first_fault check [] = None
first_fault check (Err f ∷ steps) = Some f
first_fault check (Ok t ∷ steps) = option_or (check t) (first_fault check steps)

abbrev pub fields_in : List (Result Tagged WireFault) → List Tagged
fields_in [] = []
fields_in (Err f ∷ steps) = fields_in steps
fields_in (Ok t ∷ steps) = t ∷ fields_in steps

-- the meaning of a message without a fault
abbrev pub reading : {X : Type 0} → (Tagged → Option WireFault) → (List Tagged → X) → List (Result Tagged WireFault) → Result X WireFault
reading check meaning steps = answer (first_fault check steps) (meaning (fields_in steps))

abbrev pub bytes_of : Payload → Option (ℕ × List ℕ)
bytes_of (Number n) = None
bytes_of Fixed = None
bytes_of (Bytes end bytes) = Some (end, bytes)

abbrev pub number_of : Payload → Option ℕ
number_of (Number n) = Some n
number_of Fixed = None
number_of (Bytes end bytes) = None

-- the bytes that a field of number n holds, with the place where they end
abbrev pub bytes_in : ℕ → Tagged → Option (ℕ × List ℕ)
bytes_in n t = if t.number == n then bytes_of t.payload else None

-- whether a number is not 0, where there is one
abbrev pub is_set : Option ℕ → Option Bool
is_set None = None
is_set (Some n) = Some (nat_lt 0 n)

abbrev pub flag_in : ℕ → Tagged → Option Bool
flag_in n t = if t.number == n then is_set (number_of t.payload) else None

abbrev pub text_in : ℕ → Tagged → Option (List ℕ)
text_in n t = elim (bytes_in n t) [ Some p ↦ Some p.1 | None ↦ None ]

-- b, or else a
abbrev pub or : {A : Type 0} → A → Option A → A
or a None = a
or a (Some b) = b

-- what the last field says in which find finds something, or else a
abbrev pub last_else : {A : Type 0} → A → (Tagged → Option A) → List Tagged → A
last_else a find fields = or a (last_or None (filter_map find fields))

-- the last text of number n, or else an empty one
abbrev pub text : ℕ → List Tagged → List ℕ
text n fields = last_else [] (text_in n) fields

-- a text has to be UTF-8, or the place is told where the first sequence begins that is not
abbrev pub text_fault : ℕ → List ℕ → Option WireFault
text_fault end bytes = if utf8_valid_len bytes == length bytes then None else Some (NotUtf8 (end - (length bytes - utf8_valid_len bytes)))

-- what check finds in bytes that end at a place
abbrev pub fault_within : (ℕ → List ℕ → Option WireFault) → Payload → Option WireFault
fault_within check (Number n) = None
fault_within check Fixed = None
fault_within check (Bytes end bytes) = check end bytes
