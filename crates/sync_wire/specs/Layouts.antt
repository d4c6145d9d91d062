-- Which fields a message knows, and of which wire type each is.
use Rattle.std.specs.Prelude.{ℕ, Bool, false, ◌==◌, ◌||◌, nat_lt, Option, Some, None, if◌then◌else◌}
use Rattle.sync_wire.specs.declared.layout.Layout.{Layout}
use Rattle.sync_wire.specs.declared.layout.Layout.TheVariants.{Request, Response, Envelope, Content}

-- the wire type of a known field: 0 is a number, 2 is bytes behind their length
abbrev pub wanted_type : Layout → ℕ → Option ℕ
wanted_type Request n = if n == 1 || n == 2 || n == 3 || n == 5 || n == 6 then Some 2 else None
wanted_type Response n = if n == 1 || n == 2 then Some 2 else None
wanted_type Envelope n = if n == 2 then Some 0 else if n == 1 || n == 3 then Some 2 else None
wanted_type Content n = if n == 1 || n == 2 || n == 3 || n == 4 then Some 2 else None

-- types 0, 1, 2 and 5 can be passed over: a number, eight bytes, bytes behind their length, four bytes
abbrev pub is_type : Option ℕ → ℕ → Bool
is_type (Some wanted) kind = kind == wanted
is_type None kind = nat_lt kind 3 || kind == 5

-- a known field has its own type, any other has one that can be passed over; no field has the number 0
abbrev pub allows : Layout → ℕ → ℕ → Bool
allows layout number kind = if number == 0 then false else is_type (wanted_type layout number) kind
