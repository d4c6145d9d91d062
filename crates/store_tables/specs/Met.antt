-- A group whose id is known.
use Rattle.std.specs.Prelude.{◌≡◌, ⊤, ℤ, List, Option, None, Some}
use Rattle.sqlite_value.specs.Value.{owned}
use Rattle.sqlite_value.specs.Order.{Row}
use Rattle.sqlite_value.specs.declared.value.ValueRef.{ValueRef}
use Rattle.sqlite_value.specs.declared.value.Value.TheVariants.{Text as Words}
use Rattle.store_tables.specs.Joined.{Text}
use Rattle.store_tables.specs.Within.{IsIdOf}

-- where a name is kept with an id, the id is that of a group with the name
abbrev pub IsMet : List Row → Option (ValueRef × ℤ) → Type 0
IsMet groups None = ⊤
IsMet groups (Some met) = (name : Text) → owned met.0 ≡ Words name → IsIdOf groups met.1 name
