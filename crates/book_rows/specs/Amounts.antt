-- Amounts of money as texts: 1 to 13 digits, and optionally a point with one or two digits.
use Rattle.std.specs.Prelude.{ℕ, ◌+◌, ◌-◌, ◌*◌, nat_lt, ◌==◌, ◌&&◌, [], ◌∷◌, Option, Some, None, if◌then◌else◌}
use Rattle.std.specs.Char.{is_ascii_digit}
use Rattle.finite_sums.specs.Maps.{Text}

-- the cents of a whole number and what follows it
abbrev pub fraction : ℕ → Text → Option ℕ
fraction whole (p ∷ a ∷ []) = if (p == 46) && is_ascii_digit a then Some (whole * 100 + (a - 48) * 10) else None
fraction whole (p ∷ a ∷ b ∷ []) = if (p == 46) && is_ascii_digit a && is_ascii_digit b then Some (whole * 100 + (a - 48) * 10 + (b - 48)) else None
fraction whole _ = None

-- the cents of a text, of which so many digits were read, that make this whole number
abbrev pub cents_from : ℕ → ℕ → Text → Option ℕ
cents_from whole digits [] = if digits == 0 then None else Some (whole * 100)
cents_from whole digits (b ∷ bs) =
    if is_ascii_digit b then (if nat_lt digits 13 then cents_from (whole * 10 + (b - 48)) (digits + 1) bs else None)
    else (if digits == 0 then None else fraction whole (b ∷ bs))
