-- Amounts as texts: 1 to 13 digits, and optionally a point with one or two digits.
use Rattle.std.specs.Prelude.{◌≡◌, ℕ, ◌+◌, ◌-◌, ◌*◌, ◌/◌, ◌%◌, ◌≤◌, ◌==◌, true, ℤ, pos, unsigned_abs, [], ◌∷◌, ◌++◌, length, Option, if◌then◌else◌}
use Rattle.std.specs.List.{AllByRecursion, fold}
use Rattle.std.specs.Fmt.{decimal}
use Rattle.std.specs.Char.{is_ascii_digit}
use Rattle.finite_sums.specs.Maps.{Text}
use Rattle.book_rows.specs.Amounts.{cents_from}
use Rattle.book_rows.specs.Ids.{two_digits}

-- the cents that a text writes
unfoldable pub cents_of : Text → Option ℕ
cents_of t = cents_from 0 0 t

abbrev pub AreDigits : Text → Type 0
AreDigits t = AllByRecursion (λ b. is_ascii_digit b ≡ true) t

-- the number that digits write behind those of another one
abbrev pub number : ℕ → Text → ℕ
number before digits = fold (λ n b. n * 10 + (b - 48)) before digits

-- one digit behind the point counts tens of cents
abbrev pub hundredths : Text → ℕ
hundredths [] = 0
hundredths (a ∷ []) = (a - 48) * 10
hundredths (a ∷ b ∷ rest) = (a - 48) * 10 + (b - 48)

-- no digits stand behind no point
abbrev pub behind_point : Text → Text
behind_point [] = []
behind_point (a ∷ rest) = 46 ∷ a ∷ rest

pub record IsAmount (t : Text) (z : ℤ) : Type 0 where
  pub whole : Text
  pub cents : Text
  pub spelled : t ≡ whole ++ behind_point cents
  pub digits : AreDigits whole × AreDigits cents
  pub some : 1 ≤ length whole
  pub few : length whole ≤ 13
  pub short : length cents ≤ 2
  pub value : z ≡ pos (number 0 whole * 100 + hundredths cents)

-- how cents are written: two decimals exactly where they are not 0
abbrev pub cents_text : ℕ → Text
cents_text n = decimal (n / 100) ++ (if n % 100 == 0 then [] else 46 ∷ two_digits n)

abbrev pub amount_text : ℤ → Text
amount_text z = cents_text (unsigned_abs z)
