-- The law on amounts as texts.
use Rattle.std.specs.Prelude.{◌≡◌, ◌↔◌, ℕ, ◌+◌, ◌-◌, ◌*◌, ◌≤◌, Bool, true, ℤ, pos, neg_ℤ, [], ◌∷◌, ◌++◌, length, Some, if◌then◌else◌}
use Rattle.std.specs.List.{AllByRecursion, fold}
use Rattle.finite_sums.specs.Maps.{Text}
use Rattle.rule_engine.specs.Days.{is_digit}
use Rattle.bank_import.specs.Statement.{amount_of_text}

abbrev pub AreDigits : Text → Type 0
AreDigits t = AllByRecursion (λ b. is_digit b ≡ true) t

-- the number that digits write behind those of another one
abbrev pub number : ℕ → Text → ℕ
number before digits = fold (λ n b. n * 10 + (b - 48)) before digits

-- one digit behind the point counts tens of cents
abbrev pub hundredths : Text → ℕ
hundredths [] = 0
hundredths (a ∷ []) = (a - 48) * 10
hundredths (a ∷ b ∷ rest) = (a - 48) * 10 + (b - 48)

-- no digits stand behind no point
abbrev pub behind_point : Text → Text
behind_point [] = []
behind_point (a ∷ rest) = 46 ∷ a ∷ rest

abbrev pub with_sign : Bool → Text → Text
with_sign minus t = if minus then 45 ∷ t else t

abbrev pub signed : Bool → ℕ → ℤ
signed minus n = if minus then neg_ℤ (pos n) else pos n

-- an optional -, 1 to 13 digits, and optionally a point with one or two digits
pub record IsAmount (t : Text) (z : ℤ) : Type 0 where
  pub minus : Bool
  pub whole : Text
  pub cents : Text
  pub spelled : t ≡ with_sign minus (whole ++ behind_point cents)
  pub digits : AreDigits whole × AreDigits cents
  pub some : 1 ≤ length whole
  pub few : length whole ≤ 13
  pub short : length cents ≤ 2
  pub value : z ≡ signed minus (number 0 whole * 100 + hundredths cents)

abbrev pub LawOfAmounts : Type 0
LawOfAmounts = (t : Text) (z : ℤ) → (amount_of_text t ≡ Some z) ↔ IsAmount t z
