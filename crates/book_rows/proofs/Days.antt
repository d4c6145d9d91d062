-- Numbers that write no day.
use Rattle.std.proofs.Common.{◌≡◌, ℕ, ◌<◌, ◌≤◌, ◌/◌, ◌%◌, Bool, true, false, Some, None, refl, sym, ap, ◌∙◌, arith, if◌then◌else◌}
use lib.IntN.{ℤ, pos, negsuc}
use Rattle.std.specs.Prelude.{◌<ℤ◌, ◌&&◌}
use Rattle.std.specs.Int.{is_in_range}
use Rattle.std.proofs.lemmas.Int.{ints}
use Rattle.std.proofs.lemmas.Bool.{and_parts}
use Rattle.jiff_core.specs.Calendar.{days_in_month}
use Rattle.field_values.specs.declared.value.Value.{Value}
use Rattle.field_values.specs.declared.value.Value.TheVariants.{Null, Number, Text, Other}
use Rattle.book_rows.specs.Kinds.{is_day, day_of}
use Rattle.book_rows.specs.Months.{is_month}

past_years : (y : ℕ) → 2200 ≤ y → is_in_range 1970 2199 y ≡ false
past_years y h = grind arith

late : (n : ℕ) → 21_999_999 < n → is_day n ≡ false
unfolding is_day
late n h = let e = past_years (n / 10000) (omega arith) in rw e refl

pub no_day-low : (n : ℤ) → n <ℤ pos 0 → None ≡ day_of (Number n)
no_day-low (pos n) h = absurd (omega (arith, ints))
no_day-low (negsuc n) h = refl

pub no_day-high : (n : ℤ) → pos 21_999_999 <ℤ n → None ≡ day_of (Number n)
no_day-high (pos n) h = let e = late n (omega (arith, ints)) in rw e refl
no_day-high (negsuc n) h = refl

no_some : {P : Type 0} (d : ℕ) → None ≡ Some d → P
no_some d h = absurd (cc)

some_is : (n d : ℕ) → Some n ≡ Some d → n ≡ d
some_is n d h = cc

-- the day of a value is one
pub day_told : (v : Value) (d : ℕ) → day_of v ≡ Some d → is_day d ≡ true
day_told Null d h = no_some d h
day_told (Number (pos n)) d h = by (is_day n) refl h
  where
    by : (b : Bool) → is_day n ≡ b → (if b then Some n else None) ≡ Some d → is_day d ≡ true
    by true e k = ap is_day (sym (some_is n d k)) ∙ e
    by false e k = no_some d k
day_told (Number (negsuc n)) d h = no_some d h
day_told (Text t) d h = no_some d h
day_told (Other t) d h = no_some d h

-- the month of a day is one
pub day_month : (d : ℕ) → is_day d ≡ true → is_month (d / 100) ≡ true
unfolding is_day
day_month d h =
    let p = and_parts (is_in_range 1970 2199 (d / 10000)) (is_in_range 1 12 (d / 100 % 100) && is_in_range 1 (days_in_month (pos (d / 10000)) (d / 100 % 100)) (d % 100)) h in
    let q = and_parts (is_in_range 1 12 (d / 100 % 100)) (is_in_range 1 (days_in_month (pos (d / 10000)) (d / 100 % 100)) (d % 100)) p.1 in
    let year : d / 100 / 100 ≡ d / 10000 = omega arith in
    ap (λ y. is_in_range 1970 2199 y && is_in_range 1 12 (d / 100 % 100)) year ∙ ap (λ b. b && is_in_range 1 12 (d / 100 % 100)) p.0 ∙ q.0
