-- What a number that writes a day is made of, and the date of these parts.
use Rattle.std.proofs.Common.{◌≡◌, ℕ, ◌/◌, ◌%◌, ◌≤◌, ℤ, pos, true, refl, subst, ◌∙◌, arith}
use Rattle.std.specs.Prelude.{nat_le, min}
use Rattle.std.proofs.lemmas.Bool.{and_parts, leb-true}
use Rattle.jiff_core.specs.Calendar.{days_in_month, days_from_civil}
use Rattle.book_rows.specs.Kinds.{is_day}
use Rattle.rule_engine.specs.Days.{day_number}

pub record HasParts (n : ℕ) : Type 0 where
  pub from : 1970 ≤ n / 10_000
  pub to : n / 10_000 ≤ 2199
  pub first : 1 ≤ n / 100 % 100
  pub last : n / 100 % 100 ≤ 12
  pub some : 1 ≤ n % 100
  pub few : n % 100 ≤ days_in_month (pos (n / 10_000)) (n / 100 % 100)

pub parts : (n : ℕ) → is_day n ≡ true → HasParts n
unfolding is_day
parts n h =
    let a = and_parts _ _ h in
    let y = and_parts (nat_le 1970 (n / 10000)) (nat_le (n / 10000) 2199) a.0 in
    let b = and_parts _ _ a.1 in
    let m = and_parts (nat_le 1 (n / 100 % 100)) (nat_le (n / 100 % 100) 12) b.0 in
    let p = and_parts (nat_le 1 (n % 100)) (nat_le (n % 100) (days_in_month (pos (n / 10000)) (n / 100 % 100))) b.1 in
    record {
      from = leb-true 1970 (n / 10000) y.0;
      to = leb-true (n / 10000) 2199 y.1;
      first = leb-true 1 (n / 100 % 100) m.0;
      last = leb-true (n / 100 % 100) 12 m.1;
      some = leb-true 1 (n % 100) p.0;
      few = leb-true (n % 100) (days_in_month (pos (n / 10000)) (n / 100 % 100)) p.1;
    }

-- the date of the parts of a day has the day's number
pub number_of : (n : ℕ) (y z : ℤ) (m d : ℕ) → is_day n ≡ true → z ≡ pos (n / 10000) → y ≡ z → m ≡ n / 100 % 100 → d ≡ min (n % 100) (days_in_month z (n / 100 % 100)) → days_from_civil y m d ≡ day_number n
unfolding day_number
number_of n y z m d h cast same month day =
    let there : d ≡ min (n % 100) (days_in_month (pos (n / 10000)) (n / 100 % 100)) = subst (λ (a : ℤ). d ≡ min (n % 100) (days_in_month a (n / 100 % 100))) cast day in
    let few = (parts n h).few in
    let place : d ≡ n % 100 = omega (arith, there, few) in
    let year : y ≡ pos (n / 10000) = same ∙ cast in
    rw (year, month, place) refl
