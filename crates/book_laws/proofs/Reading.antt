-- How values are read, and which numbers write days and months.
use Rattle.std.proofs.Common.{◌≡◌, ℕ, ◌+◌, ◌*◌, ◌/◌, ◌%◌, ◌≤◌, Bool, true, false, cond, Some, None, refl, sym, ap, ◌∙◌, arith}
use lib.IntN.{ℤ, pos, negsuc}
use Rattle.std.specs.Prelude.{nat_le}
use Rattle.std.specs.Int.{is_in_range}
use Rattle.std.proofs.lemmas.Bool.{and_parts, and_from, leb-true, le-leb}
use Rattle.std.proofs.lemmas.Int.{ints}
use Rattle.std.proofs.lemmas.Bool.Decides.{Decides-int_eq}
use Rattle.jiff_core.specs.Calendar.{days_in_month}
use Rattle.field_values.specs.declared.value.Value.{Value}
use Rattle.field_values.specs.declared.value.Value.TheVariants.{Null, Number, Text as IsText, Other}
use Rattle.finite_sums.specs.Maps.{Text}
use Rattle.book_rows.specs.Kinds.{flag_of, int_of, text_of, day_of, is_day}
use Rattle.book_rows.specs.Months.{is_month}
use Rattle.book_laws.specs.Books.{WritesDay, WritesMonth, ValuesAreRead}

-- ---- kinds

flag_is : (v : Value) → flag_of v ≡ true → v ≡ Number (pos 1)
flag_is Null h = cc
flag_is (Number n) h = ap Number ((Decides-int_eq n (pos 1)).0 h)
flag_is (IsText t) h = cc
flag_is (Other t) h = cc

no_number : (v : Value) → ((n : ℤ) → v ≡ Number n → ⊥) → int_of v ≡ pos 0
no_number Null h = refl
no_number (Number n) h = absurd (h n refl)
no_number (IsText t) h = refl
no_number (Other t) h = refl

text_is : (v : Value) (t : Text) → text_of v ≡ Some t → v ≡ IsText t
text_is Null t h = cc
text_is (Number n) t h = cc
text_is (IsText s) t h = cc
text_is (Other s) t h = cc

day_cases : (n m : ℕ) (b : Bool) → is_day n ≡ b → cond b (Some n) None ≡ Some m → (Number (pos n) ≡ Number (pos m)) × (is_day m ≡ true)
day_cases n m true e h = let same : n ≡ m = cc in (ap (λ k. Number (pos k)) same, sym (ap is_day same) ∙ e)
day_cases n m false e h = cc

day_is : (v : Value) (m : ℕ) → day_of v ≡ Some m → (v ≡ Number (pos m)) × (is_day m ≡ true)
day_is Null m h = cc
day_is (Number (pos n)) m h = day_cases n m (is_day n) refl h
day_is (Number (negsuc n)) m h = cc
day_is (IsText t) m h = cc
day_is (Other t) m h = cc

is_the_day : (v : Value) (m : ℕ) → v ≡ Number (pos m) → is_day m ≡ true → day_of v ≡ Some m
is_the_day v m e t = ap day_of e ∙ ap (λ b. cond b (Some m) None) t

-- ---- days

pub writes_day : (n : ℕ) → is_day n ≡ true → WritesDay n
unfolding is_day
writes_day n h =
    let a = and_parts _ _ h in
    let y = and_parts (nat_le 1970 (n / 10000)) (nat_le (n / 10000) 2199) a.0 in
    let b = and_parts _ _ a.1 in
    let m = and_parts (nat_le 1 (n / 100 % 100)) (nat_le (n / 100 % 100) 12) b.0 in
    let p = and_parts (nat_le 1 (n % 100)) (nat_le (n % 100) (days_in_month (pos (n / 10000)) (n / 100 % 100))) b.1 in
    let from = leb-true 1970 (n / 10000) y.0 in
    let to = leb-true (n / 10000) 2199 y.1 in
    record {
      year = n / 10000;
      month = n / 100 % 100;
      place = n % 100;
      from = from;
      to = to;
      civil = ((omega (arith, ints), omega (arith, ints)), ((leb-true 1 (n / 100 % 100) m.0), leb-true (n / 100 % 100) 12 m.1), (leb-true 1 (n % 100) p.0, leb-true (n % 100) (days_in_month (pos (n / 10000)) (n / 100 % 100)) p.1));
      written = omega arith;
    }

-- a number of parts that are small enough has these parts
year_back : (n y m p : ℕ) → n ≡ y * 10_000 + m * 100 + p → m ≤ 12 → p ≤ 31 → n / 10_000 ≡ y
year_back n y m p e h k = omega arith

month_back : (n y m p : ℕ) → n ≡ y * 10_000 + m * 100 + p → m ≤ 12 → p ≤ 31 → n / 100 % 100 ≡ m
month_back n y m p e h k = omega arith

place_back : (n y m p : ℕ) → n ≡ y * 10_000 + m * 100 + p → m ≤ 12 → p ≤ 31 → n % 100 ≡ p
place_back n y m p e h k = omega arith

pub most_days : (y : ℤ) (m : ℕ) → days_in_month y m ≤ 31
most_days y m = grind arith

pub day_written : (n : ℕ) → WritesDay n → is_day n ≡ true
unfolding is_day
day_written n w =
    let month = w.civil.1.1 in
    let place : w.place ≤ 31 = omega (arith, most_days (pos w.year) w.month, w.civil.2.1) in
    let y = year_back n w.year w.month w.place w.written month place in
    let m = month_back n w.year w.month w.place w.written month place in
    let p = place_back n w.year w.month w.place w.written month place in
    let days : days_in_month (pos (n / 10_000)) (n / 100 % 100) ≡ days_in_month (pos w.year) w.month = ap (λ a. days_in_month (pos a) (n / 100 % 100)) y ∙ ap (days_in_month (pos w.year)) m in
    and_from _ _ (and_from _ _ (le-leb 1970 (n / 10_000) (omega (arith, w.from))) (le-leb (n / 10_000) 2199 (omega (arith, w.to))))
    (and_from _ _ (and_from _ _ (le-leb 1 (n / 100 % 100) (omega (arith, w.civil.1.0))) (le-leb (n / 100 % 100) 12 (omega (arith, w.civil.1.1))))
    (and_from _ _ (le-leb 1 (n % 100) (omega (arith, w.civil.2.0))) (le-leb (n % 100) (days_in_month (pos (n / 10_000)) (n / 100 % 100)) (omega (arith, w.civil.2.1, days)))))

pub values_read : ValuesAreRead
values_read = record {
  flag = λ v. (flag_is v, λ e. ap flag_of e);
  number = λ n. refl;
  no_number = no_number;
  text = λ v t. (text_is v t, λ e. ap text_of e);
  day = λ v n. (day_is v n, λ h. is_the_day v n h.0 h.1);
  calendar = λ n. (writes_day n, day_written n);
}

-- ---- months

pub writes_month : (n : ℕ) → is_month n ≡ true → WritesMonth n
writes_month n h =
    let a = and_parts (is_in_range 1970 2199 (n / 100)) (is_in_range 1 12 (n % 100)) h in
    let y = and_parts (nat_le 1970 (n / 100)) (nat_le (n / 100) 2199) a.0 in
    let m = and_parts (nat_le 1 (n % 100)) (nat_le (n % 100) 12) a.1 in
    record {
      year = n / 100;
      month = n % 100;
      from = leb-true 1970 (n / 100) y.0;
      to = leb-true (n / 100) 2199 y.1;
      first = leb-true 1 (n % 100) m.0;
      last = leb-true (n % 100) 12 m.1;
      written = omega arith;
    }

pub month_written : (n : ℕ) → WritesMonth n → is_month n ≡ true
month_written n w =
    and_from _ _ (and_from _ _ (le-leb 1970 (n / 100) (omega (arith, w.written, w.from, w.last))) (le-leb (n / 100) 2199 (omega (arith, w.written, w.to, w.last))))
    (and_from _ _ (le-leb 1 (n % 100) (omega (arith, w.written, w.first, w.last))) (le-leb (n % 100) 12 (omega (arith, w.written, w.last))))
