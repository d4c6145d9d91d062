-- Dates YYYYMMDD, and the days that they write.
use Rattle.std.proofs.Common.{◌≡◌, ℕ, ◌+◌, ◌-◌, ◌/◌, ◌%◌, ◌<◌, ◌≤◌, Bool, true, false, cond, Some, None, refl, sym, ap, ◌∙◌, subst, arith, pos}
use Rattle.std.specs.Prelude.{nat_le}
use Rattle.std.proofs.lemmas.Bool.{and_parts, and_from, leb-true, le-leb}
use Rattle.std.proofs.lemmas.Int.{ints}
use Rattle.jiff_core.specs.Calendar.{days_in_month}
use Rattle.jiff_core.proofs.SignedLemmas.{signed_arith}
use Rattle.jiff_core.proofs.CalendarLemmas.{day_count-day, days_from_civil-day_count}
use Rattle.book_rows.specs.Kinds.{is_day}
use Rattle.schedules.specs.Months.{month_length, month_start, month_day, month_in, day_in, date_of, written}
use Rattle.schedules.specs.Laws.{IsDateOf}
use Rattle.schedules.proofs.Calendar.{by_lt, length_bounds, start_civil, start_before, start_end, month_day_is, month_within, placed, day_of, month_rises}

-- what a number that writes a day is made of
pub record HasParts (n : ℕ) : Type 0 where
  pub from : 1970 ≤ n / 10_000
  pub to : n / 10_000 ≤ 2199
  pub first : 1 ≤ n / 100 % 100
  pub last : n / 100 % 100 ≤ 12
  pub some : 1 ≤ n % 100
  pub few : n % 100 ≤ month_length (month_in n)

pub parts : (n : ℕ) → is_day n ≡ true → HasParts n
unfolding is_day month_length
parts n h =
    let a = and_parts _ _ h in
    let y = and_parts (nat_le 1970 (n / 10000)) (nat_le (n / 10000) 2199) a.0 in
    let b = and_parts _ _ a.1 in
    let m = and_parts (nat_le 1 (n / 100 % 100)) (nat_le (n / 100 % 100) 12) b.0 in
    let p = and_parts (nat_le 1 (n % 100)) (nat_le (n % 100) (days_in_month (pos (n / 10000)) (n / 100 % 100))) b.1 in
    let from = leb-true 1970 (n / 10000) y.0 in
    let to = leb-true (n / 10000) 2199 y.1 in
    let first = leb-true 1 (n / 100 % 100) m.0 in
    let last = leb-true (n / 100 % 100) 12 m.1 in
    let year : n / 10000 ≡ 1970 + month_in n / 12 = omega arith in
    let month : n / 100 % 100 ≡ month_in n % 12 + 1 = omega arith in
    let few = leb-true (n % 100) (days_in_month (pos (n / 10000)) (n / 100 % 100)) p.1 in
    record {
      from = from;
      to = to;
      first = first;
      last = last;
      some = leb-true 1 (n % 100) p.0;
      few = subst (λ l. n % 100 ≤ l) (ap (λ y. days_in_month (pos y) (n / 100 % 100)) year ∙ ap (days_in_month (pos (1970 + month_in n / 12))) month) few;
    }

pub year_of : (n : ℕ) → is_day n ≡ true → (1970 ≤ n / 10_000) × (n / 10_000 ≤ 2199)
year_of n h = let p = parts n h in (p.from, p.to)

pub month_of : (n : ℕ) → is_day n ≡ true → (1 ≤ n / 100 % 100) × (n / 100 % 100 ≤ 12)
month_of n h = let p = parts n h in (p.first, p.last)

pub in_calendar : (m p : ℕ) → m < 2_760 → 1 ≤ p → p ≤ month_length m → month_start m + p - 1 < 84_006
in_calendar m p h some few = omega (arith, start_before m 2_760 h, start_end)

pub place_of : (n : ℕ) → is_day n ≡ true → (1 ≤ n % 100) × (month_start (month_in n) + n % 100 - 1 < 84_006)
place_of n h = let p = parts n h in (p.some, in_calendar (month_in n) (n % 100) (omega (arith, p.from, p.to, p.first, p.last)) p.some p.few)

none_some : {X : Type 0} (x : X) → None ≡ Some x → ⊥
none_some x h = cc

some_is : {X : Type 0} (x y : X) → Some x ≡ Some y → x ≡ y
some_is x y h = cc

bool_cases : (b : Bool) {P : Type 0} → (b ≡ true → P) → (b ≡ false → P) → P
bool_cases true t f = t refl
bool_cases false t f = f refl

-- a number that writes a day
pub day_so : (n d : ℕ) → day_in n ≡ Some d → (is_day n ≡ true) × (month_start (month_in n) + n % 100 - 1 ≡ d)
unfolding day_in
day_so n d h =
    bool_cases (is_day n)
    (λ t. (t, some_is _ _ (sym (ap (λ b. cond b (Some (month_start (month_in n) + n % 100 - 1)) None) t) ∙ h)))
    (λ f. absurd (none_some d (sym (ap (λ b. cond b (Some (month_start (month_in n) + n % 100 - 1)) None) f) ∙ h)))

pub so_day : (n : ℕ) → is_day n ≡ true → day_in n ≡ Some (month_start (month_in n) + n % 100 - 1)
unfolding day_in
so_day n t = ap (λ b. cond b (Some (month_start (month_in n) + n % 100 - 1)) None) t

-- the month and the place of the day that a date writes
day_parts : (n d : ℕ) → day_in n ≡ Some d → month_day d ≡ record { month = month_in n; place = n % 100 }
day_parts n d h =
    let so = day_so n d h in
    let p = parts n so.0 in
    month_day_is (month_in n) (n % 100) d (omega (arith, p.from, p.to, p.first, p.last)) p.some p.few (omega (arith, so.1, p.some))

pub date_back : (n d : ℕ) → day_in n ≡ Some d → (date_of d ≡ n) × (d < 84_006)
date_back n d h =
    let so = day_so n d h in
    let p = parts n so.0 in
    let there = ap written (day_parts n d h) in
    (there ∙ omega (arith, p.from, p.to, p.first, p.last, p.some), subst (λ x. x < 84_006) so.1 (place_of n so.0).1)

-- what the month and the place of a day are like
pub record IsPlaced (d : ℕ) : Type 0 where
  pub month : (month_day d).month < 2_760
  pub some : 1 ≤ (month_day d).place
  pub few : (month_day d).place ≤ month_length (month_day d).month
  pub short : (month_day d).place ≤ 31
  pub at : month_start (month_day d).month + (month_day d).place ≡ d + 1

pub is_placed : (d : ℕ) → d < 84_006 → IsPlaced d
is_placed d h =
    let inside = month_within d h in
    let last = (day_of d).last inside in
    record { month = inside; some = (day_of d).first; few = last; short = omega (arith, last, length_bounds (month_day d).month); at = placed d inside }

is_date : (d : ℕ) → d < 84_006 → is_day (date_of d) ≡ true
unfolding is_day month_length
is_date d h =
    let is = is_placed d h in
    let m = (month_day d).month in
    let p = (month_day d).place in
    let year : date_of d / 10000 ≡ 1970 + m / 12 = omega (arith, is.month, is.some, is.short) in
    let month : date_of d / 100 % 100 ≡ m % 12 + 1 = omega (arith, is.month, is.some, is.short) in
    let place : date_of d % 100 ≡ p = omega (arith, is.month, is.some, is.short) in
    let few : p ≤ days_in_month (pos (1970 + m / 12)) (m % 12 + 1) = is.few in
    let long : date_of d % 100 ≤ days_in_month (pos (date_of d / 10000)) (date_of d / 100 % 100) = rw (year, month, place) few in
    and_from _ _ (and_from _ _ (le-leb 1970 (date_of d / 10000) (omega (arith, year))) (le-leb (date_of d / 10000) 2199 (omega (arith, year, is.month))))
    (and_from _ _ (and_from _ _ (le-leb 1 (date_of d / 100 % 100) (omega (arith, month))) (le-leb (date_of d / 100 % 100) 12 (omega (arith, month))))
    (and_from _ _ (le-leb 1 (date_of d % 100) (omega (arith, place, is.some))) (le-leb (date_of d % 100) _ long)))

pub date_forth : (d : ℕ) → d < 84_006 → day_in (date_of d) ≡ Some d
date_forth d h =
    let is = is_placed d h in
    let m = (month_day d).month in
    let month : month_in (date_of d) ≡ m = omega (arith, is.month, is.some, is.short) in
    let place : date_of d % 100 ≡ (month_day d).place = omega (arith, is.month, is.some, is.short) in
    let start : month_start (month_in (date_of d)) ≡ month_start m = ap month_start month in
    so_day (date_of d) (is_date d h) ∙ ap Some (omega (arith, start, place, is.at, is.some))

pub date_rises : (d e : ℕ) → d < e → e < 84_006 → date_of d < date_of e
date_rises d e h within =
    let a = is_placed d (omega arith) in
    let b = is_placed e within in
    let rises = month_rises d e (omega arith) within in
    by_lt (month_day d).month (month_day e).month
    (λ lt. omega (arith, a.short, b.some))
    (λ ge.
    let same : (month_day d).month ≡ (month_day e).month = omega (arith, rises) in
    let start : month_start (month_day d).month ≡ month_start (month_day e).month = ap month_start same in
    omega (arith, a.at, b.at))

pub date_from : (d e : ℕ) → d ≤ e → e < 84_006 → date_of d ≤ date_of e
date_from d e h within =
    by_lt d e
    (λ lt. omega (arith, date_rises d e lt within))
    (λ ge. let same : d ≡ e = omega arith in let is : date_of d ≡ date_of e = ap date_of same in omega arith)

pub civil : (d : ℕ) → d < 84_006 → IsDateOf d (month_day d)
unfolding month_length
civil d h =
    let is = is_placed d h in
    let m = (month_day d).month in
    let p = (month_day d).place in
    let few : p ≤ days_in_month (pos (1970 + m / 12)) (m % 12 + 1) = is.few in
    record {
      civil = ((omega (arith, ints, is.month), omega (arith, ints, is.month)), (omega arith, omega arith), (is.some, few));
      number = omega (arith, signed_arith, days_from_civil-day_count (pos (1970 + m / 12)) (m % 12 + 1) p, start_civil m, day_count-day (pos (1970 + m / 12)) (m % 12 + 1) 1 p (omega arith) is.some, is.at);
    }
