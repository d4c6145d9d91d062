-- The day of a number below 73,000 is the date with that many days before it, and no other date is.
use Rattle.std.proofs.Common.{◌≡◌, ℕ, zero, suc, ◌+◌, ◌-◌, ◌*◌, ◌/◌, ◌<◌, ◌≤◌, ℤ, pos, ◌≤ℤ◌, ◌+ℤ◌, arith, refl, true, nat_lt, subst, sym, ◌∙◌, ap, inl, inr, None, Some, if◌then◌else◌, unsigned_abs}
use Rattle.std.proofs.lemmas.Bool.{cases_lt, cond_both, ltb-true, ltb-false, and_from, le-leb, cond-true}
use Rattle.std.proofs.lemmas.Int.{ints, by_lt_z}
use Rattle.jiff_core.specs.Calendar.{days_in_year, days_in_month, day_count, days_from_civil, IsCivilDate}
use Rattle.jiff_core.specs.Date.{epoch_day}
use Rattle.jiff_core.specs.declared.civil.date.Date.{Date}
use Rattle.jiff_core.proofs.SignedLemmas.{signed_arith}
use Rattle.jiff_core.proofs.CalendarLemmas.{day_count-day, day_count-next_month, day_count-next_year, day_count-last_of_year, day_count-day_of_year, day_count-later_year, day_count-lt_year, day_count-lt_month, day_count-epoch, days_from_civil-day_count, days_in_year_bounds}
use Rattle.hybrid_clock.specs.Calendar.{Day, day_from_month, day_from_year, day_of}
use Rattle.hybrid_clock.specs.Laws.{DatesAreCivil}
use Rattle.hybrid_clock.specs.Reading.{is_date}

-- a date of its year, with k days before it
pub record IsAt (k : ℕ) (d : Day) : Type 0 where
  pub first_month : 1 ≤ d.month
  pub last_month : d.month ≤ 12
  pub first_day : 1 ≤ d.day
  pub last_day : d.day ≤ days_in_month (pos d.year) d.month
  pub count : day_count (pos d.year) d.month d.day ≡ k

record IsIn (y k : ℕ) (d : Day) : Type 0 where
  year : d.year ≡ y
  at : IsAt k d

pub record IsBy (first last k : ℕ) (d : Day) : Type 0 where
  pub from : first ≤ d.year
  pub to : d.year ≤ last
  pub at : IsAt k d

months : (more y m n : ℕ) → m + more ≡ 12 → 1 ≤ m → day_count (pos y) m 1 + n < day_count (pos y) 1 1 + days_in_year (pos y) → IsIn y (day_count (pos y) m 1 + n) (day_from_month more y m n)
unfolding day_from_month
months zero y m n e low high =
    let last : m ≡ 12 = omega arith in
    let here = day_count-last_of_year (pos y) in
    let count = day_count-day (pos y) m 1 (n + 1) (omega arith) (omega arith) in
    let december = day_count-day (pos y) 12 1 31 (omega arith) (omega arith) in
    record {
      year = refl;
      at = record {
        first_month = low;
        last_month = omega arith;
        first_day = omega arith;
        last_day = rw last (omega (arith, here, december, rw last at high));
        count = omega (arith, count);
      };
    }
months (suc more) y m n e low high =
    cond_both (nat_lt n (days_in_month (pos y) m)) _ _ (λ d. IsIn y (day_count (pos y) m 1 + n) d)
    (λ t. let within = ltb-true n (days_in_month (pos y) m) t in
    record {
      year = refl;
      at = record {
        first_month = low;
        last_month = omega arith;
        first_day = omega arith;
        last_day = omega (arith, within);
        count = omega (arith, day_count-day (pos y) m 1 (n + 1) (omega arith) (omega arith));
      };
    })
    (λ f. let beyond = ltb-false n (days_in_month (pos y) m) f in
    let next = day_count-next_month (pos y) m low in
    let same : day_count (pos y) (m + 1) 1 + (n - days_in_month (pos y) m) ≡ day_count (pos y) m 1 + n = omega (arith, beyond, next) in
    let P : ℕ → Type 0 = λ k. IsIn y k (day_from_month more y (m + 1) (n - days_in_month (pos y) m)) in
    subst P same (months more y (m + 1) (n - days_in_month (pos y) m) (omega arith) (omega arith) (omega (arith, same))))

years : (more y n : ℕ) → n < 365 * more → IsBy y (y + more) (day_count (pos y) 1 1 + n) (day_from_year more y n)
unfolding day_from_year
years zero y n h = absurd (omega arith)
years (suc more) y n h =
    cond_both (nat_lt n (days_in_year (pos y))) _ _ (λ d. IsBy y (y + suc more) (day_count (pos y) 1 1 + n) d)
    (λ t. let within = ltb-true n (days_in_year (pos y)) t in
    let is = months 11 y 1 n (omega arith) (omega arith) (omega (arith, within)) in
    record { from = omega (arith, is.year); to = omega (arith, is.year); at = is.at })
    (λ f. let beyond = ltb-false n (days_in_year (pos y)) f in
    let next = day_count-next_year (pos y) (pos (y + 1)) (omega (arith, ints)) (omega (arith, ints)) in
    let same : day_count (pos (y + 1)) 1 1 + (n - days_in_year (pos y)) ≡ day_count (pos y) 1 1 + n = omega (arith, beyond, next) in
    let long = days_in_year_bounds (pos y) in
    let r = years more (y + 1) (n - days_in_year (pos y)) (omega (arith, beyond, long.1)) in
    record {
      from = omega (arith, r.from);
      to = omega (arith, r.to);
      at = let P : ℕ → Type 0 = λ k. IsAt k (day_from_year more (y + 1) (n - days_in_year (pos y))) in subst P same r.at;
    })

-- the date that is n days after 1 January 1970
pub day_is : (n : ℕ) → n < 73_000 → IsBy 1970 2170 (4_371_953 + n) (day_of n)
day_is n h = let P : ℕ → Type 0 = λ k. IsBy 1970 2170 (k + n) (day_of n) in subst P day_count-epoch (years 200 1970 n (omega arith))

pub civil_date : (n : ℕ) → n < 73_000 → IsCivilDate (pos (day_of n).year) (day_of n).month (day_of n).day
civil_date n h =
    let is = day_is n h in
    let at = is.at in
    ((omega (arith, ints), omega (arith, ints, is.to)), (at.first_month, at.last_month), (at.first_day, at.last_day))

pub number : (n : ℕ) → n < 73_000 → days_from_civil (pos (day_of n).year) (day_of n).month (day_of n).day ≡ pos n
number n h =
    let count = (day_is n h).at.count in
    omega (arith, signed_arith, count, days_from_civil-day_count (pos (day_of n).year) (day_of n).month (day_of n).day)

-- the day of a timestamp is a date of the civil calendar
pub dates_are_civil : DatesAreCivil
dates_are_civil s is =
    let early : s.millis / 86_400_000 < 73_000 = omega (arith, is.within) in
    record { calendar = civil_date (s.millis / 86_400_000) early; number = number (s.millis / 86_400_000) early }

by_lt : {P : Type 0} (a b : ℕ) → (a < b → P) → (b ≤ a → P) → P
by_lt a b f g = elim (cases_lt a b) [ inl h ↦ f h | inr h ↦ g h ]

-- a count determines the month and the day of a year
same_in_year : (y : ℤ) (m d m2 d2 : ℕ) → IsCivilDate y m d → IsCivilDate y m2 d2 → day_count y m d ≡ day_count y m2 d2 → (m ≡ m2) × (d ≡ d2)
same_in_year y m d m2 d2 h k e =
    let month : m ≡ m2 = by_lt m m2
    (λ lt. absurd (omega (arith, day_count-lt_month y m d m2 d2 h k.2.0 lt)))
    (λ le. by_lt m2 m
    (λ lt. absurd (omega (arith, day_count-lt_month y m2 d2 m d k h.2.0 lt)))
    (λ ge. omega arith)) in
    let same : day_count y m2 d ≡ day_count y m2 d2 = rw month at e in
    (month, omega (arith, same, day_count-day y m2 d d2 h.2.0 k.2.0))

-- so no other date has the number
pub same_day : (y : ℤ) (m d n : ℕ) → n < 73_000 → IsCivilDate y m d → days_from_civil y m d ≡ pos n → (y ≡ pos (day_of n).year) × (m ≡ (day_of n).month) × (d ≡ (day_of n).day)
same_day y m d n h date e =
    let count : day_count y m d ≡ 4_371_953 + n = omega (arith, signed_arith, e, days_from_civil-day_count y m d) in
    let at = (day_is n h).at in
    let there = civil_date n h in
    let year : y ≡ pos (day_of n).year = by_lt_z y (pos (day_of n).year)
    (λ lt. absurd (omega (arith, count, at.count, day_count-lt_year y m d (pos (day_of n).year) (day_of n).month (day_of n).day date at.first_day lt)))
    (λ le. by_lt_z (pos (day_of n).year) y
    (λ lt. absurd (omega (arith, count, at.count, day_count-lt_year (pos (day_of n).year) (day_of n).month (day_of n).day y m d there date.2.0 lt)))
    (λ ge. omega (arith, ints))) in
    let P : ℤ → Type 0 = λ z. IsCivilDate z m d × (day_count z m d ≡ 4_371_953 + n) in
    let moved : P (pos (day_of n).year) = subst P year (date, count) in
    let rest = same_in_year (pos (day_of n).year) m d (day_of n).month (day_of n).day moved.0 there (moved.1 ∙ sym at.count) in
    (year, rest.0, rest.1)

-- a date of the library by its day number
pub date_day : (date : Date) (n : ℕ) → n < 29_894 → epoch_day date +ℤ pos 4_371_587 ≡ pos (n + 4_371_587) → (date.year ≡ pos (day_of n).year) × (date.month ≡ (day_of n).month) × (date.day ≡ (day_of n).day)
date_day date n h e =
    let number : epoch_day date ≡ pos n = omega (arith, signed_arith, e) in
    same_day date.year date.month date.day n (omega arith) (date.year_in, date.month_in, date.day_in) number

-- dates from 1970 on have numbers that are not negative
count_from_1970 : (y : ℤ) (m d : ℕ) → 1 ≤ d → pos 1970 ≤ℤ y → 4_371_953 ≤ day_count y m d
count_from_1970 y m d first from = by_lt_z (pos 1970) y
    (λ later. omega (arith, day_count-later_year (pos 1970) y (omega (arith, signed_arith)) later, day_count-epoch, day_count-day_of_year y m d first))
    (λ same. let e : y ≡ pos 1970 = omega (arith, signed_arith) in
    rw e (omega (arith, day_count-epoch, day_count-day_of_year (pos 1970) m d first)))

pub days_from_1970 : (y : ℤ) (m d : ℕ) → 1 ≤ d → pos 1970 ≤ℤ y → pos 0 ≤ℤ days_from_civil y m d
days_from_1970 y m d first from = omega (arith, signed_arith, days_from_civil-day_count y m d, count_from_1970 y m d first from)

-- what the calendar has, as the test says it
pub is_date-true : (y m d : ℕ) → 1970 ≤ y → 1 ≤ m → m ≤ 12 → 1 ≤ d → d ≤ days_in_month (pos y) m → is_date y m d ≡ true
is_date-true y m d from first last one day =
    and_from _ _ (le-leb 1970 y from) (and_from _ _ (and_from _ _ (le-leb 1 m first) (le-leb m 12 last)) (and_from _ _ (le-leb 1 d one) (le-leb d (days_in_month (pos y) m) day)))

-- the number of a date of the library
pub number_is : (date : Date) (y m d n : ℕ) → date.year ≡ pos y → date.month ≡ m → date.day ≡ d → epoch_day date ≡ pos n → 1970 ≤ y → Some n ≡ (if is_date y m d then Some (unsigned_abs (days_from_civil (pos y) m d)) else None)
number_is date y m d n year month day e from =
    let last : date.day ≤ days_in_month date.year date.month = date.day_in.1 in
    let there : d ≤ days_in_month (pos y) m = (let P : ℤ → ℕ → ℕ → Type 0 = λ a b k. k ≤ days_in_month a b in
    subst (λ (k : ℕ). P (pos y) m k) day (subst (λ (b : ℕ). P (pos y) b date.day) month (subst (λ (a : ℤ). P a date.month date.day) year last))) in
    let is = is_date-true y m d from (omega (arith, month, date.month_in.0)) (omega (arith, month, date.month_in.1)) (omega (arith, day, date.day_in.0)) there in
    let same : days_from_civil (pos y) m d ≡ pos n = (let Q : ℤ → ℕ → ℕ → Type 0 = λ a b k. days_from_civil a b k ≡ pos n in
    subst (λ (k : ℕ). Q (pos y) m k) day (subst (λ (b : ℕ). Q (pos y) b date.day) month (subst (λ (a : ℤ). Q a date.month date.day) year e))) in
    ap (λ z. Some (unsigned_abs z)) (sym same) ∙ sym (cond-true (is_date y m d) (Some (unsigned_abs (days_from_civil (pos y) m d))) None is)
