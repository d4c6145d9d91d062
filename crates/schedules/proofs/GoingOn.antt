-- Months and years without an end go on.
use Rattle.std.proofs.Common.{◌≡◌, ◌≢◌, ℕ, ◌+◌, ◌-◌, ◌*◌, ◌/◌, ◌%◌, ◌<◌, ◌≤◌, Bool, true, false, ◌==◌, List, [], length, inl, inr, Some, pos, refl, sym, ap, ◌∙◌, subst, arith}
use Rattle.std.specs.List.{Contains}
use Rattle.std.specs.Int.{div_ceil}
use Rattle.std.proofs.lemmas.Bool.{eq-eqb, eqb-true}
use Rattle.std.proofs.lemmas.List.Folds.{list_any_at}
use Rattle.jiff_core.specs.Calendar.{days_in_month}
use Rattle.schedules.specs.declared.month.MonthDay.{MonthDay}
use Rattle.schedules.specs.declared.recurrence.Frequency.TheVariants.{Monthly, Yearly}
use Rattle.schedules.specs.declared.recurrence.Pattern.{Pattern}
use Rattle.schedules.specs.declared.recurrence.Pattern.TheVariants.{Place, Last}
use Rattle.schedules.specs.declared.recurrence.Ending.TheVariants.{Never}
use Rattle.schedules.specs.Months.{month_length, month_start, month_day}
use Rattle.schedules.specs.Days.{Said, Places, is_multiple, is_month_step, is_raw, falls_on, is_at, moved, next_from}
use Rattle.schedules.specs.Laws.{Occurs, StepsByMonths, HasMeantDay, MonthsHaveDays, MonthsGoOn}
use Rattle.schedules.proofs.Calendar.{length_bounds, start_next, start_before, start_end, month_within, placed, day_of, month_rises}
use Rattle.schedules.proofs.Falling.{at_place, falls_by_none, falls_by_some, is_step_of}
use Rattle.schedules.proofs.Frequencies.{year_is}
use Rattle.schedules.proofs.Moving.{moved_near, moved_low}
use Rattle.schedules.proofs.Promises.{raw_by, never_within, some_next}
use Rattle.schedules.proofs.Steps.{as_product, ceil_times, multiple}

same_start : (r : Said) (step : ℕ) (days : Places) → StepsByMonths r step days → days.start ≡ r.start
same_start r step days (inl h) = ap (λ (p : Places). p.start) h.2
same_start r step days (inr h) = ap (λ (p : Places). p.start) h.2

some_step : (r : Said) (step : ℕ) (days : Places) → StepsByMonths r step days → 1 ≤ r.interval → 1 ≤ step
some_step r step days (inl h) one = omega (arith, h.1)
some_step r step days (inr h) one = omega (arith, h.1)

months_raw : (r : Said) (step d : ℕ) (days : Places) → StepsByMonths r step days → 1 ≤ r.interval → is_month_step step days d ≡ true → is_raw r d ≡ true
months_raw r step d days (inl h) one t =
    raw_by r Monthly d h.0 (subst (λ p. is_month_step r.interval p d ≡ true) h.2 (subst (λ x. is_month_step x days d ≡ true) h.1 t))
months_raw r step d days (inr h) one t =
    raw_by r Yearly d h.0 (sym (year_is r.interval r.start d one) ∙ subst (λ p. is_month_step (12 * r.interval) p d ≡ true) h.2 (subst (λ x. is_month_step x days d ≡ true) h.1 t))

-- a day of a month whose turn it is
turn : (step m : ℕ) (days : Places) → m < 2_760 → (day : HasMeantDay days m) → days.start ≤ month_start m + (day.place - 1) → is_multiple step (m - (month_day days.start).month) ≡ true
    → is_month_step step days (month_start m + (day.place - 1)) ≡ true
turn step m days within day late whole =
    let d = month_start m + (day.place - 1) in
    let short : day.place - 1 < month_length m = omega (arith, day.first, day.last) in
    let at = at_place m (day.place - 1) within short in
    let month : (month_day d).month ≡ m = ap (λ (x : MonthDay). x.month) at in
    let place : day.place - 1 + 1 ≡ day.place = omega (arith, day.first) in
    is_step_of step days d (record {
      within = omega (arith, start_before m 2_760 within, start_end, short);
      from = late;
      whole = ap (λ x. is_multiple step (x - (month_day days.start).month)) month ∙ whole;
      falls = ap (falls_on days) at ∙ (ap (λ p. falls_on days (record { month = m; place = p })) place ∙ day.meant);
    })

months_on : (r : Said) (from step : ℕ) (days : Places) → StepsByMonths r step days → 1 ≤ r.interval → r.ending ≡ Never → r.start ≤ from → from < 84_006
    → (month_day from).month + step + 2 ≤ 2_760 → MonthsHaveDays step days
    → (n : ℕ) × (next_from r from ≡ Some n) × (n < month_start ((month_day from).month + step + 2) + 2)
months_on r from step days by one never begin within far have =
    let begins : days.start ≤ from = omega (arith, same_start r step days by, begin) in
    let some = some_step r step days by one in
    let first = (month_day days.start).month in
    let here = (month_day from).month in
    let rises = month_rises days.start from begins within in
    let k = div_ceil (here + 2 - first) step in
    let near = ceil_times (here + 2 - first) step (omega (arith, some)) in
    let m = first + k * step in
    let low : here + 2 ≤ m = omega (arith, near.0, rises) in
    let high : m < here + 2 + step = omega (arith, near.1, rises) in
    let inside : m < 2_760 = omega (arith, high, far) in
    let gone : m - first ≡ k * step = omega arith in
    let whole : is_multiple step (m - first) ≡ true = ap (is_multiple step) gone ∙ multiple step k some in
    let day = have m inside (omega arith) whole in
    let d = month_start m + (day.place - 1) in
    let ends : from < month_start (here + 1) = omega (arith, placed from (month_within from within), (day_of from).last (month_within from within), start_next here) in
    let after : from + 28 < month_start m = omega (arith, ends, start_before (here + 1) m (omega (arith, low)), length_bounds (here + 1)) in
    let before : d < month_start (here + step + 2) = omega (arith, start_before m (here + step + 2) (omega (arith, high)), day.first, day.last) in
    let raw = turn step m days inside day (omega (arith, begins, after)) whole in
    let o : Occurs r (moved r.weekends d) = record { day = d; kept = never_within r d never (months_raw r step d days by one raw); moves = refl } in
    some_next r from (moved r.weekends d) (month_start (here + step + 2) + 2) o (omega (arith, moved_low r.weekends d, after)) (omega (arith, moved_near r.weekends d, before))

-- ---- which days are meant

long : (ps : List Pattern) (p : Pattern) → Contains ps p → 0 < length ps
long ps p h = omega (arith, h.1)

named : (days : Places) (m : MonthDay) (p : Pattern) → Contains days.patterns p → is_at m p ≡ true → falls_on days m ≡ true
unfolding falls_on
named days m p h t = falls_by_some days.patterns (month_day days.start).place m (long days.patterns p h) ∙ list_any_at (is_at m) days.patterns h.0 p h.1 (ap (is_at m) h.2 ∙ t)

begun : (days : Places) (m : MonthDay) → days.patterns ≡ [] → m.place ≡ (month_day days.start).place → falls_on days m ≡ true
unfolding falls_on
begun days m none same = falls_by_none days.patterns (month_day days.start).place m (ap length none) ∙ eq-eqb m.place (month_day days.start).place same

lasts : (step : ℕ) (days : Places) → Contains days.patterns Last → MonthsHaveDays step days
lasts step days h month within from turn = record {
  place = month_length month;
  first = omega (arith, length_bounds month);
  last = omega arith;
  meant = named days (record { month = month; place = month_length month }) Last h (eq-eqb (month_length month) (month_length month) refl);
}

early_days : (step place : ℕ) (days : Places) → 1 ≤ place → place ≤ 28 → Contains days.patterns (Place place) → MonthsHaveDays step days
early_days step place days one few h month within from turn = record {
  place = place;
  first = one;
  last = omega (arith, few, length_bounds month);
  meant = named days (record { month = month; place = place }) (Place place) h (eq-eqb place place refl);
}

starts : (step : ℕ) (days : Places) → days.patterns ≡ [] → (month_day days.start).place ≤ 28 → MonthsHaveDays step days
starts step days none few month within from turn = record {
  place = (month_day days.start).place;
  first = (day_of days.start).first;
  last = omega (arith, few, length_bounds month);
  meant = begun days (record { month = month; place = (month_day days.start).place }) none refl;
}

-- a month that is no February is as long in each year
same_length : (y z : ℕ) (m : ℕ) → (m == 2) ≡ false → days_in_month (pos y) m ≡ days_in_month (pos z) m
same_length y z m f = rw f refl

other_length : (m n : ℕ) → m % 12 ≡ n % 12 → m % 12 ≢ 1 → month_length m ≡ month_length n
unfolding month_length
other_length m n same other =
    let two : (m % 12 + 1 == 2) ≡ false = not_two (m % 12) other in
    same_length (1970 + m / 12) (1970 + n / 12) (m % 12 + 1) two ∙ ap (λ x. days_in_month (pos (1970 + n / 12)) (x + 1)) same
  where
    bool_cases : (b : Bool) {P : Type 0} → (b ≡ true → P) → (b ≡ false → P) → P
    bool_cases true t f = t refl
    bool_cases false t f = f refl

    not_two : (x : ℕ) → x ≢ 1 → (x + 1 == 2) ≡ false
    not_two x h = bool_cases (x + 1 == 2) (λ t. absurd (h (omega (arith, eqb-true (x + 1) 2 t)))) (λ f. f)

in_years : (step : ℕ) (days : Places) → days.patterns ≡ [] → days.start < 84_006 → (month_day days.start).month % 12 ≢ 1 → 1 ≤ step → MonthsHaveDays (12 * step) days
in_years step days none inside other one month within from turn =
    let first = (month_day days.start).month in
    let k = (month - first) / (12 * step) in
    let product = as_product (12 * step) (month - first) turn in
    let whole : 12 * (k * step) ≡ month - first = omega (arith, product) in
    let same : first % 12 ≡ month % 12 = omega (arith, whole, from) in
    let length = other_length first month same other in
    record {
      place = (month_day days.start).place;
      first = (day_of days.start).first;
      last = omega (arith, length, (day_of days.start).last (month_within days.start inside));
      meant = begun days (record { month = month; place = (month_day days.start).place }) none refl;
    }

pub months_go_on : MonthsGoOn
months_go_on = record { goes_on = months_on; last = lasts; early = early_days; start = starts; years = in_years }
