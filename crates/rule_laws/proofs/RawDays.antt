-- Raw days are whole steps away from the start.
use Rattle.std.proofs.Common.{◌≡◌, ℕ, suc, ◌+◌, ◌-◌, ◌*◌, ◌/◌, ◌<◌, ◌≤◌, true, false, List, [], ◌∷◌, inl, inr, refl, sym, ap, ◌∙◌, arith}
use Rattle.std.specs.Prelude.{◌⊎◌, ◌||◌}
use Rattle.std.specs.List.{Contains, list_any}
use Rattle.std.proofs.lemmas.Bool.{eqb-true, eq-eqb}
use Rattle.std.proofs.lemmas.List.Folds.{list_any_at}
use Rattle.schedules.specs.declared.month.MonthDay.{MonthDay}
use Rattle.schedules.specs.declared.recurrence.Frequency.{Frequency}
use Rattle.schedules.specs.declared.recurrence.Frequency.TheVariants.{Daily, Weekly, Monthly, Yearly}
use Rattle.schedules.specs.declared.recurrence.Pattern.{Pattern}
use Rattle.schedules.specs.declared.recurrence.Pattern.TheVariants.{Place, Last}
use Rattle.schedules.specs.Months.{month_length, month_day}
use Rattle.schedules.specs.Days.{Said, Places, places, is_multiple, is_day_step, is_month_step, is_raw, is_raw_by, falls_on, falls_by, is_at}
use Rattle.rule_laws.specs.Recurring.{IsNamedBy, IsMeant, RawDaysAreTold}
use Rattle.schedules.proofs.Calendar.{month_rises}
use Rattle.schedules.proofs.Falling.{falls_by_some, month_step, is_step_of}
use Rattle.schedules.proofs.Frequencies.{year_is}
use Rattle.schedules.proofs.Steps.{as_product, multiple, day_step, is_step}

raw_is : (r : Said) (f : Frequency) (d : ℕ) → r.frequency ≡ f → is_raw r d ≡ is_raw_by f r d
unfolding is_raw
raw_is r f d e = ap (λ x. is_raw_by x r d) e

-- ---- steps of days

steps_so : (step start d : ℕ) → is_day_step step start d ≡ true → (d < 84_006) × ((k : ℕ) × (d ≡ start + k * step))
steps_so step start d h =
    let is = day_step step start d h in
    let from = is.from in
    let whole = as_product step (d - start) is.whole in
    (is.within, ((d - start) / step, omega (arith, whole)))

so_steps : (step start d : ℕ) → 1 ≤ step → (d < 84_006) × ((k : ℕ) × (d ≡ start + k * step)) → is_day_step step start d ≡ true
so_steps step start d one h =
    let e = h.1.1 in
    let gone : d - start ≡ h.1.0 * step = omega arith in
    is_step step start d (record { within = h.0; from = omega arith; whole = ap (is_multiple step) gone ∙ multiple step h.1.0 one })

-- ---- days of a month

here : (p : Pattern) (ps : List Pattern) → Contains (p ∷ ps) p
here p ps = (0, omega arith, refl)

there : (p q : Pattern) (ps : List Pattern) → Contains ps q → Contains (p ∷ ps) q
there p q ps c = (suc c.0, omega (arith, c.1), c.2)

named_so : (m : MonthDay) (p : Pattern) → is_at m p ≡ true → IsNamedBy m p
named_so m (Place n) h = eqb-true m.place n h
named_so m Last h = eqb-true m.place (month_length m.month) h

so_named : (m : MonthDay) (p : Pattern) → IsNamedBy m p → is_at m p ≡ true
so_named m (Place n) h = eq-eqb m.place n h
so_named m Last h = eq-eqb m.place (month_length m.month) h

any_so : (m : MonthDay) (ps : List Pattern) → list_any (is_at m) ps ≡ true → (p : Pattern) × Contains ps p × IsNamedBy m p
any_so m [] h = cc
any_so m (p ∷ ps) h =
    (elim (is_at m p) as (λ b. is_at m p ≡ b → (b || list_any (is_at m) ps) ≡ true → (q : Pattern) × Contains (p ∷ ps) q × IsNamedBy m q) [
      | true ↦ λ t k. (p, here p ps, named_so m p t)
      | false ↦ λ f k. let more = any_so m ps k in (more.0, there p more.0 ps more.1, more.2)
    ]) refl h

so_any : (m : MonthDay) (ps : List Pattern) (p : Pattern) → Contains ps p → IsNamedBy m p → list_any (is_at m) ps ≡ true
so_any m ps p c n = list_any_at (is_at m) ps c.0 p c.1 (ap (is_at m) c.2 ∙ so_named m p n)

falls_so : (ps : List Pattern) (first : ℕ) (m : MonthDay) → falls_by ps first m ≡ true → ((ps ≡ []) × (m.place ≡ first)) ⊎ ((p : Pattern) × Contains ps p × IsNamedBy m p)
falls_so [] first m h = inl (refl, eqb-true m.place first h)
falls_so (p ∷ ps) first m h = inr (any_so m (p ∷ ps) h)

so_falls : (ps : List Pattern) (first : ℕ) (m : MonthDay) → ((ps ≡ []) × (m.place ≡ first)) ⊎ ((p : Pattern) × Contains ps p × IsNamedBy m p) → falls_by ps first m ≡ true
so_falls ps first m (inl h) = ap (λ xs. falls_by xs first m) h.0 ∙ eq-eqb m.place first h.1
so_falls ps first m (inr h) = falls_by_some ps first m (omega (arith, h.1.1)) ∙ so_any m ps h.0 h.1 h.2

meant_so : (r : Said) (m : MonthDay) → falls_on (places r.start r.patterns) m ≡ true → IsMeant r m
unfolding falls_on
meant_so r m h = falls_so r.patterns (month_day r.start).place m h

so_meant : (r : Said) (m : MonthDay) → IsMeant r m → falls_on (places r.start r.patterns) m ≡ true
unfolding falls_on
so_meant r m h = so_falls r.patterns (month_day r.start).place m h

place_so : (start : ℕ) (m : MonthDay) → falls_on (places start []) m ≡ true → m.place ≡ (month_day start).place
unfolding falls_on
place_so start m h = eqb-true m.place (month_day start).place h

so_place : (start : ℕ) (m : MonthDay) → m.place ≡ (month_day start).place → falls_on (places start []) m ≡ true
unfolding falls_on
so_place start m h = eq-eqb m.place (month_day start).place h

-- ---- steps of months

-- a day of the calendar from the start on, so many months of whole steps on
abbrev IsMonthsOn : ℕ → ℕ → ℕ → Type 0 → Type 0
IsMonthsOn step start d Rest = (d < 84_006) × (start ≤ d) × ((k : ℕ) × ((month_day d).month ≡ (month_day start).month + k * step)) × Rest

months_so : (step d : ℕ) (days : Places) (Rest : Type 0) → (falls_on days (month_day d) ≡ true → Rest) → is_month_step step days d ≡ true → IsMonthsOn step days.start d Rest
months_so step d days Rest rest h =
    let is = month_step step days d h in
    let rises = month_rises days.start d is.from is.within in
    let whole = as_product step ((month_day d).month - (month_day days.start).month) is.whole in
    (is.within, is.from, (((month_day d).month - (month_day days.start).month) / step, omega (arith, whole, rises)), rest is.falls)

so_months : (step d : ℕ) (days : Places) (Rest : Type 0) → 1 ≤ step → (Rest → falls_on days (month_day d) ≡ true) → IsMonthsOn step days.start d Rest → is_month_step step days d ≡ true
so_months step d days Rest one rest h =
    let e = h.2.1 in
    let gone : (month_day d).month - (month_day days.start).month ≡ h.2.0 * step = omega arith in
    is_step_of step days d (record { within = h.0; from = h.1; whole = ap (is_multiple step) gone ∙ multiple step h.2.0 one; falls = rest h.3 })

pub raw_days : (r : Said) (some : 1 ≤ r.interval) → RawDaysAreTold r some
raw_days r some = record {
  days = λ e d. let is = raw_is r Daily d e in (
    λ h. steps_so r.interval r.start d (sym is ∙ h),
    λ h. is ∙ so_steps r.interval r.start d some h,
  );
  weeks = λ e d. let is = raw_is r Weekly d e in (
    λ h. steps_so (7 * r.interval) r.start d (sym is ∙ h),
    λ h. is ∙ so_steps (7 * r.interval) r.start d (omega arith) h,
  );
  months = λ e d. let is = raw_is r Monthly d e in (
    λ h. months_so r.interval d (places r.start r.patterns) (IsMeant r (month_day d)) (meant_so r (month_day d)) (sym is ∙ h),
    λ h. is ∙ so_months r.interval d (places r.start r.patterns) (IsMeant r (month_day d)) some (so_meant r (month_day d)) h,
  );
  years = λ e d. let is = raw_is r Yearly d e ∙ sym (year_is r.interval r.start d some) in (
    λ h. months_so (12 * r.interval) d (places r.start []) ((month_day d).place ≡ (month_day r.start).place) (place_so r.start (month_day d)) (sym is ∙ h),
    λ h. is ∙ so_months (12 * r.interval) d (places r.start []) ((month_day d).place ≡ (month_day r.start).place) (omega arith) (so_place r.start (month_day d)) h,
  );
}
