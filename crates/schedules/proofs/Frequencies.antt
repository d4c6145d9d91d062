-- Raw days by frequency, and years as twelve months.
use Rattle.std.proofs.Common.{◌≡◌, ℕ, ◌-◌, ◌*◌, ◌/◌, ◌%◌, ◌≤◌, Bool, true, false, ◌&&◌, ◌==◌, [], Option, Some, None, refl, sym, ◌∙◌, subst, arith}
use Rattle.std.specs.Prelude.{nat_lt, nat_le}
use Rattle.std.proofs.lemmas.Bool.{and_parts, and_from, ltb-true, leb-true, eqb-true, eq-eqb}
use Rattle.schedules.specs.declared.recurrence.Frequency.{Frequency}
use Rattle.schedules.specs.Months.{month_day}
use Rattle.schedules.specs.Days.{Said, places, is_raw, is_raw_by, is_multiple, is_month_step, is_year_step, falls_on, IsFirst}
use Rattle.schedules.proofs.Calendar.{month_rises}
use Rattle.schedules.proofs.Steps.{as_product, multiple}

pub as_raw : (r : Said) (from : ℕ) (o : Option ℕ) (f : Frequency) → r.frequency ≡ f → IsFirst (is_raw_by f r) from o → IsFirst (is_raw r) from o
unfolding is_raw
as_raw r from o f e h = let P : Frequency → Type 0 = λ x. IsFirst (is_raw_by x r) from o in subst P (sym e) h

-- two tests that pass together have the same first day
pub first_by : (f g : ℕ → Bool) (from : ℕ) (o : Option ℕ) → ((d : ℕ) → f d ≡ g d) → IsFirst f from o → IsFirst g from o
first_by f g from None same h = λ d reached. sym (same d) ∙ h d reached
first_by f g from (Some n) same h = record {
  passes = sym (same n) ∙ h.passes;
  reached = h.reached;
  within = h.within;
  before = λ d reached below. sym (same d) ∙ h.before d reached below;
}

pub same_bool : (p q : Bool) → (p ≡ true → q ≡ true) → (q ≡ true → p ≡ true) → p ≡ q
same_bool true q f g = sym (f refl)
same_bool false true f g = g refl
same_bool false false f g = refl

falls_start : (start d : ℕ) → falls_on (places start []) (month_day d) ≡ ((month_day d).place == (month_day start).place)
unfolding falls_on
falls_start start d = refl

-- steps of years, where the month is the same, are steps of twelve months
by_months : (step m first : ℕ) → 1 ≤ step → first ≤ m → is_multiple step (m / 12 - first / 12) ≡ true → m % 12 ≡ first % 12 → is_multiple (12 * step) (m - first) ≡ true
by_months step m first one from whole same =
    let k = (m / 12 - first / 12) / step in
    let years = as_product step (m / 12 - first / 12) whole in
    let e : k * (12 * step) ≡ m - first = omega (arith, years) in
    subst (λ x. is_multiple (12 * step) x ≡ true) e (multiple (12 * step) k (omega arith))

by_years : (step m first : ℕ) → 1 ≤ step → first ≤ m → is_multiple (12 * step) (m - first) ≡ true → (is_multiple step (m / 12 - first / 12) ≡ true) × (m % 12 ≡ first % 12)
by_years step m first one from whole =
    let k = (m - first) / (12 * step) in
    let months = as_product (12 * step) (m - first) whole in
    let e : 12 * (k * step) ≡ m - first = omega (arith, months) in
    let years : k * step ≡ m / 12 - first / 12 = omega (arith, e) in
    (subst (λ x. is_multiple step x ≡ true) years (multiple step k one), omega (arith, e))

pub year_is : (step start d : ℕ) → 1 ≤ step → is_month_step (12 * step) (places start []) d ≡ is_year_step step start d
unfolding is_month_step is_year_step
year_is step start d one = same_bool _ _ forth back
  where
    m : ℕ
    m = (month_day d).month

    first : ℕ
    first = (month_day start).month

    forth : (nat_lt d 84_006 && (nat_le start d && (is_multiple (12 * step) (m - first) && falls_on (places start []) (month_day d)))) ≡ true
        → (nat_lt d 84_006 && (nat_le start d && (is_multiple step (m / 12 - first / 12) && ((m % 12 == first % 12) && ((month_day d).place == (month_day start).place))))) ≡ true
    forth h =
        let a = and_parts _ _ h in
        let b = and_parts _ _ a.1 in
        let c = and_parts _ _ b.1 in
        let rises = month_rises start d (leb-true start d b.0) (ltb-true d 84_006 a.0) in
        let y = by_years step m first one rises c.0 in
        and_from _ _ a.0 (and_from _ _ b.0 (and_from _ _ y.0 (and_from _ _ (eq-eqb (m % 12) (first % 12) y.1) (sym (falls_start start d) ∙ c.1))))

    back : (nat_lt d 84_006 && (nat_le start d && (is_multiple step (m / 12 - first / 12) && ((m % 12 == first % 12) && ((month_day d).place == (month_day start).place))))) ≡ true
        → (nat_lt d 84_006 && (nat_le start d && (is_multiple (12 * step) (m - first) && falls_on (places start []) (month_day d)))) ≡ true
    back h =
        let a = and_parts _ _ h in
        let b = and_parts _ _ a.1 in
        let c = and_parts _ _ b.1 in
        let e = and_parts _ _ c.1 in
        let rises = month_rises start d (leb-true start d b.0) (ltb-true d 84_006 a.0) in
        and_from _ _ a.0 (and_from _ _ b.0 (and_from _ _ (by_months step m first one rises c.0 (eqb-true (m % 12) (first % 12) e.0)) (falls_start start d ∙ e.1)))
