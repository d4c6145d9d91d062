-- The laws.
use Rattle.std.proofs.Common.{◌≡◌, ℕ, ◌+◌, ◌-◌, ◌<◌, ◌≤◌, ◌%◌, true, ◌*◌, inl, inr, Option, Some, None, refl, sym, subst, arith}
use Rattle.std.proofs.lemmas.Bool.{and_parts, and_from, leb-true, lt-ltb, le-leb, eq-eqb}
use Rattle.std.specs.Int.{div_ceil}
use Rattle.schedules.specs.declared.recurrence.Frequency.{Frequency}
use Rattle.schedules.specs.declared.recurrence.Frequency.TheVariants.{Daily, Weekly}
use Rattle.schedules.specs.declared.recurrence.Ending.TheVariants.{Never}
use Rattle.schedules.specs.Days.{Said, is_raw, is_raw_by, is_day_step, is_kept, is_within, count_below, moved, next_from}
use Rattle.schedules.specs.Terms.{one_day}
use Rattle.schedules.specs.Laws.{Occurs, StepsBy, DaysHaveDates, OccurrencesAreTold}
use Rattle.schedules.proofs.Dating.{civil, date_forth, date_back, date_rises}
use Rattle.schedules.proofs.Occurring.{kept_raw, is_kept_raw}
use Rattle.schedules.proofs.Moving.{moved_near, moved_low, moved_not}
use Rattle.schedules.proofs.Steps.{ceil_times, there}
use Rattle.schedules.proofs.Telling.{occurs_so, so_occurs, next_told, some_told, none_told}

pub dates : DaysHaveDates
dates = record { civil = civil; date = date_forth; day = date_back; rises = date_rises }

raw_from : (d e : ℕ) → is_raw (one_day d) e ≡ true → d ≤ e
unfolding is_raw is_day_step
raw_from d e h = let a = and_parts _ _ h in let b = and_parts _ _ a.1 in leb-true d e b.0

once_raw : (d : ℕ) → d < 84_006 → is_raw (one_day d) d ≡ true
unfolding is_raw is_day_step
once_raw d h =
    let none : d - d ≡ 0 = omega arith in
    and_from _ _ (lt-ltb d 84_006 h) (and_from _ _ (le-leb d d (omega arith)) (eq-eqb ((d - d) % 1) 0 (rw none refl)))

once_back : (d e : ℕ) → Occurs (one_day d) e → e ≡ d
once_back d e o =
    let kept = kept_raw (one_day d) o.day o.kept in
    let from = raw_from d o.day kept.0 in
    let to : o.day ≤ d = leb-true o.day d kept.1 in
    let moves : o.day ≡ e = o.moves in
    omega (arith, from, to, moves)

once_forth : (d e : ℕ) → d < 84_006 → e ≡ d → Occurs (one_day d) e
once_forth d e h same = record { day = d; kept = is_kept_raw (one_day d) d (once_raw d h) (le-leb d d (omega arith)); moves = sym same }

-- ---- days and weeks go on

pub raw_by : (r : Said) (f : Frequency) (d : ℕ) → r.frequency ≡ f → is_raw_by f r d ≡ true → is_raw r d ≡ true
unfolding is_raw
raw_by r f d e t = subst (λ x. is_raw_by x r d ≡ true) (sym e) t

steps_raw : (r : Said) (step d : ℕ) → StepsBy r step → is_day_step step r.start d ≡ true → is_raw r d ≡ true
steps_raw r step d (inl h) t = raw_by r Daily d h.0 (subst (λ x. is_day_step x r.start d ≡ true) h.1 t)
steps_raw r step d (inr h) t = raw_by r Weekly d h.0 (subst (λ x. is_day_step x r.start d ≡ true) h.1 t)

pub never_within : (r : Said) (d : ℕ) → r.ending ≡ Never → is_raw r d ≡ true → is_kept r d ≡ true
never_within r d e t = is_kept_raw r d t (subst (λ x. is_within x (count_below (is_raw r) d) d ≡ true) (sym e) refl)

pub some_next : (r : Said) (from e bound : ℕ) → Occurs r e → from ≤ e → e < bound → (n : ℕ) × (next_from r from ≡ Some n) × (n < bound)
some_next r from e bound o reached below = by (next_from r from) refl
  where
    by : (x : Option ℕ) → next_from r from ≡ x → (n : ℕ) × (next_from r from ≡ Some n) × (n < bound)
    by None is = absurd (omega (arith, none_told r from is e o))
    by (Some n) is = (n, is, omega (arith, (some_told r from n is).least e o reached))

steps_on : (r : Said) (from step : ℕ) → StepsBy r step → 1 ≤ step → r.ending ≡ Never → r.start ≤ from → from + step + 4 ≤ 84_006
    → (n : ℕ) × (next_from r from ≡ Some n) × (n < from + step + 4)
steps_on r from step by one never begin far =
    let raw = r.start + div_ceil (from + 2 - r.start) step * step in
    let near = ceil_times (from + 2 - r.start) step (omega arith) in
    let first = there step r.start (from + 2) raw one refl (omega (arith, near.1)) in
    let o : Occurs r (moved r.weekends raw) = record { day = raw; kept = never_within r raw never (steps_raw r step raw by first.passes); moves = refl } in
    some_next r from (moved r.weekends raw) (from + step + 4) o (omega (arith, moved_low r.weekends raw, first.reached)) (omega (arith, moved_near r.weekends raw, near.1))

pub told : OccurrencesAreTold
told = record {
  occurs = λ r e. (occurs_so r e, so_occurs r e);
  next = next_told;
  working = λ r d kept early. record { day = d; kept = kept; moves = moved_not r.weekends d early };
  goes_on = steps_on;
  once = λ d e h. (once_back d e, once_forth d e h);
}
