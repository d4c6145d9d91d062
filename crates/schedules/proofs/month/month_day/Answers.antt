use Rattle.std.proofs.Common.{arith, ap, ◌≡◌, ℤ, pos, to_z, of_z, unsigned_abs, sym, subst, w16}
use Rattle.jiff_core.specs.Calendar.{days_from_civil, IsCivilDate}
use Rattle.jiff_core.proofs.SignedLemmas.{signed_arith, signed_casts}
use Rattle.jiff_core.proofs.DateLemmas.{civil}
use Rattle.schedules.proofs.Calendar.{from_date, month_within}
use Rattle.schedules.specs.declared.month.MonthDay.{MonthDay}
use Rattle.schedules.proofs.month.month_day.Goals as goal

pub returns-clause-value : goal.returns-clause-value
returns-clause-value c =
    let date = c.date_at-date.result in
    let y = unsigned_abs (to_z w16 (of_z w16 date.year)) in
    let same : date.year ≡ pos y = omega (arith, signed_casts, c.date_at-date.ensures.from, c.date_at-date.ensures.to) in
    let P : ℤ → Type 0 = λ z. IsCivilDate z date.month date.day × (days_from_civil z date.month date.day ≡ pos c.args.day) in
    let there : P (pos y) = subst P same (civil date, c.date_at-date.ensures.value) in
    sym (from_date y date.month date.day c.args.day (omega (arith, signed_arith, same, c.date_at-date.ensures.from)) (omega (arith, signed_arith, same, c.date_at-date.ensures.to)) there.0 there.1)

pub returns-clause-month : goal.returns-clause-month
returns-clause-month c = omega (arith, ap (λ (m : MonthDay). m.month) (returns-clause-value c), month_within c.args.day c.requires)
