use Rattle.std.proofs.Common.{◌+◌, ◌-◌, ◌∙◌, ◌%◌, sym, ap, Some, arith}
use Rattle.schedules.proofs.Dating.{parts, place_of, so_day}
use Rattle.schedules.proofs.month.day_of.Goals as goal

pub overflow_sub-month : goal.overflow_sub-month
overflow_sub-month c = omega (arith, (parts c.args.date c.requires).from)

pub overflow_sub-month-2 : goal.overflow_sub-month-2
overflow_sub-month-2 c = omega (arith, (parts c.args.date c.requires).first)

pub month_start-requires : goal.month_start-requires
month_start-requires c =
    let p = parts c.args.date c.requires in omega (arith, p.from, p.to, p.first, p.last)

pub overflow_sub-result : goal.overflow_sub-result
overflow_sub-result c = omega (arith, (parts c.args.date c.requires).some)

pub returns-clause-value : goal.returns-clause-value
returns-clause-value c = so_day c.args.date c.requires ∙ ap (λ n. Some (n + c.args.date % 100 - 1)) (sym c.month_start.ensures.value)

pub returns-clause-calendar : goal.returns-clause-calendar
returns-clause-calendar c = omega (arith, c.month_start.ensures.value, place_of c.args.date c.requires)
