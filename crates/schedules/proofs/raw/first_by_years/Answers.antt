use Rattle.std.proofs.Common.{◌*◌, []}
use Rattle.schedules.specs.Days.{places, is_month_step, is_year_step}
use Rattle.schedules.proofs.Frequencies.{first_by, year_is}
use Rattle.schedules.proofs.raw.first_by_years.Goals as goal

pub returns : goal.returns
returns c =
    first_by (is_month_step (12 * c.args.step) (places c.args.start [])) (is_year_step c.args.step c.args.start) c.args.from c.first_by_months.result
    (λ d. year_is c.args.step c.args.start d c.requires.least) (c.first_by_months.ensures [] c.meant_days.ensures)
