use Rattle.schedules.proofs.Tabled.{only_told}
use Rattle.schedules.proofs.meant.only_day.Goals as goal

pub returns : goal.returns
returns c = λ m h. only_told c.args.place m c.requires h
