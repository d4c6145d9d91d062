use Rattle.std.proofs.Common.{rules, ◌≡◌, ◌<◌, length, sym, ap, ◌∙◌}
use Rattle.std.specs.Prelude.{◌==◌}
use Rattle.schedules.specs.Days.{falls_on}
use Rattle.schedules.proofs.Falling.{falls_by_none, falls_by_some}
use Rattle.schedules.proofs.meant.meant_days.Goals as goal

pub returns-then-is_empty : goal.returns-then-is_empty
unfolding falls_on
returns-then-is_empty c =
    let none : length c.args.patterns.now ≡ 0 = search rules in
    λ m h. c.only_day.ensures m h ∙ ap (λ x. m.place == x.place) c.month_day.ensures.value ∙ sym (falls_by_none c.args.patterns.now _ m none)

pub returns : goal.returns
unfolding falls_on
returns c =
    let some : 0 < length c.args.patterns.now = search rules in
    λ m h. c.named_days.ensures m h ∙ sym (falls_by_some c.args.patterns.now _ m some)
