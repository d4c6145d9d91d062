use Rattle.std.proofs.Common.{◌∙◌, Option, ap, sym, subst}
use Rattle.std.specs.Option.{ForSome}
use Rattle.hybrid_clock.specs.declared.stamp.Stamp.{Stamp}
use Rattle.hybrid_clock.specs.Stamp.{IsStamp}
use Rattle.hybrid_clock.specs.Clock.{clock_after}
use Rattle.budget_ports.specs.Keeper.{HaveKeys}
use Rattle.dirty_cells.specs.Stands.{StandsFor}
use Rattle.device_core.specs.Device.{IsAhead}
use Rattle.device_core.proofs.Greatest.{after_ahead, last_valid}
use Rattle.kept_messages.proofs.Starting.{rising_set}
use Rattle.device_core.proofs.device.Device.start.Goals as goal

pub invariant_of-result : goal.invariant_of-result
invariant_of-result c = λ _.
    let ms = c.in_ok-known.known.log.messages in record {
      right = c.in_ok-known.ensures.known;
      grid_live = c.in_ok-grid.ensures.live;
      cells = subst (StandsFor c.in_ok-grid.grid) c.in_ok-known.ensures.known.book_right c.in_ok-grid.ensures.stands;
      ahead = subst (λ (s : Stamp). IsAhead s ms) (sym (c.new-clock.ensures ∙ ap (clock_after c.args.node) c.last.ensures)) (after_ahead c.args.node ms (rising_set c.args.records.now ms c.in_ok-known.ensures.messages));
      keys = subst HaveKeys (sym c.new-2.ensures.items) tt;
    }

pub new-clock-requires-clause-last : goal.new-clock-requires-clause-last
new-clock-requires-clause-last c = subst (λ (o : Option Stamp). ForSome o IsStamp) (sym c.last.ensures) (last_valid c.in_ok-known.known.log.messages c.in_ok-known.ensures.known.valid)
