use Rattle.std.proofs.Common.{◌∙◌, ap, sym, subst}
use Rattle.hybrid_clock.specs.declared.stamp.Stamp.{Stamp}
use Rattle.hybrid_clock.specs.Clock.{clock_after}
use Rattle.budget_ports.specs.Keeper.{HaveKeys}
use Rattle.device_core.specs.Device.{IsAhead}
use Rattle.device_core.proofs.Greatest.{after_ahead}
use Rattle.device_core.proofs.device.Device.restart.Goals as goal

pub invariant_of-self : goal.invariant_of-self
invariant_of-self c = λ live.
    let ms = c.self.inside.known.log.messages in record {
      right = (c.self.invariant live).right;
      grid_live = (c.self.invariant live).grid_live;
      cells = (c.self.invariant live).cells;
      ahead = subst (λ (s : Stamp). IsAhead s ms) (sym (c.new-self-inside.ensures ∙ ap (clock_after c.last-last.result.node) c.last.ensures)) (after_ahead c.last-last.result.node ms c.len-count.ensures.rising);
      keys = subst HaveKeys (sym c.new-2.ensures.items) tt;
    }
