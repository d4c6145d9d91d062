use Rattle.std.proofs.Common.{◌≡◌, ◌-◌, Ok, length, refl, ap, sym, subst, ◌∙◌, arith}
use Rattle.hybrid_clock.specs.declared.stamp.Stamp.{Stamp}
use Rattle.device_core.specs.Device.{State, DeviceState, IsWithinBound, accepted_as, with_writes, written, writing}
use Rattle.device_core.specs.Covering.{covered_by}
use Rattle.device_core.proofs.Covering.{still_within}
use Rattle.device_core.proofs.Greatest.{ahead_later}
use Rattle.device_core.proofs.Several.{later_on}
use Rattle.device_core.proofs.Writing.{writing_some, first_is}
use Rattle.device_core.proofs.device.Device.write.Goals as goal

pub returns-in-Ok-join_writes-clause-ok : goal.returns-in-Ok-join_writes-clause-ok
returns-in-Ok-join_writes-clause-ok g c =
    let n = length c.args.writes.now in
    let own : State = record { messages = c.self.inside.known.log.messages; clock = c.self.inside.clock; history = c.self.inside.history } in
    let same : own ≡ c.args.self.now.state = ap (λ (d : DeviceState). d.state) c.self.view_is in
    subst (λ (s : State). writing s c.args.turn c.args.reading (Ok c.args.writes.now) ≡ Ok (accepted_as c.join_writes.new.self n)) same
    (writing_some own c.args.turn c.args.reading c.args.writes.now (omega arith) (omega arith)
    ∙ ap (written own c.args.turn c.args.writes.now) c.in-Ok.ensures.drawn
    ∙ ap (λ (first : Stamp). Ok (with_writes own c.args.turn first c.args.writes.now c.draw.new.self)) (first_is c.draw.new.self c.in-Ok.first n c.in-Ok.ensures.row)
    ∙ ap Ok (sym c.in-Ok-join_writes.ensures.ok))

pub returns-then-count-eq0-clause-covered : goal.returns-then-count-eq0-clause-covered
returns-then-count-eq0-clause-covered g c =
    subst (λ (d : DeviceState). d.covered ≡ covered_by c.args.self.now.covered d.state.messages) (sym c.forget_made.ensures.made) (c.forget_made.ensures.covered c.requires.live)

pub returns-then-count-eq0-clause-cost : goal.returns-then-count-eq0-clause-cost
returns-then-count-eq0-clause-cost g c =
    let now = c.args.self.now in
    subst (λ (d : DeviceState). IsWithinBound now d c.args.steps.now c.args.steps.now) (sym c.forget_made.ensures.made) (still_within now.state.messages now.covered c.args.steps.now c.args.steps.now refl)

pub invariant_of-self-2 : goal.invariant_of-self-2
invariant_of-self-2 g c = λ live.
    let stands = c.self.invariant live in
    let later = later_on c.self.inside.clock c.in-Ok.first c.draw.new.self (length c.args.writes.now - 1) c.in-Ok.ensures.row c.in-Ok.ensures.later in record {
      right = stands.right;
      grid_live = stands.grid_live;
      cells = stands.cells;
      ahead = ahead_later c.self.inside.clock c.draw.new.self c.self.inside.known.log.messages later stands.ahead;
      keys = stands.keys;
    }
