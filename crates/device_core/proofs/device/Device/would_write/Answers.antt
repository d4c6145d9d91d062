use Rattle.std.proofs.Common.{◌≡◌, Ok, length, refl, ap, sym, subst, ◌∙◌, arith}
use Rattle.hybrid_clock.specs.declared.stamp.Stamp.{Stamp}
use Rattle.hybrid_clock.specs.Clock.{draw}
use Rattle.device_core.specs.Device.{State, DeviceState, written, writing, WouldBeAccepted}
use Rattle.device_core.proofs.Writing.{writing_none, writing_some}
use Rattle.device_core.proofs.device.Device.would_write.Goals as goal

pub returns-then-count-eq0-clause-ok : goal.returns-then-count-eq0-clause-ok
returns-then-count-eq0-clause-ok c = (_, (writing_none c.args.self.now.state c.args.turn c.args.reading c.args.writes.now (omega (arith, c.if-count-eq0.true)), refl))

pub returns-in-Ok-clause-ok : goal.returns-in-Ok-clause-ok
returns-in-Ok-clause-ok c =
    let n = length c.args.writes.now in
    let own : State = record { messages = c.self.inside.known.log.messages; clock = c.self.inside.clock; history = c.self.inside.history } in
    let same : own ≡ c.args.self.now.state = ap (λ (d : DeviceState). d.state) c.self.view_is in
    let clock : c.new-clock.result ≡ own.clock = c.new-clock.ensures ∙ c.last-last.ensures.value in
    subst (λ (s : State). WouldBeAccepted (writing s c.args.turn c.args.reading (Ok c.args.writes.now)) n) same (
      _,
      (
        writing_some own c.args.turn c.args.reading c.args.writes.now (omega arith) (omega arith)
            ∙ ap (written own c.args.turn c.args.writes.now) (ap (λ (s : Stamp). draw s c.args.reading n) (sym clock) ∙ c.in-Ok.ensures.drawn),
        refl,
      ),
    )
