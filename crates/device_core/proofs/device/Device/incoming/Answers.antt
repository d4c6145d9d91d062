use Rattle.std.proofs.Common.{◌≡◌, ◌∙◌, ℕ, List, length, ap, sym, subst}
use Rattle.std.specs.Prelude.{IfOk}
use Rattle.device_core.specs.Covering.{covered_by}
use Rattle.device_core.specs.Device.{State, DeviceState, IsAccepted, received, with_messages}
use Rattle.device_core.proofs.Received.{all_taken}
use Rattle.device_core.proofs.Greatest.{of_valid, of_ahead, ahead_later}
use Rattle.device_core.proofs.device.Device.incoming.Goals as goal
use Rattle.device_core.proofs.device.Device.incoming.Goals.{in-Ok, in-Err-join}

pub receive-requires : goal.receive-requires
receive-requires g c = of_valid c.in-Some.stamp c.args.batch.now (sym c.in-Some.ensures) c.requires.valid

pub invariant_of-self-2 : goal.invariant_of-self-2
invariant_of-self-2 g c = λ live.
    let stands = c.self.invariant live in record {
      right = stands.right;
      grid_live = stands.grid_live;
      cells = stands.cells;
      ahead = ahead_later c.self.inside.clock c.receive.new.self c.self.inside.known.log.messages c.in_default-receive.ensures.later.0 stands.ahead;
      keys = stands.keys;
    }

pub join-requires-clause-ahead : goal.join-requires-clause-ahead
join-requires-clause-ahead g c = ahead_later c.in-Some.stamp c.receive.new.self c.args.batch.now c.in_default-receive.ensures.later.1 (of_ahead c.in-Some.stamp c.args.batch.now (sym c.in-Some.ensures))

pub returns-in_default-clause-covered : goal.returns-in_default-clause-covered
returns-in_default-clause-covered g c =
    subst (λ (d : DeviceState). d.covered ≡ covered_by c.args.self.now.covered d.state.messages) (sym c.forget_made.ensures.made) (c.forget_made.ensures.covered c.requires.live)

pub returns-clause-ok : goal.returns-clause-ok
returns-clause-ok g c = elim c.match-join.branch [
  | in-Ok w ↦
      let own : State = record { messages = c.self.inside.known.log.messages; clock = c.self.inside.clock; history = c.self.inside.history } in
      let same : own ≡ c.args.self.now.state = ap (λ (d : DeviceState). d.state) c.self.view_is in
      let ns = c.args.batch.now in
      let reading = c.args.reading in
      let count : w.len.result ≡ length c.join.new.self.batch = w.len.ensures ∙ c.self-2.inside.batch.ok.0 ∙ ap (λ (d : DeviceState). length d.batch) c.self-2.view_is in
      subst (λ r. IfOk r (IsAccepted (received c.args.self.now.state ns reading) c.join.new.self)) (sym w.result-is)
      (subst (λ (k : ℕ). IsAccepted (received c.args.self.now.state ns reading) c.join.new.self k) (sym count)
      (subst (λ (s : State). IsAccepted (received s ns reading) c.join.new.self (length c.join.new.self.batch)) same
      (all_taken own ns reading c.in-Some.stamp c.receive.new.self c.join.new.self (sym c.in-Some.ensures) c.in_default-receive.ensures.received
      (λ k. w.in-Ok.ensures.ok k ∙ ap (λ (made : List (List ℕ)). with_messages own.messages ns c.receive.new.self own.history made k) (c.new-made.ensures ∙ c.new.ensures.items)))))
  | in-Err-join w ↦ subst (λ r. IfOk r (IsAccepted (received c.args.self.now.state c.args.batch.now c.args.reading) c.join.new.self)) (sym w.result-is) tt
]
