use Rattle.std.proofs.Common.{◌≡◌, ◌+◌, ◌∙◌, ap, sym, subst}
use Rattle.device_core.specs.Device.{State, DeviceState, received}
use Rattle.generated_books.specs.Clocks.{IsWithin}
use Rattle.generated_books.proofs.Receiving.{IsTaken, is_taken, only_memory, on_ok, state_of}
use Rattle.generated_books.proofs.device.take_in.Goals as goal

pub accepted-requires : goal.accepted-requires
accepted-requires g c =
    let r = c.requires in
    let s = c.args.device.now.state in
    let t : IsTaken c.args.device.now.state c.args.batch.now c.args.reading = is_taken c.args.device.now.state c.args.batch.now c.args.reading r.some r.window r.early r.clock in
    only_memory c.incoming-answer.result (received c.args.device.now.state c.args.batch.now c.args.reading) t.accepted c.args.device.now c.incoming-answer.new.self t.is c.incoming-answer.ensures.refused

pub commit-requires : goal.commit-requires
commit-requires g c = on_ok c.incoming-answer.result c.in_ok-accepted.ensures c.incoming-answer.ensures.live

pub returns : goal.returns
returns g c =
    let r = c.requires in
    let t : IsTaken c.args.device.now.state c.args.batch.now c.args.reading = is_taken c.args.device.now.state c.args.batch.now c.args.reading r.some r.window r.early r.clock in
    let after : t.accepted.state ≡ c.incoming-answer.new.self.state =
    state_of c.incoming-answer.result (received c.args.device.now.state c.args.batch.now c.args.reading) t.accepted c.incoming-answer.new.self c.in_ok-accepted.ensures t.is c.incoming-answer.ensures.ok in
    record {
      live = ap (λ (d : DeviceState). d.spent) c.commit.ensures ∙ on_ok c.incoming-answer.result c.in_ok-accepted.ensures c.incoming-answer.ensures.live;
      kept = ap (λ (d : DeviceState). d.batch) c.commit.ensures;
      joined = ap (λ (d : DeviceState). d.state.messages) c.commit.ensures ∙ sym (ap (λ (s : State). s.messages) after) ∙ t.joined;
      clock = λ n few low.
          subst (IsWithin c.args.reading (n + 1)) (ap (λ (s : State). s.clock) after ∙ sym (ap (λ (d : DeviceState). d.state.clock) c.commit.ensures)) (t.within n few low);
    }
