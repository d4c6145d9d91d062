use Rattle.std.proofs.Common.{◌≡◌, ℕ, zero, suc, ◌+◌, ◌-◌, ◌*◌, ◌/◌, ◌<◌, ◌≤◌, [], ◌∙◌, ap, sym, subst, arith}
use Rattle.device_core.specs.Device.{DeviceState}
use Rattle.generated_books.specs.Clocks.{IsWithin, last_time}
use Rattle.generated_books.specs.Numbers.{AreDraws, count_of, messages_from}
use Rattle.generated_books.proofs.Joined.{none_behind, later_within, weaker}
use Rattle.generated_books.proofs.device.receive_all.Invariants.{HasCome}
use Rattle.generated_books.proofs.device.receive_all.Goals as goal

come : (device : DeviceState) (at count k : ℕ) → at ≡ k → HasCome device at count → HasCome device k count
come device at count k e h = subst (λ (x : ℕ). HasCome device x count) e h

pub loop-done-init : goal.loop-done-init
loop-done-init g c =
    let r = c.requires in
    let few = r.few in
    let high : count_of c.args.count ≤ 1000 * (((14 + 4 * c.args.count) / 1000 + 1) - 0) = omega arith in
    record {
      live = r.live;
      kept = r.kept;
      messages = r.empty ∙ none_behind c.args.count (((14 + 4 * c.args.count) / 1000 + 1) - 0) high;
      clock = later_within 0 (last_time c.args.count) 0 (401 - (((14 + 4 * c.args.count) / 1000 + 1) - 0)) c.args.device.now.state.clock (omega arith) (omega arith) r.clock;
    }

pub receive-requires : goal.receive-requires
receive-requires g c =
    let r = c.requires in
    let few = r.few in
    let before = c.loop-done.invariant in
    let next : ((14 + 4 * c.args.count) / 1000 + 1) - c.loop-done.done ≡ ((14 + 4 * c.args.count) / 1000 - c.loop-done.done) + 1 = omega arith in
    let left : 401 - (((14 + 4 * c.args.count) / 1000 + 1) - c.loop-done.done) ≡ 400 - ((14 + 4 * c.args.count) / 1000 - c.loop-done.done) = omega arith in
    record {
      live = before.live;
      kept = before.kept;
      draws = subst (λ ds. AreDraws ds c.args.count) (sym c.as_slice-draws.ensures.value) c.in_ok-draws.ensures;
      few = r.few;
      within = omega arith;
      behind = before.messages ∙ ap (λ (k : ℕ). messages_from (1000 * k) c.args.count) next;
      clock = subst (λ (k : ℕ). IsWithin (last_time c.args.count) k c.loop-done.device.state.clock) left before.clock;
    }

pub loop-done-preserved : goal.loop-done-preserved
loop-done-preserved g c =
    let took = c.in_ok-receive.ensures in
    let next : (14 + 4 * c.args.count) / 1000 - c.loop-done.done ≡ ((14 + 4 * c.args.count) / 1000 + 1) - (c.loop-done.done + 1) = omega arith in
    come c.receive.new.device ((14 + 4 * c.args.count) / 1000 - c.loop-done.done) c.args.count (((14 + 4 * c.args.count) / 1000 + 1) - (c.loop-done.done + 1)) next
    (record { live = took.live; kept = took.kept; messages = took.behind; clock = took.clock })
