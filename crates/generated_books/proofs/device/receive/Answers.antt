use Rattle.std.proofs.Common.{◌≡◌, ◌≢◌, ℕ, ◌+◌, ◌-◌, ◌*◌, ◌<◌, ◌≤◌, List, [], ◌∙◌, ap, sym, subst, arith}
use Rattle.hybrid_clock.specs.Stamp.{window}
use Rattle.field_merge.specs.declared.message.Message.{Message}
use Rattle.field_merge.specs.Messages.{AreMessages}
use Rattle.generated_books.specs.Clocks.{IsWithin, AreBy, last_time}
use Rattle.generated_books.specs.Numbers.{count_of, messages_at}
use Rattle.generated_books.proofs.Joined.{batch_step, some_at, by_last, last_inside, weaker}
use Rattle.generated_books.proofs.Valid.{valid_at}
use Rattle.generated_books.proofs.device.receive.Goals as goal

pub take_in-requires : goal.take_in-requires
take_in-requires g c =
    let r = c.requires in
    let n : ℕ = c.args.count in
    let from : ℕ = 1000 * c.args.at in
    let low = r.within in
    let few = r.few in
    let is = c.as_slice.ensures.value ∙ c.in_ok-batch.ensures in
    let time = c.time_at.ensures in
    record {
      live = r.live;
      kept = r.kept;
      valid = subst AreMessages (sym is) (valid_at (1000 * c.args.at) (c.min-to.result - 1000 * c.args.at) (omega (arith, c.min-to.ensures)));
      some = subst (λ (ms : List Message). ms ≢ []) (sym is) (some_at (1000 * c.args.at) (c.min-to.result - 1000 * c.args.at) (omega (arith, c.min-to.ensures)));
      early = subst (λ (t : ℕ). AreBy t c.as_slice.result.now) (sym time) (subst (AreBy (last_time c.args.count)) (sym is) (by_last c.args.count (1000 * c.args.at) (c.min-to.result - 1000 * c.args.at) (omega (arith, c.min-to.ensures))));
      clock = subst (λ (t : ℕ). IsWithin t 1000 c.args.device.now.state.clock) (sym time) (weaker (last_time c.args.count) (400 - c.args.at) 1000 c.args.device.now.state.clock (omega arith) r.clock);
      window = subst (λ (t : ℕ). t < 60_000 * window) (sym time) (last_inside c.args.count r.few);
    }

pub returns : goal.returns
returns g c =
    let r = c.requires in
    let low = r.within in
    let few = r.few in
    let is = c.as_slice.ensures.value ∙ c.in_ok-batch.ensures in
    let time = c.time_at.ensures in
    let took = c.in_ok-take_in.ensures in
    let at : ℕ = c.args.at in
    let more : (400 - c.args.at) + 1 ≡ 401 - c.args.at = omega arith in
    record {
      live = took.live;
      kept = took.kept;
      behind = batch_step c.args.count c.args.at c.min-to.result c.args.device.now.state.messages c.as_slice.result.now c.take_in.new.device.state.messages
          (c.min-to.ensures) r.within r.behind is took.joined;
      clock = subst (λ (k : ℕ). IsWithin (last_time c.args.count) k c.take_in.new.device.state.clock) more
          (subst (λ (t : ℕ). IsWithin t ((400 - c.args.at) + 1) c.take_in.new.device.state.clock) time
          (took.clock (400 - c.args.at) (omega arith) (subst (λ (t : ℕ). IsWithin t (400 - c.args.at) c.args.device.now.state.clock) (sym time) r.clock)));
    }
