use Rattle.std.proofs.Common.{◌≡◌, ◌∙◌, ◌++◌, [], false, ap, sym, subst, map}
use Rattle.hybrid_clock.specs.declared.stamp.Stamp.{Stamp}
use Rattle.budget_ports.specs.Keeper.{HaveKeys}
use Rattle.field_merge.specs.declared.message.Message.{Message}
use Rattle.field_merge.specs.Messages.{IsMessage}
use Rattle.kept_messages.specs.Records.{record_of}
use Rattle.kept_messages.specs.News.{new_in}
use Rattle.device_core.specs.Device.{DeviceState, IsUpTo, IsAhead}
use Rattle.kept_messages.proofs.Members.{all_join, all_new}
use Rattle.kept_messages.proofs.Keeping.{have_keys}
use Rattle.device_core.proofs.device.Device.join.Goals as goal

pub invariant_of-self-2 : goal.invariant_of-self-2
invariant_of-self-2 g c = λ _.
    let state = c.self.view_is in
    let live : c.self.inside.spent ≡ false = ap (λ (d : DeviceState). d.spent) state ∙ c.requires.live in
    let idle : c.self.inside.batch.items ≡ [] = ap (λ (d : DeviceState). d.batch) state ∙ c.requires.idle in
    let clock : c.self.inside.clock ≡ c.args.self.now.state.clock = ap (λ (d : DeviceState). d.state.clock) state in
    let stands = c.self.invariant live in
    let ms = c.self.inside.known.log.messages in
    let ns = c.args.messages.now in
    let joined = c.in_ok-join_all.ensures.joined in
    let ahead : IsAhead c.self.inside.clock ns = subst (λ (s : Stamp). IsAhead s ns) (sym clock) c.requires.ahead in record {
      right = c.in_ok-join_all.ensures.known;
      grid_live = c.in_ok-join_all.ensures.grid;
      cells = c.in_ok-join_all.ensures.stands;
      ahead = subst (IsAhead c.self.inside.clock) (sym joined) (all_join (λ (m : Message). IsUpTo c.self.inside.clock m.stamp) ms ns stands.ahead ahead);
      keys = subst HaveKeys (sym (c.in_ok-join_all.ensures.batch ∙ ap (λ b. b ++ map record_of (new_in ms ns)) idle)) (have_keys (new_in ms ns) (all_new IsMessage ms ns c.requires.valid));
    }
