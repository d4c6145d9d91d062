use Rattle.std.proofs.Common.{◌≡◌, false, ap, subst, ◌∙◌}
use Rattle.field_merge.specs.Messages.{AreMessages}
use Rattle.device_core.specs.Device.{DeviceState}
use Rattle.kept_messages.proofs.Tracking.{are_pairs}
use Rattle.device_core.proofs.device.Device.trie.Goals as goal

pub returns-clause-pairs : goal.returns-clause-pairs
returns-clause-pairs c =
    let live : c.self.inside.spent ≡ false = ap (λ (d : DeviceState). d.spent) c.self.view_is ∙ c.requires in
    let valid = (c.self.invariant live).right.valid in
    are_pairs c.args.self.now.state.messages c.tries_are_maps.ensures.of_stamp
    (subst (λ (d : DeviceState). AreMessages d.state.messages) c.self.view_is valid)
