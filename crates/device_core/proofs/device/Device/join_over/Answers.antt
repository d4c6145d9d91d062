use Rattle.std.proofs.Common.{◌≡◌, ℕ, subst}
use Rattle.std.specs.Prelude.{OnOk}
use Rattle.device_core.specs.Device.{DeviceState, accepted_as, with_messages}
use Rattle.device_core.proofs.device.Device.join_over.Goals as goal

pub returns-in-Ok-clause-ok : goal.returns-in-Ok-clause-ok
returns-in-Ok-clause-ok g c =
    subst (λ (d : DeviceState). OnOk c.join.result ((count : ℕ) → accepted_as c.join.new.self count ≡ with_messages d.state.messages c.args.messages.now d.state.clock d.state.history c.args.made count))
    c.in-Ok.ensures c.join.ensures.ok
