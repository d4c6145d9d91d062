use Rattle.std.proofs.Common.{◌∙◌, ap}
use Rattle.device_core.specs.Device.{DeviceState}
use Rattle.generated_books.proofs.Numbers.{all_from_first}
use Rattle.generated_books.proofs.device.generated_device.Goals as goal

pub returns : goal.returns
returns g c =
    let came = c.in_ok-receive_all.ensures in
    let covers = c.in_ok-cover.ensures in
    record {
      live = ap (λ (d : DeviceState). d.spent) covers.ok ∙ came.live;
      messages = ap (λ (d : DeviceState). d.state.messages) covers.ok ∙ came.messages ∙ all_from_first c.args.count;
      kept = ap (λ (d : DeviceState). d.batch) covers.ok ∙ came.kept;
      covered = covers.covered;
    }
