use Rattle.std.proofs.Common.{◌≡◌, ℕ, ◌+◌, ◌-◌, ◌*◌, [], false}
use Rattle.device_core.specs.Device.{DeviceState}
use Rattle.generated_books.specs.Clocks.{IsWithin, last_time}
use Rattle.generated_books.specs.Numbers.{messages_from}
use Rattle.generated_books.proofs.device.receive_all.Given as goal

-- the batches with this number and greater ones have come
pub record HasCome (device : DeviceState) (at count : ℕ) : Type 0 where
  pub live : device.spent ≡ false
  pub kept : device.batch ≡ []
  pub messages : device.state.messages ≡ messages_from (1000 * at) count
  pub clock : IsWithin (last_time count) (401 - at) device.state.clock

abbrev pub invariant-loop-done : goal.invariant-loop-done
invariant-loop-done g l = HasCome l.device ((l.last + 1) - l.done) l.count
