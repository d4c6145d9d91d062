-- The months whose cells the devices of a world keep.
use Rattle.std.specs.Prelude.{◌≡◌, ◌≢◌, ℕ, List, map, Bool, true, false, Option, None, Some}
use Rattle.std.specs.List.{AllByRecursion}
use Rattle.envelope_cells.specs.Ids.{month_number}
use Rattle.dirty_cells.specs.Stands.{is_between, with_month}
use Rattle.device_core.specs.Device.{DeviceState}
use Rattle.sync_world.specs.declared.event.WorldFault.{WorldFault}
use Rattle.sync_world.specs.declared.event.WorldFault.TheVariants.{NoMemory, NoSuchDevice}
use Rattle.sync_world.specs.Members.{IsReady}
use Rattle.sync_world.specs.Steps.{states}
use Rattle.sync_world.specs.World.{device_of, with_device}

-- of each device, from the first number of a month to before the second
abbrev pub ranges : List DeviceState → List (ℕ × ℕ)
ranges ds = map (λ d. d.covered) ds

-- there is such a range, and the month YYYYMM is in it
abbrev pub covers : Option (ℕ × ℕ) → ℕ → Bool
covers None month = false
covers (Some range) month = is_between range.0 range.1 month

-- the device with this number of these covers the month, and these are left
pub record CoversTo (i month : ℕ) (old new : List DeviceState) : Type 0 where
  pub ready : AllByRecursion IsReady new
  pub same : states new ≡ states old
  pub range : ℕ × ℕ
  pub there : device_of (ranges old) i ≡ Some range
  pub is : ranges new ≡ with_device (ranges old) i (with_month range (month_number month))
  pub covers : covers (device_of (ranges new) i) month ≡ true

-- there is none with this number, and they are as they were; or memory ran out at one that is there
abbrev pub CoversNone : ℕ → List DeviceState → List DeviceState → WorldFault → Type 0
CoversNone i old new (NoSuchDevice number) = (number ≡ i) × (device_of (states old) i ≡ None) × (new ≡ old)
CoversNone i old new NoMemory = device_of (states old) i ≢ None
CoversNone i old new fault = ⊥
