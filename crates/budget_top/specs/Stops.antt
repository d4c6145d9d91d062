-- Why a run breaks off, and with which status.
use Rattle.std.specs.Prelude.{ℕ, Result, Ok, Err}
use Rattle.budget_ports.specs.declared.keeper.PortFault.{PortFault}
use Rattle.budget_ports.specs.declared.keeper.PortFault.TheVariants.{Failed, NoMemory}
use Rattle.budget_top.specs.declared.stop.Stop.{Stop}
use Rattle.budget_top.specs.declared.stop.Stop.TheVariants.{Memory, Sink}
use Rattle.budget_top.specs.declared.stop.DeviceStop.{DeviceStop}
use Rattle.budget_top.specs.declared.stop.DeviceStop.TheVariants.{Run, Keeper}
use Rattle.budget_top.specs.declared.input.End.{End}
use Rattle.budget_top.specs.declared.input.End.TheVariants.{AtEnd, SourceFailed, TooMuch, Stopped}
use Rattle.budget_top.specs.declared.opening.OpeningFault.{OpeningFault}
use Rattle.budget_top.specs.declared.opening.OpeningFault.TheVariants.{Keeper as KeeperFailed, BadRecord, NoMemory as OutOfMemory}

-- the status of a run that stops
abbrev pub stop_status : Stop → ℕ
stop_status Memory = 7
stop_status Sink = 5

-- the status of a device's run that stops
abbrev pub device_stop_status : DeviceStop → ℕ
device_stop_status (Run stop) = stop_status stop
device_stop_status Keeper = 6

-- a fault of the keeper stops the run for what it is
abbrev pub stop_of : PortFault → DeviceStop
stop_of Failed = Keeper
stop_of NoMemory = Run Memory

-- the status with which a step ends the run, by that of what stops it, or 0 where the run goes on
abbrev pub step_status : {S T : Type 0} → (S → ℕ) → Result T S → ℕ
step_status status (Ok done) = 0
step_status status (Err stop) = status stop

-- the same of how reading ended
abbrev pub end_status : {S : Type 0} → (S → ℕ) → End S → ℕ
end_status status AtEnd = 0
end_status status SourceFailed = 4
end_status status TooMuch = 9
end_status status (Stopped stop) = status stop

-- the same of a device's opening
abbrev pub opening_status : {T : Type 0} → Result T OpeningFault → ℕ
opening_status (Ok device) = 0
opening_status (Err KeeperFailed) = 6
opening_status (Err (BadRecord index)) = 3
opening_status (Err OutOfMemory) = 7
