-- What the objects of the outside tell a device's run.
use Rattle.std.specs.Prelude.{◌≡◌, ◌≢◌, ℕ, List, [], Option, Some, codes}
use Rattle.std.specs.FinMap.{get}
use Rattle.budget_ports.specs.Contents.{Contents, Text, records_after}
use Rattle.budget_ports.specs.declared.keeper.Record.{Record}
use Rattle.budget_ports.specs.Readings.{Readings}
use Rattle.budget_ports.specs.Memory.{SinkState}
use Rattle.budget_ports.specs.KeeperState.{KeeperState, holds}
use Rattle.budget_ports.specs.Exchanges.{Exchange}
use Rattle.budget_ports.specs.Script.{LinkState, exchanges}
use Rattle.field_merge.specs.declared.message.Message.{Message}
use Rattle.kept_messages.specs.Holding.{Holds as HoldsIn}
use Rattle.device_sync.specs.declared.target.Target.{Target}
use Rattle.device_sync.specs.Sync.{synced_name}
use Rattle.budget_top.specs.Doing.{Running}

-- the group in which a device's messages are kept
abbrev pub device_group : Text
device_group = codes "device"

-- its records
abbrev pub device_records : Contents → List Record
device_records contents = records_after contents device_group []

-- the group keeps this message set, and all else is as it was at entry
abbrev pub HoldsSet : Contents → Contents → List Message → Type 0
HoldsSet entry now ms = HoldsIn device_group entry now ms

-- The group keeps the messages of the run, the text that tells of the last sync with the target is that of the run, and all
-- else is as it was at entry
pub record Holds (target : Target) (entry now : Contents) (r : Running) : Type 0 where
  pub set : HoldsSet (record entry { texts = now.texts }) now r.state.messages
  pub texts : (name : Text) → name ≢ synced_name target → get now.texts name ≡ get entry.texts name
  pub synced : get now.texts (synced_name target) ≡ r.synced

-- what a sink, a clock, a link and a keeper tell at a moment, and the contents that a stop may leave then
pub record Seen : Type 1 where
  pub taken : Option (List ℕ)
  pub readings : Option Readings
  pub exchanges : Option (List Exchange)
  pub link_faults : ℕ
  pub tells : Type 0
  pub contents : Contents
  pub left : Contents → Type 0

-- what they tell: the bytes that the sink has taken, the readings that the clock will give, the exchanges of the link and how often it
-- has failed, whether the keeper tells, what it holds, and what a stop may leave
abbrev pub seen : Option (List ℕ) → Option Readings → Option (List Exchange) → ℕ → Type 0 → Contents → (Contents → Type 0) → Seen
seen taken readings exchanges link_faults tells contents left =
    record { taken = taken; readings = readings; exchanges = exchanges; link_faults = link_faults; tells = tells; contents = contents; left = left }

-- what objects in memory tell: all that they hold; a stop leaves just what the keeper holds
abbrev pub seen_in_memory : SinkState → Readings → LinkState → KeeperState → Seen
seen_in_memory sink clock link keeper = seen (Some sink.taken) (Some clock) (Some (exchanges link)) link.calls.faults (Unit {0}) keeper.contents (holds keeper)
