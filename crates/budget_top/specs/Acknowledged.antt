-- What a stop leaves of what was acknowledged: of the lines that a device has answered, and of the requests that a server has answered.
use Rattle.std.specs.Prelude.{◌≡◌, ℕ, List, ◌++◌, Option, Some, Ok}
use Rattle.std.specs.List.{Contains}
use Rattle.budget_ports.specs.Contents.{Contents}
use Rattle.budget_ports.specs.Exchanges.{Adds}
use Rattle.budget_ports.specs.Keeper.{IsAlone}
use Rattle.budget_ports.specs.Readings.{Takes}
use Rattle.field_merge.specs.declared.message.Message.{Message}
use Rattle.kept_messages.specs.Records.{kept_set}
use Rattle.device_sync.specs.declared.target.Target.{Target}
use Rattle.budget_top.specs.declared.words.Mode.TheVariants.{Device, Serve}
use Rattle.budget_top.specs.declared.words.Plan.{Plan}
use Rattle.budget_top.specs.Words.{planned}
use Rattle.budget_top.specs.Limits.{HasRead, AreDue}
use Rattle.budget_top.specs.Fronts.{AppendsFront}
use Rattle.budget_top.specs.Doing.{Running}
use Rattle.budget_top.specs.Course.{Input, after, replies, talks}
use Rattle.budget_top.specs.Seen.{Seen, device_records}
use Rattle.budget_top.specs.Standing.{lines_of, readings_of, AreFirst}
use Rattle.budget_top.specs.DeviceRun.{target_of, beginning}
use Rattle.budget_top.specs.Serving.{Turn, AreServed, ComeIn, GoOut}
use Rattle.budget_top.specs.Answers.{KeepAnswered}
use Rattle.budget_top.specs.ServeRun.{AtDoor, door_of, with_file}
use Rattle.budget_top.specs.Outside.{Outside}

-- ---- lines of a device

-- each message of the first set is one of the second, as it was
abbrev pub Keeps : List Message → List Message → Type 0
Keeps ms ns = (m : Message) → Contains ms m → Contains ns m

-- the device's group keeps messages, and among these are all that each of these lines left
pub record KeepsAnswered (target : Target) (start : Running) (answered : List Input) (c : Contents) : Type 0 where
  pub set : List Message
  pub is_set : kept_set (device_records c) ≡ Ok set
  pub has : (earlier later : List Input) → answered ≡ earlier ++ later → Keeps (after target start earlier).state.messages set

-- Some lines of what was read were answered, from the first on, and at most a line behind them was in hand. What was written is a front of the replies to
-- the answered lines, so each line of whose reply a byte was written is one of them; and each of what a stop may leave has all that they left
pub record LinesStay (target : Target) (start : Running) (left new_left : Option (List ℕ)) (old now : Seen) : Type 0 where
  pub read : List ℕ
  pub has_read : HasRead left new_left read
  pub due : List (List ℕ)
  pub are_due : AreDue new_left read due
  pub answered : List Input
  pub in_hand : List Input
  pub first : AreFirst (lines_of (answered ++ in_hand)) due
  pub took : Takes old.readings now.readings (readings_of (answered ++ in_hand))
  pub talked : Adds old.exchanges now.exchanges (talks (answered ++ in_hand))
  pub written : AppendsFront old.taken now.taken (replies target start answered)
  pub stays : (c : Contents) → now.left c → KeepsAnswered target start answered c

-- of a whole run of a device: its group was not opened, no line was read, and a stop leaves what was there; or it began with what the group keeps
pub data DeviceKeeps (node : List ℕ) (target : Target) (left new_left : Option (List ℕ)) (old now : Seen) : Type 0 where
  unopened : new_left ≡ left → ((c : Contents) → now.left c → c ≡ old.contents) → DeviceKeeps node target left new_left old now
  opened : (first : List Message) → ((c : Contents) → now.left c → kept_set (device_records old.contents) ≡ Ok first)
      → LinesStay target (beginning node target first old.contents) left new_left old now → DeviceKeeps node target left new_left old now

-- so it is at each status, where a stop before the run could leave nothing but what was kept
abbrev pub LinesOfRunStay : List (List ℕ) → Outside → Outside → Type 0
LinesOfRunStay asked old now = (plan : Plan) → planned asked ≡ Ok plan → plan.mode ≡ Device → IsAlone old.seen.tells old.seen.contents old.seen.left
    → (node : List ℕ) × (plan.node ≡ Some node) × DeviceKeeps node (target_of plan) old.left now.left old.seen now.seen

-- ---- requests of a server

-- These connections came in and were served, over what was kept when the file had its group, and what was written to connections are their replies. Each of
-- what a stop may leave has, of each that was answered with 200, all that its group had then and the messages of its request
pub record RequestsStay (plan : Plan) (old now : AtDoor) : Type 0 where
  pub turns : List Turn
  pub came : ComeIn old.waiting now.waiting turns
  pub went : GoOut old.outs now.outs turns
  pub served : AreServed now.tells plan.token (with_file plan old.contents) turns
  pub stays : (c : Contents) → now.left c → KeepAnswered turns c

-- so it is at each status of a server's run
abbrev pub RequestsOfRunStay : List (List ℕ) → Outside → Outside → Type 0
RequestsOfRunStay asked old now = (plan : Plan) → planned asked ≡ Ok plan → plan.mode ≡ Serve → RequestsStay plan (door_of old) (door_of now)

-- ---- both

-- what was acknowledged in a run is in each of what a stop may leave of it
pub record AcknowledgedStay (asked : List (List ℕ)) (old now : Outside) : Type 0 where
  pub lines : LinesOfRunStay asked old now
  pub requests : RequestsOfRunStay asked old now
