-- What a run of the mode `device` has done, by its status.
use Rattle.std.specs.Prelude.{◌≡◌, ◌⊎◌, ℕ, ◌<◌, ◌≤◌, ◌==◌, Bool, true, false, List, [], ◌∷◌, ◌++◌, length, take, codes, Option, Ok, Err, IsTrue}
use Rattle.std.specs.List.{list_any}
use Rattle.std.specs.Fmt.{decimal}
use Rattle.std.specs.FinMap.{get}
use Rattle.std.specs.Io.KnownBytes.{Appends, IsAtEnd}
use Rattle.budget_ports.specs.Faults.{risen}
use Rattle.budget_ports.specs.Contents.{Contents}
use Rattle.budget_ports.specs.Keeper.{IsAlone, LeavesNoMore}
use Rattle.field_merge.specs.declared.message.Message.{Message}
use Rattle.kept_messages.specs.Records.{kept_set}
use Rattle.device_core.specs.Device.{begun}
use Rattle.budget_top.specs.declared.words.Plan.{Plan}
use Rattle.budget_top.specs.Lines.{whole_lines, all_lines}
use Rattle.budget_top.specs.Limits.{most_input, HasRead, AreDue}
use Rattle.budget_top.specs.Fronts.{AppendsFront}
use Rattle.device_sync.specs.declared.target.Target.{Target}
use Rattle.device_sync.specs.Sync.{synced_name}
use Rattle.budget_top.specs.Doing.{Running}
use Rattle.budget_top.specs.Course.{some_refused}
use Rattle.budget_top.specs.Seen.{device_records, Seen}
use Rattle.budget_top.specs.Standing.{Entry, Handles, Halts, FailsToKeep, Cuts}

-- the target of a plan
abbrev pub target_of : Plan → Target
target_of plan = record { token = plan.token; file = plan.file; group = plan.group }

-- a device of this node begins with the messages of its group, and with what is kept of the last sync with the target
abbrev pub beginning : List ℕ → Target → List Message → Contents → Running
beginning node target first contents = record { state = begun node first; synced = get contents.texts (synced_name target) }

-- a run with these things told began with this target, and stood here
abbrev pub entry : Seen → Target → Running → Entry
entry old target start = record {
  taken = old.taken;
  readings = old.readings;
  exchanges = old.exchanges;
  link_faults = old.link_faults;
  contents = old.contents;
  target = target;
  start = start;
}

-- all was read, all lines were handled, and one was refused or none. A stop leaves what the keeper holds, where it did so before
pub record HandlesAll (has_bad : Bool) (new_left : Option (List ℕ)) (e : Entry) (alone : Type 0) (read : List ℕ) (now : Seen) : Type 0 where
  pub within : length read ≤ most_input
  pub at_end : IsAtEnd new_left
  pub handled : Handles e (all_lines read) now
  pub bad : some_refused e.target e.start handled.inputs ≡ has_bad
  pub stops : alone → IsAlone now.tells now.contents now.left

-- the source failed: the whole lines were handled
pub record HandlesTaken (e : Entry) (alone : Type 0) (read : List ℕ) (now : Seen) : Type 0 where
  pub within : length read ≤ most_input
  pub handled : Handles e (whole_lines read) now
  pub stops : alone → IsAlone now.tells now.contents now.left

-- a byte past the limit came: the whole lines before that place were handled
pub record HandlesLimit (e : Entry) (alone : Type 0) (read : List ℕ) (now : Seen) : Type 0 where
  pub past : most_input < length read
  pub handled : Handles e (whole_lines (take most_input read)) now
  pub stops : alone → IsAlone now.tells now.contents now.left

-- the statuses of a run whose group was opened
abbrev pub device_statuses : List ℕ
device_statuses = 0 ∷ 1 ∷ 4 ∷ 5 ∷ 6 ∷ 7 ∷ 9 ∷ []

-- what was read and done, and how the status follows from it
pub record HasAnswered (status : ℕ) (left new_left : Option (List ℕ)) (e : Entry) (alone : Type 0) (now : Seen) : Type 0 where
  pub read : List ℕ
  pub has_read : HasRead left new_left read
  pub known : IsTrue (list_any (λ s. status == s) device_statuses)
  pub all_good : status ≡ 0 → HandlesAll false new_left e alone read now
  pub some_refused : status ≡ 1 → HandlesAll true new_left e alone read now
  pub source_failed : status ≡ 4 → HandlesTaken e alone read now
  pub due : List (List ℕ)
  pub are_due : AreDue new_left read due
  pub sink_failed : status ≡ 5 → Cuts e alone due now
  pub keeper_failed : status ≡ 6 → FailsToKeep e alone due now
  pub no_memory : status ≡ 7 → Halts e alone due now
  pub too_much : status ≡ 9 → HandlesLimit e alone read now

-- what is written where the record with this index, counted from 0, keeps no message
abbrev pub bad_record_text : ℕ → List ℕ
bad_record_text index = codes "bad-record " ++ decimal index ++ 10 ∷ []

-- that line was written, or a front of it, where the sink has failed once more than before
abbrev pub TellsBadRecord : ℕ → Option (List ℕ) → Option (List ℕ) → ℕ → ℕ → Type 0
TellsBadRecord index taken new_taken faults new_faults =
    (new_faults ≡ faults) × Appends taken new_taken (bad_record_text index) ⊎ (new_faults ≡ risen faults) × AppendsFront taken new_taken (bad_record_text index)

-- such a record is the first one, where the keeper tells, and was reported, unless the sink failed at that
pub record BadRecord (faults new_faults : ℕ) (old now : Seen) : Type 0 where
  pub index : ℕ
  pub first_bad : now.tells → kept_set (device_records old.contents) ≡ Err index
  pub reported : TellsBadRecord index old.taken now.taken faults new_faults

-- The group was not opened, and nothing was read. A record of it keeps no message, or the keeper failed or memory ran out
-- before anything was written
pub record Unopened (status : ℕ) (left new_left : Option (List ℕ)) (faults new_faults : ℕ) (old now : Seen) : Type 0 where
  pub source : new_left ≡ left
  pub readings : now.readings ≡ old.readings
  pub exchanges : now.exchanges ≡ old.exchanges
  pub link_faults : now.link_faults ≡ old.link_faults
  pub contents : now.tells → now.contents ≡ old.contents
  pub stops : LeavesNoMore old.left now.left
  pub how : (status ≡ 3) × BadRecord faults new_faults old now ⊎ ((status ≡ 6) ⊎ (status ≡ 7)) × (now.taken ≡ old.taken)

-- the group was opened, and keeps these messages
pub record Opened (node : List ℕ) (target : Target) (status : ℕ) (left new_left : Option (List ℕ)) (old now : Seen) : Type 0 where
  pub first : List Message
  pub has : now.tells → kept_set (device_records old.contents) ≡ Ok first
  pub had : (c : Contents) → now.left c → kept_set (device_records old.contents) ≡ Ok first
  pub answered : HasAnswered status left new_left (entry old target (beginning node target first old.contents)) (IsAlone old.tells old.contents old.left) now

-- a run of the device of this node, which syncs with this target, where the sink had failed so often before it, and has so often after it
pub record DeviceRun (node : List ℕ) (target : Target) (status : ℕ) (left new_left : Option (List ℕ)) (faults new_faults : ℕ) (old now : Seen) : Type 0 where
  pub told : now.tells → old.tells
  pub opening : Unopened status left new_left faults new_faults old now ⊎ Opened node target status left new_left old now
