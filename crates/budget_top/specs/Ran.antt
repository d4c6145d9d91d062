-- What a run has done, in each mode, and what its status tells.
use Rattle.std.specs.Prelude.{◌≡◌, ◌≢◌, ◌⊎◌, ◌==◌, ℕ, Bool, true, false, List, Some, Ok, IsErr}
use Rattle.budget_ports.specs.Faults.{count_after}
use Rattle.budget_top.specs.declared.words.Mode.{Mode}
use Rattle.budget_top.specs.declared.words.Mode.TheVariants.{Merge, Device, Serve, Generate, World}
use Rattle.budget_top.specs.declared.words.Plan.{Plan}
use Rattle.budget_top.specs.Words.{planned, planned_mode}
use Rattle.budget_top.specs.MergeRun.{MergeRun}
use Rattle.budget_top.specs.Outside.{Outside}
use Rattle.budget_top.specs.DeviceRun.{DeviceRun, target_of}
use Rattle.budget_top.specs.ServeRun.{ServeRun, door_of}
use Rattle.budget_top.specs.GenerateRun.{GenerateRun}
use Rattle.budget_top.specs.WorldRun.{WorldRun}

-- whether a failure of the keeper ends each run of this mode
abbrev pub ends_with_keeper : Mode → Bool
ends_with_keeper Merge = true
ends_with_keeper Device = true
ends_with_keeper Serve = false
ends_with_keeper Generate = true
ends_with_keeper World = true

-- A run of the words with this status. Each mode says what was read, written and kept, and the counts say which object a
-- status blames: it has failed once more then, and at no other status. Of the sink this is not said at status 3, nor of the keeper in the mode `serve`.
pub record Ran (asked : List (List ℕ)) (status : ℕ) (old now : Outside) : Type 0 where
  -- words
  pub words : status ≡ 2 → IsErr (planned asked)
  pub refused : IsErr (planned asked) → (status ≡ 2) ⊎ (status ≡ 7)
  -- modes
  pub merge : planned_mode asked ≡ Some Merge → MergeRun status old.left now.left old.seen.taken now.seen.taken
  pub device : (plan : Plan) (node : List ℕ) → planned asked ≡ Ok plan → plan.mode ≡ Device → plan.node ≡ Some node →
      DeviceRun node (target_of plan) status old.left now.left old.sink_faults now.sink_faults old.seen now.seen
  pub serve : (plan : Plan) → planned asked ≡ Ok plan → plan.mode ≡ Serve → ServeRun plan status (door_of old) (door_of now)
  pub generate : (plan : Plan) → planned asked ≡ Ok plan → plan.mode ≡ Generate → GenerateRun plan.count status old.seen.taken now.seen.taken
  pub world : planned_mode asked ≡ Some World → WorldRun status old.left now.left old.seen.taken now.seen.taken
  -- causes
  pub source : now.source_faults ≡ count_after (status == 4) old.source_faults
  pub sink : status ≢ 3 → now.sink_faults ≡ count_after (status == 5) old.sink_faults
  pub keeper : (mode : Mode) → planned_mode asked ≡ Some mode → ends_with_keeper mode ≡ true → now.keeper_faults ≡ count_after (status == 6) old.keeper_faults
