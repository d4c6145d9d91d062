-- How runs end where no call of the outside fails.
use Rattle.std.specs.Prelude.{◌≡◌, ◌≤◌, ℕ, List, [], ◌∷◌, ◌++◌, ◌==◌, IsTrue, length, Bool, true, false, Option, Some, Ok}
use Rattle.std.specs.List.{AllByRecursion, list_any}
use Rattle.std.specs.Io.KnownBytes.{Appends, IsAtEnd}
use Rattle.budget_ports.specs.Faults.{IsUnfailed}
use Rattle.field_merge.specs.declared.message.Message.{Message}
use Rattle.kept_messages.specs.Records.{kept_set}
use Rattle.budget_top.specs.declared.words.Mode.TheVariants.{Merge, Device, Serve, Generate, World}
use Rattle.budget_top.specs.declared.words.Plan.{Plan}
use Rattle.budget_top.specs.Words.{planned}
use Rattle.budget_top.specs.Lines.{all_lines}
use Rattle.budget_top.specs.Limits.{most_input}
use Rattle.budget_top.specs.Verdicts.{some_bad, merge_text}
use Rattle.budget_top.specs.Course.{some_refused}
use Rattle.budget_top.specs.Seen.{Seen, device_records}
use Rattle.budget_top.specs.Standing.{Entry, Handles}
use Rattle.budget_top.specs.DeviceRun.{target_of, beginning, entry}
use Rattle.sync_wire.specs.declared.request.SyncRequest.{SyncRequest}
use Rattle.sync_server.specs.Outside.{HasFound}
use Rattle.sync_server.specs.Serving.{Accepts, Decides}
use Rattle.budget_top.specs.Serving.{Turn, kept_by}
use Rattle.budget_top.specs.ServeRun.{AtDoor, door_of, with_file, HasServed}
use Rattle.budget_top.specs.GenerateRun.{book_text}
use Rattle.budget_top.specs.Playing.{replies_text, some_line_refused}
use Rattle.budget_top.specs.Outside.{Outside}
use Rattle.budget_top.specs.Replied.{GetsReply}

-- a source has these bytes left, which are no more than a run takes
pub record IsInput (left : Option (List ℕ)) (input : List ℕ) : Type 0 where
  pub has : left ≡ Some input
  pub within : length input ≤ most_input

-- a run over lines ends: all was done and no line is bad, or one is; or memory ran out
pub data Ends (status : ℕ) (Does : Bool → Type 0) : Type 0 where
  all_good : status ≡ 0 → Does false → Ends status Does
  one_bad : status ≡ 1 → Does true → Ends status Does
  no_memory : status ≡ 7 → Ends status Does

-- ---- merge

-- all lines of the input were read, and all that merging makes of them was written
pub record Merges (has_bad : Bool) (input : List ℕ) (left taken new_taken : Option (List ℕ)) : Type 0 where
  pub at_end : IsAtEnd left
  pub bad : some_bad (all_lines input) ≡ has_bad
  pub text : Appends taken new_taken (merge_text input)

abbrev pub MergesUnfailed : List (List ℕ) → ℕ → Outside → Outside → Type 0
MergesUnfailed asked status old now = (plan : Plan) (input : List ℕ) → planned asked ≡ Ok plan → plan.mode ≡ Merge
    → IsInput old.left input → IsUnfailed old.source_faults now.source_faults → IsUnfailed old.sink_faults now.sink_faults
    → Ends status (λ has_bad. Merges has_bad input now.left old.seen.taken now.seen.taken)

-- ---- device

-- all lines of the input were handled, each with its reply, and one was refused or none
pub record HandlesEach (has_bad : Bool) (input : List ℕ) (left : Option (List ℕ)) (e : Entry) (now : Seen) : Type 0 where
  pub at_end : IsAtEnd left
  pub handled : Handles e (all_lines input) now
  pub bad : some_refused e.target e.start handled.inputs ≡ has_bad

abbrev pub HandlesUnfailed : List (List ℕ) → ℕ → Outside → Outside → Type 0
HandlesUnfailed asked status old now = (plan : Plan) (first : List Message) (input : List ℕ) → planned asked ≡ Ok plan → plan.mode ≡ Device
    → now.seen.tells → kept_set (device_records old.seen.contents) ≡ Ok first
    → IsInput old.left input → IsUnfailed old.source_faults now.source_faults → IsUnfailed old.sink_faults now.sink_faults → IsUnfailed old.keeper_faults now.keeper_faults
    → (node : List ℕ) × (plan.node ≡ Some node)
    × Ends status (λ has_bad. HandlesEach has_bad input now.left (entry old.seen (target_of plan) (beginning node (target_of plan) first old.seen.contents)) now.seen)

-- ---- serve

-- no call failed at a connection
pub record IsUnfailedTurn (t : Turn) : Type 0 where
  pub keeper : t.visit.keeper_failed ≡ false
  pub door : t.visit.door_failed ≡ false
  pub close : t.visit.close_failed ≡ false

-- as many connections were served as the plan says, and no call failed at any. So each whole request that was accepted, over what was kept when
-- its connection came, got its answer, or memory ran out at it
pub record ServesEach (plan : Plan) (old now : AtDoor) : Type 0 where
  pub served : HasServed plan.token plan.count (with_file plan old.contents) 0 old now
  pub unfailed : AllByRecursion IsUnfailedTurn served.turns
  pub replied : now.tells → (earlier later : List Turn) (t : Turn) (ms : List Message) (q : SyncRequest) → served.turns ≡ earlier ++ t ∷ later
      → Decides plan.token (HasFound (kept_by (with_file plan old.contents) earlier)) t.visit.came (Accepts ms q) → GetsReply ms q t.visit t.end

-- or memory ran out before the first one
pub data Serves (plan : Plan) (status : ℕ) (old now : AtDoor) : Type 0 where
  all_served : status ≡ 0 → ServesEach plan old now → Serves plan status old now
  none_served : status ≡ 7 → Serves plan status old now

abbrev pub ServesUnfailed : List (List ℕ) → ℕ → Outside → Outside → Type 0
ServesUnfailed asked status old now = (plan : Plan) → planned asked ≡ Ok plan → plan.mode ≡ Serve
    → IsUnfailed old.sink_faults now.sink_faults → IsUnfailed old.keeper_faults now.keeper_faults → IsUnfailed old.door_faults now.door_faults
    → Serves plan status (door_of old) (door_of now)

-- ---- generate

-- all was written; or memory ran out
pub data Generates (count status : ℕ) (taken new_taken : Option (List ℕ)) : Type 0 where
  all_written : status ≡ 0 → Appends taken new_taken (book_text count) → Generates count status taken new_taken
  none_written : status ≡ 7 → Generates count status taken new_taken

abbrev pub GeneratesUnfailed : List (List ℕ) → ℕ → Outside → Outside → Type 0
GeneratesUnfailed asked status old now = (plan : Plan) → planned asked ≡ Ok plan → plan.mode ≡ Generate
    → IsUnfailed old.sink_faults now.sink_faults → Generates plan.count status old.seen.taken now.seen.taken

-- ---- world

-- all lines of the input were read, each has its reply, and one was refused or none
pub record Plays (has_bad : Bool) (input : List ℕ) (left taken new_taken : Option (List ℕ)) : Type 0 where
  pub at_end : IsAtEnd left
  pub bad : some_line_refused (all_lines input) ≡ has_bad
  pub written : Appends taken new_taken (replies_text (all_lines input))

abbrev pub PlaysUnfailed : List (List ℕ) → ℕ → Outside → Outside → Type 0
PlaysUnfailed asked status old now = (plan : Plan) (input : List ℕ) → planned asked ≡ Ok plan → plan.mode ≡ World
    → IsInput old.left input → IsUnfailed old.source_faults now.source_faults → IsUnfailed old.sink_faults now.sink_faults
    → Ends status (λ has_bad. Plays has_bad input now.left old.seen.taken now.seen.taken)

-- ---- of a source that doesn't tell what it has left, as standard input

-- 0, 1 or 7; or 9, where more was read than a run takes
abbrev pub EndsWell : ℕ → Type 0
EndsWell status = IsTrue (list_any (λ s. status == s) (0 ∷ 1 ∷ 7 ∷ 9 ∷ []))

abbrev pub MergesWell : List (List ℕ) → ℕ → Outside → Outside → Type 0
MergesWell asked status old now = (plan : Plan) → planned asked ≡ Ok plan → plan.mode ≡ Merge
    → IsUnfailed old.source_faults now.source_faults → IsUnfailed old.sink_faults now.sink_faults → EndsWell status

abbrev pub HandlesWell : List (List ℕ) → ℕ → Outside → Outside → Type 0
HandlesWell asked status old now = (plan : Plan) (first : List Message) → planned asked ≡ Ok plan → plan.mode ≡ Device
    → now.seen.tells → kept_set (device_records old.seen.contents) ≡ Ok first
    → IsUnfailed old.source_faults now.source_faults → IsUnfailed old.sink_faults now.sink_faults → IsUnfailed old.keeper_faults now.keeper_faults → EndsWell status

abbrev pub PlaysWell : List (List ℕ) → ℕ → Outside → Outside → Type 0
PlaysWell asked status old now = (plan : Plan) → planned asked ≡ Ok plan → plan.mode ≡ World
    → IsUnfailed old.source_faults now.source_faults → IsUnfailed old.sink_faults now.sink_faults → EndsWell status

-- ---- each mode

-- where words are accepted, no count rose, and what is kept reads as messages, all that is asked for was done, or memory ran out
pub record EndsUnfailed (asked : List (List ℕ)) (status : ℕ) (old now : Outside) : Type 0 where
  pub merge : MergesUnfailed asked status old now
  pub device : HandlesUnfailed asked status old now
  pub serve : ServesUnfailed asked status old now
  pub generate : GeneratesUnfailed asked status old now
  pub world : PlaysUnfailed asked status old now
  -- whatever the source tells
  pub merge_untold : MergesWell asked status old now
  pub device_untold : HandlesWell asked status old now
  pub world_untold : PlaysWell asked status old now
