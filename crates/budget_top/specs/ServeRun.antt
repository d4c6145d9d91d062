-- What a run of the mode `serve` has done, by its status.
use Rattle.std.specs.Prelude.{◌≡◌, ◌≢◌, ◌⊎◌, ◌==◌, ◌<◌, ◌≤◌, ℕ, List, [], ◌∷◌, ◌++◌, length, Option, IsTrue}
use Rattle.std.specs.List.{list_any}
use Rattle.std.specs.Io.KnownBytes.{Appends}
use Rattle.budget_ports.specs.Faults.{count_after}
use Rattle.budget_ports.specs.Contents.{Contents, Text, with_text}
use Rattle.budget_ports.specs.Keeper.{Commits}
use Rattle.sync_server.specs.Serving.{file_name}
use Rattle.budget_top.specs.declared.words.Plan.{Plan}
use Rattle.budget_top.specs.Fronts.{IsFront}
use Rattle.budget_top.specs.Outside.{Outside}
use Rattle.budget_top.specs.Serving.{Turn, AreServed, kept_by, keeper_faults_by, door_faults_by, ComeIn, GoOut, end_line, end_lines}
use Rattle.budget_top.specs.Answers.{KeepAnswered}

-- what the objects that a server uses tell at a moment: the bytes that the sink has taken, who waits at the door and what was written to
-- the others, how often door and keeper have failed, whether the keeper tells, what it holds, and what a stop may leave
pub record AtDoor : Type 1 where
  pub taken : Option (List ℕ)
  pub waiting : Option (List (List ℕ))
  pub outs : Option (List (List ℕ))
  pub door_faults : ℕ
  pub keeper_faults : ℕ
  pub tells : Type 0
  pub contents : Contents
  pub left : Contents → Type 0

-- the same, each in its turn
abbrev pub at_door : Option (List ℕ) → Option (List (List ℕ)) → Option (List (List ℕ)) → ℕ → ℕ → Type 0 → Contents → (Contents → Type 0) → AtDoor
at_door taken waiting outs door_faults keeper_faults tells contents left = record {
  taken = taken;
  waiting = waiting;
  outs = outs;
  door_faults = door_faults;
  keeper_faults = keeper_faults;
  tells = tells;
  contents = contents;
  left = left;
}

-- of all objects that a run is handed
abbrev pub door_of : Outside → AtDoor
door_of all = at_door all.seen.taken all.waiting all.outs all.door_faults all.keeper_faults all.seen.tells all.seen.contents all.seen.left

-- what is kept when the first connection comes: the file has its group
abbrev pub with_file : Plan → Contents → Contents
with_file plan contents = with_text contents (file_name plan.file) plan.group

-- No connection was let in, and nothing was written: the keeper failed when the file was to get its group, or memory ran out. Nothing is
-- kept of it, but a stop may leave it
pub record Unopened (plan : Plan) (status : ℕ) (old now : AtDoor) : Type 0 where
  pub known : (status ≡ 6) ⊎ (status ≡ 7)
  pub taken : now.taken ≡ old.taken
  pub waiting : now.waiting ≡ old.waiting
  pub outs : now.outs ≡ old.outs
  pub door_faults : now.door_faults ≡ old.door_faults
  pub keeper_faults : now.keeper_faults ≡ count_after (status == 6) old.keeper_faults
  pub contents : now.tells → now.contents ≡ old.contents
  pub stops : Commits old.tells old.left now.left (with_file plan old.contents)

-- the sink failed at the line of the last connection: a front of it was written, or all of it
pub record CutsLine (turns : List Turn) (taken new_taken : Option (List ℕ)) : Type 0 where
  pub earlier : List Turn
  pub last : Turn
  pub all : turns ≡ earlier ++ last ∷ []
  pub part : List ℕ
  pub of : IsFront part (end_line (length turns) last.end)
  pub written : Appends taken new_taken (end_lines earlier ++ part)

-- the statuses of a run whose file has its group
abbrev pub serve_statuses : List ℕ
serve_statuses = 0 ∷ 5 ∷ 8 ∷ []

-- Connections were served one after the other, the first over these contents: all of them; or the sink failed at the line of the last one; or
-- the door failed to let the next one in
pub record HasServed (token : Text) (count : ℕ) (first : Contents) (status : ℕ) (old now : AtDoor) : Type 0 where
  pub known : IsTrue (list_any (λ s. status == s) serve_statuses)
  pub turns : List Turn
  pub few : length turns ≤ count
  pub all : status ≡ 0 → length turns ≡ count
  pub more : status ≡ 8 → length turns < count
  pub came : ComeIn old.waiting now.waiting turns
  pub went : GoOut old.outs now.outs turns
  pub served : AreServed now.tells token first turns
  pub kept : now.tells → now.contents ≡ kept_by first turns
  pub written : status ≢ 5 → Appends old.taken now.taken (end_lines turns)
  pub cut : status ≡ 5 → CutsLine turns old.taken now.taken
  -- what rose
  pub keeper_faults : now.keeper_faults ≡ keeper_faults_by old.keeper_faults turns
  pub door_faults : now.door_faults ≡ count_after (status == 8) (door_faults_by old.door_faults turns)
  -- what a stop leaves has all that was answered
  pub stops : (c : Contents) → now.left c → KeepAnswered turns c

-- a run of the server of this plan
pub record ServeRun (plan : Plan) (status : ℕ) (old now : AtDoor) : Type 0 where
  pub told : now.tells → old.tells
  pub opening : Unopened plan status old now ⊎ HasServed plan.token plan.count (with_file plan old.contents) status old now
