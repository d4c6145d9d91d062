-- What holds between two connections of a server's run.
use Rattle.std.specs.Prelude.{◌≡◌, ℕ, List, length}
use Rattle.std.specs.Io.KnownBytes.{Appends}
use Rattle.budget_ports.specs.Contents.{Contents, Text}
use Rattle.field_merge.specs.declared.message.Message.{Message}
use Rattle.budget_top.specs.Answers.{KeepsAll, KeepAnswered}
use Rattle.budget_top.specs.Serving.{Turn, AreServed, kept_by, keeper_faults_by, door_faults_by, ComeIn, GoOut, end_lines}
use Rattle.budget_top.specs.ServeRun.{AtDoor}

-- what a group keeps of the first contents it keeps of the others too
abbrev pub KeepsMore : Contents → Contents → Type 0
KeepsMore k c = (group : Text) (ms : List Message) → KeepsAll k group ms → KeepsAll c group ms

-- these connections were served, from the beginning that is told on
pub record Behind (token : Text) (entry : AtDoor) (turns : List Turn) (now : AtDoor) : Type 0 where
  pub told : now.tells → entry.tells
  pub came : ComeIn entry.waiting now.waiting turns
  pub went : GoOut entry.outs now.outs turns
  pub served : AreServed now.tells token entry.contents turns
  pub kept : now.tells → now.contents ≡ kept_by entry.contents turns
  pub keeper_faults : now.keeper_faults ≡ keeper_faults_by entry.keeper_faults turns
  pub door_faults : now.door_faults ≡ door_faults_by entry.door_faults turns
  pub answered : now.tells → KeepAnswered turns now.contents
  pub more : now.tells → (c : Contents) → now.left c → KeepsMore now.contents c
  pub stops : (c : Contents) → now.left c → KeepAnswered turns c

-- so many connections were served, and their lines written
pub record ServedSoFar (token : Text) (entry : AtDoor) (number : ℕ) (now : AtDoor) : Type 0 where
  pub turns : List Turn
  pub many : length turns ≡ number
  pub behind : Behind token entry turns now
  pub written : Appends entry.taken now.taken (end_lines turns)
