-- What stays: of the messages of a device in a conversation and in a line, and of lines that were answered in what a stop leaves.
use Rattle.std.specs.Prelude.{ℕ, List}
use Rattle.budget_ports.specs.Contents.{Contents}
use Rattle.device_core.specs.Device.{State}
use Rattle.device_sync.specs.declared.target.Target.{Target}
use Rattle.device_sync.specs.Talk.{Outcome, Turn, Talk}
use Rattle.budget_top.specs.Doing.{Running}
use Rattle.budget_top.specs.Course.{Input, step, after}
use Rattle.budget_top.specs.Handling.{HoldsSome}
use Rattle.budget_top.specs.Seen.{Holds}
use Rattle.budget_top.specs.Standing.{Leaves}
use Rattle.budget_top.specs.Acknowledged.{Keeps, KeepsAnswered}

-- the end of a conversation has every message of its beginning, as it was
abbrev pub TalksKeepMessages : Type 0
TalksKeepMessages = (target : Target) (reading left : ℕ) (since : List ℕ) (p now : State) (turns : List Turn) (o : Outcome)
    → Talk target reading left since p turns now o → Keeps p.messages now.messages

pub record AnsweredLinesStay : Type 0 where
  -- no line loses a message
  pub lines : (target : Target) (r : Running) (i : Input) → Keeps r.state.messages (step target r i).0.state.messages
  -- what holds the run after lines has all that they left
  pub handled : (target : Target) (start : Running) (answered : List Input) (entry c : Contents) → Holds target entry c (after target start answered) → KeepsAnswered target start answered c
  -- and so has what a stop may leave in a line behind them, whether it syncs or not
  pub in_hand : (target : Target) (start : Running) (answered in_hand : List Input) (entry c : Contents)
      → HoldsSome target entry c (Leaves target (after target start answered) in_hand) → KeepsAnswered target start answered c
