-- Where a device's run stands between two lines, and how it breaks off.
use Rattle.std.specs.Prelude.{◌≡◌, ◌≤◌, ℕ, List, [], ◌∷◌, ◌++◌, length, map, Option}
use Rattle.std.specs.Io.KnownBytes.{Appends}
use Rattle.budget_ports.specs.Contents.{Contents}
use Rattle.budget_ports.specs.Exchanges.{Exchange, Adds}
use Rattle.budget_ports.specs.Keeper.{IsAlone}
use Rattle.budget_ports.specs.Readings.{Readings, Takes}
use Rattle.command_lines.specs.Replies.{reply_text_of}
use Rattle.budget_top.specs.Session.{asked}
use Rattle.budget_top.specs.Fronts.{IsFront}
use Rattle.device_sync.specs.declared.target.Target.{Target}
use Rattle.budget_top.specs.Doing.{Running, HasStayed, MayLeave, HasMadeNew}
use Rattle.budget_top.specs.Course.{Input, step, after, replies, talks, AreWhole, AreFound, link_faults_after}
use Rattle.budget_top.specs.Seen.{Seen, Holds}
use Rattle.budget_top.specs.Handling.{HoldsSome}

-- how a run began: what the sink, the clock, the link and the keeper told, the target of its syncs, and where it stood
pub record Entry : Type 0 where
  pub taken : Option (List ℕ)
  pub readings : Option Readings
  pub exchanges : Option (List Exchange)
  pub link_faults : ℕ
  pub contents : Contents
  pub target : Target
  pub start : Running

-- the lines of inputs
abbrev pub lines_of : List Input → List (List ℕ)
lines_of inputs = map (λ i. i.line) inputs

-- the readings that inputs took
abbrev pub readings_of : List Input → List ℕ
readings_of inputs = map (λ i. i.given.reading) inputs

-- these lines come first
abbrev pub AreFirst : List (List ℕ) → List (List ℕ) → Type 0
AreFirst lines all = (more : List (List ℕ)) × (lines ++ more ≡ all)

-- the run after inputs
abbrev pub reached : Entry → List Input → Running
reached e inputs = after e.target e.start inputs

-- how often the link has failed after inputs
abbrev pub failed_by : Entry → List Input → ℕ
failed_by e inputs = link_faults_after e.target e.start e.link_faults inputs

-- these lines talked: each said all that it had to, in their order, and the link failed in those that say so
pub record Talked (e : Entry) (inputs : List Input) (now : Seen) : Type 0 where
  pub talked : Adds e.exchanges now.exchanges (talks inputs)
  pub whole : AreWhole e.target e.start inputs
  pub failed : now.link_faults ≡ failed_by e inputs
  pub found : now.tells → AreFound e.target e.start inputs

-- these lines were handled, one after the other: each took the next reading, talked and was answered, and what it made is kept
pub record Handles (e : Entry) (handled : List (List ℕ)) (now : Seen) : Type 0 where
  pub inputs : List Input
  pub lines : lines_of inputs ≡ handled
  pub took : Takes e.readings now.readings (readings_of inputs)
  pub written : Appends e.taken now.taken (replies e.target e.start inputs)
  pub talk : Talked e inputs now
  pub keeper : now.tells → Holds e.target e.contents now.contents (reached e inputs)

-- what is kept of the line in hand, and how often the link had failed before it and has failed after it
abbrev pub Stays : Target → Running → List Input → Running → ℕ → ℕ → Type 0
Stays target r [] kept faults new_faults = (kept ≡ r) × (new_faults ≡ faults)
Stays target r (i ∷ is) kept faults new_faults = HasStayed target r i.given (asked i.line) kept faults new_faults

-- what a stop may leave of it
abbrev pub Leaves : Target → Running → List Input → Running → Type 0
Leaves target r [] left = left ≡ r
Leaves target r (i ∷ is) left = MayLeave target r i.given (asked i.line) left

-- what it has made where the keeper failed at it
abbrev pub IsNew : Target → Running → List Input → Type 0
IsNew target r [] = ⊥
IsNew target r (i ∷ is) = HasMadeNew target r i.given (asked i.line)

-- The run broke off between the lines that were due, or in one of them before its reply. That line took its reading, and
-- it tells what is kept of it; a stop may leave more of it, where it could leave the contents alone before.
pub record Halts (e : Entry) (alone : Type 0) (due : List (List ℕ)) (now : Seen) : Type 0 where
  pub inputs : List Input
  pub in_hand : List Input
  pub one : length in_hand ≤ 1
  pub first : AreFirst (lines_of (inputs ++ in_hand)) due
  pub took : Takes e.readings now.readings (readings_of (inputs ++ in_hand))
  pub written : Appends e.taken now.taken (replies e.target e.start inputs)
  pub talked : Adds e.exchanges now.exchanges (talks (inputs ++ in_hand))
  pub whole : AreWhole e.target e.start inputs
  pub found : now.tells → AreFound e.target e.start (inputs ++ in_hand)
  pub kept : Running
  pub stays : Stays e.target (reached e inputs) in_hand kept (failed_by e inputs) now.link_faults
  pub keeper : now.tells → Holds e.target e.contents now.contents kept
  pub stops : alone → (c : Contents) → now.left c → HoldsSome e.target e.contents c (Leaves e.target (reached e inputs) in_hand)

-- the keeper failed at what the line in hand made
pub record FailsToKeep (e : Entry) (alone : Type 0) (due : List (List ℕ)) (now : Seen) : Type 0 where
  pub halts : Halts e alone due now
  pub new : IsNew e.target (reached e halts.inputs) halts.in_hand

-- the run broke off in the reply to a line: what the line made is kept, and a front of its reply was written, or all of it
pub record Cuts (e : Entry) (alone : Type 0) (due : List (List ℕ)) (now : Seen) : Type 0 where
  pub inputs : List Input
  pub last : Input
  pub part : List ℕ
  pub of : IsFront part (reply_text_of (step e.target (reached e inputs) last).1)
  pub first : AreFirst (lines_of (inputs ++ last ∷ [])) due
  pub took : Takes e.readings now.readings (readings_of (inputs ++ last ∷ []))
  pub written : Appends e.taken now.taken (replies e.target e.start inputs ++ part)
  pub talk : Talked e (inputs ++ last ∷ []) now
  pub keeper : now.tells → Holds e.target e.contents now.contents (reached e (inputs ++ last ∷ []))
  pub stops : alone → IsAlone now.tells now.contents now.left
