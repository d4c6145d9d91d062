-- What holds between the steps of a device's run.
use Rattle.std.specs.Prelude.{◌≡◌, ℕ, ◌<◌, ◌≤◌, List, [], length, take, false}
use Rattle.budget_top.specs.declared.session.Session.{Session}
use Rattle.budget_top.specs.declared.stop.DeviceStop.{DeviceStop}
use Rattle.budget_top.specs.declared.stop.DeviceStop.TheVariants.{Run, Keeper}
use Rattle.budget_top.specs.declared.stop.Stop.TheVariants.{Memory, Sink}
use Rattle.budget_top.specs.declared.input.End.{End}
use Rattle.budget_top.specs.declared.input.End.TheVariants.{AtEnd, SourceFailed, TooMuch, Stopped}
use Rattle.budget_top.specs.Lines.{whole_lines, last_piece, all_lines}
use Rattle.budget_top.specs.Limits.{most_input}
use Rattle.budget_top.specs.KeptLine.{kept_line}
use Rattle.budget_top.specs.Course.{some_refused}
use Rattle.budget_top.specs.Seen.{device_group, Seen}
use Rattle.budget_top.specs.Standing.{Entry, reached, Handles, Halts, FailsToKeep, Cuts}

-- no line is in hand: all that was made is kept, and the group is the device's
pub record IsReady (session : Session) : Type 0 where
  pub live : session.device.spent ≡ false
  pub idle : session.device.batch ≡ []
  pub group : session.group ≡ device_group

-- these bytes were read, and their whole lines handled
pub record Stands (e : Entry) (read : List ℕ) (session : Session) (now : Seen) : Type 0 where
  pub handled : Handles e (whole_lines read) now
  pub line : session.line ≡ kept_line (last_piece read)
  pub target : session.target ≡ e.target
  pub state : session.device.state ≡ (reached e handled.inputs).state
  pub bad : session.bad ≡ some_refused e.target e.start handled.inputs

-- these bytes were read to their end, and all lines handled
pub record Ended (e : Entry) (read : List ℕ) (session : Session) (now : Seen) : Type 0 where
  pub handled : Handles e (all_lines read) now
  pub bad : session.bad ≡ some_refused e.target e.start handled.inputs

-- how it breaks off for this cause
abbrev pub BreaksAs : DeviceStop → Entry → Type 0 → List (List ℕ) → Seen → Type 0
BreaksAs (Run Memory) e alone due now = Halts e alone due now
BreaksAs Keeper e alone due now = FailsToKeep e alone due now
BreaksAs (Run Sink) e alone due now = Cuts e alone due now

-- how reading ended
abbrev pub EndsAs : End DeviceStop → Entry → Type 0 → Session → List ℕ → Seen → Type 0
EndsAs AtEnd e alone session read now = (length read ≤ most_input) × Stands e read session now
EndsAs SourceFailed e alone session read now = (length read ≤ most_input) × Handles e (whole_lines read) now
EndsAs TooMuch e alone session read now = (most_input < length read) × Handles e (whole_lines (take most_input read)) now
EndsAs (Stopped stop) e alone session read now = BreaksAs stop e alone (whole_lines (take most_input read)) now

-- it ended, and was not stopped while it dealt with bytes
abbrev pub IsWhole : End DeviceStop → Type 0
IsWhole (Stopped stop) = ⊥
IsWhole end = Unit {0}
