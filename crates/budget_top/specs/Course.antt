-- The course of a device's run: its lines, one after the other.
use Rattle.std.specs.Prelude.{ℕ, List, [], ◌∷◌, ◌++◌, Bool, false, ◌||◌}
use Rattle.std.specs.List.{flat_map}
use Rattle.budget_ports.specs.Exchanges.{Exchange}
use Rattle.budget_ports.specs.Faults.{count_after}
use Rattle.command_lines.specs.declared.reply.Reply.{Reply}
use Rattle.command_lines.specs.Replies.{reply_text_of}
use Rattle.budget_top.specs.Session.{asked, is_refused}
use Rattle.device_sync.specs.declared.target.Target.{Target}
use Rattle.budget_top.specs.Doing.{Given, Running, said, done, IsWhole, Finds, fails_link}

-- a line, and what it takes from outside
pub record Input : Type 0 where
  pub given : Given
  pub line : List ℕ

-- what a line makes of a run, and its reply
abbrev pub step : Target → Running → Input → Running × Reply
step target r i = done target r i.given (asked i.line)

-- the run after lines
abbrev pub after : Target → Running → List Input → Running
after target r [] = r
after target r (i ∷ is) = after target (step target r i).0 is

-- the replies to lines, one behind the other
abbrev pub replies : Target → Running → List Input → List ℕ
replies target r [] = []
replies target r (i ∷ is) = reply_text_of (step target r i).1 ++ replies target (step target r i).0 is

-- whether a line was refused
abbrev pub some_refused : Target → Running → List Input → Bool
some_refused target r [] = false
some_refused target r (i ∷ is) = is_refused (step target r i).1 || some_refused target (step target r i).0 is

-- the exchanges of lines
abbrev pub talks : List Input → List Exchange
talks inputs = flat_map (λ i. said i.given) inputs

-- each line has its whole talk
abbrev pub AreWhole : Target → Running → List Input → Type 0
AreWhole target r [] = Unit {0}
AreWhole target r (i ∷ is) = IsWhole target r.state i.given (asked i.line) × AreWhole target (step target r i).0 is

-- each line that looked for the text of the last sync found it
abbrev pub AreFound : Target → Running → List Input → Type 0
AreFound target r [] = Unit {0}
AreFound target r (i ∷ is) = Finds i.given (asked i.line) r.synced × AreFound target (step target r i).0 is

-- how often the link has failed after lines, where it had failed so often before
abbrev pub link_faults_after : Target → Running → ℕ → List Input → ℕ
link_faults_after target r faults [] = faults
link_faults_after target r faults (i ∷ is) = link_faults_after target (step target r i).0 (count_after (fails_link r.state i.given (asked i.line)) faults) is
