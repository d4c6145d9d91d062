-- How a reader finds the replies in what a device has written.
use Rattle.std.specs.Prelude.{◌≡◌, ℕ, List, [], ◌∷◌, ◌++◌}
use Rattle.command_lines.specs.Replies.{reply_lines}
use Rattle.budget_top.specs.Lines.{pieces}
use Rattle.device_sync.specs.declared.target.Target.{Target}
use Rattle.budget_top.specs.Doing.{Running}
use Rattle.budget_top.specs.Valid.{IsState}
use Rattle.budget_top.specs.Course.{Input, step, replies, AreWhole}

-- the lines of the replies to inputs: of each reply `ok N` and N lines, or the one line of a refusal
abbrev pub lines_of_replies : Target → Running → List Input → List (List ℕ)
lines_of_replies target r [] = []
lines_of_replies target r (i ∷ is) = reply_lines (step target r i).1 ++ lines_of_replies target (step target r i).0 is

-- what a device of a valid state has written, at lines that each have their whole talk, is cut by its line feeds into these lines, and nothing stands
-- behind the last
abbrev pub RepliesAreCut : Type 0
RepliesAreCut = (target : Target) (r : Running) (is : List Input) → IsState r.state → AreWhole target r is → pieces (replies target r is) ≡ lines_of_replies target r is ++ [] ∷ []
