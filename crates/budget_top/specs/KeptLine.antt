-- What is kept of a line that has begun.
use Rattle.std.specs.Prelude.{ℕ, if◌then◌else◌, List, ◌++◌, Option, None, Some, Err}
use Rattle.budget_top.specs.declared.verdict.Word.TheVariants.{Long}
use Rattle.command_lines.specs.Commands.{is_too_long}
use Rattle.budget_top.specs.Verdicts.{Verdict, judged_short}

-- all of it, or nothing where it is too long
abbrev pub kept_line : List ℕ → Option (List ℕ)
kept_line line = if is_too_long line then None else Some line

-- the same after more bytes
abbrev pub kept_line_with : Option (List ℕ) → List ℕ → Option (List ℕ)
kept_line_with None more = None
kept_line_with (Some line) more = kept_line (line ++ more)

-- the verdict on it
abbrev pub judged_kept_line : Option (List ℕ) → Verdict
judged_kept_line None = Err Long
judged_kept_line (Some line) = judged_short line
