-- Where merging stands between two steps.
use Rattle.std.specs.Prelude.{◌≡◌, ℕ, ◌+◌, ◌≤◌, false, ◌||◌, List, ◌++◌, length, take, Option}
use Rattle.std.specs.Result.{is_err}
use Rattle.std.specs.Io.KnownBytes.{Appends}
use Rattle.field_merge.specs.declared.message.Message.{Message}
use Rattle.field_merge.specs.Latest.{CameFrom}
use Rattle.budget_top.specs.declared.merge.Merge.{Merge}
use Rattle.budget_top.specs.declared.stop.Stop.{Stop}
use Rattle.budget_top.specs.declared.input.End.{End}
use Rattle.budget_top.specs.declared.input.End.TheVariants.{AtEnd, SourceFailed, TooMuch, Stopped}
use Rattle.budget_top.specs.Lines.{whole_lines, last_piece, all_lines}
use Rattle.budget_top.specs.Verdicts.{Verdict, bad_line, bad_lines, message_in, messages_of, some_bad}
use Rattle.budget_top.specs.KeptLine.{kept_line}
use Rattle.budget_top.specs.Fronts.{AppendsFront}
use Rattle.budget_top.specs.Limits.{most_input}

-- the line with this verdict was dealt with
pub record Settles (old new : Merge) (a b : Option (List ℕ)) (verdict : Verdict) : Type 0 where
  pub live : new.latest.spent ≡ false
  pub messages : (ms : List Message) → CameFrom ms old.latest → CameFrom (ms ++ message_in verdict) new.latest
  pub number : new.number ≡ old.number
  pub bad : new.has_bad ≡ (old.has_bad || is_err verdict)
  pub written : Appends a b (bad_line (old.number + 1) verdict)

-- these bytes were read, and their whole lines dealt with; the sink held `entry` before
pub record Stands (entry now : Option (List ℕ)) (read : List ℕ) (m : Merge) : Type 0 where
  pub live : m.latest.spent ≡ false
  pub messages : CameFrom (messages_of (whole_lines read)) m.latest
  pub line : m.line ≡ kept_line (last_piece read)
  pub number : m.number ≡ length (whole_lines read)
  pub bad : m.has_bad ≡ some_bad (whole_lines read)
  pub written : Appends entry now (bad_lines (whole_lines read))

-- all lines were dealt with
pub record Ended (entry now : Option (List ℕ)) (read : List ℕ) (m : Merge) : Type 0 where
  pub live : m.latest.spent ≡ false
  pub messages : CameFrom (messages_of (all_lines read)) m.latest
  pub bad : m.has_bad ≡ some_bad (all_lines read)
  pub written : Appends entry now (bad_lines (all_lines read))

-- how reading ended
abbrev pub EndsReading : End Stop → Option (List ℕ) → Option (List ℕ) → List ℕ → Merge → Type 0
EndsReading AtEnd entry now read m = (length read ≤ most_input) × Stands entry now read m
EndsReading SourceFailed entry now read m = (length read ≤ most_input) × Appends entry now (bad_lines (whole_lines read))
EndsReading TooMuch entry now read m = (most_input + 1 ≤ length read) × Appends entry now (bad_lines (whole_lines (take most_input read)))
EndsReading (Stopped stop) entry now read m = AppendsFront entry now (bad_lines (whole_lines (take most_input read)))
