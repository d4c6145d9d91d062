-- What holds between the steps of a world's run.
use Rattle.std.specs.Prelude.{◌≡◌, ◌<◌, ◌≤◌, ℕ, Bool, List, length, take, Option, None, Some}
use Rattle.std.specs.Io.KnownBytes.{Appends}
use Rattle.command_lines.specs.declared.reply.Reply.{Reply}
use Rattle.command_lines.specs.Replies.{faulty, reply_text_of}
use Rattle.sync_world.specs.World.{WorldState}
use Rattle.budget_top.specs.declared.play.Play.{Play}
use Rattle.budget_top.specs.declared.stop.Stop.{Stop}
use Rattle.budget_top.specs.declared.stop.Stop.TheVariants.{Memory, Sink}
use Rattle.budget_top.specs.declared.input.End.{End}
use Rattle.budget_top.specs.declared.input.End.TheVariants.{AtEnd, SourceFailed, TooMuch, Stopped}
use Rattle.budget_top.specs.Lines.{whole_lines, last_piece, all_lines}
use Rattle.budget_top.specs.Limits.{most_input}
use Rattle.budget_top.specs.KeptLine.{kept_line}
use Rattle.budget_top.specs.Session.{is_refused}
use Rattle.budget_top.specs.Playing.{played_short, world_after, replies_text, some_line_refused, RepliesToFirst, CutsReply}

-- the world after a line, and the reply to it, of what is kept of the line
abbrev pub played_kept : Option WorldState → Option (List ℕ) → Option WorldState × Reply
played_kept w None = (w, faulty 0)
played_kept w (Some line) = played_short w line

-- a line left this world, and this is the text of its reply, which refuses it or doesn't
pub record IsPlayed (due : Option WorldState × Reply) (now : Option WorldState) (text : List ℕ) (refused : Bool) : Type 0 where
  pub world : now ≡ due.0
  pub is_text : text ≡ reply_text_of due.1
  pub is_bad : refused ≡ is_refused due.1

-- these bytes were read, and their whole lines have their replies; the sink held `entry` before
pub record Stands (entry now : Option (List ℕ)) (read : List ℕ) (p : Play) : Type 0 where
  pub world : p.session.world ≡ world_after None (whole_lines read)
  pub line : p.line ≡ kept_line (last_piece read)
  pub bad : p.bad ≡ some_line_refused (whole_lines read)
  pub written : Appends entry now (replies_text (whole_lines read))

-- these bytes were read to their end, and all lines have their replies
pub record Ended (entry now : Option (List ℕ)) (read : List ℕ) (p : Play) : Type 0 where
  pub bad : p.bad ≡ some_line_refused (all_lines read)
  pub written : Appends entry now (replies_text (all_lines read))

-- how it breaks off for this cause
abbrev pub BreaksAs : Stop → Option (List ℕ) → Option (List ℕ) → List (List ℕ) → Type 0
BreaksAs Memory entry now due = RepliesToFirst due entry now
BreaksAs Sink entry now due = CutsReply due entry now

-- how reading ended
abbrev pub EndsAs : End Stop → Option (List ℕ) → Option (List ℕ) → List ℕ → Play → Type 0
EndsAs AtEnd entry now read p = (length read ≤ most_input) × Stands entry now read p
EndsAs SourceFailed entry now read p = (length read ≤ most_input) × Appends entry now (replies_text (whole_lines read))
EndsAs TooMuch entry now read p = (most_input < length read) × Appends entry now (replies_text (whole_lines (take most_input read)))
EndsAs (Stopped stop) entry now read p = BreaksAs stop entry now (whole_lines (take most_input read))
