-- What a world makes of lines, one after the other.
use Rattle.std.specs.Prelude.{ℕ, Bool, if◌then◌else◌, List, [], ◌∷◌, ◌++◌, Option, None}
use Rattle.std.specs.List.{flat_map, list_any}
use Rattle.std.specs.Str.{is_utf8}
use Rattle.std.specs.Io.KnownBytes.{Appends}
use Rattle.command_lines.specs.declared.reply.Reply.{Reply}
use Rattle.command_lines.specs.Commands.{is_too_long}
use Rattle.command_lines.specs.Replies.{faulty, reply_text_of}
use Rattle.sync_world.specs.World.{WorldState}
use Rattle.world_lines.specs.Session.{answered}
use Rattle.budget_top.specs.Fronts.{IsFront}
use Rattle.budget_top.specs.Session.{is_refused}
use Rattle.budget_top.specs.Standing.{AreFirst}

-- a line that is no UTF-8 is refused, whatever the world
unfoldable pub played_short : Option WorldState → List ℕ → Option WorldState × Reply
played_short w line = if is_utf8 line then answered w line else (w, faulty 0)

-- the world after a line, and the reply to it: a line that is too long is refused too
abbrev pub played : Option WorldState → List ℕ → Option WorldState × Reply
played w line = if is_too_long line then (w, faulty 0) else played_short w line

-- the world after lines
abbrev pub world_after : Option WorldState → List (List ℕ) → Option WorldState
world_after w [] = w
world_after w (line ∷ lines) = world_after (played w line).0 lines

-- the replies to lines
abbrev pub world_replies : Option WorldState → List (List ℕ) → List Reply
world_replies w [] = []
world_replies w (line ∷ lines) = (played w line).1 ∷ world_replies (played w line).0 lines

-- what is written for lines of a run, which begins with no world: the replies to them, one behind the other
abbrev pub replies_text : List (List ℕ) → List ℕ
replies_text lines = flat_map reply_text_of (world_replies None lines)

-- the reply to a line that comes behind others
abbrev pub reply_after : List (List ℕ) → List ℕ → Reply
reply_after lines line = (played (world_after None lines) line).1

-- whether one of the lines is refused
abbrev pub some_line_refused : List (List ℕ) → Bool
some_line_refused lines = list_any is_refused (world_replies None lines)

-- ---- lines of which not all got their whole reply

-- some of the lines were handled, from the first on, and what was written are exactly the replies to them
pub record RepliesToFirst (due : List (List ℕ)) (taken new_taken : Option (List ℕ)) : Type 0 where
  pub handled : List (List ℕ)
  pub first : AreFirst handled due
  pub written : Appends taken new_taken (replies_text handled)

-- the last one that was handled has a front of its reply, or all of it, and those before it have theirs
pub record CutsReply (due : List (List ℕ)) (taken new_taken : Option (List ℕ)) : Type 0 where
  pub handled : List (List ℕ)
  pub last : List ℕ
  pub part : List ℕ
  pub of : IsFront part (reply_text_of (reply_after handled last))
  pub first : AreFirst (handled ++ last ∷ []) due
  pub written : Appends taken new_taken (replies_text handled ++ part)
