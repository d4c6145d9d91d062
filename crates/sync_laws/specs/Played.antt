-- What a run of the mode `world` makes of its lines: the replies to them, and whether one of them is refused.
use Rattle.std.specs.Prelude.{◌≡◌, ◌⊎◌, ◌↔◌, ◌<◌, ◌≤◌, ℕ, List, [], ◌∷◌, ◌++◌, length, true, Option, None, Some, slice_get, IsUtf8}
use Rattle.std.specs.List.{flat_map}
use Rattle.std.specs.Io.KnownBytes.{Appends}
use Rattle.command_lines.specs.declared.reply.Reply.{Reply}
use Rattle.command_lines.specs.declared.reply.Reply.TheVariants.{Refused}
use Rattle.command_lines.specs.Commands.{longest_line}
use Rattle.command_lines.specs.Replies.{faulty, reply_text_of}
use Rattle.sync_world.specs.World.{WorldState}
use Rattle.world_lines.specs.Session.{answered}
use Rattle.budget_top.specs.Lines.{all_lines}
use Rattle.budget_top.specs.Playing.{world_after, replies_text, reply_after, some_line_refused}
use Rattle.budget_top.specs.WorldRun.{WorldRun}

-- ---- replies

-- the world after some lines and one more, and the reply to that one
abbrev pub with_line : List (List ℕ) → List ℕ → Option WorldState × Reply
with_line before line = (world_after None (before ++ line ∷ []), reply_after before line)

-- what a line makes behind others
pub record IsPlayedBehind (before : List (List ℕ)) (line : List ℕ) : Type 0 where
  -- one that is too long, or no UTF-8, is refused for its first word, and leaves the world that those before it left
  pub refused : (longest_line < length line) ⊎ (IsUtf8 line → ⊥) → with_line before line ≡ (world_after None before, faulty 0)
  -- another one is answered in that world
  pub answered : length line ≤ longest_line → IsUtf8 line → with_line before line ≡ answered (world_after None before) line

-- the replies are as many as the lines, in their order: at the place of a line stands the reply to it behind the lines before it
pub record AreReplies (lines : List (List ℕ)) (replies : List Reply) : Type 0 where
  pub one_each : length replies ≡ length lines
  pub in_order : (before after : List (List ℕ)) (line : List ℕ) → lines ≡ before ++ line ∷ after → slice_get replies (length before) ≡ Some (reply_after before line)

-- the texts of such replies to all lines of what was read were written, one behind the other, as far as the sink tells
pub record WritesReplies (read : List ℕ) (taken new_taken : Option (List ℕ)) : Type 0 where
  pub replies : List Reply
  pub are : AreReplies (all_lines read) replies
  pub written : Appends taken new_taken (flat_map reply_text_of replies)

pub record RepliesFollowLines : Type 0 where
  -- a run begins with no world
  pub begun : world_after None [] ≡ None
  pub played : (before : List (List ℕ)) (line : List ℕ) → IsPlayedBehind before line
  -- what is written for lines
  pub texts : (lines : List (List ℕ)) → (replies : List Reply) × AreReplies lines replies × (replies_text lines ≡ flat_map reply_text_of replies)
  -- and by a run that ends with status 0 or 1
  pub runs : (status : ℕ) (left new_left taken new_taken : Option (List ℕ)) (run : WorldRun status left new_left taken new_taken) → (status ≡ 0) ⊎ (status ≡ 1) → WritesReplies run.read taken new_taken

-- ---- refusals

-- the reply refuses its line
abbrev pub IsRefusal : Reply → Type 0
IsRefusal reply = (number : ℕ) × (code : List ℕ) × (detail : List ℕ) × (reply ≡ Refused number code detail)

-- one of the lines is refused: its reply, behind the lines before it, is a refusal
pub record HaveRefused (lines : List (List ℕ)) : Type 0 where
  pub before : List (List ℕ)
  pub line : List ℕ
  pub after : List (List ℕ)
  pub among : lines ≡ before ++ line ∷ after
  pub refused : IsRefusal (reply_after before line)

pub record OneRefusalIsTold : Type 0 where
  pub exactly : (lines : List (List ℕ)) → (some_line_refused lines ≡ true) ↔ HaveRefused lines
  -- a run that ends with status 0 has read no line that is refused, and one that ends with status 1 has read such a line
  pub none : (left new_left taken new_taken : Option (List ℕ)) (run : WorldRun 0 left new_left taken new_taken) → HaveRefused (all_lines run.read) → ⊥
  pub some : (left new_left taken new_taken : Option (List ℕ)) (run : WorldRun 1 left new_left taken new_taken) → HaveRefused (all_lines run.read)
