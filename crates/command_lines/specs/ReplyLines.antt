-- What holds of replies and the lines that they are written as.
use Rattle.std.specs.Prelude.{◌≡◌, ◌≢◌, ◌==◌, ℕ, ℤ, List, [], ◌∷◌, ◌++◌, All, Some}
use Rattle.std.specs.List.{AllByRecursion, slice_split}
use Rattle.field_merge.specs.declared.message.Message.{Message}
use Rattle.field_merge.specs.Messages.{AreMessages}
use Rattle.device_core.specs.declared.edit.LineRefusal.{LineRefusal}
use Rattle.command_lines.specs.declared.command.Command.{Command}
use Rattle.command_lines.specs.declared.reply.Reply.{Reply}
use Rattle.command_lines.specs.declared.reply.Reply.TheVariants.{Done, Refused}
use Rattle.command_lines.specs.Readings.{answer}
use Rattle.command_lines.specs.Replies.{wrote, added, synced, lost_link, bad_answer, bad_status, out_of_sync, faulty, refused, reply_lines, reply_text_of}

-- the text has no line feed
abbrev pub IsLine : List ℕ → Type 0
IsLine text = All (λ b. b ≢ 10) text

-- texts without a line feed
abbrev pub AreLines : List (List ℕ) → Type 0
AreLines texts = AllByRecursion IsLine texts

-- the texts of a reply have no line feed; the detail of a refusal may have one, since it is escaped
abbrev pub IsReply : Reply → Type 0
IsReply (Done lines) = AreLines lines
IsReply (Refused number code detail) = IsLine code

-- The text of a reply is cut by its line feeds into its lines, and nothing stands behind the last.
-- The answers of lines that only read are such replies, where the messages are valid, and so are the replies to edits
-- whose ids are lines, to messages, to syncs, to lines that are no command, and to refusals.
pub record RepliesAreLines : Type 0 where
  pub cut : (reply : Reply) → IsReply reply → slice_split (λ b. b == 10) (reply_text_of reply) ≡ reply_lines reply ++ [] ∷ []
  pub answers : (messages : List Message) (command : Command) → AreMessages messages → IsReply (answer messages command)
  pub edits : (writes : ℕ) (made : List (List ℕ)) → AreLines made → IsReply (wrote writes made)
  pub received : (count : ℕ) → IsReply (added count)
  pub syncs : (requests count : ℕ) → IsReply (synced requests count)
  pub lost_links : IsReply lost_link
  pub bad_answers : (at : ℕ) → IsReply (bad_answer at)
  pub bad_statuses : (status : ℕ) → IsReply (bad_status status)
  pub out_of_syncs : (mine theirs : ℤ) → IsReply (out_of_sync mine theirs)
  pub faults : (index : ℕ) → IsReply (faulty index)
  pub refusals : (refusal : LineRefusal) (reply : Reply) → refused refusal ≡ Some reply → IsReply reply
