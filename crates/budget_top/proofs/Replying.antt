-- The replies of a device as lines.
use Rattle.std.proofs.Common.{◌≡◌, ℕ, List, [], ◌∷◌, ◌++◌, refl, ap, sym, ◌∙◌, append_assoc, append-nil, length, ◌-◌, Bool, true, false, cond, Option, None, Some, Result, Ok, Err}
use Rattle.device_core.specs.declared.edit.LineRefusal.{LineRefusal}
use Rattle.device_core.specs.Device.{State, Accepted, edited, undone, redone, received}
use Rattle.device_core.specs.Accepting.{AcceptedAreJoined}
use Rattle.command_lines.specs.declared.command.Command.{Command}
use Rattle.command_lines.specs.declared.command.Command.TheVariants.{Edit as EditOf, Undo, Redo, Receive, Fields, Messages, Value, Trie, Balance, Register, Cell, Sheet, Broken, ScheduleStatus, Goals, TrackCell, TrackSheet, Sync}
use Rattle.command_lines.specs.declared.reply.Reply.{Reply}
use Rattle.command_lines.specs.Replies.{refused, reply_lines, reply_text_of}
use Rattle.command_lines.specs.ReplyLines.{RepliesAreLines, IsReply}
use Rattle.budget_top.specs.Lines.{pieces, all_but_last, last_of}
use Rattle.budget_top.specs.Session.{asked, obeyed, settled, wrote_all, added_all, reply_to_refusal}
use Rattle.budget_top.specs.Valid.{IsState, StatesStayValid}
use Rattle.device_sync.specs.declared.target.Target.{Target}
use Rattle.device_sync.specs.Talk.{Outcome, going_on, agreed, out_of_sync, not_taken, refused as refuses, bad_reply}
use Rattle.budget_top.specs.Doing.{Running, syncs, conversed, sync_reply, synced_by}
use Rattle.budget_top.specs.Course.{Input, step, replies}
use Rattle.budget_top.specs.Replies.{RepliesAreCut, lines_of_replies}
use Rattle.budget_top.proofs.Cutting.{onto, pieces_some, pieces-append, but_last-append, last_of-append}

-- ---- each reply has lines alone

module _ (law : RepliesAreLines) (joined : AcceptedAreJoined) where
  refused_reply : (refusal : LineRefusal) (reply : Option Reply) → refused refusal ≡ reply → IsReply (reply_to_refusal reply)
  refused_reply refusal None is = tt
  refused_reply refusal (Some reply) is = law.refusals refusal reply is

  settled_reply : (s : State) (reply : Accepted → Reply) (meant : Result Accepted LineRefusal) → ((done : Accepted) → meant ≡ Ok done → IsReply (reply done)) → IsReply (settled s reply meant).1
  settled_reply s reply (Ok done) all = all done refl
  settled_reply s reply (Err refusal) all = refused_reply refusal (refused refusal) refl

  obeyed_reply : (s : State) (reading : ℕ) (asks : Result Command ℕ) → IsState s → IsReply (obeyed s reading asks).1
  obeyed_reply s reading (Err index) valid = law.faults index
  obeyed_reply s reading (Ok (EditOf edit)) valid = settled_reply s wrote_all (edited s edit reading) (λ done is. law.edits done.count done.made ((joined.of_edits s edit reading done is).lines valid.clock))
  obeyed_reply s reading (Ok Undo) valid = settled_reply s wrote_all (undone s reading) (λ done is. law.edits done.count done.made ((joined.of_undo s reading done is).lines valid.clock))
  obeyed_reply s reading (Ok Redo) valid = settled_reply s wrote_all (redone s reading) (λ done is. law.edits done.count done.made ((joined.of_redo s reading done is).lines valid.clock))
  obeyed_reply s reading (Ok Sync) valid = law.answers s.messages Sync valid.messages
  obeyed_reply s reading (Ok (Receive message)) valid = settled_reply s added_all (received s (message ∷ []) reading) (λ done is. law.received done.count)
  obeyed_reply s reading (Ok Fields) valid = law.answers s.messages Fields valid.messages
  obeyed_reply s reading (Ok (Messages since)) valid = law.answers s.messages (Messages since) valid.messages
  obeyed_reply s reading (Ok (Value dataset row column)) valid = law.answers s.messages (Value dataset row column) valid.messages
  obeyed_reply s reading (Ok Trie) valid = law.answers s.messages Trie valid.messages
  obeyed_reply s reading (Ok (Balance account)) valid = law.answers s.messages (Balance account) valid.messages
  obeyed_reply s reading (Ok (Register account)) valid = law.answers s.messages (Register account) valid.messages
  obeyed_reply s reading (Ok (Cell month name)) valid = law.answers s.messages (Cell month name) valid.messages
  obeyed_reply s reading (Ok (Sheet month)) valid = law.answers s.messages (Sheet month) valid.messages
  obeyed_reply s reading (Ok Broken) valid = law.answers s.messages Broken valid.messages
  obeyed_reply s reading (Ok (ScheduleStatus id day)) valid = law.answers s.messages (ScheduleStatus id day) valid.messages
  obeyed_reply s reading (Ok (Goals month)) valid = law.answers s.messages (Goals month) valid.messages
  obeyed_reply s reading (Ok (TrackCell month name)) valid = law.answers s.messages (TrackCell month name) valid.messages
  obeyed_reply s reading (Ok (TrackSheet month)) valid = law.answers s.messages (TrackSheet month) valid.messages

-- ---- the reply to any line

module _ (law : RepliesAreLines) (joined : AcceptedAreJoined) where
  outcome_reply : (requests received : ℕ) (o : Outcome) → IsReply (sync_reply requests received o)
  outcome_reply requests received (going_on since) = law.lost_links
  outcome_reply requests received agreed = law.syncs requests received
  outcome_reply requests received (out_of_sync mine theirs) = law.out_of_syncs mine theirs
  outcome_reply requests received (not_taken fault) = refused_reply law joined fault (refused fault) refl
  outcome_reply requests received (refuses status) = law.bad_statuses status
  outcome_reply requests received (bad_reply at) = law.bad_answers at

  step_reply : (target : Target) (r : Running) (i : Input) → IsState r.state → IsReply (step target r i).1
  step_reply target r i valid = by (syncs (asked i.line))
    where
      by : (b : Bool) → IsReply (cond b (synced_by r.state i.given) (obeyed r.state i.given.reading (asked i.line))).1
      by true = outcome_reply (length i.given.turns) (length (conversed r.state i.given).0.messages - length r.state.messages) (conversed r.state i.given).1
      by false = obeyed_reply law joined r.state i.given.reading (asked i.line) valid

-- ---- one reply behind the other

-- a text whose last piece is empty ends a line
cut_behind : (text more : List ℕ) (ls : List (List ℕ)) → pieces text ≡ ls ++ [] ∷ [] → pieces (text ++ more) ≡ ls ++ pieces more
cut_behind text more ls is =
    pieces-append text more
    ∙ ap (λ ps. all_but_last ps ++ onto (last_of ps) (pieces more)) is
    ∙ ap (λ ps. ps ++ onto (last_of (ls ++ [] ∷ [])) (pieces more)) (but_last-append ls [] [] ∙ append-nil ls)
    ∙ ap (λ p. ls ++ onto p (pieces more)) (last_of-append ls [] [])
    ∙ ap (λ ps. ls ++ ps) (pieces_some more)

pub replies_cut : RepliesAreLines → AcceptedAreJoined → StatesStayValid → RepliesAreCut
replies_cut law joined stay t r [] valid talked = refl
replies_cut law joined stay t r (i ∷ is) valid talked =
    cut_behind (reply_text_of (step t r i).1) (replies t (step t r i).0 is) (reply_lines (step t r i).1)
    (law.cut (step t r i).1 (step_reply law joined t r i valid))
    ∙ ap (λ ls. reply_lines (step t r i).1 ++ ls) (replies_cut law joined stay t (step t r i).0 is (stay.stepped t r i valid talked.0) talked.1)
    ∙ sym (append_assoc (reply_lines (step t r i).1) (lines_of_replies t (step t r i).0 is) ([] ∷ []))
