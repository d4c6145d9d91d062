-- The texts of replies have no line feed.
use Rattle.std.proofs.Common.{◌≡◌, ℕ, zero, suc, Bool, true, false, cond, ◌==◌, List, [], ◌∷◌, ◌++◌, length, map, Option, None, Some, refl, ap, subst, ◌∙◌, append_assoc}
use Rattle.std.specs.Prelude.{codes, ℤ}
use Rattle.std.specs.List.{flat_map, list_any}
use Rattle.std.specs.Int.{w32, cast_signed}
use Rattle.std.specs.Fmt.{decimal, signed_decimal}
use Rattle.field_values.specs.declared.value.Value.{Value as AnyValue}
use Rattle.field_values.specs.Value.{value_text}
use Rattle.field_values.specs.Names.{field_of}
use Rattle.hybrid_clock.specs.declared.clock.ClockFault.{ClockFault}
use Rattle.hybrid_clock.specs.declared.clock.ClockFault.TheVariants.{Drift, Overflow, Beyond}
use Rattle.field_merge.specs.declared.message.Message.{Message}
use Rattle.field_merge.specs.Messages.{message_line, AreMessages}
use Rattle.field_merge.specs.Lines.{ended}
use Rattle.field_merge.specs.Log.{fields, messages_after, value_in}
use Rattle.field_merge.proofs.EscapeLemmas.{escaped-no_feed}
use Rattle.minute_trie.specs.declared.key.Digit.{Digit}
use Rattle.minute_trie.specs.declared.key.Digit.TheVariants.{Zero, One, Two}
use Rattle.minute_trie.specs.Held.{Held, after, or_zero}
use Rattle.minute_trie.specs.Trie.{trie_of}
use Rattle.minute_trie.specs.Names.{child_name, hash_name}
use Rattle.minute_trie.specs.Json.{hash_text, key_text, object_text, child_text, members_text, trie_text}
use Rattle.book_rows.specs.declared.fault.EditFault.TheVariants.{BadId, IdTaken, NoSuchAccount, NoSuchGroup, NoSuchCategory, NoSuchPayee, NoSuchTransaction, BadDate, BadAmount, BadMonth, SplitSum, IsChild, IsTransferPart, SameAccount, ClosedAccount, IncomeCategory, NameTaken, TooManyWrites, BadRule, NoSuchSchedule, BadRecur, ScheduleDone, BadStatement, NothingToUndo, NothingToRedo, CategoryType, TransferPayee, NoMemory as EditNoMemory}
use Rattle.device_core.specs.declared.edit.LineRefusal.{LineRefusal}
use Rattle.device_core.specs.declared.edit.LineRefusal.TheVariants.{Edit as OfEdit, Clock as OfClock, NoMemory}
use Rattle.kept_messages.specs.Pairs.{pairs_of}
use Rattle.command_lines.specs.declared.command.Command.{Command}
use Rattle.command_lines.specs.declared.command.Command.TheVariants.{Edit, Undo, Redo, Receive, Fields, Messages, Value, Trie, Balance, Register, Cell, Sheet, Broken, ScheduleStatus, Goals, TrackCell, TrackSheet, Sync}
use Rattle.command_lines.specs.declared.reply.Reply.{Reply}
use Rattle.command_lines.specs.declared.reply.Reply.TheVariants.{Done, Refused}
use Rattle.book_rows.specs.declared.rows.Rows.{Rows}
use Rattle.book_rows.specs.Kinds.{is_day}
use Rattle.book_rows.specs.Live.{is_live_account, is_live_schedule}
use Rattle.schedules.specs.declared.standing.ScheduleStatus.{ScheduleStatus as Standing}
use Rattle.schedules.specs.declared.standing.ScheduleStatus.TheVariants.{Completed, Paid, Due, Upcoming, Missed, Scheduled}
use Rattle.schedules.specs.Status.{status_in}
use Rattle.book_rows.specs.Balances.{balance_of}
use Rattle.book_rows.specs.Months.{is_month}
use Rattle.envelope_cells.specs.declared.name.CellName.{CellName}
use Rattle.envelope_cells.specs.BudgetOf.{budget_of}
use Rattle.envelope_cells.specs.CellOf.{cell_of}
use Rattle.envelope_cells.specs.SheetOf.{sheet_of}
use Rattle.goal_templates.specs.Goals.{shares_in}
use Rattle.goal_templates.specs.Notes.{bad_lines}
use Rattle.tracking_budget.specs.declared.name.TrackName.{TrackName}
use Rattle.tracking_budget.specs.CellOf.{track_cell_of}
use Rattle.tracking_budget.specs.Names.{track_named, track_line}
use Rattle.tracking_budget.specs.SheetOf.{track_cells}
use Rattle.tracking_budget.specs.Tracked.{tracked_of}
use Rattle.device_core.specs.Books.{rows_of}
use Rattle.command_lines.specs.Refusals.{no_such_account, no_such_group, no_such_category, no_such_schedule, bad_date, bad_month}
use Rattle.command_lines.specs.Register.{register_lines}
use Rattle.command_lines.specs.CellNames.{is_of_group, cell_named}
use Rattle.command_lines.specs.BookAnswers.{balance_answer, register_answer, told_cell, cell_or_faulty, cell_answer, cell_text, sheet_answer, told_status, status_answer, share_text, bad_text, goals_answer, told_track, track_or_faulty, track_cell_answer, track_sheet_answer}
use Rattle.command_lines.specs.Readings.{shown, answer}
use Rattle.command_lines.specs.Replies.{detail_text, reply_lines, refused_clock, refused}
use Rattle.command_lines.specs.ReplyLines.{IsLine, AreLines, IsReply, RepliesAreLines}
use Rattle.command_lines.proofs.PlainTexts.{Plain, both, tested, is_line, plain_of, number_plain, signed_plain}
use Rattle.book_rows.specs.Named.{HasNames}
use Rattle.device_core.proofs.RowsNamed.{rows_named}
use Rattle.command_lines.proofs.BookLineLemmas.{register_is, sheet_is}
use Rattle.command_lines.proofs.GoalReplies.{goals_are}
use Rattle.command_lines.proofs.TrackReplies.{track_is}
use Rattle.command_lines.proofs.TextLines.{lines_are_lines}
use Rattle.split_transfer.specs.Broken.{broken}
use Rattle.command_lines.proofs.Cutting.{pieces, pieces-at}
use Rattle.command_lines.proofs.LineLemmas.{OnOneLine}

-- ---- the text of a trie

hash_plain : (hash : ℕ) → Plain (hash_text hash)
hash_plain hash = both (key_text hash_name) (signed_decimal (cast_signed w32 hash)) (tested (key_text hash_name) refl) (signed_plain (cast_signed w32 hash))

key_plain : (digit : Digit) → Plain (key_text (child_name digit))
key_plain Zero = tested (key_text (child_name Zero)) refl
key_plain One = tested (key_text (child_name One)) refl
key_plain Two = tested (key_text (child_name Two)) refl

object_plain : (members : List ℕ) (f : Held) → Plain members → Plain (object_text members f)
object_plain members f h =
    (refl, both members (hash_text (or_zero (f [])) ++ codes "}") h (both (hash_text (or_zero (f []))) (codes "}") (hash_plain (or_zero (f []))) (refl, tt)))

child_plain : (digit : Digit) (text : List ℕ) (child : Option ℕ) → Plain text → Plain (child_text digit text child)
child_plain digit text None h = tt
child_plain digit text (Some hash) h = both (key_text (child_name digit)) (text ++ codes ",") (key_plain digit) (both text (codes ",") h (refl, tt))

abbrev member_text : ℕ → Held → Digit → List ℕ
member_text n f digit = child_text digit (object_text (members_text n (after digit f)) (after digit f)) (f (digit ∷ []))

member_plain : (n : ℕ) (f : Held) (digit : Digit) → Plain (members_text n (after digit f)) → Plain (member_text n f digit)
member_plain n f digit h =
    child_plain digit (object_text (members_text n (after digit f)) (after digit f)) (f (digit ∷ [])) (object_plain (members_text n (after digit f)) (after digit f) h)

members_plain : (n : ℕ) (f : Held) → Plain (members_text n f)
unfolding members_text
members_plain zero f = tt
members_plain (suc n) f =
    both (member_text n f Zero) (member_text n f One ++ member_text n f Two) (member_plain n f Zero (members_plain n (after Zero f)))
    (both (member_text n f One) (member_text n f Two) (member_plain n f One (members_plain n (after One f))) (member_plain n f Two (members_plain n (after Two f))))

trie_plain : (f : Held) → Plain (trie_text f)
trie_plain f = object_plain (members_text 16 f) f (members_plain 16 f)

-- ---- the replies

shown_plain : (value : Option AnyValue) → Plain (shown value)
shown_plain None = tested (codes "none") refl
shown_plain (Some value) = escaped-no_feed (value_text value)

message_lines_are : OnOneLine → (ms : List Message) → AreLines (map message_line ms)
message_lines_are law [] = tt
message_lines_are law (m ∷ ms) = (law m, message_lines_are law ms)

-- a code that is written out
code : (text : List ℕ) → list_any (λ b. b == 10) text ≡ false → IsLine text
code text h = is_line text (tested text h)

balance_is : (rows : Rows) (account : List ℕ) → IsReply (balance_answer rows account)
balance_is rows account = by (is_live_account rows account)
  where
    by : (live : Bool) → IsReply (cond live (Done (signed_decimal (balance_of rows account) ∷ [])) (no_such_account account))
    by true = (is_line (signed_decimal (balance_of rows account)) (signed_plain (balance_of rows account)), tt)
    by false = code (codes "no-such-account") refl

register_reply_is : (rows : Rows) (account : List ℕ) → HasNames rows → IsReply (register_answer rows account)
register_reply_is rows account named = by (is_live_account rows account)
  where
    by : (live : Bool) → IsReply (cond live (Done (register_lines rows account)) (no_such_account account))
    by true = register_is rows account named
    by false = code (codes "no-such-account") refl

told_is : (name : CellName) (value : Option ℤ) → IsReply (told_cell name value)
told_is name (Some z) = (is_line (signed_decimal z) (signed_plain z), tt)
told_is name None = by (is_of_group name.kind)
  where
    by : (group : Bool) → IsReply (cond group (no_such_group name.id) (no_such_category name.id))
    by true = code (codes "no-such-group") refl
    by false = code (codes "no-such-category") refl

named_is : (rows : Rows) (name : Option CellName) → IsReply (cell_or_faulty rows name)
named_is rows None = code (codes "bad-command") refl
named_is rows (Some name) = told_is name (cell_of (budget_of rows) name)

cell_is : (rows : Rows) (month : ℕ) (name : List ℕ) → IsReply (cell_answer rows month name)
cell_is rows month name = by (is_month month)
  where
    by : (is : Bool) → IsReply (cond is (cell_or_faulty rows (cell_named month name)) (bad_month month))
    by true = named_is rows (cell_named month name)
    by false = code (codes "bad-month") refl

sheet_reply_is : (rows : Rows) (month : ℕ) → HasNames rows → IsReply (sheet_answer rows month)
sheet_reply_is rows month named = by (is_month month)
  where
    by : (is : Bool) → IsReply (cond is (Done (map cell_text (sheet_of (budget_of rows) month))) (bad_month month))
    by true = sheet_is rows month named
    by false = code (codes "bad-month") refl

status_told : (id : List ℕ) (status : Option Standing) → IsReply (told_status id status)
status_told id None = code (codes "no-such-schedule") refl
status_told id (Some Completed) = (code (codes "completed") refl, tt)
status_told id (Some Paid) = (code (codes "paid") refl, tt)
status_told id (Some Due) = (code (codes "due") refl, tt)
status_told id (Some Upcoming) = (code (codes "upcoming") refl, tt)
status_told id (Some Missed) = (code (codes "missed") refl, tt)
status_told id (Some Scheduled) = (code (codes "scheduled") refl, tt)

status_is : (rows : Rows) (id : List ℕ) (day : ℕ) → IsReply (status_answer rows id day)
status_is rows id day = by (is_live_schedule rows id) (is_day day)
  where
    by : (live is : Bool) → IsReply (cond live (cond is (told_status id (status_in rows id day)) (bad_date day)) (no_such_schedule id))
    by true true = status_told id (status_in rows id day)
    by true false = code (codes "bad-date") refl
    by false is = code (codes "no-such-schedule") refl

goals_reply_is : (rows : Rows) (month : ℕ) → HasNames rows → IsReply (goals_answer rows month)
goals_reply_is rows month named = by (is_month month)
  where
    by : (is : Bool) → IsReply (cond is (Done (map share_text (shares_in rows month) ++ map bad_text (bad_lines rows))) (bad_month month))
    by true = goals_are rows month named
    by false = code (codes "bad-month") refl

track_told : (name : TrackName) (value : Option ℤ) → IsReply (told_track name value)
track_told name (Some z) = (is_line (signed_decimal z) (signed_plain z), tt)
track_told name None = code (codes "no-such-category") refl

tracked_is : (rows : Rows) (name : Option TrackName) → IsReply (track_or_faulty rows name)
tracked_is rows None = code (codes "bad-command") refl
tracked_is rows (Some name) = track_told name (track_cell_of (tracked_of rows) name)

track_cell_is : (rows : Rows) (month : ℕ) (name : List ℕ) → IsReply (track_cell_answer rows month name)
track_cell_is rows month name = by (is_month month)
  where
    by : (is : Bool) → IsReply (cond is (track_or_faulty rows (track_named month name)) (bad_month month))
    by true = tracked_is rows (track_named month name)
    by false = code (codes "bad-month") refl

track_sheet_is : (rows : Rows) (month : ℕ) → HasNames rows → IsReply (track_sheet_answer rows month)
track_sheet_is rows month named = by (is_month month)
  where
    by : (is : Bool) → IsReply (cond is (Done (map track_line (track_cells (tracked_of rows) month))) (bad_month month))
    by true = track_is rows month named
    by false = code (codes "bad-month") refl

answer_is : OnOneLine → (messages : List Message) (command : Command) → AreMessages messages → IsReply (answer messages command)
answer_is law messages Fields valid = message_lines_are law (fields messages)
answer_is law messages (Messages since) valid = message_lines_are law (messages_after since messages)
answer_is law messages (Value dataset row column) valid =
    let value : Option AnyValue = value_in messages (field_of dataset row column) in (is_line (shown value) (shown_plain value), tt)
answer_is law messages Trie valid =
    let f : Held = trie_of (pairs_of messages) in (is_line (trie_text f) (trie_plain f), tt)
answer_is law messages (Balance account) valid = balance_is (rows_of messages) account
answer_is law messages (Register account) valid = register_reply_is (rows_of messages) account (rows_named messages valid)
answer_is law messages (Cell month name) valid = cell_is (rows_of messages) month name
answer_is law messages (Sheet month) valid = sheet_reply_is (rows_of messages) month (rows_named messages valid)
answer_is law messages Broken valid = lines_are_lines (broken (rows_of messages))
answer_is law messages (ScheduleStatus id day) valid = status_is (rows_of messages) id day
answer_is law messages (Goals month) valid = goals_reply_is (rows_of messages) month (rows_named messages valid)
answer_is law messages (TrackCell month name) valid = track_cell_is (rows_of messages) month name
answer_is law messages (TrackSheet month) valid = track_sheet_is (rows_of messages) month (rows_named messages valid)
answer_is law messages (Edit edit) valid = tt
answer_is law messages Undo valid = tt
answer_is law messages Redo valid = tt
answer_is law messages (Receive message) valid = tt
answer_is law messages Sync valid = tt

-- a word and a number
counted : (word : List ℕ) (n : ℕ) → list_any (λ b. b == 10) word ≡ false → IsLine (word ++ decimal n)
counted word n h = is_line (word ++ decimal n) (both word (decimal n) (tested word h) (number_plain n))

made_are : (made : List (List ℕ)) → AreLines made → AreLines (map (λ id. codes "made " ++ id) made)
made_are [] h = tt
made_are (id ∷ ids) h =
    (is_line (codes "made " ++ id) (both (codes "made ") id (tested (codes "made ") refl) (plain_of id h.0)), made_are ids h.1)

clock_is : (fault : ClockFault) → IsReply (refused_clock fault)
clock_is (Drift logical reading) = code (codes "clock-drift") refl
clock_is (Overflow counter) = code (codes "clock-overflow") refl
clock_is (Beyond reading) = code (codes "clock-beyond") refl

-- a reply that there is
abbrev IsReplyIf : Option Reply → Type 0
IsReplyIf None = Unit {0}
IsReplyIf (Some reply) = IsReply reply

refusal_if : (refusal : LineRefusal) → IsReplyIf (refused refusal)
refusal_if (OfEdit (BadId id)) = code (codes "bad-id") refl
refusal_if (OfEdit (IdTaken id)) = code (codes "id-taken") refl
refusal_if (OfEdit (NoSuchAccount id)) = code (codes "no-such-account") refl
refusal_if (OfEdit (NoSuchGroup id)) = code (codes "no-such-group") refl
refusal_if (OfEdit (NoSuchCategory id)) = code (codes "no-such-category") refl
refusal_if (OfEdit (NoSuchPayee id)) = code (codes "no-such-payee") refl
refusal_if (OfEdit (NoSuchTransaction id)) = code (codes "no-such-transaction") refl
refusal_if (OfEdit (BadDate n)) = code (codes "bad-date") refl
refusal_if (OfEdit (BadAmount n)) = code (codes "bad-amount") refl
refusal_if (OfEdit (BadMonth n)) = code (codes "bad-month") refl
refusal_if (OfEdit (SplitSum difference)) = code (codes "split-sum") refl
refusal_if (OfEdit (IsChild id)) = code (codes "split-part") refl
refusal_if (OfEdit (IsTransferPart id)) = code (codes "transfer-part") refl
refusal_if (OfEdit (SameAccount id)) = code (codes "same-id") refl
refusal_if (OfEdit (ClosedAccount balance)) = code (codes "account-balance") refl
refusal_if (OfEdit (IncomeCategory id)) = code (codes "income-category") refl
refusal_if (OfEdit (NameTaken id)) = code (codes "name-taken") refl
refusal_if (OfEdit (TooManyWrites n)) = code (codes "too-many-writes") refl
refusal_if (OfEdit (BadRule part at)) = code (codes "bad-rule") refl
refusal_if (OfEdit (NoSuchSchedule id)) = code (codes "no-such-schedule") refl
refusal_if (OfEdit (BadRecur part)) = code (codes "bad-recur") refl
refusal_if (OfEdit (ScheduleDone id)) = code (codes "schedule-done") refl
refusal_if (OfEdit (BadStatement row column)) = code (codes "bad-statement") refl
refusal_if (OfEdit NothingToUndo) = code (codes "nothing-to-undo") refl
refusal_if (OfEdit NothingToRedo) = code (codes "nothing-to-redo") refl
refusal_if (OfEdit (CategoryType id)) = code (codes "category-type") refl
refusal_if (OfEdit (TransferPayee id)) = code (codes "transfer-payee") refl
refusal_if (OfEdit EditNoMemory) = tt
refusal_if (OfClock fault) = clock_is fault
refusal_if NoMemory = tt

-- ---- the text of a reply, cut

detail_plain : (detail : List ℕ) → Plain (detail_text detail)
detail_plain [] = tt
detail_plain (b ∷ bs) = (refl, escaped-no_feed (b ∷ bs))

refused_plain : (number : ℕ) (word detail : List ℕ) → Plain word → Plain (codes "refused E" ++ decimal number ++ 32 ∷ word ++ detail_text detail)
refused_plain number word detail h =
    both (codes "refused E" ++ decimal number ++ 32 ∷ word) (detail_text detail)
    (both (codes "refused E" ++ decimal number) (32 ∷ word) (both (codes "refused E") (decimal number) (tested (codes "refused E") refl) (number_plain number)) (refl, h))
    (detail_plain detail)

lines_are : (reply : Reply) → IsReply reply → AreLines (reply_lines reply)
lines_are (Done lines) h = (counted (codes "ok ") (length lines) refl, h)
lines_are (Refused number word detail) h =
    (is_line (codes "refused E" ++ decimal number ++ 32 ∷ word ++ detail_text detail) (refused_plain number word detail (plain_of word h)), tt)

-- the pieces of ended lines are the lines, and nothing behind the last end
pieces-ended : (lines : List (List ℕ)) → AreLines lines → pieces 10 (flat_map ended lines) ≡ lines ++ [] ∷ []
pieces-ended [] h = refl
pieces-ended (line ∷ lines) h =
    ap (pieces 10) (append_assoc line (10 ∷ []) (flat_map ended lines))
    ∙ pieces-at 10 line (flat_map ended lines) (λ i l. h.0 i 0 l)
    ∙ ap (λ ps. line ∷ ps) (pieces-ended lines h.1)

pub are_lines : OnOneLine → RepliesAreLines
are_lines law = record {
  cut = λ reply h. pieces-ended (reply_lines reply) (lines_are reply h);
  answers = λ messages command valid. answer_is law messages command valid;
  edits = λ writes made h. (counted (codes "writes ") writes refl, made_are made h);
  received = λ count. (counted (codes "added ") count refl, tt);
  syncs = λ requests count. (
    is_line (codes "requests " ++ (decimal requests ++ (codes " received " ++ decimal count)))
        (both (codes "requests ") (decimal requests ++ (codes " received " ++ decimal count)) (tested (codes "requests ") refl)
        (both (decimal requests) (codes " received " ++ decimal count) (number_plain requests) (both (codes " received ") (decimal count) (tested (codes " received ") refl) (number_plain count)))),
    tt,
  );
  lost_links = code (codes "sync-failed") refl;
  bad_answers = λ at. code (codes "sync-failed") refl;
  bad_statuses = λ status. code (codes "sync-failed") refl;
  out_of_syncs = λ mine theirs. code (codes "sync-failed") refl;
  faults = λ index. code (codes "bad-command") refl;
  refusals = λ refusal reply e. subst IsReplyIf e (refusal_if refusal);
}
