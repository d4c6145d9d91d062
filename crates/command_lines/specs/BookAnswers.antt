-- What the lines that ask of the books are answered, of a book's rows.
use Rattle.std.specs.Prelude.{ℕ, ℤ, ◌-◌, ◌==◌, List, [], ◌∷◌, ◌++◌, length, take, map as list_map, codes, Option, None, Some, if◌then◌else◌}
use Rattle.std.specs.Fmt.{decimal, signed_decimal}
use Rattle.std.specs.List.{slice_split}
use Rattle.finite_sums.specs.Maps.{Text}
use Rattle.book_rows.specs.declared.rows.Rows.{Rows}
use Rattle.book_rows.specs.Kinds.{is_day}
use Rattle.book_rows.specs.Live.{is_live_account, is_live_schedule}
use Rattle.book_rows.specs.Balances.{balance_of}
use Rattle.book_rows.specs.Months.{is_month}
use Rattle.envelope_cells.specs.declared.name.Cell.{Cell}
use Rattle.envelope_cells.specs.declared.name.CellName.{CellName}
use Rattle.envelope_cells.specs.BudgetOf.{budget_of}
use Rattle.envelope_cells.specs.CellOf.{cell_of}
use Rattle.envelope_cells.specs.SheetOf.{sheet_of}
use Rattle.envelope_cells.specs.Text.{kind_text}
use Rattle.goal_templates.specs.declared.share.BadLine.{BadLine}
use Rattle.goal_templates.specs.declared.share.Share.{Share}
use Rattle.goal_templates.specs.Goals.{shares_in}
use Rattle.goal_templates.specs.Grammar.{template_text}
use Rattle.goal_templates.specs.Notes.{bad_lines}
use Rattle.tracking_budget.specs.declared.name.TrackName.{TrackName}
use Rattle.tracking_budget.specs.CellOf.{track_cell_of}
use Rattle.tracking_budget.specs.Names.{track_named, track_line}
use Rattle.tracking_budget.specs.SheetOf.{track_cells}
use Rattle.tracking_budget.specs.Tracked.{tracked_of}
use Rattle.split_transfer.specs.Broken.{broken}
use Rattle.schedules.specs.declared.standing.ScheduleStatus.{ScheduleStatus}
use Rattle.schedules.specs.declared.standing.ScheduleStatus.TheVariants.{Completed, Paid, Due, Upcoming, Missed, Scheduled}
use Rattle.schedules.specs.Status.{status_in}
use Rattle.command_lines.specs.declared.reply.Reply.{Reply}
use Rattle.command_lines.specs.declared.reply.Reply.TheVariants.{Done}
use Rattle.command_lines.specs.Refusals.{no_such_account, no_such_group, no_such_category, no_such_schedule, bad_date, bad_month}
use Rattle.command_lines.specs.Replies.{faulty}
use Rattle.command_lines.specs.Register.{register_lines}
use Rattle.command_lines.specs.CellNames.{is_of_group, cell_named}

-- `balance`: the balance of a live account
abbrev pub balance_answer : Rows → Text → Reply
balance_answer rows account =
    if is_live_account rows account then Done (signed_decimal (balance_of rows account) ∷ []) else no_such_account account

-- `register`: the live transactions of a live account
abbrev pub register_answer : Rows → Text → Reply
register_answer rows account = if is_live_account rows account then Done (register_lines rows account) else no_such_account account

-- what a cell tells, or that there is no such group or category
abbrev pub told_cell : CellName → Option ℤ → Reply
told_cell name (Some z) = Done (signed_decimal z ∷ [])
told_cell name None = if is_of_group name.kind then no_such_group name.id else no_such_category name.id

-- a name of no kind is no word of the line
abbrev pub cell_or_faulty : Rows → Option CellName → Reply
cell_or_faulty rows None = faulty 2
cell_or_faulty rows (Some name) = told_cell name (cell_of (budget_of rows) name)

-- `cell`: what a cell of a month tells. The month is judged first
abbrev pub cell_answer : Rows → ℕ → Text → Reply
cell_answer rows month name = if is_month month then cell_or_faulty rows (cell_named month name) else bad_month month

-- the line of a cell: its name, a blank and its number
abbrev pub cell_text : Cell → Text
cell_text c = kind_text c.name.kind ++ c.name.id ++ 32 ∷ signed_decimal c.value

-- `sheet`: all cells of a month
abbrev pub sheet_answer : Rows → ℕ → Reply
sheet_answer rows month = if is_month month then Done (list_map cell_text (sheet_of (budget_of rows) month)) else bad_month month

-- the pieces of a text that its line feeds cut
abbrev pub pieces : Text → List Text
pieces text = slice_split (λ b. b == 10) text

-- the lines of a text, of which each has its end: all pieces but the last
abbrev pub lines_of : Text → List Text
lines_of text = take (length (pieces text) - 1) (pieces text)

-- `broken`: the lines that tell which pairs and splits are wrong
abbrev pub broken_answer : Rows → Reply
broken_answer rows = Done (lines_of (broken rows))

-- the word for how a schedule stands
abbrev pub status_text : ScheduleStatus → Text
status_text Completed = codes "completed"
status_text Paid = codes "paid"
status_text Due = codes "due"
status_text Upcoming = codes "upcoming"
status_text Missed = codes "missed"
status_text Scheduled = codes "scheduled"

-- how a schedule stands, or that there is none
abbrev pub told_status : Text → Option ScheduleStatus → Reply
told_status id (Some status) = Done (status_text status ∷ [])
told_status id None = no_such_schedule id

-- `schedule-status`: how a live schedule stands on a day. The schedule is judged first
abbrev pub status_answer : Rows → Text → ℕ → Reply
status_answer rows id day =
    if is_live_schedule rows id then (if is_day day then told_status id (status_in rows id day) else bad_date day) else no_such_schedule id

-- the line of a share: its category, its template, what this wants and what it is given, with a TAB between them
abbrev pub share_text : Share → Text
share_text s = s.category ++ 9 ∷ template_text s.template ++ 9 ∷ signed_decimal s.want ++ 9 ∷ signed_decimal s.given

-- the line of a bad line: its category, and its number in the note
abbrev pub bad_text : BadLine → Text
bad_text x = codes "bad " ++ x.category ++ 32 ∷ decimal x.number

-- `goals`: the shares of a month, in the order in which they are given, and then the bad lines of notes
abbrev pub goals_answer : Rows → ℕ → Reply
goals_answer rows month =
    if is_month month then Done (list_map share_text (shares_in rows month) ++ list_map bad_text (bad_lines rows)) else bad_month month

-- what a cell of the tracking budget tells, or that there is no such category
abbrev pub told_track : TrackName → Option ℤ → Reply
told_track name (Some z) = Done (signed_decimal z ∷ [])
told_track name None = no_such_category name.id

-- a name of no kind is no word of the line
abbrev pub track_or_faulty : Rows → Option TrackName → Reply
track_or_faulty rows None = faulty 2
track_or_faulty rows (Some name) = told_track name (track_cell_of (tracked_of rows) name)

-- `track-cell`: what a cell of the tracking budget tells of a month. The month is judged first
abbrev pub track_cell_answer : Rows → ℕ → Text → Reply
track_cell_answer rows month name = if is_month month then track_or_faulty rows (track_named month name) else bad_month month

-- `track-sheet`: all cells of the tracking budget of a month
abbrev pub track_sheet_answer : Rows → ℕ → Reply
track_sheet_answer rows month = if is_month month then Done (list_map track_line (track_cells (tracked_of rows) month)) else bad_month month
