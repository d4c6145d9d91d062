-- What the answers of the lines that only read tell.
use Rattle.std.specs.Prelude.{◌≡◌, ◌≢◌, ◌↔◌, ℕ, ℤ, List, [], ◌∷◌, ◌++◌, map, codes, Option, None, Some, true, false}
use Rattle.std.specs.Cmp.Lexicographic.{slice_cmp}
use Rattle.std.specs.List.{Contains, flat_map}
use Rattle.std.specs.Fmt.{signed_decimal}
use Rattle.std.specs.List.Sorted.{IsPermutation}
use Rattle.std.specs.Ordering.{is_gt, nat_cmp}
use Rattle.field_values.specs.Names.{field_of}
use Rattle.field_values.specs.Value.{value_text}
use Rattle.hybrid_clock.specs.Stamp.{stamp_text}
use Rattle.field_merge.specs.declared.message.Message.{Message}
use Rattle.field_merge.specs.Escapes.{escaped}
use Rattle.field_merge.specs.Joining.{HasNone, IsLatest, ListsLatest}
use Rattle.field_merge.specs.Log.{IsRising}
use Rattle.field_merge.specs.Messages.{message_line, AreMessages}
use Rattle.minute_trie.specs.Trie.{Pair, stamp_pair, trie_of}
use Rattle.minute_trie.specs.Faults.{fault_of_text, map_of_text}
use Rattle.command_lines.specs.declared.command.Command.TheVariants.{Fields, Messages, Value, Trie, Balance, Register, Cell, Sheet, Broken, ScheduleStatus, Goals, TrackCell, TrackSheet}
use Rattle.command_lines.specs.declared.reply.Reply.TheVariants.{Done}
use Rattle.field_merge.specs.Lines.{ended}
use Rattle.book_rows.specs.Kinds.{is_day}
use Rattle.book_rows.specs.Live.{is_live_account, is_live_schedule}
use Rattle.book_rows.specs.Balances.{balance_of}
use Rattle.book_rows.specs.Months.{is_month}
use Rattle.split_transfer.specs.Broken.{broken}
use Rattle.schedules.specs.declared.standing.ScheduleStatus.{ScheduleStatus as Standing}
use Rattle.schedules.specs.Status.{status_in}
use Rattle.envelope_cells.specs.declared.name.CellName.{CellName}
use Rattle.envelope_cells.specs.declared.name.CellKind.{CellKind}
use Rattle.envelope_cells.specs.BudgetOf.{budget_of}
use Rattle.envelope_cells.specs.CellOf.{cell_of, is_of_category}
use Rattle.envelope_cells.specs.SheetOf.{sheet_of}
use Rattle.envelope_cells.specs.Text.{kind_text, sheet_text}
use Rattle.goal_templates.specs.Goals.{shares_in}
use Rattle.goal_templates.specs.Notes.{bad_lines}
use Rattle.tracking_budget.specs.declared.name.TrackName.{TrackName}
use Rattle.tracking_budget.specs.CellOf.{track_cell_of}
use Rattle.tracking_budget.specs.Names.{kind_text as track_kind_text, is_of_month as is_of_track_month, track_line}
use Rattle.tracking_budget.specs.SheetOf.{track_cells}
use Rattle.tracking_budget.specs.Tracked.{tracked_of}
use Rattle.device_core.specs.Books.{rows_of}
use Rattle.command_lines.specs.Refusals.{no_such_account, no_such_group, no_such_category, no_such_schedule, bad_date, bad_month}
use Rattle.command_lines.specs.BookAnswers.{status_text, share_text, bad_text}
use Rattle.command_lines.specs.Replies.{faulty}
use Rattle.command_lines.specs.Register.{Entry}
use Rattle.command_lines.specs.RegisterLaws.{IsRegister}
use Rattle.command_lines.specs.CellNames.{is_of_group, is_of_month}
use Rattle.command_lines.specs.Readings.{answer}

-- the messages that are told are those of ms whose timestamp's text is greater than the text, by timestamp
pub record ListsLater (since : List ℕ) (ms told : List Message) : Type 0 where
  pub rising : IsRising told
  pub exactly : (m : Message) → Contains told m ↔ (Contains ms m × (is_gt (slice_cmp nat_cmp (stamp_text m.stamp) since) ≡ true))

-- the text is that of a trie, and it is read as the trie of the messages: of their timestamps' pairs, in whichever order
pub record TellsTrie (ms : List Message) (text : List ℕ) : Type 0 where
  pub right : fault_of_text text ≡ None
  pub same : (pairs : List Pair) → IsPermutation pairs (map (λ m. stamp_pair m.stamp) ms) → map_of_text text ≡ trie_of pairs

-- a cell of a month has no id
abbrev pub MayHaveId : CellKind → List ℕ → Type 0
MayHaveId kind id = is_of_month kind ≡ true → id ≡ []

-- the name of a cell, and what it tells of the messages' books
abbrev pub name_text : CellName → List ℕ
name_text name = kind_text name.kind ++ name.id

abbrev pub value_in_books : List Message → CellName → Option ℤ
value_in_books ms name = cell_of (budget_of (rows_of ms)) name

-- the same of the tracking budget
abbrev pub MayHaveTrackId : TrackName → Type 0
MayHaveTrackId name = is_of_track_month name.kind ≡ true → name.id ≡ []

abbrev pub track_text : TrackName → List ℕ
track_text name = track_kind_text name.kind ++ name.id

abbrev pub value_tracked : List Message → TrackName → Option ℤ
value_tracked ms name = track_cell_of (tracked_of (rows_of ms)) name

-- what the lines that ask of the books are answered, which are the rows of the messages
pub record BooksAreTold (ms : List Message) : Type 0 where
  -- `balance` and `register` of a live account: its balance, and the lines of its live transactions, by day and id
  pub balance : (account : List ℕ) → is_live_account (rows_of ms) account ≡ true → answer ms (Balance account) ≡ Done (signed_decimal (balance_of (rows_of ms) account) ∷ [])
  pub register : (account : List ℕ) → is_live_account (rows_of ms) account ≡ true
      → (told : List Entry) × (answer ms (Register account) ≡ Done (map (λ e. e.1) told)) × IsRegister (rows_of ms) account told
  -- and of any other
  pub no_balance : (account : List ℕ) → is_live_account (rows_of ms) account ≡ false → answer ms (Balance account) ≡ no_such_account account
  pub no_register : (account : List ℕ) → is_live_account (rows_of ms) account ≡ false → answer ms (Register account) ≡ no_such_account account
  -- `cell` of a month, by the name of a cell: what it tells, or that there is no such group or category
  pub cell : (name : CellName) (z : ℤ) → is_month name.month ≡ true → MayHaveId name.kind name.id → value_in_books ms name ≡ Some z
      → answer ms (Cell name.month (name_text name)) ≡ Done (signed_decimal z ∷ [])
  pub no_group : (name : CellName) → is_month name.month ≡ true → is_of_group name.kind ≡ true → value_in_books ms name ≡ None
      → answer ms (Cell name.month (name_text name)) ≡ no_such_group name.id
  pub no_category : (name : CellName) → is_month name.month ≡ true → is_of_category name.kind ≡ true → value_in_books ms name ≡ None
      → answer ms (Cell name.month (name_text name)) ≡ no_such_category name.id
  -- and by a name of no kind
  pub no_kind : (month : ℕ) (text : List ℕ) → is_month month ≡ true → ((name : CellName) → MayHaveId name.kind name.id → name_text name ≢ text) → answer ms (Cell month text) ≡ faulty 2
  -- `sheet` of a month: the lines of its sheet
  pub sheet : (month : ℕ) → is_month month ≡ true → (lines : List (List ℕ)) × (answer ms (Sheet month) ≡ Done lines) × (flat_map ended lines ≡ sheet_text (sheet_of (budget_of (rows_of ms)) month))
  -- `broken`: the lines that tell which pairs and splits are wrong
  pub broken : (lines : List (List ℕ)) × (answer ms Broken ≡ Done lines) × (flat_map ended lines ≡ broken (rows_of ms))
  -- `schedule-status` of a live schedule and a day: how it stands on that day
  pub status : (id : List ℕ) (day : ℕ) → is_live_schedule (rows_of ms) id ≡ true → is_day day ≡ true
      → (standing : Standing) × (status_in (rows_of ms) id day ≡ Some standing) × (answer ms (ScheduleStatus id day) ≡ Done (status_text standing ∷ []))
  -- of no live schedule, and, of a live one, of no day
  pub no_schedule : (id : List ℕ) (day : ℕ) → is_live_schedule (rows_of ms) id ≡ false → answer ms (ScheduleStatus id day) ≡ no_such_schedule id
  pub no_day : (id : List ℕ) (day : ℕ) → is_live_schedule (rows_of ms) id ≡ true → is_day day ≡ false → answer ms (ScheduleStatus id day) ≡ bad_date day
  -- `goals` of a month: the line of each share, and then of each bad line
  pub goals : (month : ℕ) → is_month month ≡ true → answer ms (Goals month) ≡ Done (map share_text (shares_in (rows_of ms) month) ++ map bad_text (bad_lines (rows_of ms)))
  -- `track-cell` of a month, by the name of a cell of the tracking budget: what it tells, or that there is no such category
  pub track_cell : (name : TrackName) (z : ℤ) → is_month name.month ≡ true → MayHaveTrackId name → value_tracked ms name ≡ Some z
      → answer ms (TrackCell name.month (track_text name)) ≡ Done (signed_decimal z ∷ [])
  pub no_track : (name : TrackName) → is_month name.month ≡ true → MayHaveTrackId name → value_tracked ms name ≡ None
      → answer ms (TrackCell name.month (track_text name)) ≡ no_such_category name.id
  -- and by a name of no kind
  pub no_track_kind : (month : ℕ) (text : List ℕ) → is_month month ≡ true → ((name : TrackName) → MayHaveTrackId name → track_text name ≢ text) → answer ms (TrackCell month text) ≡ faulty 2
  -- `track-sheet` of a month: the line of each cell of the sheet
  pub track_sheet : (month : ℕ) → is_month month ≡ true → answer ms (TrackSheet month) ≡ Done (map track_line (track_cells (tracked_of (rows_of ms)) month))
  -- `cell`, `sheet`, `goals`, `track-cell` and `track-sheet` of no month
  pub no_cell : (month : ℕ) (text : List ℕ) → is_month month ≡ false → answer ms (Cell month text) ≡ bad_month month
  pub no_sheet : (month : ℕ) → is_month month ≡ false → answer ms (Sheet month) ≡ bad_month month
  pub no_goals : (month : ℕ) → is_month month ≡ false → answer ms (Goals month) ≡ bad_month month
  pub no_track_cell : (month : ℕ) (text : List ℕ) → is_month month ≡ false → answer ms (TrackCell month text) ≡ bad_month month
  pub no_track_sheet : (month : ℕ) → is_month month ≡ false → answer ms (TrackSheet month) ≡ bad_month month

-- what the lines that only read are answered
pub record AnswersTell : Type 0 where
  -- `value` of a field that a message has: the value of its latest message, escaped
  pub value : (ms : List Message) (dataset row column : List ℕ) (m : Message) → IsRising ms → IsLatest ms (field_of dataset row column) m → answer ms (Value dataset row column) ≡ Done (escaped (value_text m.value) ∷ [])
  -- `value` of a field that no message has: `none`
  pub none : (ms : List Message) (dataset row column : List ℕ) → HasNone ms (field_of dataset row column) → answer ms (Value dataset row column) ≡ Done (codes "none" ∷ [])
  -- `fields`: the line of the latest message of each field, by dataset, row and column
  pub fields : (ms listed : List Message) → ListsLatest ms listed → answer ms Fields ≡ Done (map message_line listed)
  -- `messages`: the line of each message with a timestamp whose text is greater, by timestamp
  pub messages : (ms told : List Message) (since : List ℕ) → IsRising ms → ListsLater since ms told → answer ms (Messages since) ≡ Done (map message_line told)
  -- `trie`: the text of the trie of the messages
  pub trie : (ms : List Message) → AreMessages ms → (text : List ℕ) × (answer ms Trie ≡ Done (text ∷ [])) × TellsTrie ms text
  -- the lines that ask of the books
  pub books : (ms : List Message) → BooksAreTold ms
