-- The status of a schedule on a day.
use Rattle.std.specs.Prelude.{ℕ, ◌+◌, Bool, ◌&&◌, ◌==◌, nat_lt, nat_le, if◌then◌else◌, Option, Some, None, option_and_then, option_map}
use Rattle.std.specs.List.{list_any}
use Rattle.std.specs.FinMap as map
use Rattle.finite_sums.specs.Maps.{Text, some_and}
use Rattle.book_rows.specs.declared.rows.Rows.{Rows}
use Rattle.book_rows.specs.declared.rows.TxRow.{TxRow}
use Rattle.book_rows.specs.declared.rows.ScheduleRow.{ScheduleRow}
use Rattle.book_rows.specs.Live.{is_live_tx}
use Rattle.book_rows.specs.Parts.{is_text}
use Rattle.schedules.specs.declared.standing.ScheduleStatus.{ScheduleStatus}
use Rattle.schedules.specs.declared.standing.ScheduleStatus.TheVariants.{Completed, Paid, Due, Upcoming, Missed, Scheduled}
use Rattle.schedules.specs.Months.{day_in}

-- the next day of a schedule, unless it has ended
abbrev pub next_day : ScheduleRow → Option ℕ
next_day row = if row.completed then None else option_and_then day_in row.next_date

-- a live transaction names the schedule, and is not earlier than two days before the next day
abbrev pub pays : Rows → Text → ℕ → TxRow → Bool
pays rows id next x = is_live_tx rows x && (is_text id x.schedule && some_and (λ day. nat_le next (day + 2)) (option_and_then day_in x.date))

-- the transaction with this id is there and does so
abbrev pub is_payment : Rows → Text → ℕ → Text → Bool
is_payment rows id next q = some_and (pays rows id next) (map.get rows.txs q)

-- some transaction does so
abbrev pub is_paid : Rows → Text → ℕ → Bool
is_paid rows id next = list_any (λ e. pays rows id next e.1) (map.entries rows.txs)

-- how the next day lies to a day
abbrev pub by_days : ℕ → ℕ → ScheduleStatus
by_days next day =
    if next == day then Due
    else (if nat_lt day next && nat_le next (day + 7) then Upcoming else (if nat_lt next day then Missed else Scheduled))

-- the status on a day
abbrev pub status_by : Rows → Text → ℕ → Option ℕ → ScheduleStatus
status_by rows id day None = Completed
status_by rows id day (Some next) = if is_paid rows id next then Paid else by_days next day

-- the row of a schedule that is live
abbrev pub live_row : Rows → Text → Option ScheduleRow
live_row rows id = option_and_then (λ (row : ScheduleRow). if row.tombstone then None else Some row) (map.get rows.schedules id)

-- the status of a live schedule on a day
abbrev pub status_of : Rows → Text → ℕ → Option ScheduleStatus
status_of rows id day = option_map (λ row. status_by rows id day (next_day row)) (live_row rows id)

-- the status of a live schedule on the day of a date YYYYMMDD
abbrev pub status_in : Rows → Text → ℕ → Option ScheduleStatus
status_in rows id date = option_and_then (status_of rows id) (day_in date)
