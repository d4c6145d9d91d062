-- What the statuses mean.
use Rattle.std.specs.Prelude.{◌≡◌, ◌↔◌, ◌⊎◌, ℕ, ◌+◌, ◌<◌, ◌≤◌, true, false, None, Some, option_and_then}
use Rattle.std.specs.FinMap as map
use Rattle.finite_sums.specs.Maps.{Text}
use Rattle.book_rows.specs.declared.rows.Rows.{Rows}
use Rattle.book_rows.specs.declared.rows.TxRow.{TxRow}
use Rattle.book_rows.specs.declared.rows.ScheduleRow.{ScheduleRow}
use Rattle.book_rows.specs.Live.{is_live_tx}
use Rattle.schedules.specs.declared.standing.ScheduleStatus.{ScheduleStatus}
use Rattle.schedules.specs.declared.standing.ScheduleStatus.TheVariants.{Completed, Paid, Due, Upcoming, Missed, Scheduled}
use Rattle.schedules.specs.Months.{day_in}
use Rattle.schedules.specs.Status.{live_row, status_in}

-- a live transaction names the schedule, with a day that is not earlier than two days before this one
pub record IsPayment (rows : Rows) (schedule : Text) (next : ℕ) : Type 0 where
  pub id : Text
  pub tx : TxRow
  pub there : map.get rows.txs id ≡ Some tx
  pub live : is_live_tx rows tx ≡ true
  pub names : tx.schedule ≡ Some schedule
  pub day : ℕ
  pub dated : option_and_then day_in tx.date ≡ Some day
  pub near : next ≤ day + 2

-- what a status says on a day of a schedule with a next day
pub record IsStatusOn (rows : Rows) (schedule : Text) (next day : ℕ) (status : ScheduleStatus) : Type 0 where
  -- paid is told exactly where there is a payment, whatever day it is
  pub paid : (status ≡ Paid) ↔ IsPayment rows schedule next
  -- else the next day decides
  pub due : status ≡ Due → next ≡ day
  pub upcoming : status ≡ Upcoming → (day < next) × (next ≤ day + 7)
  pub missed : status ≡ Missed → next < day
  pub scheduled : status ≡ Scheduled → day + 7 < next
  pub going : status ≡ Completed → ⊥

-- which status a schedule has
pub record StatusesAreTold : Type 0 where
  -- a schedule is live where its row is there and was not deleted
  pub live : (rows : Rows) (id : Text) (row : ScheduleRow) → (live_row rows id ≡ Some row) ↔ ((map.get rows.schedules id ≡ Some row) × (row.tombstone ≡ false))
  -- no other has a status
  pub none : (rows : Rows) (id : Text) (date : ℕ) → live_row rows id ≡ None → status_in rows id date ≡ None
  -- it is completed where its row says so, or has no next day
  pub completed : (rows : Rows) (id : Text) (date day : ℕ) (row : ScheduleRow) → day_in date ≡ Some day → live_row rows id ≡ Some row →
      ((row.completed ≡ true) ⊎ (option_and_then day_in row.next_date ≡ None)) → status_in rows id date ≡ Some Completed
  -- else it has one of the other five
  pub going : (rows : Rows) (id : Text) (date day next : ℕ) (row : ScheduleRow) → day_in date ≡ Some day → live_row rows id ≡ Some row →
      row.completed ≡ false → option_and_then day_in row.next_date ≡ Some next → (status : ScheduleStatus) × (status_in rows id date ≡ Some status) × IsStatusOn rows id next day status
