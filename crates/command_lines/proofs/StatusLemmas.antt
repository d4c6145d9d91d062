-- How a schedule stands is told of each live one and each day.
use Rattle.std.proofs.Common.{◌≡◌, ℕ, ◌+◌, ◌-◌, ◌%◌, Bool, true, false, cond, not, Option, None, Some, refl, ap, sym, ◌∙◌}
use Rattle.std.specs.Prelude.{option_and_then, option_map}
use Rattle.std.specs.FinMap as map
use Rattle.finite_sums.specs.Maps.{Text, some_and}
use Rattle.book_rows.specs.declared.rows.Rows.{Rows}
use Rattle.book_rows.specs.declared.rows.ScheduleRow.{ScheduleRow}
use Rattle.book_rows.specs.Kinds.{is_day}
use Rattle.book_rows.specs.Live.{is_live_schedule}
use Rattle.schedules.specs.declared.standing.ScheduleStatus.{ScheduleStatus as Standing}
use Rattle.schedules.specs.Months.{month_start, month_in, day_in}
use Rattle.schedules.specs.Status.{next_day, status_by, status_of, status_in}

live_there : (o : Option ScheduleRow) → some_and (λ s. not s.tombstone) o ≡ true → (row : ScheduleRow) × (option_and_then (λ (row : ScheduleRow). cond row.tombstone None (Some row)) o ≡ Some row)
live_there None h = absurd (cc)
live_there (Some row) h = by row.tombstone refl
  where
    by : (b : Bool) → row.tombstone ≡ b → (found : ScheduleRow) × (cond row.tombstone None (Some row) ≡ Some found)
    by true e = absurd (let clash : not true ≡ true = sym (ap not e) ∙ h in cc)
    by false e = (row, ap (λ (b : Bool). cond b None (Some row)) e)

day_there : (n : ℕ) → is_day n ≡ true → day_in n ≡ Some (month_start (month_in n) + n % 100 - 1)
unfolding day_in
day_there n is = ap (λ (b : Bool). cond b (Some (month_start (month_in n) + n % 100 - 1)) None) is

pub standing : (rows : Rows) (id : Text) (day : ℕ) → is_live_schedule rows id ≡ true → is_day day ≡ true → (s : Standing) × (status_in rows id day ≡ Some s)
standing rows id day live is =
    let row = live_there (map.get rows.schedules id) live in
    let d : ℕ = month_start (month_in day) + day % 100 - 1 in (
      status_by rows id d (next_day row.0),
      ap (option_and_then (status_of rows id)) (day_there day is) ∙ ap (option_map (λ row. status_by rows id d (next_day row))) row.1,
    )
