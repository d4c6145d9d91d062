-- The edits of schedules: each with its checks in order, and its writes.
use Rattle.std.specs.Prelude.{ℕ, ℤ, pos, ◌+◌, Bool, true, false, List, [], ◌∷◌, ◌++◌, Option, None, Some, is_some, ok_or, Result, Ok, codes, if◌then◌else◌}
use Rattle.std.specs.Fmt.{signed_decimal}
use Rattle.std.specs.FinMap as map
use Rattle.json.specs.Print.{quoted}
use Rattle.serde_json.specs.Data.{Data}
use Rattle.serde_json.specs.Read.{read}
use Rattle.serde_json.specs.Written.{compact_text, has_float}
use Rattle.field_values.specs.declared.value.Value.{Value}
use Rattle.field_values.specs.declared.value.Value.TheVariants.{Null, Number, Text as IsText}
use Rattle.finite_sums.specs.Maps.{Text}
use Rattle.book_rows.specs.declared.rows.Rows.{Rows}
use Rattle.book_rows.specs.declared.rows.ScheduleRow.{ScheduleRow}
use Rattle.book_rows.specs.declared.write.RowName.{RowName}
use Rattle.book_rows.specs.declared.write.RowName.TheVariants.{Given, Made}
use Rattle.book_rows.specs.declared.write.WriteValue.TheVariants.{IdOf}
use Rattle.book_rows.specs.declared.write.Write.{Write}
use Rattle.book_rows.specs.declared.fault.EditFault.{EditFault}
use Rattle.book_rows.specs.declared.fault.EditFault.TheVariants.{NoSuchSchedule, ScheduleDone, BadRecur}
use Rattle.book_rows.specs.declared.fault.RecurPart.TheVariants.{EndMode}
use Rattle.book_edits.specs.Faults.{◌>>=◌, if_there}
use Rattle.book_edits.specs.Checks.{given_row, live_account, live_payee, an_amount}
use Rattle.book_edits.specs.Writing.{write, flag, text_or_null}
use Rattle.schedules.specs.declared.edit.ScheduleEdit.{ScheduleEdit}
use Rattle.schedules.specs.declared.edit.ScheduleEdit.TheVariants.{Add, Post, Skip, Delete}
use Rattle.schedules.specs.Months.{date_of}
use Rattle.schedules.specs.Days.{Said, next_from}
use Rattle.schedules.specs.Reading.{or_recur, recurrence_of}
use Rattle.schedules.specs.Terms.{Terms, terms_of}
use Rattle.schedules.specs.Status.{live_row, next_day}

-- ---- checks

-- a schedule that is live
abbrev pub live_schedule : Rows → Text → Result ScheduleRow EditFault
live_schedule rows id = ok_or (live_row rows id) (NoSuchSchedule id)

-- the next day of a schedule, which has not ended
abbrev pub not_done : Text → ScheduleRow → Result ℕ EditFault
not_done id row = ok_or (next_day row) (ScheduleDone id)

-- there is a row of the id, dead or alive
abbrev pub is_schedule : Rows → Text → Bool
is_schedule rows id = is_some (map.get rows.schedules id)

-- the row of a new schedule: the given one, or the one that the fifth write makes, behind the four of its rule
abbrev pub new_schedule : Rows → Option Text → Result RowName EditFault
new_schedule rows None = Ok (Made 4)
new_schedule rows (Some id) = given_row (is_schedule rows id) id

-- a recurrence that has an occurrence, and the first one
abbrev pub first_day : Said → Result ℕ EditFault
first_day r = ok_or (next_from r 0) (BadRecur EndMode)

-- ---- the conditions of a new schedule

-- the recurrence without spaces, each object's keys in order. One with a number that has a fraction or an exponent, is `-0` or
-- has more than 64 bits, stands as it was given, and so does a text that is no JSON
abbrev pub again : Text → Option Data → Text
again text None = text
again text (Some d) = if has_float d then text else compact_text d

-- near the date of the recurrence, and of the account
abbrev pub front_text : Text → Text → Text
front_text account recur =
    codes "[{\"field\":\"date\",\"op\":\"isapprox\",\"value\":" ++ again recur (read recur)
    ++ codes "},{\"field\":\"acct\",\"op\":\"is\",\"value\":" ++ quoted account ++ codes "},"

-- of the payee, if there is one
abbrev pub payee_text : Option Text → Text
payee_text None = []
payee_text (Some id) = codes "{\"field\":\"description\",\"op\":\"is\",\"value\":" ++ quoted id ++ codes "},"

-- of the amount
abbrev pub amount_text : ℤ → Text
amount_text amount = codes "{\"field\":\"amount\",\"op\":\"is\",\"value\":" ++ signed_decimal amount ++ codes "}]"

abbrev pub conditions_text : Text → Option Text → ℤ → Text → Text
conditions_text account payee amount recur = front_text account recur ++ payee_text payee ++ amount_text amount

-- ---- writes

abbrev pub rule_write : Text → Value → Write
rule_write column value = write (codes "rules") (Made 0) column value

abbrev pub schedule_write : RowName → Text → Value → Write
schedule_write row column value = write (codes "schedules") row column value

-- the writes of a rule, and of a schedule that has it
abbrev pub add_writes : RowName → Text → ℕ → Text → List Write
add_writes row name day conditions =
    rule_write (codes "stage") Null
    ∷ rule_write (codes "conditions_op") (IsText (codes "and"))
    ∷ rule_write (codes "conditions") (IsText conditions)
    ∷ rule_write (codes "actions") (IsText (codes "[]"))
    ∷ record { dataset = codes "schedules"; row = row; column = codes "rule"; value = IdOf 0 }
    ∷ schedule_write row (codes "name") (IsText name)
    ∷ schedule_write row (codes "next_date") (Number (pos (date_of day)))
    ∷ schedule_write row (codes "completed") (flag false)
    ∷ []

abbrev pub schedule_add : Rows → Option Text → Text → Text → Option Text → ℤ → Text → Result (List Write) EditFault
schedule_add rows id name account payee amount recur = do
  row ← new_schedule rows id
  _ ← live_account rows account
  _ ← if_there (live_payee rows) payee
  _ ← an_amount amount
  r ← recurrence_of recur
  day ← first_day r
  Ok (add_writes row name day (conditions_text account payee amount recur))

abbrev pub tx_write : Text → Value → Write
tx_write column value = write (codes "transactions") (Made 0) column value

-- the writes of a transaction on a day, as a schedule says
abbrev pub post_writes : Text → ℕ → Terms → List Write
post_writes id day t =
    tx_write (codes "acct") (IsText t.account)
    ∷ tx_write (codes "date") (Number (pos (date_of day)))
    ∷ tx_write (codes "amount") (Number t.amount)
    ∷ tx_write (codes "description") (text_or_null t.payee)
    ∷ tx_write (codes "schedule") (IsText id)
    ∷ []

-- makes the transaction of the next day
abbrev pub schedule_post : Rows → Text → Result (List Write) EditFault
schedule_post rows id = do
  row ← live_schedule rows id
  day ← not_done id row
  t ← or_recur (terms_of rows row)
  _ ← live_account rows t.account
  Ok (post_writes id day t)

-- the write of the day that follows, or that there is none
abbrev pub skip_write : Text → Option ℕ → Write
skip_write id None = schedule_write (Given id) (codes "completed") (flag true)
skip_write id (Some day) = schedule_write (Given id) (codes "next_date") (Number (pos (date_of day)))

-- goes on to the day that follows the next one
abbrev pub schedule_skip : Rows → Text → Result (List Write) EditFault
schedule_skip rows id = do
  row ← live_schedule rows id
  day ← not_done id row
  t ← or_recur (terms_of rows row)
  Ok (skip_write id (next_from t.days (day + 1)) ∷ [])

abbrev pub schedule_delete : Rows → Text → Result (List Write) EditFault
schedule_delete rows id = do
  _ ← live_schedule rows id
  Ok (schedule_write (Given id) (codes "tombstone") (flag true) ∷ [])

-- the writes of an edit of a book with these rows, in the order in which they are made, or the first refusal
abbrev pub schedule_writes : Rows → ScheduleEdit → Result (List Write) EditFault
schedule_writes rows (Add id name account payee amount recur) = schedule_add rows id name account payee amount recur
schedule_writes rows (Post id) = schedule_post rows id
schedule_writes rows (Skip id) = schedule_skip rows id
schedule_writes rows (Delete id) = schedule_delete rows id
