-- What edits of schedules leave.
use Rattle.std.specs.Prelude.{◌≡◌, ℕ, ℤ, true, false, List, Option, None, Some, Ok, codes}
use Rattle.std.specs.FinMap as map
use Rattle.finite_sums.specs.Maps.{Text}
use Rattle.book_rows.specs.declared.rows.Rows.{Rows}
use Rattle.book_rows.specs.declared.rows.RuleRow.{RuleRow}
use Rattle.book_rows.specs.declared.rows.ScheduleRow.{ScheduleRow}
use Rattle.book_rows.specs.declared.rows.TxRow.{TxRow}
use Rattle.book_rows.specs.declared.write.Write.{Write}
use Rattle.book_rows.specs.Live.{is_live_account}
use Rattle.book_rows.specs.Rules.{tx_table}
use Rattle.book_rows.specs.Tables.{blank_row}
use Rattle.split_transfer.specs.After.{Ids, with_writes}
use Rattle.schedules.specs.Months.{date_of}
use Rattle.schedules.specs.Days.{Said, next_from}
use Rattle.schedules.specs.Reading.{recurrence_of}
use Rattle.schedules.specs.Terms.{Terms, terms_of}
use Rattle.schedules.specs.Upcoming.{IsNext}
use Rattle.schedules.specs.Edits.{conditions_text, schedule_add, schedule_post, schedule_skip, schedule_delete}
use Rattle.rule_laws.specs.Making.{own_id}

-- a schedule that is there, and was not deleted
pub record IsThere (rows : Rows) (id : Text) (row : ScheduleRow) : Type 0 where
  pub there : map.get rows.schedules id ≡ Some row
  pub kept : row.tombstone ≡ false

-- one that has not ended, with its next date, and what its rule says
pub record IsGoing (rows : Rows) (id : Text) (row : ScheduleRow) (date : ℕ) (t : Terms) : Type 0 where
  pub is : IsThere rows id row
  pub going : row.completed ≡ false
  pub next : row.next_date ≡ Some date
  pub says : terms_of rows row ≡ Ok t

-- the transaction of a schedule's next date
abbrev pub posted_row : Text → Text → ℕ → Terms → TxRow
posted_row id schedule date t = record (blank_row tx_table id) { acct = Some t.account; date = Some date; amount = t.amount; description = t.payee; schedule = Some schedule }

-- the schedule goes on to this date, or has ended where there is none
abbrev pub gone_on : Option ℕ → ScheduleRow → ScheduleRow
gone_on None row = record row { completed = true }
gone_on (Some date) row = record row { next_date = Some date }

-- the rule of a new schedule: it has no stage, all its conditions have to hold, and it has no actions
abbrev pub rule_of_new : Text → Text → RuleRow
rule_of_new id conditions = record { id = id; stage = None; conditions_op = Some (codes "and"); conditions = Some conditions; actions = Some (codes "[]"); tombstone = false }

abbrev pub new_schedule : Text → Text → Text → ℕ → ScheduleRow
new_schedule id rule name date = record { id = id; rule = Some rule; name = Some name; next_date = Some date; completed = false; posts_transaction = false; tombstone = false }

-- what edits of schedules leave that are accepted
pub record ScheduleEditsDo (ids : Ids) (rows : Rows) (ws : List Write) : Type 0 where
  -- a new schedule has the name, a rule with its conditions, and the first date of its recurrence, where both rows are new; nothing else changes
  pub added : (id : Option Text) (name account : Text) (payee : Option Text) (amount : ℤ) (recur : Text) → schedule_add rows id name account payee amount recur ≡ Ok ws
      → map.get rows.rules (ids 0) ≡ None → map.get rows.schedules (own_id ids 4 id) ≡ None
      → (r : Said) × (day : ℕ) × (recurrence_of recur ≡ Ok r) × (next_from r 0 ≡ Some day) × (with_writes ids rows ws ≡ record rows {
        rules = map.insert rows.rules (ids 0) (rule_of_new (ids 0) (conditions_text account payee amount recur));
        schedules = map.insert rows.schedules (own_id ids 4 id) (new_schedule (own_id ids 4 id) (ids 0) name (date_of day));
      })
  -- one that is posted makes the transaction of its next date, as its rule says, where that is new; nothing else changes
  pub posted : (id : Text) → schedule_post rows id ≡ Ok ws → map.get rows.txs (ids 0) ≡ None
      → (row : ScheduleRow) × (date : ℕ) × (t : Terms) × IsGoing rows id row date t × (is_live_account rows t.account ≡ true)
      × (with_writes ids rows ws ≡ record rows { txs = map.insert rows.txs (ids 0) (posted_row (ids 0) id date t) })
  -- one that is skipped goes on to the least date after its next one, or has ended where there is none; nothing else changes
  pub skipped : (id : Text) → schedule_skip rows id ≡ Ok ws
      → (row : ScheduleRow) × (date : ℕ) × (t : Terms) × (next : Option ℕ) × IsGoing rows id row date t × IsNext t.days date next
      × (with_writes ids rows ws ≡ record rows { schedules = map.insert rows.schedules id (gone_on next row) })
  -- one that is deleted is deleted; nothing else changes
  pub deleted : (id : Text) → schedule_delete rows id ≡ Ok ws
      → (row : ScheduleRow) × IsThere rows id row × (with_writes ids rows ws ≡ record rows { schedules = map.insert rows.schedules id (record row { tombstone = true }) })
