-- What the rule of a schedule says: when, from which account, to whom, and how much.
use Rattle.std.specs.Prelude.{ℕ, ℤ, pos, negsuc, ◌+ℤ◌, ◌/◌, [], Bool, ◌&&◌, if◌then◌else◌, Option, Some, None, option_and_then, option_map, unwrap_or, Result, Ok, Err, codes}
use Rattle.std.specs.FinMap as map
use Rattle.serde_json.specs.Data.{Data, Items, no_items, item}
use Rattle.serde_json.specs.Find.{get, as_str, as_array}
use Rattle.serde_json.specs.Read.{read}
use Rattle.finite_sums.specs.Maps.{Text}
use Rattle.book_rows.specs.declared.rows.Rows.{Rows}
use Rattle.book_rows.specs.declared.rows.RuleRow.{RuleRow}
use Rattle.book_rows.specs.declared.rows.ScheduleRow.{ScheduleRow}
use Rattle.book_rows.specs.declared.fault.RecurPart.{RecurPart}
use Rattle.book_rows.specs.declared.fault.RecurPart.TheVariants.{Rule}
use Rattle.schedules.specs.declared.recurrence.Frequency.TheVariants.{Daily}
use Rattle.schedules.specs.declared.recurrence.Weekends.TheVariants.{Stay}
use Rattle.schedules.specs.declared.recurrence.Ending.TheVariants.{Until}
use Rattle.schedules.specs.declared.terms.Agreed.{Agreed}
use Rattle.schedules.specs.declared.terms.About.{About}
use Rattle.schedules.specs.declared.terms.About.TheVariants.{Date, Account, Payee, Amount}
use Rattle.schedules.specs.Days.{Said, said}
use Rattle.schedules.specs.Reading.{day_of_text, said_of, or_bad, result_then}
use Rattle.schedules.specs.Conditions.{says, is_words, all_of, amount_at, is_near_op, is_account_field, is_payee_field, is_condition, is_action}

-- what a schedule says. A payee may be absent
pub record Terms : Type 0 where
  pub account : Text
  pub payee : Option Text
  pub amount : ℤ
  pub days : Said

abbrev pub agreed : Agreed → Terms
agreed t = record { account = t.account; payee = t.payee; amount = t.amount; days = said t.days }

-- one day alone, which does not move
abbrev pub one_day : ℕ → Said
one_day d = record { start = d; frequency = Daily; interval = 1; patterns = []; weekends = Stay; ending = Until d }

-- the first entry that passes a test
abbrev pub first_where : (Data → Bool) → Items → Option Data
first_where test no_items = None
first_where test (item d ds) = if test d then Some d else first_where test ds

abbrev pub field_of : Data → Option Data
field_of d = get (codes "field") d

abbrev pub op_of : Data → Option Data
op_of d = get (codes "op") d

abbrev pub value_of : Data → Option Data
value_of d = get (codes "value") d

-- the text of an entry's value, if it is one
abbrev pub words_of : Data → Option Text
words_of d = option_and_then as_str (value_of d)

-- an entry names somebody or something
abbrev pub names : Data → Bool
names d = says (op_of d) (codes "is") && is_words (value_of d)

-- what an entry is about. An account and a payee have to be named
abbrev pub fits : About → Data → Bool
fits Date d = says (field_of d) (codes "date")
fits Amount d = says (field_of d) (codes "amount")
fits Account d = is_account_field (field_of d) && names d
fits Payee d = is_payee_field (field_of d) && names d

-- half of a number, rounded down
abbrev pub half : ℤ → ℤ
half (pos n) = pos (n / 2)
half (negsuc n) = negsuc (n / 2)

-- the middle of two numbers, a half rounded up: one is added before. It is 0 where one is not there
abbrev pub middle : Option ℤ → Option ℤ → ℤ
middle (Some a) (Some b) = half (a +ℤ b +ℤ pos 1)
middle a b = pos 0

abbrev pub between : Option Data → ℤ
between v = middle (amount_at (option_and_then (get (codes "num1")) v)) (amount_at (option_and_then (get (codes "num2")) v))

-- the amount that a condition on it means: what it is, or is near to, or the middle of what it lies between, or else 0
abbrev pub amount_meant : Data → ℤ
amount_meant d =
    if is_near_op (op_of d) then unwrap_or (amount_at (value_of d)) (pos 0)
    else (if says (op_of d) (codes "isbetween") then between (value_of d) else pos 0)

abbrev pub amount_in : Items → ℤ
amount_in ds = unwrap_or (option_map amount_meant (first_where (fits Amount) ds)) (pos 0)

abbrev pub day_or : Option ℕ → Result Said RecurPart → Result Said RecurPart
day_or None r = r
day_or (Some day) r = Ok (one_day day)

-- the days that the value of a condition on the date means: those of a recurrence, or one day
abbrev pub days_meant : Option Data → Result Said RecurPart
days_meant None = Err Rule
days_meant (Some v) = day_or (option_and_then day_of_text (as_str v)) (said_of v)

-- what readable conditions say. There has to be one on the date, and one that names an account
unfoldable pub terms_in : Items → Result Terms RecurPart
terms_in ds =
    or_bad Rule (first_where (fits Date) ds) (λ date.
    or_bad Rule (option_and_then words_of (first_where (fits Account) ds)) (λ account.
    result_then (days_meant (value_of date)) (λ days.
    Ok (record { account = account; payee = option_and_then words_of (first_where (fits Payee) ds); amount = amount_in ds; days = days }))))

-- the entries of a text, each of which has to pass a test. No text has no entries
abbrev pub entries_by : (Data → Bool) → Option Items → Option Items
entries_by test None = None
entries_by test (Some ds) = if all_of test ds then Some ds else None

abbrev pub entries_of : (Data → Bool) → Option Text → Option Items
entries_of test None = Some no_items
entries_of test (Some text) = entries_by test (option_and_then as_array (read text))

-- what conditions say as those of a schedule: they and the actions have to be readable
abbrev pub terms_by : Option Items → Option Text → Result Terms RecurPart
terms_by conditions actions = or_bad Rule conditions (λ ds. or_bad Rule (entries_of is_action actions) (λ _. terms_in ds))

abbrev pub rule_terms : RuleRow → Result Terms RecurPart
rule_terms row = terms_by (entries_of is_condition row.conditions) row.actions

abbrev pub live_rule : Rows → Text → Option RuleRow
live_rule rows id = option_and_then (λ (row : RuleRow). if row.tombstone then None else Some row) (map.get rows.rules id)

-- what a schedule says, by its rule, which has to be live
abbrev pub terms_of : Rows → ScheduleRow → Result Terms RecurPart
terms_of rows row = or_bad Rule (option_and_then (live_rule rows) row.rule) rule_terms
