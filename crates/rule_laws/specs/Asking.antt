-- What edits of rules and of schedules ask for, and how they are refused.
use Rattle.std.specs.Prelude.{◌≡◌, ◌&&◌, ◌||◌, ◌++◌, ◌∷◌, [], ℕ, ◌+◌, min, unsigned_abs, nat_le, not, List, map as list_map, Option, None, Some, is_some, if◌then◌else◌, codes}
use Rattle.std.specs.Option.{is_none, option_and_then}
use Rattle.std.specs.Result.{result_ok}
use Rattle.std.specs.FinMap as map
use Rattle.serde_json.specs.Data.{Data, Items, no_items, item}
use Rattle.serde_json.specs.Find.{as_str, as_array, as_object}
use Rattle.serde_json.specs.Read.{read}
use Rattle.field_values.specs.Value.{largest_number}
use Rattle.finite_sums.specs.Maps.{Text, some_and}
use Rattle.book_rows.specs.declared.rows.Rows.{Rows}
use Rattle.book_rows.specs.declared.rows.RuleRow.{RuleRow}
use Rattle.book_rows.specs.declared.rows.ScheduleRow.{ScheduleRow}
use Rattle.book_rows.specs.declared.fault.EditFault.{EditFault}
use Rattle.book_rows.specs.declared.fault.EditFault.TheVariants.{NoSuchTransaction, BadAmount, BadRule, NoSuchSchedule, BadRecur, ScheduleDone}
use Rattle.book_rows.specs.declared.fault.RulePart.{RulePart}
use Rattle.book_rows.specs.declared.fault.RulePart.TheVariants.{Id, Conditions, Actions}
use Rattle.book_rows.specs.declared.fault.RecurPart.TheVariants.{Object, Start, Frequency, Interval, Patterns, SkipWeekend, WeekendSolveMode, EndMode, EndOccurrences, EndDate, Rule}
use Rattle.book_rows.specs.Live.{is_live_rule, is_alive}
use Rattle.book_laws.specs.Asking.{unless, fault_of, first_fault, new, account, payee}
use Rattle.rule_engine.specs.declared.edit.RuleEdit.{RuleEdit}
use Rattle.rule_engine.specs.declared.edit.RuleEdit.TheVariants.{RuleAdd, RuleDelete, RulesRun}
use Rattle.rule_engine.specs.Reading.{condition_of, action_of}
use Rattle.rule_engine.specs.Edits.{rule_writes}
use Rattle.schedules.specs.declared.edit.ScheduleEdit.{ScheduleEdit}
use Rattle.schedules.specs.declared.edit.ScheduleEdit.TheVariants.{Add, Post, Skip, Delete}
use Rattle.schedules.specs.Months.{day_in}
use Rattle.schedules.specs.Days.{Said, next_from}
use Rattle.schedules.specs.Reading.{day_of_text, start_of, frequency_of, interval_of, patterns_for, skip_of, solve_of, at_key, times_of, until_of, recurrence_of}
use Rattle.schedules.specs.Conditions.{says, is_account_field, is_condition, is_action, all_of}
use Rattle.schedules.specs.Terms.{Terms, field_of, value_of, words_of, names, first_where, terms_of}
use Rattle.schedules.specs.Edits.{schedule_writes}

-- a row that is live
abbrev pub transaction : Rows → Text → Option EditFault
transaction rows id = unless (is_alive rows id) (NoSuchTransaction id)

-- ---- rules

-- each entry of an array from this place on can be read, and else its place is told, which counts from 0 and up to 32 bits
abbrev pub entries : {A : Type 0} → RulePart → (Data → Option A) → ℕ → Items → List (Option EditFault)
entries part reading at no_items = []
entries part reading at (item d ds) = unless (is_some (reading d)) (BadRule part (min at 4_294_967_295)) ∷ entries part reading (at + 1) ds

-- what has to be an array
abbrev pub array : {A : Type 0} → RulePart → (Data → Option A) → Option Items → List (Option EditFault)
array part reading None = Some (BadRule part 0) ∷ []
array part reading (Some ds) = entries part reading 0 ds

-- a part of a rule is the JSON of an array
abbrev pub rule_part : {A : Type 0} → RulePart → (Data → Option A) → Text → List (Option EditFault)
rule_part part reading text = array part reading (option_and_then as_array (read text))

-- what an edit of rules asks for, in this order, and the fault that is told where it isn't so
abbrev pub asked_of_rules : Rows → RuleEdit → List (Option EditFault)
asked_of_rules rows (RuleAdd id stage op conditions actions) =
    new (λ q. is_some (map.get rows.rules q)) id ++ (rule_part Conditions condition_of conditions ++ rule_part Actions action_of actions)
asked_of_rules rows (RuleDelete id) = unless (is_live_rule rows id) (BadRule Id 0) ∷ []
asked_of_rules rows (RulesRun ids) = list_map (transaction rows) ids

-- ---- recurrences

-- what the end of a recurrence asks for: it is never, which may be left out, or after a number that is told, or on a day that is told
abbrev pub ends : Data → Option Data → List (Option EditFault)
ends d mode =
    unless (is_none mode || (says mode (codes "never") || (says mode (codes "after_n_occurrences") || says mode (codes "on_date")))) (BadRecur EndMode)
    ∷ unless (not (says mode (codes "after_n_occurrences")) || is_some (times_of d)) (BadRecur EndOccurrences)
    ∷ unless (not (says mode (codes "on_date")) || is_some (until_of d)) (BadRecur EndDate)
    ∷ []

-- what a recurrence asks for: it is an object, and each key can be read. Which patterns may be there, the frequency says
abbrev pub keys : Data → List (Option EditFault)
keys d =
    unless (is_some (as_object d)) (BadRecur Object)
    ∷ unless (is_some (start_of d)) (BadRecur Start)
    ∷ unless (is_some (frequency_of d)) (BadRecur Frequency)
    ∷ unless (is_some (interval_of d)) (BadRecur Interval)
    ∷ option_and_then (λ f. unless (is_some (patterns_for f d)) (BadRecur Patterns)) (frequency_of d)
    ∷ unless (is_some (skip_of d)) (BadRecur SkipWeekend)
    ∷ unless (is_some (solve_of d)) (BadRecur WeekendSolveMode)
    ∷ ends d (at_key (codes "endMode") d)

abbrev pub recurrence : Option Data → List (Option EditFault)
recurrence None = Some (BadRecur Object) ∷ []
recurrence (Some d) = keys d

-- a recurrence that is read has an occurrence
abbrev pub occurs : Said → Option EditFault
occurs r = unless (is_some (next_from r 0)) (BadRecur EndMode)

-- ---- the rule of a schedule

-- the entries of a text that is an array. No text has none
abbrev pub listed : Option Text → Option Items
listed None = Some no_items
listed (Some text) = option_and_then as_array (read text)

-- the first condition on the date, and the first that names the account
abbrev pub on_date : Option Text → Option Data
on_date text = option_and_then (first_where (λ d. says (field_of d) (codes "date"))) (listed text)

abbrev pub on_account : Option Text → Option Data
on_account text = option_and_then (first_where (λ d. is_account_field (field_of d) && names d)) (listed text)

-- what the value of a condition on the date asks for: it is there, and writes a day or is a recurrence
abbrev pub when : Option Data → List (Option EditFault)
when None = Some (BadRecur Rule) ∷ []
when (Some d) = if is_some (option_and_then day_of_text (as_str d)) then [] else keys d

-- what the rule of a schedule asks for: conditions and actions that can be read, one condition that names the account, and one on the date
abbrev pub asked_of_rule : RuleRow → List (Option EditFault)
asked_of_rule r =
    unless (some_and (all_of is_condition) (listed r.conditions)) (BadRecur Rule)
    ∷ unless (some_and (all_of is_action) (listed r.actions)) (BadRecur Rule)
    ∷ unless (is_some (option_and_then words_of (on_account r.conditions))) (BadRecur Rule)
    ∷ when (option_and_then value_of (on_date r.conditions))

-- it is there, and was not deleted
abbrev pub rule : Option RuleRow → List (Option EditFault)
rule None = Some (BadRecur Rule) ∷ []
rule (Some r) = if r.tombstone then Some (BadRecur Rule) ∷ [] else asked_of_rule r

abbrev pub its_rule : Rows → ScheduleRow → List (Option EditFault)
its_rule rows row = rule (option_and_then (map.get rows.rules) row.rule)

-- the account that it names is live
abbrev pub its_account : Rows → ScheduleRow → Option EditFault
its_account rows row = option_and_then (λ (t : Terms). account rows t.account) (result_ok (terms_of rows row))

-- ---- schedules

-- a schedule that is there and was not deleted, and what is asked of it
abbrev pub where_live : Text → (ScheduleRow → List (Option EditFault)) → Option ScheduleRow → List (Option EditFault)
where_live id more None = Some (NoSuchSchedule id) ∷ []
where_live id more (Some row) = if row.tombstone then Some (NoSuchSchedule id) ∷ [] else more row

-- one that has not ended, and has a next day
abbrev pub going : Text → ScheduleRow → Option EditFault
going id row = unless (not row.completed && is_some (option_and_then day_in row.next_date)) (ScheduleDone id)

-- what an edit of a schedule asks for, in this order, and the fault that is told where it isn't so
abbrev pub asked_of_schedules : Rows → ScheduleEdit → List (Option EditFault)
asked_of_schedules rows (Add id name own to amount recur) =
    new (λ q. is_some (map.get rows.schedules q)) id
    ++ (account rows own
    ∷ option_and_then (payee rows) to
    ∷ unless (nat_le (unsigned_abs amount) largest_number) (BadAmount amount)
    ∷ (recurrence (read recur) ++ option_and_then occurs (result_ok (recurrence_of recur)) ∷ []))
asked_of_schedules rows (Post id) =
    where_live id (λ row. going id row ∷ (its_rule rows row ++ its_account rows row ∷ [])) (map.get rows.schedules id)
asked_of_schedules rows (Skip id) = where_live id (λ row. going id row ∷ its_rule rows row) (map.get rows.schedules id)
asked_of_schedules rows (Delete id) = where_live id (λ row. []) (map.get rows.schedules id)

-- an edit of rules, or of transactions by rules, is refused with the first fault of what it asks for, and accepted where there is none
abbrev pub RuleEditsAreJudged : Type 0
RuleEditsAreJudged = (rows : Rows) (edit : RuleEdit) → fault_of (rule_writes rows edit) ≡ first_fault (asked_of_rules rows edit)

-- so is an edit of a schedule
abbrev pub ScheduleEditsAreJudged : Type 0
ScheduleEditsAreJudged = (rows : Rows) (edit : ScheduleEdit) → fault_of (schedule_writes rows edit) ≡ first_fault (asked_of_schedules rows edit)
