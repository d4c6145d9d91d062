-- What a JSON value says as a recurrence, key by key, and the first key that is bad.
use Rattle.std.specs.Prelude.{ℕ, List, [], ◌∷◌, Bool, true, false, ◌&&◌, nat_le, if◌then◌else◌, Option, Some, None, codes, option_and_then, Result, Ok, Err, ℤ, pos, negsuc, int_le, unsigned_abs, is_some, ◌++◌, ◌==◌, length, slice_index}
use Rattle.std.specs.Str.{bytes_eq}
use Rattle.serde_json.specs.Data.{Data, null, Items, no_items, item}
use Rattle.serde_json.specs.Find.{get, as_number, as_u64, as_bool, as_str, as_array, as_object, as_i64}
use Rattle.serde_json.specs.Read.{read}
use Rattle.std.specs.Ordering.{int_eq}
use Rattle.schedules.specs.declared.recurrence.Frequency.{Frequency}
use Rattle.schedules.specs.declared.recurrence.Frequency.TheVariants.{Daily, Weekly, Monthly, Yearly}
use Rattle.schedules.specs.declared.recurrence.Pattern.{Pattern}
use Rattle.schedules.specs.declared.recurrence.Pattern.TheVariants.{Place, Last}
use Rattle.schedules.specs.declared.recurrence.Ending.{Ending}
use Rattle.schedules.specs.declared.recurrence.Ending.TheVariants.{Never, Times, Until}
use Rattle.schedules.specs.declared.recurrence.Weekends.{Weekends}
use Rattle.schedules.specs.declared.recurrence.Weekends.TheVariants.{Stay, Before, After}
use Rattle.schedules.specs.declared.reading.Mode.{Mode}
use Rattle.schedules.specs.declared.reading.Mode.TheVariants.{Open, Counted, Dated}
use Rattle.book_rows.specs.declared.fault.RecurPart.{RecurPart}
use Rattle.book_rows.specs.declared.fault.RecurPart.TheVariants.{Object, Start, Frequency as FrequencyKey, Interval, Patterns, SkipWeekend, WeekendSolveMode, EndMode, EndOccurrences, EndDate}
use Rattle.book_rows.specs.declared.fault.EditFault.{EditFault}
use Rattle.book_rows.specs.declared.fault.EditFault.TheVariants.{BadRecur}
use Rattle.book_rows.specs.Months.{behind, two_at, four_at}
use Rattle.schedules.specs.Months.{day_in}
use Rattle.schedules.specs.Days.{Said}

-- null is a missing key
abbrev pub present : Option Data → Option Data
present None = None
present (Some null) = None
present (Some d) = Some d

abbrev pub at_key : List ℕ → Data → Option Data
at_key key d = present (get key d)

-- a whole number from `least` to `most`
abbrev pub in_range : ℕ → ℕ → Option ℕ → Option ℕ
in_range least most None = None
in_range least most (Some n) = if nat_le least n && nat_le n most then Some n else None

abbrev pub whole : ℕ → ℕ → Data → Option ℕ
whole least most d = in_range least most (option_and_then as_u64 (as_number d))

abbrev pub needed_whole : ℕ → ℕ → Option Data → Option ℕ
needed_whole least most None = None
needed_whole least most (Some d) = whole least most d

-- the date that a text YYYY-MM-DD writes, as a number
abbrev pub digits_of_date : List ℕ → Option ℕ
digits_of_date t = behind 100 (behind 100 (four_at t 0) (two_at t 5)) (two_at t 8)

-- the day that a text YYYY-MM-DD writes, if it writes one
unfoldable pub day_of_text : List ℕ → Option ℕ
day_of_text t =
    if length t == 10 then (if slice_index t 4 == 45 && (slice_index t 7 == 45) then option_and_then day_in (digits_of_date t) else None)
    else None

-- a day, which has to be there
abbrev pub day_at : Option Data → Option ℕ
day_at None = None
day_at (Some d) = option_and_then day_of_text (as_str d)

abbrev pub interval_at : Option Data → Option ℕ
interval_at None = Some 1
interval_at (Some d) = whole 1 1_000 d

-- a text's word among those of a key
abbrev pub frequency_word : Option (List ℕ) → Option Frequency
frequency_word None = None
frequency_word (Some t) =
    if bytes_eq t (codes "daily") then Some Daily
    else (if bytes_eq t (codes "weekly") then Some Weekly
    else (if bytes_eq t (codes "monthly") then Some Monthly
    else (if bytes_eq t (codes "yearly") then Some Yearly else None)))

abbrev pub frequency_at : Option Data → Option Frequency
frequency_at None = None
frequency_at (Some d) = frequency_word (as_str d)

abbrev pub skip_at : Option Data → Option Bool
skip_at None = Some false
skip_at (Some d) = as_bool d

abbrev pub solve_word : Option (List ℕ) → Option Weekends
solve_word None = None
solve_word (Some t) =
    if bytes_eq t (codes "before") then Some Before else (if bytes_eq t (codes "after") then Some After else None)

abbrev pub solve_at : Option Data → Option Weekends
solve_at None = Some After
solve_at (Some d) = solve_word (as_str d)

-- a day of the month, or -1 for the last one
abbrev pub place_of : Option ℤ → Option Pattern
place_of None = None
place_of (Some z) =
    if int_eq z (negsuc 0) then Some Last
    else (if int_le (pos 1) z && int_le z (pos 31) then Some (Place (unsigned_abs z)) else None)

abbrev pub place_at : Option Data → Option Pattern
place_at None = None
place_at (Some d) = place_of (option_and_then as_i64 (as_number d))

abbrev pub is_day_word : Option (List ℕ) → Bool
is_day_word None = false
is_day_word (Some t) = bytes_eq t (codes "day")

abbrev pub is_day : Option Data → Bool
is_day None = false
is_day (Some d) = is_day_word (as_str d)

unfoldable pub pattern_of : Data → Option Pattern
pattern_of d = if is_day (get (codes "type") d) then place_at (get (codes "value") d) else None

-- patterns before others
abbrev pub before : List Pattern → Option (List Pattern) → Option (List Pattern)
before ps None = None
before ps (Some qs) = Some (ps ++ qs)

abbrev pub one_before : Option Pattern → Option (List Pattern) → Option (List Pattern)
one_before None qs = None
one_before (Some p) qs = before (p ∷ []) qs

-- each entry is a pattern
unfoldable pub patterns_of : Items → Option (List Pattern)
patterns_of no_items = Some []
patterns_of (item d ds) = one_before (pattern_of d) (patterns_of ds)

abbrev pub patterns_in : Option Items → Option (List Pattern)
patterns_in None = None
patterns_in (Some ds) = patterns_of ds

abbrev pub listed : Option Data → Option (List Pattern)
listed None = Some []
listed (Some d) = patterns_in (as_array d)

-- only a monthly recurrence has patterns
abbrev pub may_have : Frequency → List Pattern → Option (List Pattern)
may_have f [] = Some []
may_have Monthly ps = Some ps
may_have f ps = None

abbrev pub patterns_at : Frequency → Option Data → Option (List Pattern)
patterns_at f d = option_and_then (may_have f) (listed d)

abbrev pub mode_word : Option (List ℕ) → Option Mode
mode_word None = None
mode_word (Some t) =
    if bytes_eq t (codes "never") then Some Open
    else (if bytes_eq t (codes "after_n_occurrences") then Some Counted
    else (if bytes_eq t (codes "on_date") then Some Dated else None))

abbrev pub mode_at : Option Data → Option Mode
mode_at None = Some Open
mode_at (Some d) = mode_word (as_str d)

-- the values of the keys
abbrev pub start_of : Data → Option ℕ
start_of d = day_at (at_key (codes "start") d)

abbrev pub frequency_of : Data → Option Frequency
frequency_of d = frequency_at (at_key (codes "frequency") d)

abbrev pub interval_of : Data → Option ℕ
interval_of d = interval_at (at_key (codes "interval") d)

abbrev pub patterns_for : Frequency → Data → Option (List Pattern)
patterns_for f d = patterns_at f (at_key (codes "patterns") d)

abbrev pub skip_of : Data → Option Bool
skip_of d = skip_at (at_key (codes "skipWeekend") d)

abbrev pub solve_of : Data → Option Weekends
solve_of d = solve_at (at_key (codes "weekendSolveMode") d)

abbrev pub mode_of : Data → Option Mode
mode_of d = mode_at (at_key (codes "endMode") d)

abbrev pub times_of : Data → Option ℕ
times_of d = needed_whole 1 100_000 (at_key (codes "endOccurrences") d)

abbrev pub until_of : Data → Option ℕ
until_of d = day_at (at_key (codes "endDate") d)

-- what follows the reading of a key, whose name is told where it is bad
abbrev pub or_bad : {A B : Type 0} → RecurPart → Option A → (A → Result B RecurPart) → Result B RecurPart
or_bad part None next = Err part
or_bad part (Some a) next = next a

abbrev pub weekends_by : Bool → Weekends → Weekends
weekends_by false w = Stay
weekends_by true w = w

unfoldable pub weekends_of : Data → Result Weekends RecurPart
weekends_of d = or_bad SkipWeekend (skip_of d) (λ skip. or_bad WeekendSolveMode (solve_of d) (λ solve. Ok (weekends_by skip solve)))

abbrev pub ending_by : Mode → Data → Result Ending RecurPart
ending_by Open d = Ok Never
ending_by Counted d = or_bad EndOccurrences (times_of d) (λ n. Ok (Times n))
ending_by Dated d = or_bad EndDate (until_of d) (λ day. Ok (Until day))

unfoldable pub ending_of : Data → Result Ending RecurPart
ending_of d = or_bad EndMode (mode_of d) (λ mode. ending_by mode d)

abbrev pub result_then : {A B : Type 0} → Result A RecurPart → (A → Result B RecurPart) → Result B RecurPart
result_then (Err p) next = Err p
result_then (Ok a) next = next a

-- the keys in their order: what is said, or the first that is bad
unfoldable pub said_of : Data → Result Said RecurPart
said_of d =
    if is_some (as_object d) then
    or_bad Start (start_of d) (λ start.
    or_bad FrequencyKey (frequency_of d) (λ frequency.
    or_bad Interval (interval_of d) (λ interval.
    or_bad Patterns (patterns_for frequency d) (λ patterns.
    result_then (weekends_of d) (λ weekends.
    result_then (ending_of d) (λ ending.
    Ok (record { start = start; frequency = frequency; interval = interval; patterns = patterns; weekends = weekends; ending = ending })))))))
    else Err Object

-- what a JSON value says as a recurrence, or its first fault; none is no object
abbrev pub said_in : Option Data → Result Said RecurPart
said_in None = Err Object
said_in (Some d) = said_of d

abbrev pub said_by : List ℕ → Result Said RecurPart
said_by text = said_in (read text)

-- the refusal for a part that is bad
abbrev pub or_recur : {A : Type 0} → Result A RecurPart → Result A EditFault
or_recur (Ok a) = Ok a
or_recur (Err part) = Err (BadRecur part)

-- the recurrence of a text, or the refusal for its first key that is bad
abbrev pub recurrence_of : List ℕ → Result Said EditFault
recurrence_of text = or_recur (said_by text)
