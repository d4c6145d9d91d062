-- By which keys, words and values JSON says a recurrence.
use Rattle.std.specs.Prelude.{◌≡◌, ◌↔◌, ◌⊎◌, ◌≤◌, ℕ, ℤ, pos, negsuc, Bool, false, List, [], ◌∷◌, None, Some, Ok, if◌then◌else◌, codes}
use Rattle.serde_json.specs.Data.{Num, unsigned, Data, null, boolean, number, string, array, object, Items, no_items, item, Members}
use Rattle.serde_json.specs.Find.{get, as_integer}
use Rattle.finite_sums.specs.Maps.{Text}
use Rattle.schedules.specs.declared.recurrence.Frequency.{Frequency}
use Rattle.schedules.specs.declared.recurrence.Frequency.TheVariants.{Daily, Weekly, Monthly, Yearly}
use Rattle.schedules.specs.declared.recurrence.Pattern.{Pattern}
use Rattle.schedules.specs.declared.recurrence.Pattern.TheVariants.{Place, Last}
use Rattle.schedules.specs.declared.recurrence.Ending.{Ending}
use Rattle.schedules.specs.declared.recurrence.Ending.TheVariants.{Never, Times, Until}
use Rattle.schedules.specs.declared.recurrence.Weekends.{Weekends}
use Rattle.schedules.specs.declared.recurrence.Weekends.TheVariants.{Stay, Before, After}
use Rattle.schedules.specs.Days.{Said}
use Rattle.schedules.specs.Reading.{day_of_text, said_of}

-- ---- keys

-- a key is missing, or it is null
abbrev pub Lacks : Text → Data → Type 0
Lacks key d = (get key d ≡ None) ⊎ (get key d ≡ Some null)

-- it has a word
abbrev pub HasWord : Text → Text → Data → Type 0
HasWord key word d = get key d ≡ Some (string word)

-- it has a whole number within bounds
abbrev pub HasCount : Text → ℕ → ℕ → ℕ → Data → Type 0
HasCount key least most n d = (get key d ≡ Some (number (unsigned n))) × (least ≤ n) × (n ≤ most)

-- it has the text of a day
abbrev pub HasDay : Text → ℕ → Data → Type 0
HasDay key day d = (t : Text) × (get key d ≡ Some (string t)) × (day_of_text t ≡ Some day)

-- ---- words

abbrev pub frequency_word : Frequency → Text
frequency_word Daily = codes "daily"
frequency_word Weekly = codes "weekly"
frequency_word Monthly = codes "monthly"
frequency_word Yearly = codes "yearly"

-- ---- days of the month

-- an entry says a place of the month, from 1 to 31, or by -1 its last day
abbrev pub SaysPlace : Pattern → ℤ → Type 0
SaysPlace (Place n) z = (z ≡ pos n) × (1 ≤ n) × (n ≤ 31)
SaysPlace Last z = z ≡ negsuc 0

abbrev pub IsPattern : Data → Pattern → Type 0
IsPattern d p = HasWord (codes "type") (codes "day") d × ((m : Num) × (z : ℤ) × (get (codes "value") d ≡ Some (number m)) × (as_integer m ≡ Some z) × SaysPlace p z)

abbrev pub ArePatterns : Items → List Pattern → Type 0
ArePatterns no_items [] = Unit {0}
ArePatterns (item d ds) (p ∷ ps) = IsPattern d p × ArePatterns ds ps
ArePatterns ds ps = ⊥

-- none are none
abbrev pub HasPatterns : List Pattern → Data → Type 0
HasPatterns ps d = (Lacks (codes "patterns") d × (ps ≡ [])) ⊎ ((ds : Items) × (get (codes "patterns") d ≡ Some (array ds)) × ArePatterns ds ps)

-- ---- weekends

-- whether days move: no word is no
abbrev pub Skips : Bool → Data → Type 0
Skips b d = (Lacks (codes "skipWeekend") d × (b ≡ false)) ⊎ (get (codes "skipWeekend") d ≡ Some (boolean b))

-- which way: no word is after
abbrev pub Solves : Weekends → Data → Type 0
Solves Before d = HasWord (codes "weekendSolveMode") (codes "before") d
Solves After d = Lacks (codes "weekendSolveMode") d ⊎ HasWord (codes "weekendSolveMode") (codes "after") d
Solves Stay d = ⊥

-- days that don't move stay
abbrev pub HasWeekends : Weekends → Data → Type 0
HasWeekends w d = (skip : Bool) × (way : Weekends) × Skips skip d × Solves way d × (w ≡ (if skip then way else Stay))

-- ---- ends

-- no word is never
abbrev pub Ends : Ending → Data → Type 0
Ends Never d = Lacks (codes "endMode") d ⊎ HasWord (codes "endMode") (codes "never") d
Ends (Times n) d = HasWord (codes "endMode") (codes "after_n_occurrences") d × HasCount (codes "endOccurrences") 1 100_000 n d
Ends (Until day) d = HasWord (codes "endMode") (codes "on_date") d × HasDay (codes "endDate") day d

-- ---- a recurrence

-- no interval is one of 1
abbrev pub HasInterval : ℕ → Data → Type 0
HasInterval n d = (Lacks (codes "interval") d × (n ≡ 1)) ⊎ HasCount (codes "interval") 1 1_000 n d

-- a value says a recurrence
pub record IsRecurrence (d : Data) (r : Said) : Type 0 where
  pub keyed : (ms : Members) × (d ≡ object ms)
  pub start : HasDay (codes "start") r.start d
  pub frequency : HasWord (codes "frequency") (frequency_word r.frequency) d
  pub interval : HasInterval r.interval d
  pub patterns : HasPatterns r.patterns d
  -- only a monthly one has any
  pub monthly : (r.patterns ≡ []) ⊎ (r.frequency ≡ Monthly)
  pub weekends : HasWeekends r.weekends d
  pub ending : Ends r.ending d

-- what is read as a recurrence says it, and what says one is read as it
abbrev pub RecurrencesReadBack : Type 0
RecurrencesReadBack = (d : Data) (r : Said) → (said_of d ≡ Ok r) ↔ IsRecurrence d r
