-- The next occurrence after a date, and those between two dates. Dates are numbers YYYYMMDD.
use Rattle.std.specs.Prelude.{◌≡◌, ◌↔◌, ℕ, ◌<◌, ◌≤◌, ◌==◌, true, List, Option, MatchOption}
use Rattle.std.specs.List.{list_any}
use Rattle.std.specs.List.Sorted.{IsStrictlySortedBy}
use Rattle.std.specs.Ordering.{nat_cmp}
use Rattle.schedules.specs.Months.{date_of}
use Rattle.schedules.specs.Days.{Said, is_kept, moved}

-- the date of a day to which a kept raw day moves
pub record IsOccurrence (r : Said) (date : ℕ) : Type 0 where
  pub day : ℕ
  pub kept : is_kept r day ≡ true
  pub moves : date_of (moved r.weekends day) ≡ date

-- the least occurrence after a date
pub record IsNextAfter (r : Said) (after n : ℕ) : Type 0 where
  pub occurs : IsOccurrence r n
  pub above : after < n
  pub least : (e : ℕ) → IsOccurrence r e → after < e → n ≤ e

-- the least occurrence after a date, or none where there is none
abbrev pub IsNext : Said → ℕ → Option ℕ → Type 0
IsNext r after o = MatchOption o ((e : ℕ) → IsOccurrence r e → e ≤ after) (λ n. IsNextAfter r after n)

-- the dates of occurrences from one date to another, both counted: each once, the earliest first
pub record AreBetween (r : Said) (first last : ℕ) (dates : List ℕ) : Type 0 where
  pub rises : IsStrictlySortedBy nat_cmp dates
  pub each : (n : ℕ) → (list_any (λ m. m == n) dates ≡ true) ↔ (IsOccurrence r n × (first ≤ n) × (n ≤ last))
