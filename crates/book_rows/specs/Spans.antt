-- The first and the last of some months.
use Rattle.std.specs.Prelude.{ℕ, ◌≡◌, ◌≤◌, true, Option, None, Some}
use Rattle.std.specs.Ordering.{nat_cmp}
use Rattle.std.specs.BTreeSet as set
use Rattle.std.specs.BTreeSet.{BTreeSet}
use Rattle.finite_sums.specs.Maps.{Text}
use Rattle.book_rows.specs.Book.{dated_cmp}

-- the first month that is had, and the last
pub record IsSpan (has : ℕ → Type 0) (span : ℕ × ℕ) : Type 0 where
  pub first : has span.0
  pub last : has span.1
  pub from : (month : ℕ) → has month → span.0 ≤ month
  pub up_to : (month : ℕ) → has month → month ≤ span.1

-- the first and the last month that are had, or none is
abbrev pub Spans : (ℕ → Type 0) → Option (ℕ × ℕ) → Type 0
Spans has None = (month : ℕ) → has month → ⊥
Spans has (Some span) = IsSpan has span

-- a month stands with some id
abbrev pub HasDated : BTreeSet (ℕ × Text) → ℕ → Type 0
HasDated dated month = (id : Text) × (set.contains dated_cmp dated (month, id) ≡ true)

-- a month is among some
abbrev pub HasMonth : BTreeSet ℕ → ℕ → Type 0
HasMonth named month = set.contains nat_cmp named month ≡ true
