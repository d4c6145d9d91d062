-- The least ranges of months.
use Rattle.std.proofs.Common.{◌≡◌, ℕ, ◌+◌, ◌-◌, ◌/◌, ◌%◌, ◌≤◌, ◌<◌, Bool, true, false, Option, None, Some, refl, sym, ap, subst, inl, inr, ◌∙◌, arith}
use Rattle.std.specs.Prelude.{◌⊎◌, ◌&&◌, min, max, nat_lt, nat_le, if◌then◌else◌}
use Rattle.std.specs.Int.{is_in_range}
use Rattle.std.proofs.lemmas.Bool.{and_parts, and_from, leb-true, le-leb}
use Rattle.std.proofs.lemmas.Bool.Decides.{nat_tests}
use Rattle.book_rows.specs.Laws.{HasRowIn}
use Rattle.book_rows.specs.Months.{is_month, window_of}
use Rattle.book_rows.specs.Spans.{Spans}
use Rattle.book_rows.proofs.Spans.{windows_span_lem}
use Rattle.envelope_cells.specs.Ids.{month_number}
use Rattle.dirty_cells.specs.Stands.{is_between, with_month, with_window}
use Rattle.cell_laws.specs.Ranges.{HasMonth, LiesIn, IsLeastWith, HasNone, RangesAreLeast}
use Rattle.cell_laws.proofs.RowMonths.{row_month}

-- ---- one month more

month_kept : (range : ℕ × ℕ) (n : ℕ) → LiesIn range (with_month range n)
month_kept range n m h = record { from = grind (arith, nat_tests); before = grind (arith, nat_tests) }

month_has : (range : ℕ × ℕ) (n : ℕ) → HasMonth (with_month range n) n
month_has range n = record { from = grind (arith, nat_tests); before = grind (arith, nat_tests) }

-- a range that has months has its first one and its last one
has_first : (range : ℕ × ℕ) → range.0 < range.1 → HasMonth range range.0
has_first range h = record { from = omega arith; before = h }

has_last : (range : ℕ × ℕ) → range.0 < range.1 → HasMonth range (range.1 - 1)
has_last range h = record { from = omega arith; before = omega arith }

-- the two cases of one month more
abbrev more_by : ℕ × ℕ → ℕ → Bool → ℕ × ℕ
more_by range n t = if t then (min range.0 n, max range.1 (n + 1)) else (n, n + 1)

month_least : (range other : ℕ × ℕ) (n : ℕ) → LiesIn range other → HasMonth other n → LiesIn (with_month range n) other
month_least range other n kept has = by (nat_lt range.0 range.1) refl
  where
    by : (t : Bool) → nat_lt range.0 range.1 ≡ t → LiesIn (more_by range n t) other
    by true e m h =
        let some : range.0 < range.1 = grind (arith, nat_tests) in
        let front = kept range.0 (has_first range some) in
        let back = kept (range.1 - 1) (has_last range some) in
        record { from = grind arith; before = grind arith }
    by false e m h = record { from = omega (arith, h.from, has.from); before = omega (arith, h.before, has.before) }

with_month_least : (range : ℕ × ℕ) (n : ℕ) → IsLeastWith range (λ m. m ≡ n) (with_month range n)
with_month_least range n = record {
  kept = month_kept range n;
  has = λ m e. subst (HasMonth (with_month range n)) (sym e) (month_has range n);
  least = λ other kept has. month_least range other n kept (has n refl);
}

alone : (range : ℕ × ℕ) (n : ℕ) → HasNone range → with_month range n ≡ (n, n + 1)
alone range n none = by (nat_lt range.0 range.1) refl
  where
    by : (t : Bool) → nat_lt range.0 range.1 ≡ t → more_by range n t ≡ (n, n + 1)
    by true e = let some : range.0 < range.1 = grind (arith, nat_tests) in absurd (none range.0 (has_first range some))
    by false e = refl

-- ---- two months more

two_kept : (range : ℕ × ℕ) (a b : ℕ) → LiesIn range (with_month (with_month range a) b)
two_kept range a b m h = month_kept (with_month range a) b m (month_kept range a m h)

two_front : (range : ℕ × ℕ) (a b : ℕ) → HasMonth (with_month (with_month range a) b) a
two_front range a b = month_kept (with_month range a) b a (month_has range a)

two_least : (range other : ℕ × ℕ) (a b : ℕ) → LiesIn range other → HasMonth other a → HasMonth other b → LiesIn (with_month (with_month range a) b) other
two_least range other a b kept front back = month_least (with_month range a) other b (month_least range other a kept front) back

with_window_least : (range window : ℕ × ℕ) → IsLeastWith range (λ m. (m ≡ month_number window.0) ⊎ (m ≡ month_number window.1)) (with_window range (Some window))
with_window_least range window = record {
  kept = two_kept range (month_number window.0) (month_number window.1);
  has = has;
  least = λ other kept has. two_least range other (month_number window.0) (month_number window.1) kept (has (month_number window.0) (inl refl)) (has (month_number window.1) (inr refl));
}
  where
    has : (m : ℕ) → (m ≡ month_number window.0) ⊎ (m ≡ month_number window.1) → HasMonth (with_window range (Some window)) m
    has m (inl e) = subst (HasMonth (with_window range (Some window))) (sym e) (two_front range (month_number window.0) (month_number window.1))
    has m (inr e) = subst (HasMonth (with_window range (Some window))) (sym e) (month_has (with_month range (month_number window.0)) (month_number window.1))

one_then : (a b : ℕ) → a ≤ b → with_month (a, a + 1) b ≡ (a, b + 1)
one_then a b h = by (nat_lt a (a + 1)) refl
  where
    front : min a b ≡ a
    front = grind arith

    back : max (a + 1) (b + 1) ≡ b + 1
    back = grind arith

    by : (t : Bool) → nat_lt a (a + 1) ≡ t → more_by (a, a + 1) b t ≡ (a, b + 1)
    by true e = cc (front, back)
    by false e = absurd (grind (arith, nat_tests))

only_window : (range window : ℕ × ℕ) → HasNone range → month_number window.0 ≤ month_number window.1 → with_window range (Some window) ≡ (month_number window.0, month_number window.1 + 1)
only_window range window none order = ap (λ r. with_month r (month_number window.1)) (alone range (month_number window.0) none) ∙ one_then (month_number window.0) (month_number window.1) order

-- ---- the months of rows

-- months are numbered in their order
in_order : (a b : ℕ) → is_month a ≡ true → is_month b ≡ true → a ≤ b → month_number a ≤ month_number b
in_order a b h k le =
    let s = and_parts (is_in_range 1970 2199 (a / 100)) (is_in_range 1 12 (a % 100)) h in
    let t = and_parts (is_in_range 1970 2199 (b / 100)) (is_in_range 1 12 (b % 100)) k in
    let sm = and_parts (nat_le 1 (a % 100)) (nat_le (a % 100) 12) s.1 in
    let tm = and_parts (nat_le 1 (b % 100)) (nat_le (b % 100) 12) t.1 in
    let sy = and_parts (nat_le 1970 (a / 100)) (nat_le (a / 100) 2199) s.0 in
    let ty = and_parts (nat_le 1970 (b / 100)) (nat_le (b / 100) 2199) t.0 in
    omega (arith, le, leb-true 1 (a % 100) sm.0, leb-true (a % 100) 12 sm.1, leb-true 1 (b % 100) tm.0, leb-true (b % 100) 12 tm.1, leb-true 1970 (a / 100) sy.0, leb-true 1970 (b / 100) ty.0)

between : (range : ℕ × ℕ) (a b n : ℕ) → HasMonth range a → HasMonth range b → a ≤ n → n ≤ b → HasMonth range n
between range a b n front back low high = record { from = omega (arith, front.from); before = omega (arith, back.before) }

-- with the first and the last month that is had, the range is the least that has each
spans_least : (range : ℕ × ℕ) (has : ℕ → Type 0) (window : Option (ℕ × ℕ)) → ((month : ℕ) → has month → is_month month ≡ true) → Spans has window → IsLeastWith range (λ n. (month : ℕ) × has month × (n ≡ month_number month)) (with_window range window)
spans_least range has None valid spans = record {
  kept = λ n h. h;
  has = λ n h. absurd (spans h.0 h.1);
  least = λ other kept all. kept;
}
spans_least range has (Some window) valid spans = record {
  kept = two_kept range (month_number window.0) (month_number window.1);
  has = λ n h. subst (HasMonth (with_window range (Some window))) (sym h.2) (between (with_window range (Some window)) (month_number window.0) (month_number window.1) (month_number h.0)
      (two_front range (month_number window.0) (month_number window.1))
      (month_has (with_month range (month_number window.0)) (month_number window.1))
      (in_order window.0 h.0 (valid window.0 spans.first) (valid h.0 h.1) (spans.from h.0 h.1))
      (in_order h.0 window.1 (valid h.0 h.1) (valid window.1 spans.last) (spans.up_to h.0 h.1)));
  least = λ other kept all. two_least range other (month_number window.0) (month_number window.1) kept
      (all (month_number window.0) (window.0, spans.first, refl)) (all (month_number window.1) (window.1, spans.last, refl));
}

-- ---- which months are covered

between_is : (first end month : ℕ) → is_between first end month ≡ true → (is_month month ≡ true) × HasMonth (first, end) (month_number month)
between_is first end month h =
    let a = and_parts (is_month month) (nat_le first (month_number month) && nat_lt (month_number month) end) h in
    let b = and_parts (nat_le first (month_number month)) (nat_lt (month_number month) end) a.1 in
    (a.0, record { from = leb-true first (month_number month) b.0; before = grind (arith, nat_tests, b.1) })

is_between_where : (first end month : ℕ) → is_month month ≡ true → HasMonth (first, end) (month_number month) → is_between first end month ≡ true
is_between_where first end month valid h = and_from (is_month month) (nat_le first (month_number month) && nat_lt (month_number month) end) valid
    (and_from (nat_le first (month_number month)) (nat_lt (month_number month) end) (le-leb first (month_number month) h.from) (grind (arith, nat_tests, h.before)))

pub ranges_are_least_lem : RangesAreLeast
ranges_are_least_lem = record {
  covered = λ grid month. (between_is grid.first grid.end month, λ h. is_between_where grid.first grid.end month h.0 h.1);
  month = with_month_least;
  window = with_window_least;
  none = λ range. refl;
  rows = λ rows range days. spans_least range (HasRowIn rows) (window_of rows) (row_month rows days) (windows_span_lem rows);
  alone = alone;
  only_window = only_window;
}
