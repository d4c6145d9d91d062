-- What is kept of the months of a range, by month and by name.
use Rattle.std.proofs.Common.{◌≡◌, ℕ, ◌<◌, ◌≤◌, ◌+◌, ◌-◌, ◌/◌, ◌%◌, Bool, true, false, [], Option, Some, None, refl, ap, sym, ◌∙◌, subst, arith, if◌then◌else◌, true≢false}
use Rattle.std.specs.Prelude.{nat_lt, nat_le, unwrap_or}
use Rattle.std.proofs.lemmas.Int.{ints}
use Rattle.std.proofs.lemmas.Bool.Decides.{nat_tests}
use lib.IntN.{ℤ, pos}
use Rattle.std.specs.FinMap.{get}
use Rattle.finite_sums.specs.Maps.{Text}
use Rattle.finite_sums.proofs.MapSums.{both_true, and_both}
use Rattle.book_rows.specs.declared.rows.Rows.{Rows}
use Rattle.book_rows.specs.Months.{is_month, window_of}
use Rattle.envelope_cells.specs.Names.{Cells}
use Rattle.envelope_cells.specs.Budget.{Budget}
use Rattle.envelope_cells.specs.BudgetOf.{budget_of}
use Rattle.envelope_cells.specs.Cells.{to_budget, total_leftover}
use Rattle.envelope_cells.specs.CellOf.{value_of, cell_of}
use Rattle.envelope_cells.specs.Ids.{month_at, month_number}
use Rattle.envelope_cells.specs.Parts.{IsPast}
use Rattle.envelope_cells.specs.declared.name.CellName.{CellName}
use Rattle.envelope_cells.specs.declared.name.CellKind.{CellKind}
use Rattle.envelope_cells.specs.declared.name.CellKind.TheVariants.{Buffered, ToBudget, TotalLeftover}
use Rattle.envelope_cells.proofs.Quiet.{month_back, below_first}
use Rattle.envelope_cells.proofs.Money.{money_is_kept_lem}
use Rattle.dirty_cells.specs.Grid.{nothing}
use Rattle.dirty_cells.specs.Right.{cell_at, AreRightIn, AreWithin, IsOutside, none_pending, Pending}
use Rattle.dirty_cells.specs.Stands.{is_between, is_covered, HasWindow, based, StandsFor, kept_whole, KeepsMoney}
use Rattle.dirty_cells.specs.declared.grid.Grid.{Grid}
use Rattle.dirty_cells.proofs.Begun.{quiet_first}

-- ---- months as numbers
le_true : (a b : ℕ) → a ≤ b → nat_le a b ≡ true
le_true a b h = grind (arith, nat_tests)

true_le : (a b : ℕ) → nat_le a b ≡ true → a ≤ b
true_le a b h = grind (arith, nat_tests)

lt_true : (a b : ℕ) → a < b → nat_lt a b ≡ true
lt_true a b h = grind (arith, nat_tests)

true_lt : (a b : ℕ) → nat_lt a b ≡ true → a < b
true_lt a b h = grind (arith, nat_tests)

false_lt : (a b : ℕ) → nat_lt a b ≡ false → b ≤ a
false_lt a b h = grind (arith, nat_tests)

valid_month : (k : ℕ) → k < 2760 → is_month (month_at k) ≡ true
valid_month k h =
    let year : month_at k / 100 ≡ 1970 + k / 12 = omega arith in
    let month : month_at k % 100 ≡ k % 12 + 1 = omega arith in
    grind (arith, nat_tests)

pub number_same : (n : ℕ) → month_number (month_at n) ≡ n
number_same n = omega arith

pub month_same : (m : ℕ) → is_month m ≡ true → month_at (month_number m) ≡ m
month_same m h =
    let year : 1970 ≤ m / 100 = grind (arith, nat_tests) in
    let low : 1 ≤ m % 100 = grind (arith, nat_tests) in
    let high : m % 100 ≤ 12 = grind (arith, nat_tests) in
    month_back m year low high

pub record IsBetween (first end month : ℕ) : Type 0 where
  pub valid : is_month month ≡ true
  pub low : first ≤ month_number month
  pub high : month_number month < end

pub between_parts : (first end month : ℕ) → is_between first end month ≡ true → IsBetween first end month
between_parts first end month h =
    let p = both_true _ _ h in
    let q = both_true _ _ p.1 in
    record { valid = p.0; low = true_le _ _ q.0; high = true_lt _ _ q.1 }

pub parts_between : (first end month : ℕ) → IsBetween first end month → is_between first end month ≡ true
parts_between first end month h = and_both _ _ h.valid (and_both _ _ (le_true _ _ h.low) (lt_true _ _ h.high))

pub number_between : (first end n : ℕ) → first ≤ n → n < end → end ≤ 2760 → is_between first end (month_at n) ≡ true
number_between first end n h l w =
    let same = number_same n in
    parts_between first end (month_at n) (record { valid = valid_month n (omega (arith, l, w)); low = omega (arith, h, same); high = omega (arith, l, same) })

pub between_more : (a b first end month : ℕ) → a ≤ first → end ≤ b → is_between first end month ≡ true → is_between a b month ≡ true
between_more a b first end month h l e =
    let p = between_parts first end month e in
    parts_between a b month (record { valid = p.valid; low = omega (arith, h, p.low); high = omega (arith, l, p.high) })

-- ---- cells by month, and by name
module _ (cells : Cells) (b : Budget) (first end : ℕ) where
  abbrev pub AreTold : Type 0
  AreTold = (name : CellName) → get cells name ≡ (if is_between first end name.month then cell_of b name else None)

  pub told_right : end ≤ 2760 → AreTold → AreRightIn cells b first end none_pending
  told_right w told = record {
    each = λ n h l. record {
      each = λ kind id off.
          told (cell_at n kind id)
          ∙ ap (λ (t : Bool). if t then cell_of b (cell_at n kind id) else None) (number_between first end n h l w)
          ∙ ap (λ k. value_of b k kind id) (number_same n);
    };
  }

  pub told_within : AreTold → AreWithin cells first end
  told_within told = record { none = λ name outside. told name ∙ ap (λ (t : Bool). if t then cell_of b name else None) (by name outside (is_between first end name.month) refl) }
    where
      by : (name : CellName) → IsOutside first end name → (t : Bool) → is_between first end name.month ≡ t → t ≡ false
      by name outside true e = let p = between_parts first end name.month e in absurd (outside (month_number name.month) p.low p.high (sym (month_same name.month p.valid)))
      by name outside false e = refl

  pub right_told : end ≤ 2760 → AreRightIn cells b first end none_pending → AreWithin cells first end → AreTold
  right_told w right within = λ name. by name (is_between first end name.month) refl
    where
      off : (name : CellName) → is_between first end name.month ≡ false → (n : ℕ) → first ≤ n → n < end → name.month ≡ month_at n → false ≡ true
      off name e n h l m = sym e ∙ ap (is_between first end) m ∙ number_between first end n h l w

      by : (name : CellName) → (t : Bool) → is_between first end name.month ≡ t → get cells name ≡ (if t then cell_of b name else None)
      by name true e =
          let p = between_parts first end name.month e in
          let n = month_number name.month in
          ap (λ m. get cells (record { month = m; kind = name.kind; id = name.id })) (sym (month_same name.month p.valid))
          ∙ (right.each n p.low p.high).each name.kind name.id refl
      by name false e = within.none name (λ n h l m. absurd (true≢false (sym (off name e n h l m))))

-- ---- before a range in which a book's window is there is nothing
pub quiet_kept : (r : Rows) (first end n : ℕ) → HasWindow first end (window_of r) → n ≤ 2760 → (first < end → n ≤ first) → (c : Text) → IsPast (budget_of r) c n nothing
quiet_kept r first end n window w low = quiet_first r n w (λ span e k l.
    let both : (is_between first end span.0 ≡ true) × (is_between first end span.1 ≡ true) = subst (HasWindow first end) (sym e) window in
    let p = between_parts first end span.0 both.0 in
    below_first span.0 p.valid k (omega (arith, l, p.low, low (omega (arith, p.low, p.high)))))

-- ---- a range without months, at another month
module _ (first end n : ℕ) where
  pub based_cases : (P : ℕ × ℕ → Type 0) → (first < end → P (first, end)) → (end ≤ first → P (n, n)) → P (based (first, end) n)
  based_cases P some none = by (nat_lt first end) refl
    where
      by : (t : Bool) → nat_lt first end ≡ t → P (if t then (first, end) else (n, n))
      by true e = some (true_lt first end e)
      by false e = none (false_lt first end e)

  pub based_right : (cells : Cells) (b : Budget) (p : Pending) → AreRightIn cells b first end p → AreRightIn cells b (based (first, end) n).0 (based (first, end) n).1 p
  based_right cells b p right = based_cases (λ r. AreRightIn cells b r.0 r.1 p) (λ some. right) (λ none. record { each = λ k h l. absurd (omega (arith, h, l)) })

  pub based_within : (cells : Cells) → AreWithin cells first end → AreWithin cells (based (first, end) n).0 (based (first, end) n).1
  based_within cells within = based_cases (λ r. AreWithin cells r.0 r.1) (λ some. within) (λ none. record { none = λ name out. within.none name (λ k h l m. absurd (omega (arith, h, l, none))) })

  pub based_front : (new : ℕ) → (first < end → new ≤ first) → new ≡ n → new ≤ (based (first, end) n).0
  based_front new h e = based_cases (λ r. new ≤ r.0) h (λ none. omega (arith, e))

  pub based_order : (based (first, end) n).0 ≤ (based (first, end) n).1
  based_order = based_cases (λ r. r.0 ≤ r.1) (λ some. omega (arith, some)) (λ none. omega arith)

  pub based_back : (new : ℕ) → (first < end → end ≤ new) → n ≤ new → (based (first, end) n).1 ≤ new
  based_back new h e = based_cases (λ r. r.1 ≤ new) h (λ none. e)

  pub based_size : (a b : ℕ) → first ≤ end → a ≤ (based (first, end) n).0 → (based (first, end) n).1 ≤ b → ((based (first, end) n).0 - a) + (b - (based (first, end) n).1) ≡ (b - a) - (end - first)
  based_size a b o = based_cases (λ r. a ≤ r.0 → r.1 ≤ b → (r.0 - a) + (b - r.1) ≡ (b - a) - (end - first)) (λ some h l. omega (arith, some, h, l)) (λ none h l. omega (arith, o, none, h, l))

pub based_in : (first end n k : ℕ) → first ≤ k → k < end → ((based (first, end) n).0 ≤ k) × (k < (based (first, end) n).1)
based_in first end n k h l = based_cases first end n (λ r. (r.0 ≤ k) × (k < r.1)) (λ some. (h, l)) (λ none. absurd (omega (arith, h, l, none)))

-- a range that has more months has the window too
pub window_more : (first end a b : ℕ) (o : Option (ℕ × ℕ)) → (first < end → a ≤ first) → (first < end → end ≤ b) → HasWindow first end o → HasWindow a b o
window_more first end a b None h l w = w
window_more first end a b (Some span) h l w =
    let p = between_parts first end span.0 w.0 in
    let some : first < end = omega (arith, p.low, p.high) in
    (between_more a b first end span.0 (h some) (l some) w.0, between_more a b first end span.1 (h some) (l some) w.1)

-- ---- the money law
module _ (grid : Grid) (rows : Rows) (month : ℕ) (covered : is_covered grid month ≡ true) (stands : StandsFor grid rows) where
  kept_is : (kind : CellKind) (z : ℤ) → value_of (budget_of rows) (month_number month) kind [] ≡ Some z → kept_whole grid month kind ≡ z
  kept_is kind z e =
      let name : CellName = record { month = month; kind = kind; id = [] } in
      ap (λ o. unwrap_or o (pos 0)) (stands.cells name ∙ ap (λ (t : Bool). if t then cell_of (budget_of rows) name else None) covered ∙ e)

  pub keeps_money : KeepsMoney grid rows month
  keeps_money =
      let b = budget_of rows in
      let n = month_number month in
      let one : kept_whole grid month ToBudget ≡ to_budget b n = kept_is ToBudget (to_budget b n) refl in
      let two : kept_whole grid month Buffered ≡ b.buffered n = kept_is Buffered (b.buffered n) refl in
      let three : kept_whole grid month TotalLeftover ≡ total_leftover b n = kept_is TotalLeftover (total_leftover b n) refl in
      omega (arith, ints, one, two, three, money_is_kept_lem b n)
