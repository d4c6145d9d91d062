-- What templates want, and how much.
use Rattle.std.proofs.Common.{◌≡◌, ℕ, zero, suc, ◌+◌, ◌-◌, ◌*◌, ◌/◌, ◌^◌, ◌<◌, ◌≤◌, Bool, true, false, cond, Option, Some, None, refl, sym, ap, ap₂, ◌∙◌, arith}
use lib.IntN.{ℤ, pos, ◌+ℤ◌, ◌-ℤ◌}
use Rattle.std.specs.Prelude.{◌≤ℤ◌, nat_le, unsigned_abs, min}
use Rattle.std.specs.Int.{int_max, int_min}
use Rattle.std.specs.FinMap.{get}
use Rattle.std.proofs.lemmas.Int.{ints, clamps}
use Rattle.std.proofs.lemmas.Bool.{leb-true, leb-false}
use Rattle.std.proofs.lemmas.Nat.{mul-le, mul-add-lt, row-Below}
use Rattle.field_values.specs.Value.{largest_number}
use Rattle.finite_sums.specs.Maps.{Text, value_or_zero}
use Rattle.book_rows.specs.declared.rows.Rows.{Rows}
use Rattle.book_rows.specs.declared.rows.BudgetRow.{BudgetRow}
use Rattle.book_rows.specs.Book.{HasSizes}
use Rattle.book_rows.specs.Ids.{budget_id}
use Rattle.envelope_cells.specs.Budget.{Budget}
use Rattle.envelope_cells.specs.BudgetOf.{budget_of}
use Rattle.envelope_cells.specs.Cells.{rolled, carried_before, leftover_before}
use Rattle.envelope_cells.specs.Ids.{month_at, month_number}
use Rattle.envelope_cells.specs.Parts.{weight_before}
use Rattle.envelope_cells.proofs.Parts.{left_small, weight_rises}
use Rattle.goal_templates.specs.declared.template.TemplateBody.{TemplateBody}
use Rattle.goal_templates.specs.declared.template.TemplateBody.TheVariants.{Amount, UpTo, AmountUpTo, By, Average, CopyFrom}
use Rattle.goal_templates.specs.Grammar.{IsCents, IsBodyInRange}
use Rattle.goal_templates.specs.Wanted.{carry, missing, part_of, latest_sums, average_of, given_ago, due, body_want}

rolled_small : (t : Bool) (z : ℤ) → unsigned_abs (rolled t z) ≤ unsigned_abs z
rolled_small true z = omega arith
rolled_small false z = omega (arith, ints, clamps)

pub carry_small : (b : Budget) (m : ℕ) (c : Text) → unsigned_abs (carry b m c) ≤ weight_before b c m
carry_small b m c = omega (arith, left_small b c m, rolled_small (carried_before b c m) (leftover_before b c m))

pub budget_small : (r : Rows) → HasSizes r → (c : Text) (k : ℕ) → unsigned_abs ((budget_of r).budgeted c k) ≤ largest_number
budget_small r sizes c k = by (get r.budgets (budget_id c (month_at k))) refl
  where
    by : (o : Option BudgetRow) → get r.budgets (budget_id c (month_at k)) ≡ o → unsigned_abs (value_or_zero (λ (b : BudgetRow). b.amount) o) ≤ largest_number
    by None e = omega arith
    by (Some b) e = let h = sizes.numbers.budgets (budget_id c (month_at k)) b e in omega (arith, ints, h.low, h.high)

-- ---- the latest sums
pub latest_small : (b : Budget) (c : Text) (m n : ℕ) → unsigned_abs (latest_sums b c m n) ≤ weight_before b c m
latest_small b c m zero = omega arith
latest_small b c zero (suc n) = omega arith
latest_small b c (suc k) (suc n) = omega (arith, ints, latest_small b c k n)

all_latest : (b : Budget) (c : Text) (m n : ℕ) → m ≤ n → latest_sums b c m n ≡ latest_sums b c m m
all_latest b c zero zero h = refl
all_latest b c zero (suc n) h = refl
all_latest b c (suc k) zero h = absurd (omega arith)
all_latest b c (suc k) (suc n) h = ap (λ z. b.category_sum c k +ℤ z) (all_latest b c k n (omega arith))

pub latest_from : (b : Budget) (c : Text) (m n : ℕ) → latest_sums b c m (m - (m - n)) ≡ latest_sums b c m n
latest_from b c m n = by (nat_le m n) refl
  where
    by : (t : Bool) → nat_le m n ≡ t → latest_sums b c m (m - (m - n)) ≡ latest_sums b c m n
    by true e = let h = leb-true m n e in ap (latest_sums b c m) (let s : m - (m - n) ≡ m = omega (arith, h) in s) ∙ sym (all_latest b c m n h)
    by false e = let h = leb-false m n e in ap (latest_sums b c m) (omega (arith, h))

pub latest_turn : (b : Budget) (c : Text) (from k : ℕ) → from ≤ k → latest_sums b c (k + 1) (k + 1 - from) ≡ latest_sums b c k (k - from) +ℤ b.category_sum c k
latest_turn b c from k h =
    let e : k + 1 - from ≡ suc (k - from) = omega arith in
    let f : k + 1 ≡ suc k = omega arith in
    let s : b.category_sum c k +ℤ latest_sums b c k (k - from) ≡ latest_sums b c k (k - from) +ℤ b.category_sum c k = omega (arith, ints) in
    ap₂ (latest_sums b c) f e ∙ s

pub sum_small : (b : Budget) (c : Text) (k n : ℕ) → k < n → unsigned_abs (b.category_sum c k) ≤ weight_before b c n
sum_small b c k n h = omega (arith, weight_rises b c (suc k) n (omega arith))

-- ---- no want is less than nothing
not_less : (z : ℤ) → IsCents z → pos 0 ≤ℤ z
not_less z h = omega (arith, ints, h.1)

few_cents : (z : ℤ) → IsCents z → z ≤ℤ pos 1000000000000000
few_cents z h = omega (arith, ints, h.1, h.2)

due_some : (m month : ℕ) (z has : ℤ) → pos 0 ≤ℤ due m month z has
due_some m month z has = by (nat_le m (month_number month))
  where
    by : (t : Bool) → pos 0 ≤ℤ cond t (pos (part_of (missing z has) (month_number month - m))) (pos 0)
    by true = omega (arith, ints)
    by false = omega (arith, ints)

ago_some : (b : Budget) (m : ℕ) (c : Text) (n : ℕ) → pos 0 ≤ℤ given_ago b m c n
ago_some b m c n = by (nat_le n m)
  where
    by : (t : Bool) → pos 0 ≤ℤ cond t (int_max (pos 0) (b.budgeted c (m - n))) (pos 0)
    by true = omega (arith, ints, clamps)
    by false = omega (arith, ints)

pub want_some : (b : Budget) (m : ℕ) (c : Text) (x : TemplateBody) (got : ℤ) → IsBodyInRange x → pos 0 ≤ℤ body_want b m c x got
want_some b m c (Amount z) got h = not_less z h
want_some b m c (UpTo l) got h = omega (arith, ints)
want_some b m c (AmountUpTo z l) got h = omega (arith, ints, clamps, not_less z h.0)
want_some b m c (By z month) got h = due_some m month z (carry b m c +ℤ got)
want_some b m c (Average n) got h = omega (arith, ints)
want_some b m c (CopyFrom n) got h = ago_some b m c n

-- ---- and none fills a category by much more than what it may have lost
pub part_small : (n more : ℕ) → part_of n more ≤ n
part_small n more =
    let once : n * 1 ≤ n * suc more = mul-le n 1 n (suc more) (omega arith) (omega arith) in
    let below : n * suc more + more < suc more * suc n = mul-add-lt n (suc more) more (suc n) (omega arith) (omega arith) in
    let less = row-Below (n + more) (suc more) (suc more) (suc n) (omega (arith, once, below)) (omega arith) in
    omega (arith, less.1)

abbrev pub Fills : ℤ → ℤ → ℕ → Type 0
Fills got want lost = (got +ℤ want) ≤ℤ (int_max got (pos lost) +ℤ pos (2 ^ 54))

little : (got want : ℤ) (lost : ℕ) → want ≤ℤ pos (2 ^ 54) → Fills got want lost
little got want lost h = omega (arith, ints, clamps, h)

missing_fills : (l k got : ℤ) (lost : ℕ) → IsCents l → unsigned_abs k ≤ lost → Fills got (pos (missing l (k +ℤ got))) lost
missing_fills l k got lost h small = omega (arith, ints, clamps, few_cents l h, small)

due_fills : (m month : ℕ) (z k got : ℤ) (lost : ℕ) → IsCents z → unsigned_abs k ≤ lost → Fills got (due m month z (k +ℤ got)) lost
due_fills m month z k got lost h small = by (nat_le m (month_number month))
  where
    by : (t : Bool) → Fills got (cond t (pos (part_of (missing z (k +ℤ got)) (month_number month - m))) (pos 0)) lost
    by true = omega (arith, ints, clamps, missing_fills z k got lost h small, part_small (missing z (k +ℤ got)) (month_number month - m))
    by false = omega (arith, ints, clamps)

ago_little : (r : Rows) → HasSizes r → (m : ℕ) (c : Text) (n : ℕ) → given_ago (budget_of r) m c n ≤ℤ pos (2 ^ 54)
ago_little r sizes m c n = by (nat_le n m)
  where
    by : (t : Bool) → cond t (int_max (pos 0) ((budget_of r).budgeted c (m - n))) (pos 0) ≤ℤ pos (2 ^ 54)
    by true = omega (arith, ints, clamps, budget_small r sizes c (m - n))
    by false = omega (arith, ints)

pub want_fills : (r : Rows) → HasSizes r → (m : ℕ) (c : Text) (x : TemplateBody) (got : ℤ) → IsBodyInRange x → Fills got (body_want (budget_of r) m c x got) (weight_before (budget_of r) c m)
want_fills r sizes m c (Amount z) got h = little got z _ (omega (arith, ints, few_cents z h))
want_fills r sizes m c (UpTo l) got h = missing_fills l (carry (budget_of r) m c) got _ h (carry_small (budget_of r) m c)
want_fills r sizes m c (AmountUpTo z l) got h = little got _ _ (omega (arith, ints, clamps, few_cents z h.0))
want_fills r sizes m c (By z month) got h = due_fills m month z (carry (budget_of r) m c) got _ h.0 (carry_small (budget_of r) m c)
want_fills r sizes m c (Average n) got h = little got _ _ (omega (arith, ints))
want_fills r sizes m c (CopyFrom n) got h = little got _ _ (ago_little r sizes m c n)
