-- A range of months in three parts: those that are new before it, those that are computed anew, and those that are new behind it.
use Rattle.std.proofs.Common.{◌≡◌, ℕ, ◌<◌, ◌≤◌, ◌+◌, ◌*◌, None, sym, ◌∙◌, arith, ⊎_elim}
use Rattle.std.specs.FinMap.{get}
use Rattle.envelope_cells.specs.Names.{Cells}
use Rattle.envelope_cells.specs.Budget.{Budget}
use Rattle.envelope_cells.specs.Ids.{month_at}
use Rattle.envelope_cells.specs.declared.name.CellName.{CellName}
use Rattle.dirty_cells.specs.Right.{AreRightIn, AreWithin, IsOutside, Pending}
use Rattle.dirty_cells.proofs.Months.{other_month, right_beside, apart_before, apart_after, below_or_not}

-- the cell of a month is of none of the months of a range before it, or behind it
pub outside_before : (from to n : ℕ) (q : CellName) → to ≤ n → q.month ≡ month_at n → IsOutside from to q
outside_before from to n q h m = λ k g l e. other_month k n (omega (arith, h, l)) (sym e ∙ m)

pub outside_behind : (from to n : ℕ) (q : CellName) → n < from → q.month ≡ month_at n → IsOutside from to q
outside_behind from to n q h m = λ k g l e. other_month n k (omega (arith, h, g)) (sym m ∙ e)

pub outside_part : (first end from to : ℕ) (q : CellName) → first ≤ from → to ≤ end → IsOutside first end q → IsOutside from to q
outside_part first end from to q h l outside = λ k g m e. outside k (omega (arith, h, g)) (omega (arith, l, m)) e

pub no_months : (cells : Cells) (b : Budget) (n : ℕ) (p : Pending) → AreRightIn cells b n n p
no_months cells b n p = record { each = λ k h l. absurd (omega (arith, h, l)) }

pub joined_months : (cells : Cells) (b : Budget) (x y z : ℕ) (p : Pending) → AreRightIn cells b x y p → AreRightIn cells b y z p → AreRightIn cells b x z p
joined_months cells b x y z p low high = record { each = λ k h l. ⊎_elim (λ (m : k < y). low.each k h m) (λ (m : y ≤ k). high.each k m l) (below_or_not k y) }

-- what is written stays within others
abbrev pub Keeps : Cells → Cells → ℕ → ℕ → Type 0
Keeps old new from to = (q : CellName) → IsOutside from to q → get new q ≡ get old q

module _ (old new : Cells) (b : Budget) (p : Pending) (from to : ℕ) (others : Keeps old new from to) where
  pub stay_before : (first end : ℕ) → end ≤ from → AreRightIn old b first end p → AreRightIn new b first end p
  stay_before first end h = right_beside old new b first end from to p others (λ n m g l k r e. apart_before end from h n m l k e)

  pub stay_behind : (first end : ℕ) → to ≤ first → AreRightIn old b first end p → AreRightIn new b first end p
  stay_behind first end h = right_beside old new b first end from to p others (λ n m g l k r e. apart_after to first h n m g r e)

module _ (c0 c1 c2 c3 : Cells) (b : Budget) (n0 o0 low o1 n1 : ℕ) (front : n0 ≤ o0) (lo : o0 ≤ low) (hi : low ≤ o1) (back : o1 ≤ n1) where
  pub empty_front : AreWithin c0 o0 o1 → (q : CellName) (n : ℕ) → n0 ≤ n → n < o0 → q.month ≡ month_at n → get c0 q ≡ None
  empty_front within q n h l m = within.none q (outside_behind o0 o1 n q l m)

  pub empty_back : AreWithin c0 o0 o1 → Keeps c0 c1 n0 o0 → Keeps c1 c2 low o1 → (q : CellName) (n : ℕ) → o1 ≤ n → n < n1 → q.month ≡ month_at n → get c2 q ≡ None
  empty_back within one two q n h l m =
      two q (outside_before low o1 n q h m) ∙ one q (outside_before n0 o0 n q (omega (arith, lo, hi, h)) m) ∙ within.none q (outside_before o0 o1 n q h m)

  pub all_within : AreWithin c0 o0 o1 → Keeps c0 c1 n0 o0 → Keeps c1 c2 low o1 → Keeps c2 c3 o1 n1 → AreWithin c3 n0 n1
  all_within within one two three = record {
    none = λ q out.
        three q (outside_part n0 n1 o1 n1 q (omega (arith, front, lo, hi)) (omega arith) out)
        ∙ two q (outside_part n0 n1 low o1 q (omega (arith, front, lo)) back out)
        ∙ one q (outside_part n0 n1 n0 o0 q (omega arith) (omega (arith, lo, hi, back)) out)
        ∙ within.none q (outside_part n0 n1 o0 o1 q front back out);
  }

  pub same_low : Keeps c0 c1 n0 o0 → Keeps c1 c2 low o1 → Keeps c2 c3 o1 n1 → (q : CellName) (n : ℕ) → o0 ≤ n → n < low → q.month ≡ month_at n → get c3 q ≡ get c0 q
  same_low one two three q n h l m =
      three q (outside_behind o1 n1 n q (omega (arith, l, hi)) m) ∙ two q (outside_behind low o1 n q l m) ∙ one q (outside_before n0 o0 n q h m)

pub costs : (s0 s1 s2 s3 k m x y z : ℕ) → s1 ≤ s0 + k * x → s2 ≤ s1 + m * y → s3 ≤ s2 + k * z → s3 ≤ s0 + m * y + k * (x + z)
costs s0 s1 s2 s3 k m x y z a b c = omega (arith, a, b, c, spread k x z)
  where
    spread : (k x z : ℕ) → k * (x + z) ≡ k * x + k * z
    spread k x z = grind arith
