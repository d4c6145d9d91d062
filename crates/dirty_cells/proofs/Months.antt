-- Month after month.
use Rattle.std.proofs.Common.{◌≡◌, ℕ, zero, suc, ◌+◌, ◌<◌, ◌≤◌, Bool, true, false, cond, List, [], ◌∷◌, map, None, Some, refl, ap, sym, ◌∙◌, subst, arith, ⊎_elim, inl, inr, true≢false}
use Rattle.std.specs.Prelude.{◌⊎◌, ◌||◌}
use Rattle.std.specs.Ordering.{eq_by_cmp}
use Rattle.std.specs.FinMap.{find, get, entries, get-entries}
use Rattle.finite_sums.specs.Maps.{Text, Texts, text_cmp, is_among}
use Rattle.book_rows.specs.declared.rows.Rows.{Rows}
use Rattle.envelope_cells.specs.Names.{Cells}
use Rattle.envelope_cells.specs.Budget.{Budget}
use Rattle.envelope_cells.specs.BudgetOf.{budget_of}
use Rattle.envelope_cells.specs.Ids.{month_at}
use Rattle.envelope_cells.specs.declared.name.CellName.{CellName}
use Rattle.envelope_cells.specs.declared.name.CellKind.{CellKind}
use Rattle.dirty_cells.specs.Grid.{is_pending}
use Rattle.dirty_cells.specs.Right.{cell_at, Pending, AreRightBut, AreRightIn, IsOutside, none_pending}
use Rattle.dirty_cells.proofs.Begun.{nothing_kept}

-- two months of one number
pub same_month : (m n : ℕ) → month_at m ≡ month_at n → m ≡ n
same_month m n h = omega (arith, h)

pub other_month : (m n : ℕ) → m < n → month_at m ≡ month_at n → ⊥
other_month m n l h = absurd (omega (arith, l, same_month m n h))

pub other_month_after : (m n : ℕ) → n < m → month_at m ≡ month_at n → ⊥
other_month_after m n l h = absurd (omega (arith, l, same_month m n h))

-- a month stays right where its cells stay
pub right_stays : (old new : Cells) (b : Budget) (n : ℕ) (p : Pending) → ((kind : CellKind) (id : Text) → get new (cell_at n kind id) ≡ get old (cell_at n kind id)) → AreRightBut old b n p → AreRightBut new b n p
right_stays old new b n p stays right = record { each = λ kind id h. stays kind id ∙ right.each kind id h }

-- months stay right where nothing but others is written
pub right_beside : (old new : Cells) (b : Budget) (first end from to : ℕ) (p : Pending) → ((q : CellName) → IsOutside from to q → get new q ≡ get old q) → ((n m : ℕ) → first ≤ n → n < end → from ≤ m → m < to → month_at n ≡ month_at m → ⊥) → AreRightIn old b first end p → AreRightIn new b first end p
right_beside old new b first end from to p others apart right = record { each = λ n h l. right_stays old new b n p (λ kind id. others (cell_at n kind id) (λ m g k e. apart n m h l g k e)) (right.each n h l) }

pub apart_before : (end from : ℕ) → end ≤ from → (n m : ℕ) → n < end → from ≤ m → month_at n ≡ month_at m → ⊥
apart_before end from h n m l g e = other_month n m (omega (arith, h, l, g)) e

pub apart_after : (to first : ℕ) → to ≤ first → (n m : ℕ) → first ≤ n → m < to → month_at n ≡ month_at m → ⊥
apart_after to first h n m l g e = other_month_after n m (omega (arith, h, l, g)) e

-- ---- one month more of a loop
pub below_or_not : (n y : ℕ) → (n < y) ⊎ (y ≤ n)
below_or_not n zero = inr (omega arith)
below_or_not zero (suc y) = inl (omega arith)
below_or_not (suc n) (suc y) = ⊎_elim (λ (l : n < y). inl (omega (arith, l))) (λ (l : y ≤ n). inr (omega (arith, l))) (below_or_not n y)

split_below : (k n : ℕ) → k < n + 1 → (k < n) ⊎ (k ≡ n)
split_below k n h = ⊎_elim (λ (l : k < n). inl l) (λ (l : n ≤ k). inr (omega (arith, h, l))) (below_or_not k n)

module _ (old mid new : Cells) (b : Budget) (from n to : ℕ) (others : (q : CellName) → (q.month ≡ month_at n → ⊥) → get new q ≡ get mid q) where
  -- the months that are done
  pub done_more : AreRightIn mid b from n none_pending → AreRightBut new b n none_pending → AreRightIn new b from (n + 1) none_pending
  done_more done here = record { each = λ k h l. ⊎_elim (λ (low : k < n). right_stays mid new b k none_pending (λ kind id. others (cell_at k kind id) (other_month k n low)) (done.each k h low)) (λ (e : k ≡ n). subst_right k e) (split_below k n l) }
    where
      subst_right : (k : ℕ) → k ≡ n → AreRightBut new b k none_pending
      subst_right k e = subst (λ m. AreRightBut new b m none_pending) (sym e) here

  -- those to come
  pub rest_less : (p : Pending) → AreRightIn mid b n to p → AreRightIn new b (n + 1) to p
  rest_less p rest = record { each = λ k h l. right_stays mid new b k p (λ kind id. others (cell_at k kind id) (other_month_after k n (omega (arith, h)))) (rest.each k (omega (arith, h)) l) }

  pub beside_more : from ≤ n → n < to → ((q : CellName) → IsOutside from to q → get mid q ≡ get old q) → (q : CellName) → IsOutside from to q → get new q ≡ get old q
  beside_more h l before q apart = others q (apart n h l) ∙ before q apart

-- ---- months of which nothing is kept
module _ {Row : Type 0} where
  not_found : (q : Text) (es : List (Text × Row)) → is_among text_cmp (map (λ e. e.0) es) q ≡ false → find text_cmp q es ≡ None
  not_found q [] h = refl
  not_found q (e ∷ es) h = by (eq_by_cmp text_cmp q e.0) h (not_found q es)
    where
      by : (b : Bool) → (b || is_among text_cmp (map (λ e. e.0) es) q) ≡ false → (is_among text_cmp (map (λ e. e.0) es) q ≡ false → find text_cmp q es ≡ None) → cond b (Some e.1) (find text_cmp q es) ≡ None
      by true k rest = absurd (true≢false k)
      by false k rest = rest k

  pub not_there : (m : Texts Row) (q : Text) → is_among text_cmp (map (λ e. e.0) (entries m)) q ≡ false → get m q ≡ None
  not_there m q h = get-entries m q ∙ not_found q (entries m) h

pub all_pending : (r : Rows) (cells : Cells) (cs gs : List Text) (from to : ℕ) → cs ≡ map (λ e. e.0) (entries r.categories) → gs ≡ map (λ e. e.0) (entries r.groups)
    → ((q : CellName) (n : ℕ) → from ≤ n → n < to → q.month ≡ month_at n → get cells q ≡ None) → AreRightIn cells (budget_of r) from to (is_pending cs gs true)
all_pending r cells cs gs from to c g none = record {
  each = λ n h l. nothing_kept r cs gs
      (λ q off. not_there r.categories q (ap (λ l. is_among text_cmp l q) (sym c) ∙ off)) (λ q off. not_there r.groups q (ap (λ l. is_among text_cmp l q) (sym g) ∙ off))
      cells n (λ kind id. none (cell_at n kind id) n h l refl);
}
