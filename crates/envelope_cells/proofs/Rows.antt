-- How much the rows of a book have to add up.
use Rattle.std.proofs.Common.{◌≡◌, ℕ, ◌*◌, ◌^◌, ◌<◌, ◌≤◌, Bool, true, false, cond, List, [], ◌∷◌, Some, None, length, unsigned_abs, refl, ap, sym, ◌∙◌, arith}
use lib.IntN.{ℤ}
use Rattle.std.proofs.lemmas.Int.{ints}
use Rattle.std.specs.declared.cmp.Ordering.{Ordering}
use Rattle.std.specs.declared.cmp.Ordering.TheVariants.{Less, Equal, Greater}
use Rattle.std.specs.Ordering.{eq_by_cmp, is_eq, is_lt}
use Rattle.std.specs.Cmp.{eq_by_cmp_equiv}
use Rattle.std.specs.FinMap.{find, is_sorted, get, entries, entries_sorted, get-entries}
use Rattle.std.specs.FinMap.Entries.{below_all}
use Rattle.field_values.specs.Value.{HoldsNumber}
use Rattle.finite_sums.specs.Sums.{total, only_if, weight}
use Rattle.finite_sums.specs.Maps.{Text, Texts, text_cmp}
use Rattle.finite_sums.proofs.MapSums.{so, both_true, sorted_tail}
use Rattle.finite_sums.proofs.Texts.{text_total, text_same}
use Rattle.book_rows.specs.declared.rows.Rows.{Rows}
use Rattle.book_rows.specs.declared.rows.TxRow.{TxRow}
use Rattle.book_rows.specs.declared.rows.BudgetRow.{BudgetRow}
use Rattle.book_rows.specs.Book.{HasSizes}
use Rattle.envelope_cells.specs.BudgetOf.{share}
use Rattle.envelope_cells.proofs.Lists.{total_within}

-- the amounts of a transaction and of a budget row, nothing being negative
abbrev pub tx_weight : Text × TxRow → ℕ
tx_weight e = unsigned_abs e.1.amount

abbrev pub budget_weight : Text × BudgetRow → ℕ
budget_weight e = unsigned_abs e.1.amount

is_equal : (r : Ordering) → is_eq r ≡ true → r ≡ Equal
is_equal Less h = cc
is_equal Equal h = refl
is_equal Greater h = cc

pub less_no_tie : (r : Ordering) → is_lt r ≡ true → is_eq r ≡ false
less_no_tie Less h = refl
less_no_tie Equal h = cc
less_no_tie Greater h = cc

-- what is found behind an entry is found with it
module _ {X : Type 0} where
  -- a key below all keys is not there
  pub absent : (k : Text) (es : List (Text × X)) → below_all text_cmp k es ≡ true → find text_cmp k es ≡ None
  absent k [] h = refl
  absent k (e ∷ es) h =
      let p = both_true _ _ h in
      ap (λ b. cond b (Some e.1) (find text_cmp k es)) (less_no_tie (text_cmp k e.0) p.0) ∙ absent k es p.1

  pub later : (e : Text × X) (es : List (Text × X)) → is_sorted text_cmp (e ∷ es) ≡ true → (q : Text) (x : X) → find text_cmp q es ≡ Some x → (b : Bool) → eq_by_cmp text_cmp q e.0 ≡ b → cond b (Some e.1) (find text_cmp q es) ≡ Some x
  later e es s q x found true p =
      let same : q ≡ e.0 = text_same q e.0 (is_equal (text_cmp q e.0) p) in
      let gone : find text_cmp q es ≡ None = ap (λ k. find text_cmp k es) same ∙ absent e.0 es (both_true _ _ s).0 in
      let none : None ≡ Some x = sym gone ∙ found in
      cc
  later e es s q x found false p = found

-- a weight that is bounded at each entry of a map
module _ {X : Type 0} (w : X → ℕ) (n : ℕ) where
  bounded : (es : List (Text × X)) → is_sorted text_cmp es ≡ true → ((q : Text) (x : X) → find text_cmp q es ≡ Some x → w x ≤ n) → weight (λ e. w e.1) es ≤ n * length es
  bounded [] s h = omega arith
  bounded (e ∷ es) s h =
      let here : w e.1 ≤ n = h e.0 e.1 (ap (λ b. cond b (Some e.1) (find text_cmp e.0 es)) ((eq_by_cmp_equiv text_total).refl e.0)) in
      let rest : weight (λ e. w e.1) es ≤ n * length es = bounded es (sorted_tail text_total text_same e es s) (λ q x found. h q x (later e es s q x found (eq_by_cmp text_cmp q e.0) refl)) in
      omega (arith, here, rest)

  pub entries_bounded : (m : Texts X) → ((q : Text) (x : X) → get m q ≡ Some x → w x ≤ n) → weight (λ e. w e.1) (entries m) ≤ n * length (entries m)
  entries_bounded m h = bounded (entries m) (so _ (entries_sorted m)) (λ q x found. h q x (get-entries m q ∙ found))

held : (z : ℤ) → HoldsNumber z → unsigned_abs z ≤ 2 ^ 53
held z h =
    let low = h.low in
    let high = h.high in
    omega (arith, ints, low, high)

below : (n len : ℕ) → n ≤ 2 ^ 53 * len → len < 2 ^ 63 → n ≤ 2 ^ 116
below n len h k = omega (arith, h, k)

pub txs_small : (r : Rows) → HasSizes r → weight tx_weight (entries r.txs) ≤ 2 ^ 116
txs_small r h = below _ (length (entries r.txs)) (entries_bounded (λ x. unsigned_abs x.amount) (2 ^ 53) r.txs (λ q x found. held x.amount (h.numbers.txs q x found))) h.txs

pub budgets_small : (r : Rows) → HasSizes r → weight budget_weight (entries r.budgets) ≤ 2 ^ 116
budgets_small r h = below _ (length (entries r.budgets)) (entries_bounded (λ b. unsigned_abs b.amount) (2 ^ 53) r.budgets (λ q b found. held b.amount (h.numbers.budgets q b found))) h.budgets

-- a share is no more than the amount
share_by : (b : Bool) (z : ℤ) → unsigned_abs (only_if b z) ≤ unsigned_abs z
share_by true z = omega arith
share_by false z = omega (arith, ints)

pub shares_small : (r : Rows) (c : Text) (month : ℕ) (es : List (Text × TxRow)) → unsigned_abs (total (λ e. share r c month e.1) es) ≤ weight tx_weight es
shares_small r c month es = total_within (λ e. share r c month e.1) tx_weight es (λ e. share_by _ e.1.amount)
