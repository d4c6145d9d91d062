-- A book without rows.
use Rattle.std.proofs.Common.{◌≡◌, ℕ, List, [], ◌∷◌, Some, None, refl, sym, ap, ◌∙◌, length, arith}
use Rattle.std.specs.Prelude.{◌||◌}
use Rattle.std.specs.Ordering.{nat_cmp}
use Rattle.std.specs.List.{list_any}
use Rattle.std.specs.BTreeMap as tree
use Rattle.std.specs.BTreeSet as set
use Rattle.std.specs.BTreeSet.{BTreeSet}
use Rattle.std.specs.Map.{lookup}
use Rattle.std.specs.BTreeMap.{is_at}
use Rattle.std.specs.FinMap as map
use Rattle.finite_sums.specs.Maps.{Text, Texts, text_cmp}
use Rattle.book_rows.specs.declared.rows.TxRow.{TxRow}
use Rattle.book_rows.specs.declared.rows.BudgetRow.{BudgetRow}
use Rattle.book_rows.specs.declared.rows.MonthRow.{MonthRow}
use Rattle.book_rows.specs.declared.txs.TxIndex.{TxIndex}
use Rattle.book_rows.specs.Months.{budget_month, month_row_month}
use Rattle.book_rows.specs.Parts.{is_text}
use Rattle.book_rows.specs.Book.{IsIndexed, keys_of, has_id, is_month_of, dated_cmp}

no_entries : {X : Type 0} (m : Texts X) → m ≡ map.empty → map.entries m ≡ []
no_entries m h = ap map.entries h ∙ none _ (sym (map.len-entries map.empty) ∙ map.len-empty _ _)
  where
    none : {A : Type 0} (xs : List A) → length xs ≡ 0 → xs ≡ []
    none [] e = refl
    none (x ∷ xs) e = absurd (omega arith)

no_row : {X : Type 0} (m : Texts X) (q : Text) → m ≡ map.empty → map.get m q ≡ None
no_row m q h = ap (λ n. map.get n q) h ∙ map.get-empty _ q

pub empty_indexed : (index : TxIndex) (named : BTreeSet ℕ) (xs : Texts TxRow) (bs : Texts BudgetRow) (ms : Texts MonthRow) (ts : Texts BudgetRow)
    → tree.IsEmpty index.children → tree.IsEmpty index.accounts → tree.IsEmpty index.categories → tree.IsEmpty index.schedules → set.IsEmpty index.months → set.IsEmpty named
    → xs ≡ map.empty → bs ≡ map.empty → ms ≡ map.empty → ts ≡ map.empty → IsIndexed index named xs bs ms ts
empty_indexed index named xs bs ms ts a b k s c d e f g t = record {
  txs = record {
    children = λ k q. ap (λ es. has_id (lookup (is_at (text_cmp k)) es) q) a ∙ sym (ap (λ o. is_text k (keys_of o).parent) (no_row xs q e));
    accounts = λ k q. ap (λ es. has_id (lookup (is_at (text_cmp k)) es) q) b ∙ sym (ap (λ o. is_text k (keys_of o).account) (no_row xs q e));
    categories = λ p q. ap (λ es. has_id (lookup (is_at (text_cmp p)) es) q) k ∙ sym (ap (λ o. is_text p (keys_of o).category) (no_row xs q e));
    schedules = λ p q. ap (λ es. has_id (lookup (is_at (text_cmp p)) es) q) s ∙ sym (ap (λ o. is_text p (keys_of o).schedule) (no_row xs q e));
    months = λ m q. ap (list_any (is_at (dated_cmp (m, q)))) c ∙ sym (ap (λ o. is_month_of m (keys_of o).month) (no_row xs q e));
  };
  named = λ m. ap (list_any (is_at (nat_cmp m))) d ∙ sym (ap (λ es. list_any (λ e. is_month_of m (budget_month e.0)) es || list_any (λ e. is_month_of m (month_row_month e.0)) (map.entries ms)) (no_entries bs f) ∙ ap (list_any (λ e. is_month_of m (month_row_month e.0))) (no_entries ms g));
  numbers = record {
    txs = λ q x h. absurd (some_none x (sym (no_row xs q e) ∙ h));
    budgets = λ q x h. absurd (some_none x (sym (no_row bs q f) ∙ h));
    months = λ q x h. absurd (some_none x (sym (no_row ms q g) ∙ h));
    tracked = λ q x h. absurd (some_none x (sym (no_row ts q t) ∙ h));
  };
  days = λ q x day h k. absurd (some_none x (sym (no_row xs q e) ∙ h));
}
  where
    some_none : {X : Type 0} (x : X) → None ≡ Some x → ⊥
    some_none x h = cc
