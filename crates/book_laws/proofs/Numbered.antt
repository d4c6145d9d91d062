-- Months as numbers, sums of transactions, and sums of cells.
use Rattle.std.proofs.Common.{◌≡◌, ℕ, ◌/◌, ◌%◌, Bool, true, false, cond, List, [], ◌∷◌, ◌++◌, Option, Some, None, refl, sym, ap, ◌∙◌, arith}
use lib.IntN.{ℤ, pos}
use Rattle.std.specs.Prelude.{◌↔◌, ◌&&◌, ◌==◌, unwrap_or, nat_le}
use Rattle.std.specs.Int.{is_in_range}
use Rattle.std.specs.Ordering.{eq_by_cmp}
use Rattle.std.specs.FinMap as map
use Rattle.std.proofs.lemmas.Bool.{and_parts, and_from, eqb-true, eq-eqb, leb-true}
use Rattle.finite_sums.specs.Sums.{total}
use Rattle.finite_sums.specs.Maps.{Text, text_cmp, some_and, keys_where, is_among}
use Rattle.finite_sums.proofs.Texts.{text_total, text_same}
use Rattle.finite_sums.proofs.MapSums.{among-keys_where, distinct-keys_where}
use Rattle.book_rows.specs.declared.rows.Rows.{Rows}
use Rattle.book_rows.specs.declared.rows.TxRow.{TxRow}
use Rattle.book_rows.specs.Live.{is_counted, category_of}
use Rattle.book_rows.specs.Months.{is_month, month_of_row}
use Rattle.book_rows.specs.Parts.{is_text}
use Rattle.book_rows.proofs.Balances.{total_of-keys_where}
use Rattle.envelope_cells.specs.Budget.{Budget, expense_groups, categories, categories_of, expense}
use Rattle.envelope_cells.specs.BudgetOf.{is_of}
use Rattle.envelope_cells.specs.CellOf.{of_category, of_group, group_named, flag_value}
use Rattle.envelope_cells.specs.Cells.{leftover}
use Rattle.envelope_cells.specs.Ids.{month_number, month_at}
use Rattle.book_laws.specs.Sheets.{MonthsAreNumbered, CountsIn, AreThoseOf, SumsAreOfTransactions, CategoryIsTold, CellsAddUp}
use Rattle.envelope_cells.proofs.Among.{same_texts, itself, in_front, in_back, total_on}
use Rattle.envelope_cells.proofs.Money.{split}
use Rattle.envelope_cells.proofs.Quiet.{month_back}

-- ---- months

month_is : (month : ℕ) → is_month month ≡ true → month_at (month_number month) ≡ month
month_is month h =
    let a = and_parts (is_in_range 1970 2199 (month / 100)) (is_in_range 1 12 (month % 100)) h in
    let y = and_parts (nat_le 1970 (month / 100)) (nat_le (month / 100) 2199) a.0 in
    let m = and_parts (nat_le 1 (month % 100)) (nat_le (month % 100) 12) a.1 in
    month_back month (leb-true 1970 (month / 100) y.0) (leb-true 1 (month % 100) m.0) (leb-true (month % 100) 12 m.1)

pub numbered : MonthsAreNumbered
numbered = record {
  first = refl;
  next = λ m h. omega arith;
  december = λ m h. omega arith;
  number = λ m. omega arith;
  month = month_is;
}

-- ---- sums of transactions

none_some : {X : Type 0} (x : X) → None ≡ Some x → ⊥
none_some x h = cc

passes : (p : TxRow → Bool) (o : Option TxRow) → (some_and p o ≡ true) ↔ ((x : TxRow) × (o ≡ Some x) × (p x ≡ true))
passes p None = (λ h. cc, λ h. absurd (none_some h.0 h.1))
passes p (Some x) = (λ h. (x, refl, h), λ h. ap (some_and p) h.1 ∙ h.2)

text_is : (t : Text) (o : Option Text) → is_text t o ≡ true → o ≡ Some t
text_is t None h = cc
text_is t (Some own) h = ap (λ (q : Text). Some q) (same_texts own t h)

is_the_text : (t : Text) (o : Option Text) → o ≡ Some t → is_text t o ≡ true
is_the_text t o e = ap (is_text t) e ∙ itself t

month_so : (month : ℕ) (o : Option ℕ) → some_and (λ m. m == month) o ≡ true → o ≡ Some month
month_so month None h = cc
month_so month (Some m) h = ap Some (eqb-true m month h)

so_month : (month : ℕ) (o : Option ℕ) → o ≡ Some month → some_and (λ m. m == month) o ≡ true
so_month month o e = ap (some_and (λ m. m == month)) e ∙ eq-eqb month month refl

module _ (rows : Rows) (c : Text) (month : ℕ) where
  abbrev counts : TxRow → Bool
  counts x = is_counted rows x && is_of rows c month x

  counts_so : (x : TxRow) → counts x ≡ true → CountsIn rows c month x
  counts_so x h =
      let a = and_parts (is_counted rows x) (is_of rows c month x) h in
      let b = and_parts (is_text c (category_of rows x)) (some_and (λ m. m == month) (month_of_row x)) a.1 in
      record { counts = a.0; category = text_is c (category_of rows x) b.0; dated = month_so month (month_of_row x) b.1 }

  so_counts : (x : TxRow) → CountsIn rows c month x → counts x ≡ true
  so_counts x h =
      and_from (is_counted rows x) (is_of rows c month x) h.counts
      (and_from (is_text c (category_of rows x)) (some_and (λ m. m == month) (month_of_row x)) (is_the_text c (category_of rows x) h.category) (so_month month (month_of_row x) h.dated))

  abbrev those : List Text
  those = keys_where counts (map.entries rows.txs)

  are_those : AreThoseOf rows c month those
  are_those = record {
    once = distinct-keys_where text_total text_same counts rows.txs;
    those = λ id.
        let is = among-keys_where text_total text_same counts rows.txs id in
        let there = passes counts (map.get rows.txs id) in (
          λ h. let x = there.0 (sym is ∙ h) in (x.0, x.1, counts_so x.0 x.2),
          λ h. is ∙ there.1 (h.0, h.1, so_counts h.0 h.2),
        );
  }

pub sums_told : SumsAreOfTransactions
sums_told rows c m = (
  those rows c (month_at m),
  are_those rows c (month_at m),
  total_of-keys_where (counts rows c (month_at m)) (λ x. x.amount) rows.txs,
)

-- ---- sums of cells

-- the categories of a group that is found are among those of all groups
group_among : (gs : List _) (id : Text) (g : _) (q : Text) → group_named gs id ≡ Some g → is_among text_cmp g.categories q ≡ true → is_among text_cmp (categories_of gs) q ≡ true
group_among [] id g q h t = cc
group_among (f ∷ gs) id g q h t =
    (elim (eq_by_cmp text_cmp id f.id) as (λ b. cond b (Some f) (group_named gs id) ≡ Some g → is_among text_cmp (f.categories ++ categories_of gs) q ≡ true) [
      | true ↦ λ e. let same : f ≡ g = cc in in_front f.categories (categories_of gs) q (ap (λ x. is_among text_cmp x.categories q) same ∙ t)
      | false ↦ λ e. in_back f.categories (categories_of gs) q (group_among gs id g q e t)
    ]) h

module _ (f : Text → ℤ) (gs : List _) (g : _) (h : group_named gs g.id ≡ Some g) where
  -- what the cells of categories tell adds up to what the cell of their group tells
  group_is : unwrap_or (of_group f (group_named gs g.id)) (pos 0) ≡ total (λ c. unwrap_or (of_category (categories_of gs) c (f c)) (pos 0)) g.categories
  group_is =
      ap (λ o. unwrap_or (of_group f o) (pos 0)) h
      ∙ total_on f (λ c. unwrap_or (of_category (categories_of gs) c (f c)) (pos 0)) g.categories
      (λ q t. sym (ap (λ b. unwrap_or (cond b (Some (f q)) None) (pos 0)) (group_among gs g.id g q h t)))

-- the cells of categories
is_there : (cs : List Text) (c : Text) (z : ℤ) → is_among text_cmp cs c ≡ true → of_category cs c z ≡ Some z
is_there cs c z h = ap (λ b. cond b (Some z) None) h

is_none : (cs : List Text) (c : Text) (z : ℤ) → is_among text_cmp cs c ≡ false → of_category cs c z ≡ None
is_none cs c z h = ap (λ b. cond b (Some z) None) h

category_told : (b : Budget) (month : ℕ) (c : Text) → CategoryIsTold b month (month_number month) c
category_told b month c = record {
  moved = is_there (categories b) c (b.category_sum c (month_number month));
  given = is_there (expense b) c (b.budgeted c (month_number month));
  carries = λ h f. is_there (expense b) c (flag_value (b.carries c (month_number month))) h ∙ ap (λ t. Some (flag_value t)) f;
  drops = λ h f. is_there (expense b) c (flag_value (b.carries c (month_number month))) h ∙ ap (λ t. Some (flag_value t)) f;
  left = is_there (expense b) c (leftover b c (month_number month));
  none_given = is_none (expense b) c (b.budgeted c (month_number month));
  none_carries = is_none (expense b) c (flag_value (b.carries c (month_number month)));
  none_left = is_none (expense b) c (leftover b c (month_number month));
}

pub adds_up : (b : Budget) → CellsAddUp b
adds_up b = record {
  moved = λ m. sym (split (λ c. b.category_sum c m) b.groups);
  whole = λ month. record {
    income = refl;
    from_last = refl;
    available = refl;
    overspent = refl;
    budgeted = refl;
    held = refl;
    to_budget = refl;
    spent = refl;
    left = refl;
  };
  category = category_told b;
  sum = λ month g h. group_is (λ c. b.category_sum c (month_number month)) b.groups g h;
  budget = λ month g h. group_is (λ c. b.budgeted c (month_number month)) (expense_groups b) g h;
  left = λ month g h. group_is (λ c. leftover b c (month_number month)) (expense_groups b) g h;
}
