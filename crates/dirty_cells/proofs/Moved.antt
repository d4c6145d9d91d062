-- A sum after the share of a transaction is put into it, or taken out.
use Rattle.std.proofs.Common.{◌≡◌, ℕ, ◌==◌, Bool, true, false, cond, Option, Some, refl, ap, sym, ◌∙◌, subst, arith}
use Rattle.std.specs.Prelude.{◌&&◌, unwrap_or}
use lib.IntN.{ℤ, pos, ◌+ℤ◌}
use Rattle.std.specs.declared.cmp.Ordering.{Ordering}
use Rattle.std.specs.declared.cmp.Ordering.TheVariants.{Less, Equal, Greater}
use Rattle.std.specs.Ordering.{is_eq, eq_by_cmp}
use Rattle.std.specs.Cmp.{eq_by_cmp_equiv}
use Rattle.std.specs.FinMap.{get, insert, get-insert}
use Rattle.std.proofs.lemmas.Int.{ints}
use Rattle.std.proofs.lemmas.Bool.Decides.{nat_tests}
use Rattle.finite_sums.specs.Sums.{only_if}
use Rattle.finite_sums.specs.Maps.{Text, text_cmp, some_and}
use Rattle.finite_sums.proofs.MapSums.{both_true, and_both}
use Rattle.book_rows.specs.declared.rows.Rows.{Rows}
use Rattle.book_rows.specs.declared.rows.TxRow.{TxRow}
use Rattle.book_rows.specs.Live.{is_counted, category_of}
use Rattle.book_rows.specs.Parts.{is_text}
use Rattle.book_rows.specs.Months.{month_of_row}
use Rattle.envelope_cells.specs.Names.{Cells, cell_cmp, cells_total}
use Rattle.envelope_cells.specs.BudgetOf.{share, is_of}
use Rattle.envelope_cells.specs.Parts.{sum_name, value_at}
use Rattle.envelope_cells.specs.declared.name.CellName.{CellName}
use Rattle.envelope_cells.proofs.Exact.{cells_same}
use Rattle.envelope_cells.proofs.Among.{same_texts, itself}
use Rattle.dirty_cells.specs.Changes.{signed}

iff_bool : (a b : Bool) → (a ≡ true → b ≡ true) → (b ≡ true → a ≡ true) → a ≡ b
iff_bool true b f g = sym (f refl)
iff_bool false true f g = g refl
iff_bool false false f g = refl

is_equal : (r : Ordering) → is_eq r ≡ true → r ≡ Equal
is_equal Less h = cc
is_equal Equal h = refl
is_equal Greater h = cc

same_number : (m n : ℕ) → (m == n) ≡ true → m ≡ n
same_number m n h = grind (arith, nat_tests)

number_itself : (m n : ℕ) → m ≡ n → (m == n) ≡ true
number_itself m n h = grind (arith, nat_tests)

-- the test of a share and that of its sum's name are one
same_sum : (c d : Text) (m n : ℕ) → (eq_by_cmp text_cmp d c && (n == m)) ≡ eq_by_cmp cell_cmp (sum_name c m) (sum_name d n)
same_sum c d m n = iff_bool _ _
    (λ h. let p = both_true (eq_by_cmp text_cmp d c) (n == m) h in
    let id : d ≡ c = same_texts d c p.0 in
    let month : n ≡ m = same_number n m p.1 in
    subst (λ a. eq_by_cmp cell_cmp (sum_name c m) a ≡ true) {x = sum_name c m} (ap (λ d. sum_name d m) (sym id) ∙ ap (sum_name d) (sym month)) ((eq_by_cmp_equiv cells_total).refl (sum_name c m)))
    (λ h. let names : sum_name c m ≡ sum_name d n = cells_same (sum_name c m) (sum_name d n) (is_equal _ h) in
    and_both (eq_by_cmp text_cmp d c) (n == m) (subst (λ a. eq_by_cmp text_cmp d a ≡ true) (ap (λ a. a.id) (sym names)) (itself d)) (number_itself n m (ap (λ a. a.month) (sym names))))

by_test : (b : Bool) (z : ℤ) (o : Option ℤ) → unwrap_or (cond b (Some z) o) (pos 0) ≡ cond b z (unwrap_or o (pos 0))
by_test true z o = refl
by_test false z o = refl

moved_by : (b into : Bool) (s a : ℤ) → cond b (s +ℤ signed into a) s ≡ s +ℤ signed into (only_if b a)
moved_by true into s a = refl
moved_by false true s a = omega (arith, ints)
moved_by false false s a = omega (arith, ints)

-- where the two names are one, so are the sums
at_name : (sums : Cells) (a b : CellName) (z : ℤ) (t : Bool) → eq_by_cmp cell_cmp a b ≡ t → cond t (value_at sums b +ℤ z) (value_at sums a) ≡ cond t (value_at sums a +ℤ z) (value_at sums a)
at_name sums a b z true h = ap (λ n. value_at sums n +ℤ z) (sym (cells_same a b (is_equal _ h)))
at_name sums a b z false h = refl

module _ (r : Rows) (sums new : Cells) (d : Text) (n : ℕ) (x : TxRow) (into : Bool) where
  pub moved : category_of r x ≡ Some d → month_of_row x ≡ Some n → is_counted r x ≡ true → new ≡ insert sums (sum_name d n) (value_at sums (sum_name d n) +ℤ signed into x.amount)
      → (c : Text) (m : ℕ) → value_at new (sum_name c m) ≡ value_at sums (sum_name c m) +ℤ signed into (share r c m x)
  moved category month counted e c m =
      let t = eq_by_cmp cell_cmp (sum_name c m) (sum_name d n) in
      let z = signed into x.amount in
      let of : is_of r c m x ≡ t = ap (λ o. is_text c o && some_and (λ k. k == m) (month_of_row x)) category ∙ ap (λ o. eq_by_cmp text_cmp d c && some_and (λ k. k == m) o) month ∙ same_sum c d m n in
      let left : value_at new (sum_name c m) ≡ cond t (value_at sums (sum_name d n) +ℤ z) (value_at sums (sum_name c m)) =
      ap (λ s. value_at s (sum_name c m)) e ∙ ap (λ o. unwrap_or o (pos 0)) (get-insert cells_total sums (sum_name d n) (value_at sums (sum_name d n) +ℤ z) (sum_name c m)) ∙ by_test t (value_at sums (sum_name d n) +ℤ z) (get sums (sum_name c m)) in
      let right : share r c m x ≡ only_if t x.amount = ap (λ b. only_if (b && is_of r c m x) x.amount) counted ∙ ap (λ b. only_if b x.amount) of in
      left ∙ at_name sums (sum_name c m) (sum_name d n) z t refl ∙ moved_by t into (value_at sums (sum_name c m)) x.amount ∙ ap (λ a. value_at sums (sum_name c m) +ℤ signed into a) (sym right)
