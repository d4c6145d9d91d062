-- An import writes into transactions and payees alone.
use Rattle.std.proofs.Common.{◌≡◌, ℕ, ◌+◌, Bool, true, false, List, [], ◌∷◌, ◌++◌, length, Option, Some, None, refl, sym, ap, ◌∙◌, inl, inr, ◌⊎◌, ⊎_elim, subst, codes}
use Rattle.std.specs.List.{AllByRecursion}
use Rattle.std.specs.FinMap.{get}
use Rattle.field_values.specs.declared.value.Value.{Value}
use Rattle.finite_sums.specs.Maps.{Text}
use Rattle.book_rows.specs.declared.column.Column.{Column}
use Rattle.book_rows.specs.declared.column.Dataset.{Dataset}
use Rattle.book_rows.specs.declared.column.Dataset.TheVariants.{Payees, Transactions}
use Rattle.book_rows.specs.declared.rows.Rows.{Rows}
use Rattle.book_rows.specs.declared.rows.TxRow.{TxRow}
use Rattle.book_rows.specs.declared.write.RowName.{RowName}
use Rattle.book_rows.specs.declared.write.RowName.TheVariants.{Given, Made}
use Rattle.book_rows.specs.declared.write.WriteValue.{WriteValue}
use Rattle.book_rows.specs.declared.write.Write.{Write}
use Rattle.book_rows.specs.Columns.{dataset_of, column_of}
use Rattle.book_rows.specs.Rows.{with_known}
use Rattle.book_rows.proofs.Naming.{dataset_found}
use Rattle.book_edits.proofs.Valid.{all_append}
use Rattle.split_transfer.specs.After.{Ids, row_of, value_in, with_write, with_writes}
use Rattle.bank_import.specs.Edits.{value_write, text_write, missing, payee_value, takes_none, missing_category, texts_writes, clearing, filling, entry_writes, making, filling_at, record_writes, payee_writes, records_writes}

-- nothing but transactions and payees is written
abbrev pub IsRest : Rows → Rows → Type 0
IsRest r s = s ≡ record r { txs = s.txs; payees = s.payees }

then_rest : (r s t : Rows) → IsRest r s → IsRest s t → IsRest r t
then_rest r s t a b = b ∙ ap (λ (m : Rows). record m { txs = t.txs; payees = t.payees }) a

abbrev IsOfBoth : Write → Type 0
IsOfBoth w = (w.dataset ≡ codes "transactions") ⊎ (w.dataset ≡ codes "payees")

abbrev AreOfBoth : List Write → Type 0
AreOfBoth ws = AllByRecursion IsOfBoth ws

txs_rest : (c : Option Column) (id : Text) (v : Value) (r : Rows) → IsRest r (with_known (Some Transactions) c id v r)
txs_rest None id v r = refl
txs_rest (Some c) id v r = refl

payees_rest : (c : Option Column) (id : Text) (v : Value) (r : Rows) → IsRest r (with_known (Some Payees) c id v r)
payees_rest None id v r = refl
payees_rest (Some c) id v r = refl

module _ (ids : Ids) where
  found : (r : Rows) (w : Write) (name : Text) (d : Dataset) → w.dataset ≡ name → dataset_of name ≡ Some d
      → with_write ids r w ≡ with_known (Some d) (column_of w.column) (row_of ids w.row) (value_in ids w.value) r
  found r w name d is e =
      ap (λ t. with_known (dataset_of t) (column_of w.column) (row_of ids w.row) (value_in ids w.value) r) is
      ∙ ap (λ o. with_known o (column_of w.column) (row_of ids w.row) (value_in ids w.value) r) e

  write_rest : (r : Rows) (w : Write) → IsOfBoth w → IsRest r (with_write ids r w)
  write_rest r w is = ⊎_elim
      (λ t. subst (λ s. IsRest r s) (sym (found r w (codes "transactions") Transactions t (dataset_found Transactions))) (txs_rest (column_of w.column) (row_of ids w.row) (value_in ids w.value) r))
      (λ p. subst (λ s. IsRest r s) (sym (found r w (codes "payees") Payees p (dataset_found Payees))) (payees_rest (column_of w.column) (row_of ids w.row) (value_in ids w.value) r)) is

  pub writes_rest : (ws : List Write) (r : Rows) → AreOfBoth ws → IsRest r (with_writes ids r ws)
  writes_rest [] r h = refl
  writes_rest (w ∷ ws) r h = then_rest r (with_write ids r w) (with_writes ids (with_write ids r w) ws) (write_rest r w h.0) (writes_rest ws (with_write ids r w) h.1)

-- ---- the writes of an import

value_both : (row : RowName) (column : Text) (v : Option WriteValue) → AreOfBoth (value_write row column v)
value_both row column None = tt
value_both row column (Some v) = (inl refl, tt)

text_both : (row : RowName) (column : Text) (t : Option Text) → AreOfBoth (text_write row column t)
text_both row column None = tt
text_both row column (Some t) = (inl refl, tt)

texts_both : (row : RowName) (n i f s : Option Text) → AreOfBoth (texts_writes row n i f s)
texts_both row n i f s =
    all_append IsOfBoth _ _ (all_append IsOfBoth _ _ (all_append IsOfBoth _ _ (text_both row (codes "notes") n) (text_both row (codes "imported_description") i))
    (text_both row (codes "financial_id") f)) (text_both row (codes "schedule") s)

clearing_both : (row : RowName) (known : Bool) → AreOfBoth (clearing row known)
clearing_both row true = tt
clearing_both row false = (inl refl, tt)

module _ (rows : Rows) (names : List Text) where
  filling_both : (id : Text) (x : TxRow) (d : _) → AreOfBoth (filling rows names id x d)
  unfolding filling
  filling_both id x d =
      all_append IsOfBoth _ _ (all_append IsOfBoth _ _ (all_append IsOfBoth _ _
      (value_both (Given id) (codes "description") (missing x.description (payee_value names d)))
      (text_both (Given id) (codes "category") (missing_category (takes_none rows id x) x.category d.row.category)))
      (texts_both (Given id) (missing x.notes d.row.notes) (missing x.imported_description d.row.imported_description) (missing x.financial_id d.row.financial_id) (missing x.schedule d.row.schedule)))
      (clearing_both (Given id) x.cleared)

  making_both : (at : ℕ) (d : _) → AreOfBoth (making names at d)
  unfolding making
  making_both at d =
      let a = entry_writes (Made at) d.row in
      let b = value_write (Made at) (codes "description") (payee_value names d) in
      let c = text_write (Made at) (codes "category") d.row.category in
      let e = texts_writes (Made at) d.row.notes d.row.imported_description d.row.financial_id d.row.schedule in
      all_append IsOfBoth (((a ++ b) ++ c) ++ e) (clearing (Made at) false)
      (all_append IsOfBoth ((a ++ b) ++ c) e (all_append IsOfBoth (a ++ b) c
      (all_append IsOfBoth a b (inl refl, (inl refl, (inl refl, tt))) (value_both (Made at) (codes "description") (payee_value names d)))
      (text_both (Made at) (codes "category") d.row.category))
      (texts_both (Made at) d.row.notes d.row.imported_description d.row.financial_id d.row.schedule))
      (clearing_both (Made at) false)

  record_both : (at : ℕ) (d : _) (m : Option Text) → AreOfBoth (record_writes rows names at d m)
  record_both at d None = making_both at d
  record_both at d (Some id) = by (get rows.txs id)
    where
      by : (o : Option TxRow) → AreOfBoth (filling_at rows names id d o)
      by None = tt
      by (Some x) = filling_both id x d

  pub records_both : (at : ℕ) (ds : List _) (ms : List (Option Text)) → AreOfBoth (records_writes rows names at ds ms)
  records_both at [] ms = tt
  records_both at (d ∷ ds) [] = tt
  records_both at (d ∷ ds) (m ∷ ms) = all_append IsOfBoth _ _ (record_both at d m) (records_both (at + length (record_writes rows names at d m)) ds ms)

pub payees_both : (at : ℕ) (names : List Text) → AreOfBoth (payee_writes at names)
payees_both at [] = tt
payees_both at (name ∷ names) = (inr refl, payees_both (at + 1) names)
