-- One value after the other is written into a row.
use Rattle.std.proofs.Common.{◌≡◌, Bool, true, false, cond, List, Option, Some, Ok, refl, ap, sym, ◌∙◌}
use Rattle.std.specs.Prelude.{not, is_some, unwrap_or}
use Rattle.std.specs.FinMap.{get, insert, get-insert, same_map}
use Rattle.field_values.specs.declared.value.Value.{Value}
use Rattle.finite_sums.specs.Maps.{Text, Texts}
use Rattle.finite_sums.proofs.Texts.{text_total, text_same}
use Rattle.book_rows.specs.declared.column.Dataset.{Dataset}
use Rattle.book_rows.specs.declared.column.Column.{Column}
use Rattle.book_rows.specs.declared.rows.Rows.{Rows}
use Rattle.book_rows.specs.declared.write.RowName.{RowName}
use Rattle.book_rows.specs.declared.write.RowName.TheVariants.{Given}
use Rattle.book_rows.specs.declared.write.WriteValue.{WriteValue}
use Rattle.book_rows.specs.declared.write.Write.{Write}
use Rattle.book_rows.specs.declared.fault.EditFault.TheVariants.{BadId, IdTaken}
use Rattle.book_rows.specs.Columns.{dataset_name, column_name, column_of}
use Rattle.book_rows.specs.Rows.{with_cell, with_known}
use Rattle.book_rows.specs.Tables.{Table, blank_row, with_column}
use Rattle.book_rows.proofs.Naming.{dataset_found, column_found}
use Rattle.book_edits.specs.Faults.{must}
use Rattle.book_edits.specs.Checks.{same_id, may_be_chosen, given_row}
use Rattle.book_edits.proofs.Valid.{inside, passed}
use Rattle.split_transfer.specs.After.{Ids, row_of, value_in, with_write, with_writes}
use Rattle.split_transfer.proofs.Basics.{same_refl}

put_twice : {Row : Type 0} (m : Texts Row) (k : Text) (x y : Row) → insert (insert m k x) k y ≡ insert m k y
put_twice {Row} m k x y = same_map text_total text_same _ _ (λ q.
    get-insert text_total (insert m k x) k y q
    ∙ ap (cond (same_id q k) (Some y)) (get-insert text_total m k x q)
    ∙ by (same_id q k) (get m q)
    ∙ sym (get-insert text_total m k y q))
  where
    by : (b : Bool) (o : Option Row) → cond b (Some y) (cond b (Some x) o) ≡ cond b (Some y) o
    by true o = refl
    by false o = refl

-- a column more of a row that was written
pub one_more : {Row : Type 0} (T : Table Row) (k : Text) (c : Column) (v : Value) (m : Texts Row) (x : Row) → is_some (T.kind c) ≡ true → with_column T k c v (insert m k x) ≡ insert m k (T.set c v x)
one_more T k c v m x h =
    ap (λ b. cond b (insert (insert m k x) k (T.set c v (unwrap_or (get (insert m k x) k) (blank_row T k)))) (insert m k x)) h
    ∙ ap (λ o. insert (insert m k x) k (T.set c v (unwrap_or o (blank_row T k)))) (get-insert text_total m k x k ∙ ap (λ b. cond b (Some x) (get m k)) (same_refl k))
    ∙ put_twice m k x (T.set c v x)

-- the write of a value into a column of a dataset
abbrev pub into : Dataset → RowName → Column → WriteValue → Write
into d row c v = record { dataset = dataset_name d; row = row; column = column_name c; value = v }

module _ (ids : Ids) where
  pub cell : (r : Rows) (d : Dataset) (row : RowName) (c : Column) (v : WriteValue) → with_write ids r (into d row c v) ≡ with_cell d (row_of ids row) c (value_in ids v) r
  cell r d row c v =
      ap (λ x. with_known x (column_of (column_name c)) (row_of ids row) (value_in ids v) r) (dataset_found d)
      ∙ ap (λ x. with_known (Some d) x (row_of ids row) (value_in ids v) r) (column_found c)

  -- writes that make these rows are those of the edit
  pub made : (r : Rows) (ws vs : List Write) (s : Rows) → ◌≡◌ {A = List Write} vs ws → with_writes ids r vs ≡ s → with_writes ids r ws ≡ s
  made r ws vs s same h = ap (with_writes ids r) (sym same) ∙ h

-- the row of an id that is given
pub given_is : (there : Bool) (id : Text) (row : RowName) → given_row there id ≡ Ok row → row ≡ Given id
given_is there id row h =
    let a = passed (must (may_be_chosen id) (BadId id)) _ _ h in
    let b = passed (must (not there) (IdTaken id)) _ _ a.2 in
    sym (inside (Given id) row b.2)
