-- A row after writes.
use Rattle.std.proofs.Common.{◌≡◌, Bool, true, false, cond, List, [], ◌∷◌, ◌++◌, Option, Some, refl, ap, sym, ◌∙◌}
use Rattle.std.specs.Prelude.{◌||◌, unwrap_or}
use Rattle.std.specs.FinMap.{get}
use Rattle.finite_sums.specs.Maps.{Text, text_cmp, is_among}
use Rattle.finite_sums.proofs.Texts.{text_total}
use Rattle.field_values.specs.declared.value.Value.{Value}
use Rattle.book_rows.specs.declared.rows.Rows.{Rows}
use Rattle.book_rows.specs.declared.rows.TxRow.{TxRow}
use Rattle.book_rows.specs.declared.write.Write.{Write}
use Rattle.book_edits.specs.Checks.{same_id}
use Rattle.split_transfer.specs.After.{Ids, row_of, value_in, with_write, with_writes}
use Rattle.split_transfer.proofs.Columns.{TxColumn, with_column, blank, Put, as_write, named, on_each, twice}
use Rattle.split_transfer.proofs.Basics.{same_is}
use Rattle.std.proofs.Common.{map as list_map}
use Rattle.std.specs.FinMap.{insert, get-insert}
use Rattle.book_rows.specs.declared.column.Dataset.TheVariants.{Transactions}
use Rattle.book_rows.specs.Columns.{column_name, column_of}
use Rattle.book_rows.specs.Rows.{with_known}
use Rattle.book_rows.specs.declared.write.RowName.TheVariants.{Given}
use Rattle.book_rows.specs.declared.write.WriteValue.TheVariants.{Plain}
use Rattle.book_rows.proofs.Naming.{dataset_found, column_found}

abbrev pub written : Ids → Text → Put → Option TxRow → Option TxRow
written ids q p o = cond (same_id q (row_of ids p.row)) (Some (with_column p.column (value_in ids p.value) (unwrap_or o (blank q)))) o

abbrev pub row_after : Ids → Text → List Put → Option TxRow → Option TxRow
row_after ids q [] o = o
row_after ids q (p ∷ ps) o = row_after ids q ps (written ids q p o)

txs_after : (ids : Ids) (r : Rows) (p : Put) → (with_write ids r (as_write p)).txs
    ≡ insert r.txs (row_of ids p.row) (with_column p.column (value_in ids p.value) (unwrap_or (get r.txs (row_of ids p.row)) (blank (row_of ids p.row))))
txs_after ids r p =
    ap (λ d. (with_known d (column_of (column_name p.column.0)) (row_of ids p.row) (value_in ids p.value) r).txs) (dataset_found Transactions)
    ∙ ap (λ c. (with_known (Some Transactions) c (row_of ids p.row) (value_in ids p.value) r).txs) (column_found p.column.0)
    ∙ ap (λ b. cond b (insert r.txs (row_of ids p.row) (with_column p.column (value_in ids p.value) (unwrap_or (get r.txs (row_of ids p.row)) (blank (row_of ids p.row))))) r.txs) p.column.1

pub get-with_write : (ids : Ids) (r : Rows) (p : Put) (q : Text) → get (with_write ids r (as_write p)).txs q ≡ written ids q p (get r.txs q)
get-with_write ids r p q =
    ap (λ m. get m q) (txs_after ids r p)
    ∙ get-insert text_total r.txs k (with_column p.column (value_in ids p.value) (unwrap_or (get r.txs k) (blank k))) q ∙ by (same_id q k) refl
  where
    k : Text
    k = row_of ids p.row

    by : (b : Bool) → same_id q k ≡ b
        → cond b (Some (with_column p.column (value_in ids p.value) (unwrap_or (get r.txs k) (blank k)))) (get r.txs q)
        ≡ cond b (Some (with_column p.column (value_in ids p.value) (unwrap_or (get r.txs q) (blank q)))) (get r.txs q)
    by true h = ap (λ t. Some (with_column p.column (value_in ids p.value) (unwrap_or (get r.txs t) (blank t)))) (sym (same_is q k h))
    by false h = refl

pub get-with_writes : (ids : Ids) (r : Rows) (ps : List Put) (q : Text) → get (with_writes ids r (list_map as_write ps)).txs q ≡ row_after ids q ps (get r.txs q)
get-with_writes ids r [] q = refl
get-with_writes ids r (p ∷ ps) q = get-with_writes ids (with_write ids r (as_write p)) ps q ∙ ap (row_after ids q ps) (get-with_write ids r p q)

pub with_writes-append : (ids : Ids) (r : Rows) (ws vs : List Write) → with_writes ids r (ws ++ vs) ≡ with_writes ids (with_writes ids r ws) vs
with_writes-append ids r [] vs = refl
with_writes-append ids r (w ∷ ws) vs = with_writes-append ids (with_write ids r w) ws vs

-- the rows after one value is written into one column of some rows
pub each_after : (ids : Ids) (r : Rows) (c : TxColumn) (v : Value) (ts : List Text) (q : Text)
    → get (with_writes ids r (on_each c v ts)).txs q ≡ cond (is_among text_cmp ts q) (Some (with_column c v (unwrap_or (get r.txs q) (blank q)))) (get r.txs q)
each_after ids r c v [] q = refl
each_after ids r c v (t ∷ ts) q =
    each_after ids (with_write ids r (named t c v)) c v ts q
    ∙ ap (λ o. cond (is_among text_cmp ts q) (Some (with_column c v (unwrap_or o (blank q)))) o) (get-with_write ids r (record { row = Given t; column = c; value = Plain v }) q)
    ∙ by (get r.txs q) (same_id q t) (is_among text_cmp ts q)
  where
    by : (o : Option TxRow) (a b : Bool)
        → cond b (Some (with_column c v (unwrap_or (cond a (Some (with_column c v (unwrap_or o (blank q)))) o) (blank q)))) (cond a (Some (with_column c v (unwrap_or o (blank q)))) o)
        ≡ cond (a || b) (Some (with_column c v (unwrap_or o (blank q)))) o
    by o true true = ap Some (twice c v (unwrap_or o (blank q)))
    by o true false = refl
    by o false b = refl

-- a row that was there
pub each_row : (ids : Ids) (r : Rows) (c : TxColumn) (v : Value) (ts : List Text) (q : Text) (x : TxRow) → get r.txs q ≡ Some x
    → get (with_writes ids r (on_each c v ts)).txs q ≡ Some (cond (is_among text_cmp ts q) (with_column c v x) x)
each_row ids r c v ts q x h =
    each_after ids r c v ts q ∙ ap (λ o. cond (is_among text_cmp ts q) (Some (with_column c v (unwrap_or o (blank q)))) o) h ∙ by (is_among text_cmp ts q)
  where
    by : (b : Bool) → cond b (Some (with_column c v x)) (Some x) ≡ Some (cond b (with_column c v x) x)
    by true = refl
    by false = refl

-- a row that was not there, and is not written
pub each_none : (ids : Ids) (r : Rows) (c : TxColumn) (v : Value) (ts : List Text) (q : Text) → is_among text_cmp ts q ≡ false
    → get (with_writes ids r (on_each c v ts)).txs q ≡ get r.txs q
each_none ids r c v ts q h = each_after ids r c v ts q ∙ ap (λ b. cond b (Some (with_column c v (unwrap_or (get r.txs q) (blank q)))) (get r.txs q)) h
