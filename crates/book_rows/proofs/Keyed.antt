-- Setting a column of a transaction, and the keys under which it is found.
use Rattle.std.proofs.Common.{◌≡◌, Bool, true, false, cond, Option, Some, None, refl, ap, sym, ◌∙◌, if◌then◌else◌}
use Rattle.std.specs.Prelude.{is_some, unwrap_or}
use Rattle.std.specs.Ordering.{eq_by_cmp}
use Rattle.std.specs.BTreeSet as set
use Rattle.std.specs.FinMap as map
use Rattle.field_values.specs.declared.value.Value.{Value}
use Rattle.finite_sums.specs.Maps.{Text, Texts, text_cmp}
use Rattle.finite_sums.proofs.Texts.{text_total, text_same}
use Rattle.book_rows.specs.declared.column.Column.{Column}
use Rattle.book_rows.specs.declared.column.Column.TheVariants.{Acct, Date, Amount, Category, Description, Notes, Name, Tombstone, SortOrder, Cleared, Reconciled, Note, IsParent, IsChild, ParentId, TransferredId, Schedule, ImportedDescription, FinancialId, CatGroup, IsIncome, Hidden, Offbudget, Closed, TransferAcct, Month, Carryover, Buffered, Stage, ConditionsOp, Conditions, Actions, Rule, NextDate, Completed, PostsTransaction, TransferId, TargetId}
use Rattle.book_rows.specs.declared.rows.TxRow.{TxRow}
use Rattle.book_rows.specs.declared.txs.Keys.{Keys}
use Rattle.book_rows.specs.declared.txs.TxIndex.{TxIndex}
use Rattle.book_rows.specs.Tables.{Table, blank_row, with_column}
use Rattle.book_rows.specs.Rules.{tx_table, with_tx_column}
use Rattle.book_rows.specs.Parts.{is_text}
use Rattle.book_rows.specs.Book.{IsTxIndex, MovesKeys, keys_of, holds, moves, is_month_of, dated_cmp}
use Rattle.book_rows.proofs.Pairs.{is_equal, itself}

-- ---- a column is set in a table
module _ {Row : Type 0} (table : Table Row) (id : Text) (column : Column) (value : Value) (rows : Texts Row) where
  abbrev pub row_after : Row
  row_after = table.set column value (unwrap_or (map.get rows id) (blank_row table id))

  -- the other rows stay
  pub others_stay : (q : Text) → eq_by_cmp text_cmp q id ≡ false → map.get (with_column table id column value rows) q ≡ map.get rows q
  others_stay q h = by (is_some (table.kind column))
    where
      by : (b : Bool) → map.get (if b then map.insert rows id row_after else rows) q ≡ map.get rows q
      by true = map.get-insert text_total rows id row_after q ∙ ap (λ b. cond b (Some row_after) (map.get rows q)) h
      by false = refl

  -- what is told of each row stays, where it stays for the row that is set
  pub row_by_row : {A : Type 0} (f : Option Row → A) → f (Some row_after) ≡ f (map.get rows id) → (q : Text) → f (map.get (with_column table id column value rows) q) ≡ f (map.get rows q)
  row_by_row f same q = by (eq_by_cmp text_cmp q id) refl
    where
      own : (b : Bool) → f (map.get (if b then map.insert rows id row_after else rows) id) ≡ f (map.get rows id)
      own true = ap f (map.get-insert text_total rows id row_after id ∙ ap (λ b. cond b (Some row_after) (map.get rows id)) (itself id)) ∙ same
      own false = refl

      by : (b : Bool) → eq_by_cmp text_cmp q id ≡ b → f (map.get (with_column table id column value rows) q) ≡ f (map.get rows q)
      by false h = ap f (others_stay q h)
      by true h = let at : q ≡ id = text_same q id (is_equal _ h) in
          ap (λ k. f (map.get (with_column table id column value rows) k)) at ∙ own (is_some (table.kind column)) ∙ ap (λ k. f (map.get rows k)) (sym at)

-- ---- keys
false_true : {P : Type 0} → true ≡ false → P
false_true h = absurd (cc)

-- a column that moves nothing
keys_stay : (column : Column) (value : Value) (row : TxRow) → moves column ≡ false → keys_of (Some (with_tx_column column value row)) ≡ keys_of (Some row)
keys_stay Acct value row h = false_true h
keys_stay Date value row h = false_true h
keys_stay Amount value row h = refl
keys_stay Category value row h = false_true h
keys_stay Description value row h = refl
keys_stay Notes value row h = refl
keys_stay Name value row h = refl
keys_stay Tombstone value row h = refl
keys_stay SortOrder value row h = refl
keys_stay Cleared value row h = refl
keys_stay Reconciled value row h = refl
keys_stay Note value row h = refl
keys_stay IsParent value row h = refl
keys_stay IsChild value row h = false_true h
keys_stay ParentId value row h = false_true h
keys_stay TransferredId value row h = refl
keys_stay Schedule value row h = false_true h
keys_stay ImportedDescription value row h = refl
keys_stay FinancialId value row h = refl
keys_stay CatGroup value row h = refl
keys_stay IsIncome value row h = refl
keys_stay Hidden value row h = refl
keys_stay Offbudget value row h = refl
keys_stay Closed value row h = refl
keys_stay TransferAcct value row h = refl
keys_stay Month value row h = refl
keys_stay Carryover value row h = refl
keys_stay Buffered value row h = refl
keys_stay Stage value row h = refl
keys_stay ConditionsOp value row h = refl
keys_stay Conditions value row h = refl
keys_stay Actions value row h = refl
keys_stay Rule value row h = refl
keys_stay NextDate value row h = refl
keys_stay Completed value row h = refl
keys_stay PostsTransaction value row h = refl
keys_stay TransferId value row h = refl
keys_stay TargetId value row h = refl

blank_keys : (id : Text) → keys_of (Some (blank_row tx_table id)) ≡ keys_of None
blank_keys id = refl

keys_there : (id : Text) (o : Option TxRow) → keys_of (Some (unwrap_or o (blank_row tx_table id))) ≡ keys_of o
keys_there id None = blank_keys id
keys_there id (Some row) = refl

-- a row is put, and the keys before and after are told
pub keys_between : (xs ys : Texts TxRow) (id : Text) (row : TxRow) (o : Option TxRow) (keys : Keys × Keys) → map.get xs id ≡ o → ys ≡ map.insert xs id row → keys ≡ (keys_of o, keys_of (Some row)) → keys ≡ (keys_of (map.get xs id), keys_of (map.get ys id))
keys_between xs ys id row o keys was put told =
    let there : map.get ys id ≡ Some row = ap (λ m. map.get m id) put ∙ map.get-insert text_total xs id row id ∙ ap (λ b. cond b (Some row) (map.get xs id)) (itself id) in
    told ∙ ap (λ x. (keys_of x, keys_of (Some row))) (sym was) ∙ ap (λ x. (keys_of (map.get xs id), keys_of x)) (sym there)

pub unmoved : (index : TxIndex) (xs ys : Texts TxRow) (id : Text) (column : Column) (value : Value) → moves column ≡ false → IsTxIndex index xs → ys ≡ with_column tx_table id column value xs → IsTxIndex index ys
unmoved index xs ys id column value h is set_one =
    let same = λ (q : Text). ap (λ m. keys_of (map.get m q)) set_one ∙ row_by_row tx_table id column value xs keys_of (keys_stay column value (unwrap_or (map.get xs id) (blank_row tx_table id)) h ∙ keys_there id (map.get xs id)) q in
    record {
      children = λ k q. is.children k q ∙ ap (λ keys. is_text k keys.parent) (sym (same q));
      accounts = λ k q. is.accounts k q ∙ ap (λ keys. is_text k keys.account) (sym (same q));
      categories = λ k q. is.categories k q ∙ ap (λ keys. is_text k keys.category) (sym (same q));
      schedules = λ k q. is.schedules k q ∙ ap (λ keys. is_text k keys.schedule) (sym (same q));
      months = λ m q. is.months m q ∙ ap (λ keys. is_month_of m keys.month) (sym (same q));
    }

module _ (xs ys : Texts TxRow) (id : Text) (column : Column) (value : Value) (set_one : ys ≡ with_column tx_table id column value xs)
    {K : Type 0} (old new : K → Text → Bool) (f : K → Keys → Bool) where
  one : ((k : K) (q : Text) → old k q ≡ f k (keys_of (map.get xs q))) → ((k : K) (q : Text) → new k q ≡ (if eq_by_cmp text_cmp q id then f k (keys_of (map.get ys id)) else old k q))
      → (k : K) (q : Text) → new k q ≡ f k (keys_of (map.get ys q))
  one was now k q = now k q ∙ by (eq_by_cmp text_cmp q id) refl
    where
      by : (b : Bool) → eq_by_cmp text_cmp q id ≡ b → (if b then f k (keys_of (map.get ys id)) else old k q) ≡ f k (keys_of (map.get ys q))
      by true h = ap (λ i. f k (keys_of (map.get ys i))) (sym (text_same q id (is_equal _ h)))
      by false h = was k q ∙ ap (λ o. f k (keys_of o)) (sym (ap (λ m. map.get m q) set_one ∙ others_stay tx_table id column value xs q h))

pub keyed : (old new : TxIndex) (xs ys : Texts TxRow) (id : Text) (column : Column) (value : Value) → IsTxIndex old xs → ys ≡ with_column tx_table id column value xs → MovesKeys old new id (keys_of (map.get ys id)) → IsTxIndex new ys
keyed old new xs ys id column value is set_one moved = record {
  children = one xs ys id column value set_one (holds old.children) (holds new.children) (λ k keys. is_text k keys.parent) is.children moved.children;
  accounts = one xs ys id column value set_one (holds old.accounts) (holds new.accounts) (λ k keys. is_text k keys.account) is.accounts moved.accounts;
  categories = one xs ys id column value set_one (holds old.categories) (holds new.categories) (λ k keys. is_text k keys.category) is.categories moved.categories;
  schedules = one xs ys id column value set_one (holds old.schedules) (holds new.schedules) (λ k keys. is_text k keys.schedule) is.schedules moved.schedules;
  months = one xs ys id column value set_one (λ m q. set.contains dated_cmp old.months (m, q)) (λ m q. set.contains dated_cmp new.months (m, q)) (λ m keys. is_month_of m keys.month) is.months moved.months;
}
