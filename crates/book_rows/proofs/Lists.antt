-- The ids that an index lists are those of the rows that pass.
use Rattle.std.proofs.Common.{◌≡◌, Bool, true, false, List, [], Option, Some, None, Result, Ok, Err, IfOk, refl, ap, sym, ◌∙◌, if◌then◌else◌, cond}
use Rattle.std.specs.Prelude.{◌&&◌}
use Rattle.std.specs.Ordering.{eq_by_cmp}
use Rattle.std.specs.List.{list_any}
use Rattle.std.specs.List.Sorted.{IsStrictlySortedBy}
use Rattle.std.specs.BTreeMap as tree
use Rattle.std.specs.BTreeSet.{BTreeSet}
use Rattle.std.specs.FinMap as map
use Rattle.finite_sums.specs.Maps.{Text, Texts, text_cmp, some_and, keys_where}
use Rattle.finite_sums.proofs.Texts.{text_total, text_same}
use Rattle.finite_sums.proofs.Sorted.{keys_where_are}
use Rattle.book_rows.specs.declared.rows.TxRow.{TxRow}
use Rattle.book_rows.specs.declared.txs.TxIndex.{TxIndex}
use Rattle.book_rows.specs.Parts.{is_text, is_child_of, is_in_account, is_in_category, is_of_schedule}
use Rattle.book_rows.specs.Book.{IsTxIndex, keys_of, parent_of, has_id, holds, ids_in, ids_under}
use Rattle.book_rows.proofs.Pairs.{Tree, is_equal}

parent_is : (key : Text) (x : TxRow) → is_text key (parent_of x) ≡ is_child_of key x
parent_is key x = by x.is_child
  where
    by : (b : Bool) → is_text key (if b then x.parent_id else None) ≡ (b && is_text key x.parent_id)
    by true = refl
    by false = refl

child_there : (key : Text) (o : Option TxRow) → is_text key (keys_of o).parent ≡ some_and (is_child_of key) o
child_there key None = refl
child_there key (Some x) = parent_is key x

pub account_there : (key : Text) (o : Option TxRow) → is_text key (keys_of o).account ≡ some_and (is_in_account key) o
account_there key None = refl
account_there key (Some x) = refl

category_there : (key : Text) (o : Option TxRow) → is_text key (keys_of o).category ≡ some_and (is_in_category key) o
category_there key None = refl
category_there key (Some x) = refl

schedule_there : (key : Text) (o : Option TxRow) → is_text key (keys_of o).schedule ≡ some_and (is_of_schedule key) o
schedule_there key None = refl
schedule_there key (Some x) = refl

in_held : (o : Option (BTreeSet Text)) (q : Text) → list_any (eq_by_cmp text_cmp q) (ids_in o) ≡ has_id o q
in_held None q = refl
in_held (Some ids) q = refl

-- what is listed under a key is what is held under it
pub under_held : (index : Tree) (key q : Text) → list_any (eq_by_cmp text_cmp q) (ids_under index key) ≡ holds index key q
under_held index key q = in_held (tree.get text_cmp index key) q

module _ (index : TxIndex) (txs : Texts TxRow) (is : IsTxIndex index txs) (key : Text) where
  pub children_are : IsStrictlySortedBy text_cmp (ids_under index.children key) → ids_under index.children key ≡ keys_where (is_child_of key) (map.entries txs)
  children_are sorted = keys_where_are text_total text_same (is_child_of key) txs (ids_under index.children key) sorted (λ q. under_held index.children key q ∙ is.children key q ∙ child_there key (map.get txs q))

  pub account_txs_are : IsStrictlySortedBy text_cmp (ids_under index.accounts key) → ids_under index.accounts key ≡ keys_where (is_in_account key) (map.entries txs)
  account_txs_are sorted = keys_where_are text_total text_same (is_in_account key) txs (ids_under index.accounts key) sorted (λ q. under_held index.accounts key q ∙ is.accounts key q ∙ account_there key (map.get txs q))

  pub category_txs_are : IsStrictlySortedBy text_cmp (ids_under index.categories key) → ids_under index.categories key ≡ keys_where (is_in_category key) (map.entries txs)
  category_txs_are sorted = keys_where_are text_total text_same (is_in_category key) txs (ids_under index.categories key) sorted (λ q. under_held index.categories key q ∙ is.categories key q ∙ category_there key (map.get txs q))

  pub schedule_txs_are : IsStrictlySortedBy text_cmp (ids_under index.schedules key) → ids_under index.schedules key ≡ keys_where (is_of_schedule key) (map.entries txs)
  schedule_txs_are sorted = keys_where_are text_total text_same (is_of_schedule key) txs (ids_under index.schedules key) sorted (λ q. under_held index.schedules key q ∙ is.schedules key q ∙ schedule_there key (map.get txs q))

-- the same list by another name
pub relisted : {E : Type 0} {xs ys : List Text} (r : Result (List Text) E) → xs ≡ ys → IfOk r (λ v. v ≡ xs) → IfOk r (λ v. v ≡ ys)
relisted (Ok v) e h = h ∙ e
relisted (Err f) e h = h

-- a key without ids is taken away
pub no_key : (m n : Tree) (key : Text) → ((k : Text) → tree.get text_cmp n k ≡ cond (eq_by_cmp text_cmp key k) None (tree.get text_cmp m k)) → ids_under m key ≡ [] → (k q : Text) → holds n k q ≡ holds m k q
no_key m n key gone none k q = by (eq_by_cmp text_cmp key k) refl
  where
    by : (b : Bool) → eq_by_cmp text_cmp key k ≡ b → holds n k q ≡ holds m k q
    by false h = ap (λ o. has_id o q) (gone k ∙ ap (λ b. cond b None (tree.get text_cmp m k)) h)
    by true h =
        let same : key ≡ k = text_same key k (is_equal _ h) in
        ap (λ o. has_id o q) (gone k ∙ ap (λ b. cond b None (tree.get text_cmp m k)) h)
        ∙ sym (sym (under_held m k q) ∙ ap (list_any (eq_by_cmp text_cmp q)) (ap (ids_under m) (sym same) ∙ none))
