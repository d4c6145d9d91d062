-- A balance is the sum over the ids that the index has.
use Rattle.std.proofs.Common.{◌≡◌, Bool, true, false, List, [], ◌∷◌, Option, Some, None, refl, ap, sym, ◌∙◌, arith}
use Rattle.std.specs.Prelude.{◌||◌}
use lib.IntN.{ℤ, pos}
use Rattle.std.specs.Ordering.{eq_by_cmp}
use Rattle.std.specs.Cmp.{eq_by_cmp_equiv}
use Rattle.std.specs.List.{list_any}
use Rattle.std.specs.List.Sorted.{IsStrictlySortedBy}
use Rattle.std.specs.FinMap as map
use Rattle.std.proofs.lemmas.Int.{ints}
use Rattle.finite_sums.specs.Sums.{total, only_if}
use Rattle.finite_sums.specs.Maps.{Text, Texts, text_cmp, total_of, value_or_zero, some_and, keys_where, is_among}
use Rattle.finite_sums.proofs.Texts.{text_total, text_same}
use Rattle.finite_sums.proofs.MapSums.{total_of-batch, among-keys_where, distinct-keys_where}
use Rattle.finite_sums.proofs.Sorted.{keys_where_are}
use Rattle.book_rows.specs.declared.rows.Rows.{Rows}
use Rattle.book_rows.specs.declared.rows.TxRow.{TxRow}
use Rattle.book_rows.specs.declared.txs.TxIndex.{TxIndex}
use Rattle.book_rows.specs.Parts.{is_in_account}
use Rattle.book_rows.specs.Book.{IsTxIndex, holds}
use Rattle.book_rows.specs.Balances.{adds, balance_of}
use Rattle.book_rows.proofs.Lists.{account_there}

among_first : (k : Text) (ks : List Text) → is_among text_cmp (k ∷ ks) k ≡ true
among_first k ks = ap (λ b. b || is_among text_cmp ks k) ((eq_by_cmp_equiv text_total).refl k)

or_right : (a b : Bool) → b ≡ true → (a || b) ≡ true
or_right true b h = refl
or_right false b h = h

-- sums that agree at each key of a list
total_on : (f g : Text → ℤ) (ks : List Text) → ((q : Text) → is_among text_cmp ks q ≡ true → f q ≡ g q) → total f ks ≡ total g ks
total_on f g [] h = refl
total_on f g (k ∷ ks) h =
    let head = h k (among_first k ks) in
    let tail = total_on f g ks (λ q p. h q (or_right (eq_by_cmp text_cmp q k) (is_among text_cmp ks q) p)) in
    omega (arith, ints, head, tail)

nothing : (o : Option TxRow) → value_or_zero (λ (x : TxRow). pos 0) o ≡ pos 0
nothing None = refl
nothing (Some x) = refl

zeros : (m : Texts TxRow) (ks : List Text) → total (λ k. value_or_zero (λ (x : TxRow). pos 0) (map.get m k)) ks ≡ pos 0
zeros m [] = refl
zeros m (k ∷ ks) = omega (arith, ints, nothing (map.get m k), zeros m ks)

zeros_at : (es : List (Text × TxRow)) → total (λ e. pos 0) es ≡ pos 0
zeros_at [] = refl
zeros_at (e ∷ es) = omega (arith, ints, zeros_at es)

module _ (p : TxRow → Bool) (f : TxRow → ℤ) (m : Texts TxRow) where
  off : (q : Text) (x : TxRow) → is_among text_cmp (keys_where p (map.entries m)) q ≡ false → map.get m q ≡ Some x → only_if (p x) (f x) ≡ pos 0
  off q x h there =
      let fails : p x ≡ false = sym (ap (some_and p) there) ∙ sym (among-keys_where text_total text_same p m q) ∙ h in
      ap (λ b. only_if b (f x)) fails

  on_value : (o : Option TxRow) → some_and p o ≡ true → value_or_zero (λ x. only_if (p x) (f x)) o ≡ value_or_zero f o
  on_value None h = cc
  on_value (Some x) h = ap (λ b. only_if b (f x)) h

  -- a sum over what passes is the sum over its keys
  pub total_of-keys_where : total_of (λ x. only_if (p x) (f x)) m ≡ total (λ k. value_or_zero f (map.get m k)) (keys_where p (map.entries m))
  total_of-keys_where =
      let ks = keys_where p (map.entries m) in
      let batch = total_of-batch text_total text_same (λ x. only_if (p x) (f x)) (λ x. pos 0) m m ks (distinct-keys_where text_total text_same p m) (λ q h. refl) off in
      let here = total_on (λ k. value_or_zero (λ x. only_if (p x) (f x)) (map.get m k)) (λ k. value_or_zero f (map.get m k)) ks (λ q h. on_value (map.get m q) (sym (among-keys_where text_total text_same p m q) ∙ h)) in
      omega (arith, ints, batch, here, zeros m ks, zeros_at (map.entries m))

-- the ids that an index has under an account make its balance
pub balance_is : (index : TxIndex) (rows : Rows) → IsTxIndex index rows.txs → (account : Text) (ids : List Text) → IsStrictlySortedBy text_cmp ids
    → ((q : Text) → list_any (eq_by_cmp text_cmp q) ids ≡ holds index.accounts account q)
    → total (λ id. value_or_zero (adds rows) (map.get rows.txs id)) ids ≡ balance_of rows account
balance_is index rows is account ids sorted held =
    let all = keys_where_are text_total text_same (is_in_account account) rows.txs ids sorted (λ q. held q ∙ is.accounts account q ∙ account_there account (map.get rows.txs q)) in
    ap (total (λ id. value_or_zero (adds rows) (map.get rows.txs id))) all ∙ sym (total_of-keys_where (is_in_account account) (adds rows) rows.txs)
