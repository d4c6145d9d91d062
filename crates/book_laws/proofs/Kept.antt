-- Which rows are live, which transactions are listed, and what accounts have.
use Rattle.std.proofs.Common.{◌≡◌, Bool, true, false, cond, map, List, [], ◌∷◌, Option, Some, None, refl, sym, ap, ◌∙◌}
use lib.IntN.{pos}
use Rattle.std.specs.Prelude.{◌↔◌, ◌&&◌, not}
use Rattle.std.specs.declared.cmp.Ordering.{Ordering}
use Rattle.std.specs.declared.cmp.Ordering.TheVariants.{Less, Equal, Greater}
use Rattle.std.specs.Ordering.{is_eq, is_lt}
use Rattle.std.specs.Cmp.{eq_by_cmp_equiv}
use Rattle.std.specs.List.{AllByRecursion, filter}
use Rattle.std.specs.List.Sorted.{IsStrictlySortedBy}
use Rattle.std.specs.FinMap as map_of
use Rattle.std.specs.FinMap.{is_sorted, entries_sorted}
use Rattle.std.specs.FinMap.Entries.{below_all}
use Rattle.std.proofs.lemmas.Bool.{and_parts, and_from}
use Rattle.finite_sums.specs.Maps.{Text, Texts, text_cmp, some_and, keys_where, is_among}
use Rattle.finite_sums.proofs.Texts.{text_total, text_same}
use Rattle.finite_sums.proofs.MapSums.{among-keys_where, both_true, so}
use Rattle.finite_sums.specs.Sums.{only_if}
use Rattle.book_rows.specs.declared.rows.Rows.{Rows}
use Rattle.book_rows.specs.declared.rows.TxRow.{TxRow}
use Rattle.book_rows.specs.Live.{is_live_tx}
use Rattle.book_rows.specs.Parts.{is_text, is_child_of, is_in_account, is_in_category, is_of_schedule}
use Rattle.book_rows.specs.Balances.{adds}
use Rattle.book_laws.specs.Books.{KeptRowsAreTold, TransactionsAreListed, BalancesAreTold}
use Rattle.book_rows.proofs.Balances.{total_of-keys_where}

-- ---- a row that is there and passes

not_set : (b : Bool) → not b ≡ true → b ≡ false
not_set true h = cc
not_set false h = refl

set_not : (b : Bool) → b ≡ false → not b ≡ true
set_not b h = ap not h

none_some : {X : Type 0} (x : X) → None ≡ Some x → ⊥
none_some x h = cc

pub passes : {X : Type 0} (p : X → Bool) (o : Option X) → (some_and p o ≡ true) ↔ ((x : X) × (o ≡ Some x) × (p x ≡ true))
passes p None = (λ h. cc, λ h. absurd (none_some h.0 h.1))
passes p (Some x) = (λ h. (x, refl, h), λ h. ap (some_and p) h.1 ∙ h.2)

kept : {X : Type 0} (dead : X → Bool) (o : Option X) → (some_and (λ x. not (dead x)) o ≡ true) ↔ ((x : X) × (o ≡ Some x) × (dead x ≡ false))
kept dead o =
    let p = passes (λ x. not (dead x)) o in
    (λ h. let k = p.0 h in (k.0, k.1, not_set (dead k.0) k.2), λ h. p.1 (h.0, h.1, set_not (dead h.0) h.2))

pub kept_rows : KeptRowsAreTold
kept_rows = record {
  account = λ rows id. kept (λ a. a.tombstone) (map_of.get rows.accounts id);
  group = λ rows id. kept (λ g. g.tombstone) (map_of.get rows.groups id);
  payee = λ rows id. kept (λ p. p.tombstone) (map_of.get rows.payees id);
  rule = λ rows id. kept (λ r. r.tombstone) (map_of.get rows.rules id);
  schedule = λ rows id. kept (λ s. s.tombstone) (map_of.get rows.schedules id);
  tx = λ rows id. passes (is_live_tx rows) (map_of.get rows.txs id);
}

-- ---- lists

is_equal : (r : Ordering) → is_eq r ≡ true → r ≡ Equal
is_equal Less h = cc
is_equal Equal h = refl
is_equal Greater h = cc

is_less : (r : Ordering) → is_lt r ≡ true → r ≡ Less
is_less Less h = refl
is_less Equal h = cc
is_less Greater h = cc

one_is : (id : Text) (o : Option Text) → is_text id o ≡ true → o ≡ Some id
one_is id None h = cc
one_is id (Some own) h = ap (λ (t : Text). Some t) (text_same own id (is_equal _ h))

is_one : (id : Text) (o : Option Text) → o ≡ Some id → is_text id o ≡ true
is_one id o e = ap (is_text id) e ∙ (eq_by_cmp_equiv text_total).refl id

module _ (p : TxRow → Bool) where
  listed : (m : Texts TxRow) (q : Text) → (is_among text_cmp (keys_where p (map_of.entries m)) q ≡ true) ↔ ((x : TxRow) × (map_of.get m q ≡ Some x) × (p x ≡ true))
  listed m q =
      let is = among-keys_where text_total text_same p m q in
      let there = passes p (map_of.get m q) in
      (λ h. there.0 (sym is ∙ h), λ h. is ∙ there.1 h)

  all_above : (k : Text) (es : List (Text × TxRow)) → below_all text_cmp k es ≡ true → AllByRecursion (λ y. text_cmp k y ≡ Less) (keys_where p es)
  all_above k [] h = tt
  all_above k (e ∷ es) h =
      let parts = both_true _ _ h in
      elim (p e.1) as (λ b. AllByRecursion (λ y. text_cmp k y ≡ Less) (map (λ e. e.0) (cond b (e ∷ filter (λ e. p e.1) es) (filter (λ e. p e.1) es)))) [ true ↦ (is_less _ parts.0, all_above k es parts.1) | false ↦ all_above k es parts.1 ]

  rising : (es : List (Text × TxRow)) → is_sorted text_cmp es ≡ true → IsStrictlySortedBy text_cmp (keys_where p es)
  unfolding IsStrictlySortedBy
  rising [] h = tt
  rising (e ∷ es) h =
      let parts = both_true _ _ h in
      elim (p e.1) as (λ b. IsStrictlySortedBy text_cmp (map (λ e. e.0) (cond b (e ∷ filter (λ e. p e.1) es) (filter (λ e. p e.1) es)))) [ true ↦ (all_above e.0 es parts.0, rising es parts.1) | false ↦ rising es parts.1 ]

pub lists_told : (rows : Rows) → TransactionsAreListed rows
lists_told rows = record {
  part = λ id q.
      let is = listed (is_child_of id) rows.txs q in (
        λ h. let x = is.0 h in let both = and_parts x.0.is_child (is_text id x.0.parent_id) x.2 in (x.0, x.1, both.0, one_is id x.0.parent_id both.1),
        λ h. is.1 (h.0, h.1, and_from h.0.is_child (is_text id h.0.parent_id) h.2 (is_one id h.0.parent_id h.3)),
      );
  own = λ id q.
      let is = listed (is_in_account id) rows.txs q in (
        λ h. let x = is.0 h in (x.0, x.1, one_is id x.0.acct x.2),
        λ h. is.1 (h.0, h.1, is_one id h.0.acct h.2),
      );
  named = λ id q.
      let is = listed (is_in_category id) rows.txs q in (
        λ h. let x = is.0 h in (x.0, x.1, one_is id x.0.category x.2),
        λ h. is.1 (h.0, h.1, is_one id h.0.category h.2),
      );
  scheduled = λ id q.
      let is = listed (is_of_schedule id) rows.txs q in (
        λ h. let x = is.0 h in (x.0, x.1, one_is id x.0.schedule x.2),
        λ h. is.1 (h.0, h.1, is_one id h.0.schedule h.2),
      );
  parts_rise = λ id. rising (is_child_of id) (map_of.entries rows.txs) (so _ (entries_sorted rows.txs));
  own_rise = λ id. rising (is_in_account id) (map_of.entries rows.txs) (so _ (entries_sorted rows.txs));
  named_rise = λ id. rising (is_in_category id) (map_of.entries rows.txs) (so _ (entries_sorted rows.txs));
  scheduled_rise = λ id. rising (is_of_schedule id) (map_of.entries rows.txs) (so _ (entries_sorted rows.txs));
}

-- ---- balances

dead_adds : (rows : Rows) (x : TxRow) → is_live_tx rows x ≡ false → adds rows x ≡ pos 0
dead_adds rows x h = ap (λ b. only_if (b && not x.is_parent) x.amount) h

split_adds : (rows : Rows) (x : TxRow) → x.is_parent ≡ true → adds rows x ≡ pos 0
split_adds rows x h = ap (λ b. only_if (is_live_tx rows x && not b) x.amount) h ∙ by (is_live_tx rows x)
  where
    by : (b : Bool) → only_if (b && false) x.amount ≡ pos 0
    by true = refl
    by false = refl

whole_adds : (rows : Rows) (x : TxRow) → is_live_tx rows x ≡ true → x.is_parent ≡ false → adds rows x ≡ x.amount
whole_adds rows x h k = ap (λ b. only_if (b && not x.is_parent) x.amount) h ∙ ap (λ b. only_if (not b) x.amount) k

pub balances_told : (rows : Rows) → BalancesAreTold rows
balances_told rows = record {
  dead = dead_adds rows;
  split = split_adds rows;
  whole = whole_adds rows;
  sum = λ account. total_of-keys_where (is_in_account account) (adds rows) rows.txs;
}
