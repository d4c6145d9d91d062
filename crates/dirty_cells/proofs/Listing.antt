-- What is listed of changes is no more than the pairs of a changed row and a transaction that it governs, where no field is given two values.
use Rattle.std.proofs.Common.{◌≡◌, ℕ, ◌≤◌, Bool, true, false, not, cond, List, [], ◌∷◌, ◌++◌, map, length, Option, Some, None, refl, ap, sym, ◌∙◌, arith, subst, if◌then◌else◌, inl, inr, true≢false}
use Rattle.std.specs.Prelude.{◌||◌, ◌⊎◌, flat_map, is_some}
use Rattle.std.specs.List.{AllByRecursion, filter}
use Rattle.std.specs.Ordering.{eq_by_cmp}
use Rattle.std.specs.FinMap.{get, find, entries, get-entries}
use Rattle.field_values.specs.declared.value.Value.{Value}
use Rattle.finite_sums.specs.Sums.{weight}
use Rattle.finite_sums.specs.Maps.{Text, Texts, text_cmp, is_among, some_and, keys_where, AreDistinct}
use Rattle.finite_sums.proofs.MapSums.{among-keys_where, distinct-keys_where}
use Rattle.finite_sums.proofs.Texts.{text_total, text_same}
use Rattle.book_rows.specs.declared.rows.Rows.{Rows}
use Rattle.book_rows.specs.declared.rows.TxRow.{TxRow}
use Rattle.book_rows.specs.declared.rows.AccountRow.{AccountRow}
use Rattle.book_rows.specs.declared.rows.CategoryMappingRow.{CategoryMappingRow}
use Rattle.book_rows.specs.declared.column.Dataset.{Dataset}
use Rattle.book_rows.specs.declared.column.Dataset.TheVariants.{Accounts, Transactions, CategoryMapping}
use Rattle.book_rows.specs.declared.column.Column.{Column}
use Rattle.book_rows.specs.declared.column.Column.TheVariants.{Tombstone, Offbudget, TransferId}
use Rattle.book_rows.specs.Columns.{dataset_of, column_of}
use Rattle.book_rows.specs.Kinds.{flag_of, text_of}
use Rattle.book_rows.specs.Tables.{Table, with_column}
use Rattle.book_rows.specs.Rules.{account_table, tx_table, category_mapping_table, with_account_column, with_tx_column, with_category_mapping_column}
use Rattle.book_rows.specs.Rows.{with_cell, dataset_kind}
use Rattle.book_rows.specs.Parts.{is_child_of, is_in_account, is_in_category}
use Rattle.envelope_cells.proofs.Among.{same_texts, itself, or_left, or_right, or_either, among-append}
use Rattle.dirty_cells.specs.Changes.{Change, Within, with_fields, AreDifferent, governs, differ, same_text, sets_offbudget, sets_tombstone, sets_target, account_governs, tx_governs, mapping_governs}
use Rattle.dirty_cells.specs.Governing.{governed, only_where, tx_set, account_set, parent_set, mapping_set, of_known, of_change, txs_by, accounts_by, parents_by, mappings_by, touched_list, distinct, governed_by, listed_by}
use Rattle.dirty_cells.specs.Marking.{dataset_with, set_in}
use Rattle.dirty_cells.specs.Bound.{same_dataset, changed, turns, before_or_after, of_account, of_parent, of_mapping, pairs, touched_txs}
use Rattle.dirty_cells.specs.declared.touching.Governor.{Governor}
use Rattle.dirty_cells.specs.declared.touching.Governor.TheVariants.{Account, Parent, Mapping}
use Rattle.dirty_cells.proofs.Counting.{weighs_less, few, among-distinct, are_distinct}
use Rattle.dirty_cells.proofs.Gathered.{among_flat}
use Rattle.dirty_cells.proofs.Turning.{there_stays, there_then, told_then, turns_by}

-- ---- of all changes, and of one of them
pub all_both : {X : Type 0} (P Q : X → Type 0) (xs : List X) → AllByRecursion P xs → AllByRecursion Q xs → AllByRecursion (λ x. P x × Q x) xs
all_both P Q [] p q = tt
all_both P Q (x ∷ xs) p q = ((p.0, q.0), all_both P Q xs p.1 q.1)

pub of_flat_all : {X : Type 0} (f : X → List Text) (Q : X → Type 0) (P : Type 0) (xs : List X) (q : Text) → AllByRecursion Q xs → is_among text_cmp (flat_map f xs) q ≡ true → ((x : X) → Q x → is_among text_cmp (f x) q ≡ true → P) → P
of_flat_all f Q P [] q a h go = absurd (true≢false (sym h))
of_flat_all f Q P (x ∷ xs) q a h go = or_either (is_among text_cmp (f x) q) (is_among text_cmp (flat_map f xs) q) (sym (among-append (f x) (flat_map f xs) q) ∙ h) (λ k. go x a.0 k) (λ k. of_flat_all f Q P xs q a.1 k go)

pub of_flat_among : (f : Text → List Text) (P : Type 0) (xs : List Text) (q : Text) → is_among text_cmp (flat_map f xs) q ≡ true → ((x : Text) → is_among text_cmp xs x ≡ true → is_among text_cmp (f x) q ≡ true → P) → P
of_flat_among f P [] q h go = absurd (true≢false (sym h))
of_flat_among f P (x ∷ xs) q h go = or_either (is_among text_cmp (f x) q) (is_among text_cmp (flat_map f xs) q) (sym (among-append (f x) (flat_map f xs) q) ∙ h)
    (λ k. go x (or_left _ _ (itself x)) k)
    (λ k. of_flat_among f P xs q k (λ y inside found. go y (or_right (eq_by_cmp text_cmp y x) _ inside) found))

-- the row of a change of a dataset is one of those that change
module _ (d : Dataset) (is : same_dataset d d ≡ true) where
  abbrev set_rows : List Change → List Text
  set_rows xs = map (λ c. c.0.row) (filter (λ c. some_and (same_dataset d) (set_in c)) xs)

  listed_rows : (ys : List Text) (xs : List Change) → Within (set_rows xs) ys → AllByRecursion (λ c. set_in c ≡ Some d → is_among text_cmp ys c.0.row ≡ true) xs
  listed_rows ys [] w = tt
  listed_rows ys (c ∷ xs) w = by (some_and (same_dataset d) (set_in c)) refl w (listed_rows ys xs)
    where
      by : (b : Bool) → some_and (same_dataset d) (set_in c) ≡ b → Within (map (λ c. c.0.row) (cond b (c ∷ filter (λ c. some_and (same_dataset d) (set_in c)) xs) (filter (λ c. some_and (same_dataset d) (set_in c)) xs))) ys
          → (Within (set_rows xs) ys → AllByRecursion (λ c. set_in c ≡ Some d → is_among text_cmp ys c.0.row ≡ true) xs)
          → (set_in c ≡ Some d → is_among text_cmp ys c.0.row ≡ true) × AllByRecursion (λ c. set_in c ≡ Some d → is_among text_cmp ys c.0.row ≡ true) xs
      by true e w rest = ((λ h. w.each c.0.row (or_left _ _ (itself c.0.row))), rest (record { each = λ q h. w.each q (or_right (eq_by_cmp text_cmp q c.0.row) _ h) }))
      by false e w rest = ((λ h. absurd (true≢false (sym (ap (some_and (same_dataset d)) h ∙ is) ∙ e))), rest w)

  pub all_changed : (cs : List Change) → AllByRecursion (λ c. set_in c ≡ Some d → is_among text_cmp (changed d cs) c.0.row ≡ true) cs
  all_changed cs = listed_rows (changed d cs) cs (record { each = λ q h. among-distinct (set_rows cs) q ∙ h })

-- ---- the field that a text comes of
from_known : (f : Dataset → Column → List Text) (P : Type 0) (o : Option Dataset) (p : Option Column) (q : Text) → is_among text_cmp (of_known f o p) q ≡ true
    → ((d : Dataset) (k : Column) → o ≡ Some d → p ≡ Some k → is_some (dataset_kind d k) ≡ true → is_among text_cmp (f d k) q ≡ true → P) → P
from_known f P None p q h go = absurd (true≢false (sym h))
from_known f P (Some d) None q h go = absurd (true≢false (sym h))
from_known f P (Some d) (Some k) q h go = by (is_some (dataset_kind d k)) refl h
  where
    by : (b : Bool) → is_some (dataset_kind d k) ≡ b → is_among text_cmp (if b then f d k else []) q ≡ true → P
    by true e h = go d k refl refl e h
    by false e h = absurd (true≢false (sym h))

set_known : (c : Change) (d : Dataset) (k : Column) → dataset_of c.0.dataset ≡ Some d → column_of c.0.column ≡ Some k → is_some (dataset_kind d k) ≡ true → set_in c ≡ Some d
set_known c d k e h i = ap (λ o. dataset_with o (column_of c.0.column)) e ∙ ap (dataset_with (Some d)) h ∙ ap (λ (b : Bool). if b then Some d else None) i

only_passes : (b : Bool) (id q : Text) → is_among text_cmp (only_where b id) q ≡ true → (b ≡ true) × (q ≡ id)
only_passes true id q h = (refl, or_either (eq_by_cmp text_cmp q id) false h (λ e. same_texts q id e) (λ e. absurd (true≢false (sym e))))
only_passes false id q h = absurd (true≢false (sym h))

-- ---- one dataset whose rows govern
module _ {Row A : Type 0} (t : Table Row) (d : Dataset) (rows_of : Rows → Texts Row) (kinds : (j : Column) → dataset_kind d j ≡ t.kind j)
    (own : (j : Column) (id : Text) (v : Value) (s : Rows) → rows_of (with_cell d id j v s) ≡ with_column t id j v (rows_of s))
    (others : (e : Dataset) → (e ≡ d) ⊎ ((j : Column) (id : Text) (v : Value) (s : Rows) → rows_of (with_cell e id j v s) ≡ rows_of s))
    (k : Column) (read : Row → A) (val : Value → A) (kind : is_some (dataset_kind d k) ≡ true) (sets : (v : Value) (x : Row) → read (t.set k v x) ≡ val v)
    (keeps : (j : Column) → (j ≡ k) ⊎ ((v : Value) (x : Row) → read (t.set j v x) ≡ read x))
    (tests : Column → Bool) (only : (j : Column) → tests j ≡ true → j ≡ k) (test : Row → Value → Bool) (same : Row → Row → Bool)
    (differs : (x y : Row) (v : Value) → test x v ≡ true → read y ≡ val v → same x y ≡ false)
    (is : same_dataset d d ≡ true) (r : Rows) (set : Dataset → Column → Text → Value → List Text)
    (from : (e : Dataset) (j : Column) (id : Text) (v : Value) (q : Text) → is_among text_cmp (set e j id v) q ≡ true → (e ≡ d) × (governs tests test (rows_of r) id j v ≡ true) × (q ≡ id)) where
  pub turned : (cs : List Change) → AreDifferent cs → (q : Text) → is_among text_cmp (flat_map (of_change set) cs) q ≡ true → (is_among text_cmp (changed d cs) q ≡ true) × (turns same (rows_of r) (rows_of (with_fields r cs)) q ≡ true)
  turned cs apart q h =
      let s = with_fields r cs in
      let there = there_then t d rows_of kinds own others cs r in
      let tells = told_then t d rows_of kinds own others k read val kind sets keeps cs r apart in
      let rows = all_changed d is cs in
      of_flat_all (of_change set) _ ((is_among text_cmp (changed d cs) q ≡ true) × (turns same (rows_of r) (rows_of s) q ≡ true)) cs q (all_both _ _ cs there (all_both _ _ cs tells rows)) h
      (λ c facts inside. from_known (λ (e : Dataset) (j : Column). set e j c.0.row c.1) ((is_among text_cmp (changed d cs) q ≡ true) × (turns same (rows_of r) (rows_of s) q ≡ true))
      (dataset_of c.0.dataset) (column_of c.0.column) q inside
      (λ e j at_e at_j known found.
      let f = from e j c.0.row c.1 q found in
      let at_d : dataset_of c.0.dataset ≡ Some d = at_e ∙ ap Some f.0 in
      let known_d : is_some (dataset_kind d j) ≡ true = ap (λ z. is_some (dataset_kind z j)) (sym f.0) ∙ known in (
        subst (λ z. is_among text_cmp (changed d cs) z ≡ true) (sym f.2) (facts.1.1 (set_known c d j at_d at_j known_d)),
        subst (λ z. turns same (rows_of r) (rows_of s) z ≡ true) (sym f.2)
            (turns_by t d rows_of kinds own others k read val kind sets keeps tests only test same differs r s c j (at_d, at_j, known_d) (facts.0 j (at_d, at_j, known_d)) facts.1.0 f.1),
      )))

-- ---- accounts
account_others : (e : Dataset) → (e ≡ Accounts) ⊎ ((j : Column) (id : Text) (v : Value) (s : Rows) → (with_cell e id j v s).accounts ≡ s.accounts)
account_others Accounts = inl refl
account_others other = inr (λ j id v s. refl)

account_keeps : (j : Column) → (j ≡ Offbudget) ⊎ ((v : Value) (x : AccountRow) → (with_account_column j v x).offbudget ≡ x.offbudget)
account_keeps Offbudget = inl refl
account_keeps other = inr (λ v x. refl)

only_offbudget : (j : Column) → sets_offbudget j ≡ true → j ≡ Offbudget
only_offbudget Offbudget h = refl
only_offbudget other h = absurd (true≢false (sym h))

from_account : (r : Rows) (e : Dataset) (j : Column) (id : Text) (v : Value) (q : Text) → is_among text_cmp (account_set r e j id v) q ≡ true → (e ≡ Accounts) × (account_governs r id j v ≡ true) × (q ≡ id)
from_account r Accounts j id v q h = let p = only_passes (account_governs r id j v) id q h in (refl, p.0, p.1)
from_account r other j id v q h = absurd (true≢false (sym h))

pub accounts_turn : (r : Rows) (cs : List Change) → AreDifferent cs → (q : Text) → is_among text_cmp (flat_map (accounts_by r) cs) q ≡ true
    → (is_among text_cmp (changed Accounts cs) q ≡ true) × (turns (λ (x y : AccountRow). not (differ x.offbudget y.offbudget)) r.accounts (with_fields r cs).accounts q ≡ true)
accounts_turn r cs apart q h =
    turned account_table Accounts (λ s. s.accounts) (λ j. refl) (λ j id v s. refl) account_others Offbudget (λ a. a.offbudget) flag_of refl (λ v x. refl) account_keeps sets_offbudget only_offbudget
    (λ a v. differ a.offbudget (flag_of v)) (λ (x y : AccountRow). not (differ x.offbudget y.offbudget)) (λ x y v t e. ap (λ b. not (differ x.offbudget b)) e ∙ ap not t) refl r (account_set r) (from_account r) cs apart q h

-- ---- transactions with parts
tx_others : (e : Dataset) → (e ≡ Transactions) ⊎ ((j : Column) (id : Text) (v : Value) (s : Rows) → (with_cell e id j v s).txs ≡ s.txs)
tx_others Transactions = inl refl
tx_others other = inr (λ j id v s. refl)

tx_keeps : (j : Column) → (j ≡ Tombstone) ⊎ ((v : Value) (x : TxRow) → (with_tx_column j v x).tombstone ≡ x.tombstone)
tx_keeps Tombstone = inl refl
tx_keeps other = inr (λ v x. refl)

only_tombstone : (j : Column) → sets_tombstone j ≡ true → j ≡ Tombstone
only_tombstone Tombstone h = refl
only_tombstone other h = absurd (true≢false (sym h))

from_parent : (r : Rows) (e : Dataset) (j : Column) (id : Text) (v : Value) (q : Text) → is_among text_cmp (parent_set r e j id v) q ≡ true → (e ≡ Transactions) × (tx_governs r id j v ≡ true) × (q ≡ id)
from_parent r Transactions j id v q h = let p = only_passes (tx_governs r id j v) id q h in (refl, p.0, p.1)
from_parent r other j id v q h = absurd (true≢false (sym h))

pub parents_turn : (r : Rows) (cs : List Change) → AreDifferent cs → (q : Text) → is_among text_cmp (flat_map (parents_by r) cs) q ≡ true
    → (is_among text_cmp (changed Transactions cs) q ≡ true) × (turns (λ (x y : TxRow). not (differ x.tombstone y.tombstone)) r.txs (with_fields r cs).txs q ≡ true)
parents_turn r cs apart q h =
    turned tx_table Transactions (λ s. s.txs) (λ j. refl) (λ j id v s. refl) tx_others Tombstone (λ x. x.tombstone) flag_of refl (λ v x. refl) tx_keeps sets_tombstone only_tombstone
    (λ x v. differ x.tombstone (flag_of v)) (λ (x y : TxRow). not (differ x.tombstone y.tombstone)) (λ x y v t e. ap (λ b. not (differ x.tombstone b)) e ∙ ap not t) refl r (parent_set r) (from_parent r) cs apart q h

-- ---- mappings
mapping_others : (e : Dataset) → (e ≡ CategoryMapping) ⊎ ((j : Column) (id : Text) (v : Value) (s : Rows) → (with_cell e id j v s).category_mappings ≡ s.category_mappings)
mapping_others CategoryMapping = inl refl
mapping_others other = inr (λ j id v s. refl)

mapping_keeps : (j : Column) → (j ≡ TransferId) ⊎ ((v : Value) (x : CategoryMappingRow) → (with_category_mapping_column j v x).transfer_id ≡ x.transfer_id)
mapping_keeps TransferId = inl refl
mapping_keeps other = inr (λ v x. refl)

only_target : (j : Column) → sets_target j ≡ true → j ≡ TransferId
only_target TransferId h = refl
only_target other h = absurd (true≢false (sym h))

from_mapping : (r : Rows) (e : Dataset) (j : Column) (id : Text) (v : Value) (q : Text) → is_among text_cmp (mapping_set r e j id v) q ≡ true → (e ≡ CategoryMapping) × (mapping_governs r id j v ≡ true) × (q ≡ id)
from_mapping r CategoryMapping j id v q h = let p = only_passes (mapping_governs r id j v) id q h in (refl, p.0, p.1)
from_mapping r other j id v q h = absurd (true≢false (sym h))

unsame : (b : Bool) → not b ≡ true → b ≡ false
unsame true h = absurd (true≢false (sym h))
unsame false h = refl

pub mappings_turn : (r : Rows) (cs : List Change) → AreDifferent cs → (q : Text) → is_among text_cmp (flat_map (mappings_by r) cs) q ≡ true
    → (is_among text_cmp (changed CategoryMapping cs) q ≡ true) × (turns (λ (x y : CategoryMappingRow). same_text x.transfer_id y.transfer_id) r.category_mappings (with_fields r cs).category_mappings q ≡ true)
mappings_turn r cs apart q h =
    turned category_mapping_table CategoryMapping (λ s. s.category_mappings) (λ j. refl) (λ j id v s. refl) mapping_others TransferId (λ m. m.transfer_id) text_of refl (λ v x. refl) mapping_keeps sets_target only_target
    (λ m v. not (same_text m.transfer_id (text_of v))) (λ (x y : CategoryMappingRow). same_text x.transfer_id y.transfer_id)
    (λ x y v t e. ap (same_text x.transfer_id) e ∙ unsame (same_text x.transfer_id (text_of v)) t) refl r (mapping_set r) (from_mapping r) cs apart q h

-- ---- transactions before or after
in_filtered : {X : Type 0} (p : Text × X → Bool) (q : Text) (y : X) (es : List (Text × X)) → find text_cmp q es ≡ Some y → p (q, y) ≡ true → is_among text_cmp (map (λ e. e.0) (filter p es)) q ≡ true
in_filtered p q y [] h k = absurd (cc)
in_filtered {X} p q y (e ∷ es) h k = by (eq_by_cmp text_cmp q e.0) refl h (in_filtered p q y es)
  where
    some_same : (a b : X) → Some a ≡ Some b → a ≡ b
    some_same a b h = cc

    kept : (b : Bool) → b ≡ true → eq_by_cmp text_cmp q e.0 ≡ true → is_among text_cmp (map (λ e. e.0) (cond b (e ∷ filter p es) (filter p es))) q ≡ true
    kept true i t = or_left _ _ t
    kept false i t = absurd (true≢false (sym i))

    past : (b : Bool) → is_among text_cmp (map (λ e. e.0) (filter p es)) q ≡ true → is_among text_cmp (map (λ e. e.0) (cond b (e ∷ filter p es) (filter p es))) q ≡ true
    past true i = or_right (eq_by_cmp text_cmp q e.0) _ i
    past false i = i

    by : (b : Bool) → eq_by_cmp text_cmp q e.0 ≡ b → cond b (Some e.1) (find text_cmp q es) ≡ Some y → (find text_cmp q es ≡ Some y → p (q, y) ≡ true → is_among text_cmp (map (λ e. e.0) (filter p es)) q ≡ true)
        → is_among text_cmp (map (λ e. e.0) (cond (p e) (e ∷ filter p es) (filter p es))) q ≡ true
    by true t f rest = kept (p e) (ap (λ i. p (i, e.1)) (sym (same_texts q e.0 t)) ∙ ap (λ z. p (q, z)) (some_same e.1 y f) ∙ k) t
    by false t f rest = past (p e) (rest f k)

module _ (r s : Rows) (stays : (q : Text) → is_some (get r.txs q) ≡ true → is_some (get s.txs q) ≡ true) where
  there : (q : Text) (p : TxRow → Bool) (o : Option TxRow) → some_and p o ≡ true → is_some o ≡ true
  there q p None h = absurd (true≢false (sym h))
  there q p (Some x) h = refl

  found_after : (p : TxRow → Bool) (q : Text) (o : Option TxRow) → get s.txs q ≡ o → is_some o ≡ true → some_and p (get r.txs q) ≡ true → is_among text_cmp (before_or_after p r s) q ≡ true
  found_after p q None e h k = absurd (true≢false (sym h))
  found_after p q (Some y) e h k = in_filtered (λ e. p e.1 || some_and p (get r.txs e.0)) q y (entries s.txs) (sym (get-entries s.txs q) ∙ e) (or_right (p y) _ k)

  before_within : (p : TxRow → Bool) → Within (keys_where p (entries r.txs)) (before_or_after p r s)
  before_within p = record {
    each = λ q h.
        let passes : some_and p (get r.txs q) ≡ true = sym (among-keys_where text_total text_same p r.txs q) ∙ h in
        found_after p q (get s.txs q) refl (stays q (there q p (get r.txs q) passes)) passes;
  }

-- ---- one kind of rows that govern
governed_distinct : (r : Rows) (g : Governor) (a : Text) → AreDistinct text_cmp (governed r g a)
governed_distinct r Account a = distinct-keys_where text_total text_same (is_in_account a) r.txs
governed_distinct r Parent a = distinct-keys_where text_total text_same (is_child_of a) r.txs
governed_distinct r Mapping a = distinct-keys_where text_total text_same (is_in_category a) r.txs

weight_on : (f g : Text → ℕ) (xs : List Text) → ((q : Text) → is_among text_cmp xs q ≡ true → f q ≤ g q) → weight f xs ≤ weight g xs
weight_on f g [] h = omega arith
weight_on f g (x ∷ xs) h = omega (arith, h x (or_left _ (is_among text_cmp xs x) (itself x)), weight_on f g xs (λ q k. h q (or_right (eq_by_cmp text_cmp q x) _ k)))

module _ (r : Rows) (g : Governor) (rows asked : List Text) (gives : Text → List Text)
    (holds : (a : Text) → is_among text_cmp asked a ≡ true → (is_among text_cmp rows a ≡ true) × Within (governed r g a) (gives a)) where
  part_within : Within (flat_map (governed r g) asked) (flat_map gives rows)
  part_within = record {
    each = λ q h. of_flat_among (governed r g) (is_among text_cmp (flat_map gives rows) q ≡ true) asked q h (λ a inside found.
        let p = holds a inside in
        among_flat gives rows a q p.0 (p.1.each q found));
  }

  part_weight : governed_by r g asked ≤ weight (λ id. length (gives id)) rows
  part_weight =
      let each = weight_on (λ id. length (governed r g id)) (λ id. length (gives id)) (distinct asked) (λ a inside. few (governed r g a) (gives a) (governed_distinct r g a) (holds a (sym (among-distinct asked a) ∙ inside)).1) in
      let all = weighs_less (λ id. length (gives id)) (distinct asked) rows (are_distinct asked) (record { each = λ a inside. (holds a (sym (among-distinct asked a) ∙ inside)).0 }) in
      omega (arith, each, all)

-- ---- all of them
module _ (r : Rows) (cs : List Change) (apart : AreDifferent cs) where
  abbrev s : Rows
  s = with_fields r cs

  stays : (q : Text) → is_some (get r.txs q) ≡ true → is_some (get s.txs q) ≡ true
  stays q h = there_stays tx_table Transactions (λ s. s.txs) (λ j. refl) (λ j id v s. refl) tx_others cs r q h

  where_turned : (b : Bool) (xs ys : List Text) → b ≡ true → Within xs ys → Within xs (if b then ys else [])
  where_turned true xs ys e w = w
  where_turned false xs ys e w = absurd (true≢false (sym e))

  by_accounts : (a : Text) → is_among text_cmp (flat_map (accounts_by r) cs) a ≡ true → (is_among text_cmp (changed Accounts cs) a ≡ true) × Within (governed r Account a) (of_account r s a)
  by_accounts a h = let p = accounts_turn r cs apart a h in (p.0, where_turned _ (governed r Account a) (before_or_after (is_in_account a) r s) p.1 (before_within r s stays (is_in_account a)))

  by_parents : (a : Text) → is_among text_cmp (flat_map (parents_by r) cs) a ≡ true → (is_among text_cmp (changed Transactions cs) a ≡ true) × Within (governed r Parent a) (of_parent r s a)
  by_parents a h = let p = parents_turn r cs apart a h in (p.0, where_turned _ (governed r Parent a) (before_or_after (is_child_of a) r s) p.1 (before_within r s stays (is_child_of a)))

  by_mappings : (a : Text) → is_among text_cmp (flat_map (mappings_by r) cs) a ≡ true → (is_among text_cmp (changed CategoryMapping cs) a ≡ true) × Within (governed r Mapping a) (of_mapping r s a)
  by_mappings a h = let p = mappings_turn r cs apart a h in (p.0, where_turned _ (governed r Mapping a) (before_or_after (is_in_category a) r s) p.1 (before_within r s stays (is_in_category a)))

  pub no_more_listed : listed_by r cs ≤ pairs r s cs
  no_more_listed =
      omega (
        arith,
        part_weight r Account (changed Accounts cs) (flat_map (accounts_by r) cs) (of_account r s) by_accounts,
        part_weight r Parent (changed Transactions cs) (flat_map (parents_by r) cs) (of_parent r s) by_parents,
        part_weight r Mapping (changed CategoryMapping cs) (flat_map (mappings_by r) cs) (of_mapping r s) by_mappings,
      )

  from_tx : (d : Dataset) (id q : Text) → is_among text_cmp (tx_set d id) q ≡ true → (d ≡ Transactions) × (q ≡ id)
  from_tx Transactions id q h = (refl, or_either (eq_by_cmp text_cmp q id) false h (λ e. same_texts q id e) (λ e. absurd (true≢false (sym e))))
  from_tx other id q h = absurd (true≢false (sym h))

  own_rows : (q : Text) → is_among text_cmp (flat_map txs_by cs) q ≡ true → is_among text_cmp (changed Transactions cs) q ≡ true
  own_rows q h = of_flat_all txs_by _ (is_among text_cmp (changed Transactions cs) q ≡ true) cs q (all_changed Transactions refl cs) h (λ c fact inside.
      from_known (λ (d : Dataset) (k : Column). tx_set d c.0.row) (is_among text_cmp (changed Transactions cs) q ≡ true) (dataset_of c.0.dataset) (column_of c.0.column) q inside
      (λ d k at_d at_k known found.
      let f = from_tx d c.0.row q found in
      subst (λ z. is_among text_cmp (changed Transactions cs) z ≡ true) (sym f.1) (fact (set_known c d k at_d at_k known ∙ ap Some f.0))))

  or_both : (a b c e : Bool) → (a ≡ true → c ≡ true) → (b ≡ true → e ≡ true) → (a || b) ≡ true → (c || e) ≡ true
  or_both a b c e f g h = or_either a b h (λ k. or_left c e (f k)) (λ k. or_right c e (g k))

  append_within : (us vs xs ys : List Text) → ((q : Text) → is_among text_cmp us q ≡ true → is_among text_cmp xs q ≡ true) → ((q : Text) → is_among text_cmp vs q ≡ true → is_among text_cmp ys q ≡ true)
      → (q : Text) → is_among text_cmp (us ++ vs) q ≡ true → is_among text_cmp (xs ++ ys) q ≡ true
  append_within us vs xs ys f g q h = among-append xs ys q ∙ or_both (is_among text_cmp us q) (is_among text_cmp vs q) (is_among text_cmp xs q) (is_among text_cmp ys q) (f q) (g q) (sym (among-append us vs q) ∙ h)

  pub listed_within : (q : Text) → is_among text_cmp (touched_list r cs) q ≡ true → is_among text_cmp (touched_txs r s cs) q ≡ true
  listed_within =
      let t = flat_map txs_by cs in
      let a = flat_map (governed r Account) (flat_map (accounts_by r) cs) in
      let p = flat_map (governed r Parent) (flat_map (parents_by r) cs) in
      let m = flat_map (governed r Mapping) (flat_map (mappings_by r) cs) in
      let x = changed Transactions cs in
      let xa = flat_map (of_account r s) (changed Accounts cs) in
      let xp = flat_map (of_parent r s) (changed Transactions cs) in
      let xm = flat_map (of_mapping r s) (changed CategoryMapping cs) in
      append_within ((t ++ a) ++ p) m ((x ++ xa) ++ xp) xm
      (append_within (t ++ a) p (x ++ xa) xp
      (append_within t a x xa own_rows (part_within r Account (changed Accounts cs) (flat_map (accounts_by r) cs) (of_account r s) by_accounts).each)
      (part_within r Parent (changed Transactions cs) (flat_map (parents_by r) cs) (of_parent r s) by_parents).each)
      (part_within r Mapping (changed CategoryMapping cs) (flat_map (mappings_by r) cs) (of_mapping r s) by_mappings).each
