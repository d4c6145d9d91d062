-- What changes of fields touch, and what they leave.
use Rattle.std.proofs.Common.{◌≡◌, Bool, true, false, cond, Option, Some, None, List, [], ◌∷◌, refl, ap, sym, ◌∙◌, subst, if◌then◌else◌, inl, inr, true≢false}
use Rattle.std.specs.Prelude.{◌&&◌, ◌⊎◌, not, is_some, unwrap_or}
use Rattle.std.specs.Option.{option_map}
use Rattle.std.specs.Ordering.{eq_by_cmp}
use Rattle.std.specs.FinMap as map
use Rattle.field_values.specs.declared.value.Value.{Value}
use Rattle.finite_sums.specs.Maps.{Text, Texts, text_cmp, is_among, some_and, keys_where, AreDistinct}
use Rattle.finite_sums.proofs.MapSums.{among-keys_where}
use Rattle.finite_sums.proofs.Texts.{text_total, text_same}
use Rattle.book_rows.specs.declared.rows.Rows.{Rows}
use Rattle.book_rows.specs.declared.rows.TxRow.{TxRow}
use Rattle.book_rows.specs.declared.rows.AccountRow.{AccountRow}
use Rattle.book_rows.specs.declared.rows.CategoryMappingRow.{CategoryMappingRow}
use Rattle.book_rows.specs.declared.column.Dataset.{Dataset}
use Rattle.book_rows.specs.declared.column.Dataset.TheVariants.{Accounts, Transactions, CategoryMapping}
use Rattle.book_rows.specs.declared.column.Column.{Column}
use Rattle.book_rows.specs.declared.column.Column.TheVariants.{Tombstone, Offbudget, TransferId}
use Rattle.book_rows.specs.Columns.{dataset_of, column_of}
use Rattle.book_rows.specs.Kinds.{flag_of, text_of}
use Rattle.book_rows.specs.Tables.{Table, blank_row, with_column}
use Rattle.book_rows.specs.Rules.{account_table, tx_table, category_mapping_table, with_account_column, with_tx_column, with_category_mapping_column}
use Rattle.book_rows.specs.Rows.{with_known, with_cell, with_field}
use Rattle.book_rows.specs.Live.{is_on_budget, has_parent, category_of, mapped_category, target_of}
use Rattle.book_rows.specs.Parts.{children_of, account_txs, category_txs, is_child_of, is_in_account, is_in_category, is_text}
use Rattle.book_rows.proofs.Keyed.{others_stay}
use Rattle.envelope_cells.proofs.Among.{same_texts, itself, or_left, or_right}
use Rattle.dirty_cells.specs.Changes.{Change, with_fields, differ, same_text, governs, account_governs, tx_governs, mapping_governs, sets_offbudget, sets_tombstone, sets_target, Within, Spares}
use Rattle.dirty_cells.proofs.Touches.{touched_by, touched_known, touched, AreTouched}

no_some : {X P : Type 0} (x : X) → None ≡ Some x → P
no_some x h = absurd (cc)

some_same : {X : Type 0} (x y : X) → Some x ≡ Some y → x ≡ y
some_same x y h = cc

-- ---- a row that governs others, and what it tells of them
module _ {Row P : Type 0} (t : Table Row) (tells : Row → P) (m : Texts Row) (G : Text → Type 0) where
  abbrev pub Keeps : Texts Row → Type 0
  Keeps n = (a : Text) → (option_map tells (map.get m a) ≡ option_map tells (map.get n a)) ⊎ G a

  module _ (n : Texts Row) (id : Text) (c : Column) (v : Value) (keeps : Keeps n) (sets : (x y : Row) → tells x ≡ tells y → tells (t.set c v x) ≡ tells (t.set c v y)) where
    abbrev after : Row
    after = t.set c v (unwrap_or (map.get n id) (blank_row t id))

    told : (x : Row) → map.get m id ≡ Some x → tells (t.set c v x) ≡ tells x → (o : Option Row) → map.get n id ≡ o → Some (tells x) ≡ option_map tells o
        → option_map tells (map.get m id) ≡ Some (tells (t.set c v (unwrap_or o (blank_row t id))))
    told x found same None e h = no_some (tells x) (sym h)
    told x found same (Some y) e h = ap (option_map tells) found ∙ ap Some (sym same ∙ sets x y (some_same (tells x) (tells y) h))

    here : (x : Row) → map.get m id ≡ Some x → tells (t.set c v x) ≡ tells x → (option_map tells (map.get m id) ≡ option_map tells (map.get n id)) ⊎ G id → (option_map tells (map.get m id) ≡ Some (tells after)) ⊎ G id
    here x found same (inl e) = inl (told x found same (map.get n id) refl (ap (option_map tells) (sym found) ∙ e))
    here x found same (inr g) = inr g

    set_here : G id ⊎ ((x : Row) × (map.get m id ≡ Some x) × (tells (t.set c v x) ≡ tells x)) → (option_map tells (map.get m id) ≡ Some (tells after)) ⊎ G id
    set_here (inl g) = inr g
    set_here (inr h) = here h.0 h.1 h.2 (keeps id)

    pub keeps_set : (is_some (t.kind c) ≡ true → G id ⊎ ((x : Row) × (map.get m id ≡ Some x) × (tells (t.set c v x) ≡ tells x))) → Keeps (with_column t id c v n)
    keeps_set h a = by (is_some (t.kind c)) refl
      where
        at : (b : Bool) → eq_by_cmp text_cmp a id ≡ b → is_some (t.kind c) ≡ true → (option_map tells (map.get m a) ≡ option_map tells (cond b (Some after) (map.get n a))) ⊎ G a
        at true e k = subst (λ i. (option_map tells (map.get m i) ≡ Some (tells after)) ⊎ G i) (sym (same_texts a id e)) (set_here (h k))
        at false e k = keeps a

        by : (b : Bool) → is_some (t.kind c) ≡ b → (option_map tells (map.get m a) ≡ option_map tells (map.get (if b then map.insert n id after else n) a)) ⊎ G a
        by true k = subst (λ o. (option_map tells (map.get m a) ≡ option_map tells o) ⊎ G a) (sym (map.get-insert text_total n id after a)) (at (eq_by_cmp text_cmp a id) refl k)
        by false k = keeps a

-- ---- accounts, and transactions that have parts
flags_agree : (a b : Bool) → differ a b ≡ false → b ≡ a
flags_agree true true h = refl
flags_agree true false h = absurd (true≢false h)
flags_agree false true h = absurd (true≢false h)
flags_agree false false h = refl

account_sets : (c : Column) (v : Value) (x y : AccountRow) → x.offbudget ≡ y.offbudget → (with_account_column c v x).offbudget ≡ (with_account_column c v y).offbudget
account_sets Offbudget v x y h = refl
account_sets other v x y h = h

account_tells : (c : Column) (v : Value) (x : AccountRow) → (sets_offbudget c && differ x.offbudget (flag_of v)) ≡ false → (with_account_column c v x).offbudget ≡ x.offbudget
account_tells Offbudget v x h = flags_agree x.offbudget (flag_of v) h
account_tells other v x h = refl

tx_sets : (c : Column) (v : Value) (x y : TxRow) → x.tombstone ≡ y.tombstone → (with_tx_column c v x).tombstone ≡ (with_tx_column c v y).tombstone
tx_sets Tombstone v x y h = refl
tx_sets other v x y h = h

tx_tells : (c : Column) (v : Value) (x : TxRow) → (sets_tombstone c && differ x.tombstone (flag_of v)) ≡ false → (with_tx_column c v x).tombstone ≡ x.tombstone
tx_tells Tombstone v x h = flags_agree x.tombstone (flag_of v) h
tx_tells other v x h = refl

mapping_sets : (c : Column) (v : Value) (x y : CategoryMappingRow) → x.transfer_id ≡ y.transfer_id → (with_category_mapping_column c v x).transfer_id ≡ (with_category_mapping_column c v y).transfer_id
mapping_sets TransferId v x y h = refl
mapping_sets other v x y h = h

texts_agree : (a b : Option Text) → not (same_text a b) ≡ false → b ≡ a
texts_agree None None h = refl
texts_agree None (Some b) h = absurd (true≢false h)
texts_agree (Some a) None h = absurd (true≢false h)
texts_agree (Some a) (Some b) h = by (eq_by_cmp text_cmp a b) refl h
  where
    by : (t : Bool) → eq_by_cmp text_cmp a b ≡ t → not t ≡ false → Some b ≡ Some a
    by true e k = ap Some (sym (same_texts a b e))
    by false e k = absurd (true≢false k)

mapping_tells : (c : Column) (v : Value) (x : CategoryMappingRow) → (sets_target c && not (same_text x.transfer_id (text_of v))) ≡ false → (with_category_mapping_column c v x).transfer_id ≡ x.transfer_id
mapping_tells TransferId v x h = texts_agree x.transfer_id (text_of v) h
mapping_tells other v x h = refl

-- a row that governs nothing was there, and tells the same after
module _ {Row P : Type 0} (t : Table Row) (told : Row → P) (turns : Row → Value → Bool) (sets : Column → Bool) (m : Texts Row) (id : Text) (c : Column) (v : Value)
    (tells : (x : Row) → (sets c && turns x v) ≡ false → told (t.set c v x) ≡ told x) where
  pub ungoverned : governs sets turns m id c v ≡ false → (x : Row) × (map.get m id ≡ Some x) × (told (t.set c v x) ≡ told x)
  ungoverned h = by (map.get m id) refl h
    where
      by : (o : Option Row) → map.get m id ≡ o → elim o as (λ _. Bool) [ None ↦ true | Some x ↦ sets c && turns x v ] ≡ false → (x : Row) × (map.get m id ≡ Some x) × (told (t.set c v x) ≡ told x)
      by None e k = absurd (true≢false k)
      by (Some x) e k = (x, e, tells x k)

  pub either : {G : Type 0} → (governs sets turns m id c v ≡ true → G) → G ⊎ ((x : Row) × (map.get m id ≡ Some x) × (told (t.set c v x) ≡ told x))
  either {G} h = by (governs sets turns m id c v) refl
    where
      by : (b : Bool) → governs sets turns m id c v ≡ b → G ⊎ ((x : Row) × (map.get m id ≡ Some x) × (told (t.set c v x) ≡ told x))
      by true e = inl (h e)
      by false e = inr (ungoverned e)

-- ---- what changes leave
record Stays (r s : Rows) (ids : List Text) : Type 0 where
  pub rows : (q : Text) → is_among text_cmp ids q ≡ false → map.get r.txs q ≡ map.get s.txs q
  pub accounts : Keeps account_table (λ a. a.offbudget) r.accounts (λ a. Within (account_txs r a) ids) s.accounts
  pub parents : Keeps tx_table (λ x. x.tombstone) r.txs (λ a. Within (children_of r a) ids) s.txs
  pub mappings : Keeps category_mapping_table (λ m. m.transfer_id) r.category_mappings (λ a. Within (category_txs r a) ids) s.category_mappings

not_here : (ids : List Text) (id q : Text) → is_among text_cmp ids id ≡ true → is_among text_cmp ids q ≡ false → (b : Bool) → eq_by_cmp text_cmp q id ≡ b → b ≡ false
not_here ids id q inside off true e = absurd (true≢false (sym inside ∙ ap (is_among text_cmp ids) (sym (same_texts q id e)) ∙ off))
not_here ids id q inside off false e = refl

module _ (r : Rows) (ids : List Text) where
  guarded : (b g : Bool) (xs : List Text) → Within (if b && g then xs else []) ids → b ≡ true → g ≡ true → Within xs ids
  guarded b g xs h p q = subst (λ (t : Bool). Within (if t then xs else []) ids) {x = b && g} {y = true} (ap (λ t. t && g) p ∙ q) h

  set_account : (s : Rows) (c : Column) (id : Text) (v : Value) → Stays r s ids → Within (touched_by r Accounts c id v) ids → Stays r (with_cell Accounts id c v s) ids
  set_account s c id v st h = record {
    rows = st.rows;
    accounts = keeps_set account_table (λ a. a.offbudget) r.accounts (λ a. Within (account_txs r a) ids) s.accounts id c v st.accounts (account_sets c v)
        (λ k. either account_table (λ a. a.offbudget) (λ a v. differ a.offbudget (flag_of v)) sets_offbudget r.accounts id c v (account_tells c v) (guarded (is_some (account_table.kind c)) (account_governs r id c v) (account_txs r id) h k));
    parents = st.parents;
    mappings = st.mappings;
  }

  set_mapping : (s : Rows) (c : Column) (id : Text) (v : Value) → Stays r s ids → Within (touched_by r CategoryMapping c id v) ids → Stays r (with_cell CategoryMapping id c v s) ids
  set_mapping s c id v st h = record {
    rows = st.rows;
    accounts = st.accounts;
    parents = st.parents;
    mappings = keeps_set category_mapping_table (λ m. m.transfer_id) r.category_mappings (λ a. Within (category_txs r a) ids) s.category_mappings id c v st.mappings (mapping_sets c v)
        (λ k. either category_mapping_table (λ m. m.transfer_id) (λ m v. not (same_text m.transfer_id (text_of v))) sets_target r.category_mappings id c v (mapping_tells c v)
        (guarded (is_some (category_mapping_table.kind c)) (mapping_governs r id c v) (category_txs r id) h k));
  }

  known_tx : (b g : Bool) (id : Text) (xs : List Text) → Within (if b then id ∷ (if g then xs else []) else []) ids → b ≡ true → (is_among text_cmp ids id ≡ true) × (g ≡ true → Within xs ids)
  known_tx b g id xs h p =
      let all : Within (id ∷ (if g then xs else [])) ids = subst (λ (t : Bool). Within (if t then id ∷ (if g then xs else []) else []) ids) p h in (
        all.each id (or_left _ _ (itself id)),
        λ e. record { each = λ q k. all.each q (or_right (eq_by_cmp text_cmp q id) _ (ap (λ (t : Bool). is_among text_cmp (if t then xs else []) q) e ∙ k)) },
      )

  set_tx : (s : Rows) (c : Column) (id : Text) (v : Value) → Stays r s ids → Within (touched_by r Transactions c id v) ids → Stays r (with_cell Transactions id c v s) ids
  set_tx s c id v st h = record {
    rows = λ q off. st.rows q off ∙ sym (same_row q off (is_some (tx_table.kind c)) refl);
    accounts = st.accounts;
    parents = keeps_set tx_table (λ x. x.tombstone) r.txs (λ a. Within (children_of r a) ids) s.txs id c v st.parents (tx_sets c v)
        (λ k. either tx_table (λ x. x.tombstone) (λ x v. differ x.tombstone (flag_of v)) sets_tombstone r.txs id c v (tx_tells c v) (known_tx (is_some (tx_table.kind c)) (tx_governs r id c v) id (children_of r id) h k).1);
    mappings = st.mappings;
  }
    where
      same_row : (q : Text) → is_among text_cmp ids q ≡ false → (b : Bool) → is_some (tx_table.kind c) ≡ b → map.get (with_column tx_table id c v s.txs) q ≡ map.get s.txs q
      same_row q off true k = others_stay tx_table id c v s.txs q (not_here ids id q (known_tx (is_some (tx_table.kind c)) (tx_governs r id c v) id (children_of r id) h k).0 off (eq_by_cmp text_cmp q id) refl)
      same_row q off false k = ap (λ (b : Bool). map.get (if b then map.insert s.txs id (tx_table.set c v (unwrap_or (map.get s.txs id) (blank_row tx_table id))) else s.txs) q) k

  set_known : (s : Rows) (d : Option Dataset) (k : Option Column) (id : Text) (v : Value) → Stays r s ids → Within (touched_known r d k id v) ids → Stays r (with_known d k id v s) ids
  set_known s None k id v st h = st
  set_known s (Some d) None id v st h = st
  set_known s (Some Accounts) (Some c) id v st h = set_account s c id v st h
  set_known s (Some Transactions) (Some c) id v st h = set_tx s c id v st h
  set_known s (Some CategoryMapping) (Some c) id v st h = set_mapping s c id v st h
  set_known s (Some other) (Some c) id v st h = record { rows = st.rows; accounts = st.accounts; parents = st.parents; mappings = st.mappings }

  all_stay : (s : Rows) (cs : List Change) → Stays r s ids → AreTouched r cs ids → Stays r (with_fields s cs) ids
  all_stay s [] st h = st
  all_stay s (c ∷ cs) st h = all_stay (with_field s c.0 c.1) cs (set_known s (dataset_of c.0.dataset) (column_of c.0.column) c.0.row c.1 st h.0) h.1

  itself_stays : Stays r r ids
  itself_stays = record { rows = λ q off. refl; accounts = λ a. inl refl; parents = λ a. inl refl; mappings = λ a. inl refl }

-- ---- so the transactions that are not touched are told the same
tell_not : {Row : Type 0} (flag : Row → Bool) (o p : Option Row) → option_map flag o ≡ option_map flag p → some_and (λ x. not (flag x)) o ≡ some_and (λ x. not (flag x)) p
tell_not flag None None h = refl
tell_not flag None (Some y) h = no_some (flag y) h
tell_not flag (Some x) None h = no_some (flag x) (sym h)
tell_not flag (Some x) (Some y) h = ap not (some_same (flag x) (flag y) h)

module _ (r s : Rows) (ids : List Text) (st : Stays r s ids) (q : Text) (x : TxRow) (off : is_among text_cmp ids q ≡ false) (found : map.get r.txs q ≡ Some x) where
  outside : {A : Type 0} (p : TxRow → Bool) → p x ≡ true → Within (keys_where p (map.entries r.txs)) ids → A
  outside p passes w = absurd (true≢false (sym (w.each q (among-keys_where text_total text_same p r.txs q ∙ ap (some_and p) found ∙ passes)) ∙ off))

  same_account : is_on_budget r x ≡ is_on_budget s x
  same_account = by x.acct refl
    where
      via : (a : Text) → x.acct ≡ Some a → (option_map (λ (b : AccountRow). b.offbudget) (map.get r.accounts a) ≡ option_map (λ (b : AccountRow). b.offbudget) (map.get s.accounts a)) ⊎ Within (account_txs r a) ids
          → some_and (λ (b : AccountRow). not b.offbudget) (map.get r.accounts a) ≡ some_and (λ (b : AccountRow). not b.offbudget) (map.get s.accounts a)
      via a e (inl h) = tell_not (λ (b : AccountRow). b.offbudget) (map.get r.accounts a) (map.get s.accounts a) h
      via a e (inr w) = outside (is_in_account a) (ap (is_text a) e ∙ itself a) w

      by : (o : Option Text) → x.acct ≡ o → some_and (λ a. some_and (λ (b : AccountRow). not b.offbudget) (map.get r.accounts a)) o ≡ some_and (λ a. some_and (λ (b : AccountRow). not b.offbudget) (map.get s.accounts a)) o
      by None e = refl
      by (Some a) e = via a e (st.accounts a)

  same_parent : has_parent r x ≡ has_parent s x
  same_parent = by x.is_child refl
    where
      via : (a : Text) → x.is_child ≡ true → x.parent_id ≡ Some a → (option_map (λ (b : TxRow). b.tombstone) (map.get r.txs a) ≡ option_map (λ (b : TxRow). b.tombstone) (map.get s.txs a)) ⊎ Within (children_of r a) ids
          → some_and (λ (b : TxRow). not b.tombstone) (map.get r.txs a) ≡ some_and (λ (b : TxRow). not b.tombstone) (map.get s.txs a)
      via a c e (inl h) = tell_not (λ (b : TxRow). b.tombstone) (map.get r.txs a) (map.get s.txs a) h
      via a c e (inr w) = outside (is_child_of a) (ap (λ b. b && is_text a x.parent_id) c ∙ ap (is_text a) e ∙ itself a) w

      named : x.is_child ≡ true → (o : Option Text) → x.parent_id ≡ o → some_and (λ a. some_and (λ (b : TxRow). not b.tombstone) (map.get r.txs a)) o ≡ some_and (λ a. some_and (λ (b : TxRow). not b.tombstone) (map.get s.txs a)) o
      named c None e = refl
      named c (Some a) e = via a c e (st.parents a)

      by : (b : Bool) → x.is_child ≡ b → (if b then some_and (λ a. some_and (λ (b : TxRow). not b.tombstone) (map.get r.txs a)) x.parent_id else true) ≡ (if b then some_and (λ a. some_and (λ (b : TxRow). not b.tombstone) (map.get s.txs a)) x.parent_id else true)
      by true c = named c x.parent_id refl
      by false c = refl

  same_category : category_of r x ≡ category_of s x
  same_category = by x.category refl
    where
      led : (a : Text) (o p : Option CategoryMappingRow) → option_map (λ (m : CategoryMappingRow). m.transfer_id) o ≡ option_map (λ (m : CategoryMappingRow). m.transfer_id) p
          → unwrap_or (target_of (λ (m : CategoryMappingRow). m.transfer_id) o) a ≡ unwrap_or (target_of (λ (m : CategoryMappingRow). m.transfer_id) p) a
      led a None None h = refl
      led a None (Some y) h = no_some y.transfer_id h
      led a (Some x) None h = no_some x.transfer_id (sym h)
      led a (Some x) (Some y) h = ap (λ o. unwrap_or o a) (some_same x.transfer_id y.transfer_id h)

      via : (a : Text) → x.category ≡ Some a
          → (option_map (λ (m : CategoryMappingRow). m.transfer_id) (map.get r.category_mappings a) ≡ option_map (λ (m : CategoryMappingRow). m.transfer_id) (map.get s.category_mappings a)) ⊎ Within (category_txs r a) ids
          → Some (mapped_category r a) ≡ Some (mapped_category s a)
      via a e (inl h) = ap Some (led a (map.get r.category_mappings a) (map.get s.category_mappings a) h)
      via a e (inr w) = outside (is_in_category a) (ap (is_text a) e ∙ itself a) w

      by : (o : Option Text) → x.category ≡ o → option_map (mapped_category r) o ≡ option_map (mapped_category s) o
      by None e = refl
      by (Some a) e = via a e (st.mappings a)

pub spared : (r : Rows) (cs : List Change) (ids : List Text) → AreDistinct text_cmp ids → AreTouched r cs ids → Spares r (with_fields r cs) ids
spared r cs ids distinct touched =
    let st = all_stay r ids r cs (itself_stays r ids) touched in
    record {
      distinct = distinct;
      rows = st.rows;
      accounts = λ q x off found. same_account r (with_fields r cs) ids st q x off found;
      parents = λ q x off found. same_parent r (with_fields r cs) ids st q x off found;
      categories = λ q x off found. same_category r (with_fields r cs) ids st q x off found;
    }
