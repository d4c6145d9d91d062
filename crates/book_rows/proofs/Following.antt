-- The rows of a book follow the values of fields.
use Rattle.std.proofs.Common.{◌≡◌, Bool, true, false, cond, List, [], ◌∷◌, Option, Some, None, refl, sym, ap, ap₂, ◌∙◌, if◌then◌else◌, nat_eq, true≢false}
use Rattle.std.specs.Prelude.{◌&&◌, is_some, unwrap_or}
use Rattle.std.specs.Ordering.{eq_by_cmp}
use Rattle.std.specs.Cmp.Lexicographic.{pointwise, texts_ties}
use Rattle.std.specs.List.{list_any}
use Rattle.std.specs.FinMap as map
use Rattle.field_values.specs.declared.value.Value.{Value}
use Rattle.field_values.specs.declared.value.Value.TheVariants.{Null}
use Rattle.field_values.specs.Names.{FieldNames, field_of, names_eq}
use Rattle.finite_sums.specs.Maps.{Text, Texts, text_cmp, some_and}
use Rattle.finite_sums.proofs.Texts.{text_total, text_same}
use Rattle.book_rows.specs.declared.column.Dataset.{Dataset}
use Rattle.book_rows.specs.declared.column.Dataset.TheVariants.{Accounts, CategoryGroups, Categories, Payees, Transactions, ZeroBudgets, ZeroBudgetMonths, Notes, Rules, Schedules, CategoryMapping, PayeeMapping, ReflectBudgets}
use Rattle.book_rows.specs.declared.column.Column.{Column}
use Rattle.book_rows.specs.declared.rows.Rows.{Rows}
use Rattle.book_rows.specs.Columns.{dataset_name, column_name, same_column, all_columns, dataset_of, column_of}
use Rattle.book_rows.specs.Tables.{Table, blank_row, has_column, row_at, with_column}
use Rattle.book_rows.specs.Rules.{account_table, group_table, category_table, payee_table, tx_table, budget_table, month_table, note_table, rule_table, schedule_table, category_mapping_table, payee_mapping_table}
use Rattle.book_rows.specs.Rows.{Values, values_at, AreTableOf, AreRowsOf, with_known, with_field, with_value, no_rows, kind_of, known_kind, with_cell, dataset_kind, is_row, has_row}
use Rattle.book_rows.proofs.Pairs.{is_equal}
use Rattle.book_rows.proofs.Keyed.{row_after, others_stay}
use Rattle.book_rows.proofs.Naming.{text_is, is_text_itself, dataset_named, column_named, dataset_found, column_found, no_column, some_column, column_is, names_tell}
use Rattle.book_rows.proofs.RowFields.{IsTable, with_one, account_is, group_is, category_is, payee_is, tx_is, budget_is, month_is, note_is, rule_is, schedule_is, category_mapping_is, payee_mapping_is}

no_some : {X : Type 0} {P : Type 0} (x : X) → None ≡ Some x → P
no_some x h = absurd (cc)

both_true : (a b : Bool) → a ≡ true → b ≡ true → (a && b) ≡ true
both_true a b p q = rw p q

second_none : {X : Type 0} (a : Bool) (o : Option X) → a ≡ true → (a && is_some o) ≡ false → o ≡ None
second_none a None p h = refl
second_none a (Some x) p h = absurd (true≢false (sym (both_true a true p refl) ∙ h))

-- ---- one table
module _ {Row : Type 0} (t : Table Row) (is : IsTable t) where
  -- the row or else the blank one reads as the values do
  row_or_blank : (id : Text) (g : Column → Option Value) → unwrap_or (row_at t id g) (blank_row t id) ≡ t.row id (λ d. unwrap_or (g d) Null)
  row_or_blank id g = by (has_column t.kind g) refl
    where
      by : (b : Bool) → has_column t.kind g ≡ b → unwrap_or (if b then Some (t.row id (λ d. unwrap_or (g d) Null)) else None) (blank_row t id) ≡ t.row id (λ d. unwrap_or (g d) Null)
      by true h = refl
      by false h = is.depends id (λ d. Null) (λ d. unwrap_or (g d) Null) (λ c k. sym (ap (λ o. unwrap_or o Null) (second_none (is_some (t.kind c)) (g c) k (no_column (λ d. is_some (t.kind d) && is_some (g d)) h c))))

  module _ (id : Text) (c : Column) (v : Value) (g : Column → Option Value) where
    abbrev set_one : Column → Option Value
    set_one d = if same_column d c then Some v else g d

    unwrapped : (d : Column) → unwrap_or (set_one d) Null ≡ with_one c v (λ d. unwrap_or (g d) Null) d
    unwrapped d = by (same_column d c)
      where
        by : (b : Bool) → unwrap_or (if b then Some v else g d) Null ≡ (if b then v else unwrap_or (g d) Null)
        by true = refl
        by false = refl

    here : is_some (t.kind c) ≡ true → row_at t id set_one ≡ Some (t.set c v (unwrap_or (row_at t id g) (blank_row t id)))
    here known =
        let there : has_column t.kind set_one ≡ true = some_column (λ d. is_some (t.kind d) && is_some (set_one d)) c (both_true _ _ known (ap (λ b. is_some (if b then Some v else g c)) (itself_column c))) in
        ap (λ b. if b then Some (t.row id (λ d. unwrap_or (set_one d) Null)) else None) there
        ∙ ap Some (ap (t.row id) (λ i d. unwrapped d i) ∙ is.after id c v (λ d. unwrap_or (g d) Null) ∙ ap (t.set c v) (sym (row_or_blank id g)))
      where
        itself_column : (c : Column) → same_column c c ≡ true
        itself_column c = sym (names_tell c c) ∙ is_text_itself (column_name c)

    apart : is_some (t.kind c) ≡ false → row_at t id set_one ≡ row_at t id g
    apart unknown =
        ap₂ (λ (b : Bool) (row : Row). if b then Some row else None) (ap (λ p. list_any p all_columns) (λ i d. same_test d i)) (is.depends id (λ d. unwrap_or (set_one d) Null) (λ d. unwrap_or (g d) Null) (λ d k. ap (λ o. unwrap_or o Null) (same_value d k)))
      where
        not_it : (d : Column) → is_some (t.kind d) ≡ true → (b : Bool) → same_column d c ≡ b → (if b then Some v else g d) ≡ g d
        not_it d k true e = absurd (true≢false (sym k ∙ ap (λ x. is_some (t.kind x)) (column_is d c e) ∙ unknown))
        not_it d k false e = refl

        same_value : (d : Column) → is_some (t.kind d) ≡ true → set_one d ≡ g d
        same_value d k = not_it d k (same_column d c) refl

        same_test : (d : Column) → (is_some (t.kind d) && is_some (set_one d)) ≡ (is_some (t.kind d) && is_some (g d))
        same_test d = by (is_some (t.kind d)) refl
          where
            by : (b : Bool) → is_some (t.kind d) ≡ b → (b && is_some (set_one d)) ≡ (b && is_some (g d))
            by true k = ap is_some (same_value d k)
            by false k = refl

  follows : (m : Texts Row) (g h : Text → Column → Option Value) (id : Text) (c : Column) (v : Value) → ((q : Text) → map.get m q ≡ row_at t q (g q))
      → ((q : Text) (d : Column) → h q d ≡ (if eq_by_cmp text_cmp q id && same_column d c then Some v else g q d)) → (q : Text) → map.get (with_column t id c v m) q ≡ row_at t q (h q)
  follows m g h id c v are now q = by (eq_by_cmp text_cmp q id) refl
    where
      by : (b : Bool) → eq_by_cmp text_cmp q id ≡ b → map.get (with_column t id c v m) q ≡ row_at t q (h q)
      by false e = others_stay t id c v m q e ∙ are q ∙ ap (row_at t q) (λ i d. (sym (now q d ∙ ap (λ b. if b && same_column d c then Some v else g q d) e)) i)
      by true e =
          let at : q ≡ id = text_same q id (is_equal _ e) in
          let set : row_at t q (h q) ≡ row_at t q (set_one id c v (g q)) = ap (row_at t q) (λ i d. (now q d ∙ ap (λ b. if b && same_column d c then Some v else g q d) e) i) in
          own (is_some (t.kind c)) refl at ∙ sym set
        where
          own : (b : Bool) → is_some (t.kind c) ≡ b → q ≡ id → map.get (with_column t id c v m) q ≡ row_at t q (set_one id c v (g q))
          own true k at =
              ap (λ b. map.get (if b then map.insert m id (row_after t id c v m) else m) q) k
              ∙ map.get-insert text_total m id (row_after t id c v m) q ∙ ap (λ b. cond b (Some (row_after t id c v m)) (map.get m q)) e
              ∙ ap (λ i. Some (t.set c v (unwrap_or (map.get m i) (blank_row t i)))) (sym at)
              ∙ ap (λ o. Some (t.set c v (unwrap_or o (blank_row t q)))) (are q) ∙ sym (here q c v (g q) k)
          own false k at = ap (λ b. map.get (if b then map.insert m id (row_after t id c v m) else m) q) k ∙ are q ∙ sym (apart q c v (g q) k)

-- ---- the values of a dataset's columns
module _ (values : Values) (f : FieldNames) (v : Value) (ds : Dataset) where
  first_is : (a b c : Bool) → (a && (b && c)) ≡ true → a ≡ true
  first_is true b c h = refl
  first_is false b c h = absurd (true≢false (sym h))

  last_is : (a b c : Bool) → (a && (b && c)) ≡ true → c ≡ true
  last_is true true c h = h
  last_is true false c h = absurd (true≢false (sym h))
  last_is false b c h = absurd (true≢false (sym h))

  other_dataset : (dataset_of f.dataset ≡ Some ds → ⊥) → (q : Text) (d : Column) → values_at (with_value values f v) ds q d ≡ values_at values ds q d
  other_dataset differs q d = by (names_eq (field_of (dataset_name ds) q (column_name d)) f) refl
    where
      by : (b : Bool) → names_eq (field_of (dataset_name ds) q (column_name d)) f ≡ b → (if b then Some v else values_at values ds q d) ≡ values_at values ds q d
      by true h = absurd (differs (ap dataset_of (sym (text_is (dataset_name ds) f.dataset (first_is (pointwise nat_eq (dataset_name ds) f.dataset) (pointwise nat_eq q f.row) (pointwise nat_eq (column_name d) f.column) h))) ∙ dataset_found ds))
      by false h = refl

  other_column : column_of f.column ≡ None → (q : Text) (d : Column) → values_at (with_value values f v) ds q d ≡ values_at values ds q d
  other_column none q d = by (names_eq (field_of (dataset_name ds) q (column_name d)) f) refl
    where
      by : (b : Bool) → names_eq (field_of (dataset_name ds) q (column_name d)) f ≡ b → (if b then Some v else values_at values ds q d) ≡ values_at values ds q d
      by true h = no_some d (sym none ∙ ap column_of (sym (text_is (column_name d) f.column (last_is (pointwise nat_eq (dataset_name ds) f.dataset) (pointwise nat_eq q f.row) (pointwise nat_eq (column_name d) f.column) h))) ∙ column_found d)
      by false h = refl

  this_field : (c : Column) → dataset_of f.dataset ≡ Some ds → column_of f.column ≡ Some c → (q : Text) (d : Column) → values_at (with_value values f v) ds q d ≡ (if eq_by_cmp text_cmp q f.row && same_column d c then Some v else values_at values ds q d)
  this_field c at_ds at_c q d =
      ap (λ (b : Bool). if b then Some v else values_at values ds q d)
      (ap (λ x. pointwise nat_eq (dataset_name ds) x && (pointwise nat_eq q f.row && pointwise nat_eq (column_name d) f.column)) (dataset_named f.dataset ds at_ds)
      ∙ ap (λ b. b && (pointwise nat_eq q f.row && pointwise nat_eq (column_name d) f.column)) (is_text_itself (dataset_name ds))
      ∙ ap₂ (λ (a b : Bool). a && b) (texts_ties q f.row) (ap (pointwise nat_eq (column_name d)) (column_named f.column c at_c) ∙ names_tell d c))

  module _ {Row : Type 0} (t : Table Row) (rows : Texts Row) (are : AreTableOf t ds values rows) where
    pub stays_table : ((q : Text) (d : Column) → values_at (with_value values f v) ds q d ≡ values_at values ds q d) → AreTableOf t ds (with_value values f v) rows
    stays_table same q = are q ∙ ap (row_at t q) (λ i d. sym (same q d) i)

    pub table_follows : IsTable t → (c : Column) → dataset_of f.dataset ≡ Some ds → column_of f.column ≡ Some c → AreTableOf t ds (with_value values f v) (with_column t f.row c v rows)
    table_follows is c at_ds at_c = follows t is rows (values_at values ds) (values_at (with_value values f v) ds) f.row c v are (this_field c at_ds at_c)

other : {a b : Dataset} (f : FieldNames) → dataset_of f.dataset ≡ Some a → (Some a ≡ Some b → ⊥) → dataset_of f.dataset ≡ Some b → ⊥
other f h differs k = differs (sym h ∙ k)

module _ (values : Values) (f : FieldNames) (v : Value) (rows : Rows) (are : AreRowsOf values rows) where
  go : (o : Option Dataset) (k : Option Column) → dataset_of f.dataset ≡ o → column_of f.column ≡ k → AreRowsOf (with_value values f v) (with_known o k f.row v rows)
  go None k a b = record {
    accounts = stays_table values f v Accounts account_table rows.accounts are.accounts (other_dataset values f v Accounts (λ h. no_some Accounts (sym a ∙ h)));
    groups = stays_table values f v CategoryGroups group_table rows.groups are.groups (other_dataset values f v CategoryGroups (λ h. no_some CategoryGroups (sym a ∙ h)));
    categories = stays_table values f v Categories category_table rows.categories are.categories (other_dataset values f v Categories (λ h. no_some Categories (sym a ∙ h)));
    payees = stays_table values f v Payees payee_table rows.payees are.payees (other_dataset values f v Payees (λ h. no_some Payees (sym a ∙ h)));
    txs = stays_table values f v Transactions tx_table rows.txs are.txs (other_dataset values f v Transactions (λ h. no_some Transactions (sym a ∙ h)));
    budgets = stays_table values f v ZeroBudgets budget_table rows.budgets are.budgets (other_dataset values f v ZeroBudgets (λ h. no_some ZeroBudgets (sym a ∙ h)));
    months = stays_table values f v ZeroBudgetMonths month_table rows.months are.months (other_dataset values f v ZeroBudgetMonths (λ h. no_some ZeroBudgetMonths (sym a ∙ h)));
    notes = stays_table values f v Notes note_table rows.notes are.notes (other_dataset values f v Notes (λ h. no_some Notes (sym a ∙ h)));
    rules = stays_table values f v Rules rule_table rows.rules are.rules (other_dataset values f v Rules (λ h. no_some Rules (sym a ∙ h)));
    schedules = stays_table values f v Schedules schedule_table rows.schedules are.schedules (other_dataset values f v Schedules (λ h. no_some Schedules (sym a ∙ h)));
    category_mappings = stays_table values f v CategoryMapping category_mapping_table rows.category_mappings are.category_mappings (other_dataset values f v CategoryMapping (λ h. no_some CategoryMapping (sym a ∙ h)));
    payee_mappings = stays_table values f v PayeeMapping payee_mapping_table rows.payee_mappings are.payee_mappings (other_dataset values f v PayeeMapping (λ h. no_some PayeeMapping (sym a ∙ h)));
    tracked = stays_table values f v ReflectBudgets budget_table rows.tracked are.tracked (other_dataset values f v ReflectBudgets (λ h. no_some ReflectBudgets (sym a ∙ h)));
  }
  go (Some ds) None a b = record {
    accounts = stays_table values f v Accounts account_table rows.accounts are.accounts (other_column values f v Accounts b);
    groups = stays_table values f v CategoryGroups group_table rows.groups are.groups (other_column values f v CategoryGroups b);
    categories = stays_table values f v Categories category_table rows.categories are.categories (other_column values f v Categories b);
    payees = stays_table values f v Payees payee_table rows.payees are.payees (other_column values f v Payees b);
    txs = stays_table values f v Transactions tx_table rows.txs are.txs (other_column values f v Transactions b);
    budgets = stays_table values f v ZeroBudgets budget_table rows.budgets are.budgets (other_column values f v ZeroBudgets b);
    months = stays_table values f v ZeroBudgetMonths month_table rows.months are.months (other_column values f v ZeroBudgetMonths b);
    notes = stays_table values f v Notes note_table rows.notes are.notes (other_column values f v Notes b);
    rules = stays_table values f v Rules rule_table rows.rules are.rules (other_column values f v Rules b);
    schedules = stays_table values f v Schedules schedule_table rows.schedules are.schedules (other_column values f v Schedules b);
    category_mappings = stays_table values f v CategoryMapping category_mapping_table rows.category_mappings are.category_mappings (other_column values f v CategoryMapping b);
    payee_mappings = stays_table values f v PayeeMapping payee_mapping_table rows.payee_mappings are.payee_mappings (other_column values f v PayeeMapping b);
    tracked = stays_table values f v ReflectBudgets budget_table rows.tracked are.tracked (other_column values f v ReflectBudgets b);
  }
  go (Some Accounts) (Some c) a b = record {
    accounts = table_follows values f v Accounts account_table rows.accounts are.accounts account_is c a b;
    groups = stays_table values f v CategoryGroups group_table rows.groups are.groups (other_dataset values f v CategoryGroups (other f a (λ h. cc)));
    categories = stays_table values f v Categories category_table rows.categories are.categories (other_dataset values f v Categories (other f a (λ h. cc)));
    payees = stays_table values f v Payees payee_table rows.payees are.payees (other_dataset values f v Payees (other f a (λ h. cc)));
    txs = stays_table values f v Transactions tx_table rows.txs are.txs (other_dataset values f v Transactions (other f a (λ h. cc)));
    budgets = stays_table values f v ZeroBudgets budget_table rows.budgets are.budgets (other_dataset values f v ZeroBudgets (other f a (λ h. cc)));
    months = stays_table values f v ZeroBudgetMonths month_table rows.months are.months (other_dataset values f v ZeroBudgetMonths (other f a (λ h. cc)));
    notes = stays_table values f v Notes note_table rows.notes are.notes (other_dataset values f v Notes (other f a (λ h. cc)));
    rules = stays_table values f v Rules rule_table rows.rules are.rules (other_dataset values f v Rules (other f a (λ h. cc)));
    schedules = stays_table values f v Schedules schedule_table rows.schedules are.schedules (other_dataset values f v Schedules (other f a (λ h. cc)));
    category_mappings = stays_table values f v CategoryMapping category_mapping_table rows.category_mappings are.category_mappings (other_dataset values f v CategoryMapping (other f a (λ h. cc)));
    payee_mappings = stays_table values f v PayeeMapping payee_mapping_table rows.payee_mappings are.payee_mappings (other_dataset values f v PayeeMapping (other f a (λ h. cc)));
    tracked = stays_table values f v ReflectBudgets budget_table rows.tracked are.tracked (other_dataset values f v ReflectBudgets (other f a (λ h. cc)));
  }
  go (Some CategoryGroups) (Some c) a b = record {
    accounts = stays_table values f v Accounts account_table rows.accounts are.accounts (other_dataset values f v Accounts (other f a (λ h. cc)));
    groups = table_follows values f v CategoryGroups group_table rows.groups are.groups group_is c a b;
    categories = stays_table values f v Categories category_table rows.categories are.categories (other_dataset values f v Categories (other f a (λ h. cc)));
    payees = stays_table values f v Payees payee_table rows.payees are.payees (other_dataset values f v Payees (other f a (λ h. cc)));
    txs = stays_table values f v Transactions tx_table rows.txs are.txs (other_dataset values f v Transactions (other f a (λ h. cc)));
    budgets = stays_table values f v ZeroBudgets budget_table rows.budgets are.budgets (other_dataset values f v ZeroBudgets (other f a (λ h. cc)));
    months = stays_table values f v ZeroBudgetMonths month_table rows.months are.months (other_dataset values f v ZeroBudgetMonths (other f a (λ h. cc)));
    notes = stays_table values f v Notes note_table rows.notes are.notes (other_dataset values f v Notes (other f a (λ h. cc)));
    rules = stays_table values f v Rules rule_table rows.rules are.rules (other_dataset values f v Rules (other f a (λ h. cc)));
    schedules = stays_table values f v Schedules schedule_table rows.schedules are.schedules (other_dataset values f v Schedules (other f a (λ h. cc)));
    category_mappings = stays_table values f v CategoryMapping category_mapping_table rows.category_mappings are.category_mappings (other_dataset values f v CategoryMapping (other f a (λ h. cc)));
    payee_mappings = stays_table values f v PayeeMapping payee_mapping_table rows.payee_mappings are.payee_mappings (other_dataset values f v PayeeMapping (other f a (λ h. cc)));
    tracked = stays_table values f v ReflectBudgets budget_table rows.tracked are.tracked (other_dataset values f v ReflectBudgets (other f a (λ h. cc)));
  }
  go (Some Categories) (Some c) a b = record {
    accounts = stays_table values f v Accounts account_table rows.accounts are.accounts (other_dataset values f v Accounts (other f a (λ h. cc)));
    groups = stays_table values f v CategoryGroups group_table rows.groups are.groups (other_dataset values f v CategoryGroups (other f a (λ h. cc)));
    categories = table_follows values f v Categories category_table rows.categories are.categories category_is c a b;
    payees = stays_table values f v Payees payee_table rows.payees are.payees (other_dataset values f v Payees (other f a (λ h. cc)));
    txs = stays_table values f v Transactions tx_table rows.txs are.txs (other_dataset values f v Transactions (other f a (λ h. cc)));
    budgets = stays_table values f v ZeroBudgets budget_table rows.budgets are.budgets (other_dataset values f v ZeroBudgets (other f a (λ h. cc)));
    months = stays_table values f v ZeroBudgetMonths month_table rows.months are.months (other_dataset values f v ZeroBudgetMonths (other f a (λ h. cc)));
    notes = stays_table values f v Notes note_table rows.notes are.notes (other_dataset values f v Notes (other f a (λ h. cc)));
    rules = stays_table values f v Rules rule_table rows.rules are.rules (other_dataset values f v Rules (other f a (λ h. cc)));
    schedules = stays_table values f v Schedules schedule_table rows.schedules are.schedules (other_dataset values f v Schedules (other f a (λ h. cc)));
    category_mappings = stays_table values f v CategoryMapping category_mapping_table rows.category_mappings are.category_mappings (other_dataset values f v CategoryMapping (other f a (λ h. cc)));
    payee_mappings = stays_table values f v PayeeMapping payee_mapping_table rows.payee_mappings are.payee_mappings (other_dataset values f v PayeeMapping (other f a (λ h. cc)));
    tracked = stays_table values f v ReflectBudgets budget_table rows.tracked are.tracked (other_dataset values f v ReflectBudgets (other f a (λ h. cc)));
  }
  go (Some Payees) (Some c) a b = record {
    accounts = stays_table values f v Accounts account_table rows.accounts are.accounts (other_dataset values f v Accounts (other f a (λ h. cc)));
    groups = stays_table values f v CategoryGroups group_table rows.groups are.groups (other_dataset values f v CategoryGroups (other f a (λ h. cc)));
    categories = stays_table values f v Categories category_table rows.categories are.categories (other_dataset values f v Categories (other f a (λ h. cc)));
    payees = table_follows values f v Payees payee_table rows.payees are.payees payee_is c a b;
    txs = stays_table values f v Transactions tx_table rows.txs are.txs (other_dataset values f v Transactions (other f a (λ h. cc)));
    budgets = stays_table values f v ZeroBudgets budget_table rows.budgets are.budgets (other_dataset values f v ZeroBudgets (other f a (λ h. cc)));
    months = stays_table values f v ZeroBudgetMonths month_table rows.months are.months (other_dataset values f v ZeroBudgetMonths (other f a (λ h. cc)));
    notes = stays_table values f v Notes note_table rows.notes are.notes (other_dataset values f v Notes (other f a (λ h. cc)));
    rules = stays_table values f v Rules rule_table rows.rules are.rules (other_dataset values f v Rules (other f a (λ h. cc)));
    schedules = stays_table values f v Schedules schedule_table rows.schedules are.schedules (other_dataset values f v Schedules (other f a (λ h. cc)));
    category_mappings = stays_table values f v CategoryMapping category_mapping_table rows.category_mappings are.category_mappings (other_dataset values f v CategoryMapping (other f a (λ h. cc)));
    payee_mappings = stays_table values f v PayeeMapping payee_mapping_table rows.payee_mappings are.payee_mappings (other_dataset values f v PayeeMapping (other f a (λ h. cc)));
    tracked = stays_table values f v ReflectBudgets budget_table rows.tracked are.tracked (other_dataset values f v ReflectBudgets (other f a (λ h. cc)));
  }
  go (Some Transactions) (Some c) a b = record {
    accounts = stays_table values f v Accounts account_table rows.accounts are.accounts (other_dataset values f v Accounts (other f a (λ h. cc)));
    groups = stays_table values f v CategoryGroups group_table rows.groups are.groups (other_dataset values f v CategoryGroups (other f a (λ h. cc)));
    categories = stays_table values f v Categories category_table rows.categories are.categories (other_dataset values f v Categories (other f a (λ h. cc)));
    payees = stays_table values f v Payees payee_table rows.payees are.payees (other_dataset values f v Payees (other f a (λ h. cc)));
    txs = table_follows values f v Transactions tx_table rows.txs are.txs tx_is c a b;
    budgets = stays_table values f v ZeroBudgets budget_table rows.budgets are.budgets (other_dataset values f v ZeroBudgets (other f a (λ h. cc)));
    months = stays_table values f v ZeroBudgetMonths month_table rows.months are.months (other_dataset values f v ZeroBudgetMonths (other f a (λ h. cc)));
    notes = stays_table values f v Notes note_table rows.notes are.notes (other_dataset values f v Notes (other f a (λ h. cc)));
    rules = stays_table values f v Rules rule_table rows.rules are.rules (other_dataset values f v Rules (other f a (λ h. cc)));
    schedules = stays_table values f v Schedules schedule_table rows.schedules are.schedules (other_dataset values f v Schedules (other f a (λ h. cc)));
    category_mappings = stays_table values f v CategoryMapping category_mapping_table rows.category_mappings are.category_mappings (other_dataset values f v CategoryMapping (other f a (λ h. cc)));
    payee_mappings = stays_table values f v PayeeMapping payee_mapping_table rows.payee_mappings are.payee_mappings (other_dataset values f v PayeeMapping (other f a (λ h. cc)));
    tracked = stays_table values f v ReflectBudgets budget_table rows.tracked are.tracked (other_dataset values f v ReflectBudgets (other f a (λ h. cc)));
  }
  go (Some ZeroBudgets) (Some c) a b = record {
    accounts = stays_table values f v Accounts account_table rows.accounts are.accounts (other_dataset values f v Accounts (other f a (λ h. cc)));
    groups = stays_table values f v CategoryGroups group_table rows.groups are.groups (other_dataset values f v CategoryGroups (other f a (λ h. cc)));
    categories = stays_table values f v Categories category_table rows.categories are.categories (other_dataset values f v Categories (other f a (λ h. cc)));
    payees = stays_table values f v Payees payee_table rows.payees are.payees (other_dataset values f v Payees (other f a (λ h. cc)));
    txs = stays_table values f v Transactions tx_table rows.txs are.txs (other_dataset values f v Transactions (other f a (λ h. cc)));
    budgets = table_follows values f v ZeroBudgets budget_table rows.budgets are.budgets budget_is c a b;
    months = stays_table values f v ZeroBudgetMonths month_table rows.months are.months (other_dataset values f v ZeroBudgetMonths (other f a (λ h. cc)));
    notes = stays_table values f v Notes note_table rows.notes are.notes (other_dataset values f v Notes (other f a (λ h. cc)));
    rules = stays_table values f v Rules rule_table rows.rules are.rules (other_dataset values f v Rules (other f a (λ h. cc)));
    schedules = stays_table values f v Schedules schedule_table rows.schedules are.schedules (other_dataset values f v Schedules (other f a (λ h. cc)));
    category_mappings = stays_table values f v CategoryMapping category_mapping_table rows.category_mappings are.category_mappings (other_dataset values f v CategoryMapping (other f a (λ h. cc)));
    payee_mappings = stays_table values f v PayeeMapping payee_mapping_table rows.payee_mappings are.payee_mappings (other_dataset values f v PayeeMapping (other f a (λ h. cc)));
    tracked = stays_table values f v ReflectBudgets budget_table rows.tracked are.tracked (other_dataset values f v ReflectBudgets (other f a (λ h. cc)));
  }
  go (Some ZeroBudgetMonths) (Some c) a b = record {
    accounts = stays_table values f v Accounts account_table rows.accounts are.accounts (other_dataset values f v Accounts (other f a (λ h. cc)));
    groups = stays_table values f v CategoryGroups group_table rows.groups are.groups (other_dataset values f v CategoryGroups (other f a (λ h. cc)));
    categories = stays_table values f v Categories category_table rows.categories are.categories (other_dataset values f v Categories (other f a (λ h. cc)));
    payees = stays_table values f v Payees payee_table rows.payees are.payees (other_dataset values f v Payees (other f a (λ h. cc)));
    txs = stays_table values f v Transactions tx_table rows.txs are.txs (other_dataset values f v Transactions (other f a (λ h. cc)));
    budgets = stays_table values f v ZeroBudgets budget_table rows.budgets are.budgets (other_dataset values f v ZeroBudgets (other f a (λ h. cc)));
    months = table_follows values f v ZeroBudgetMonths month_table rows.months are.months month_is c a b;
    notes = stays_table values f v Notes note_table rows.notes are.notes (other_dataset values f v Notes (other f a (λ h. cc)));
    rules = stays_table values f v Rules rule_table rows.rules are.rules (other_dataset values f v Rules (other f a (λ h. cc)));
    schedules = stays_table values f v Schedules schedule_table rows.schedules are.schedules (other_dataset values f v Schedules (other f a (λ h. cc)));
    category_mappings = stays_table values f v CategoryMapping category_mapping_table rows.category_mappings are.category_mappings (other_dataset values f v CategoryMapping (other f a (λ h. cc)));
    payee_mappings = stays_table values f v PayeeMapping payee_mapping_table rows.payee_mappings are.payee_mappings (other_dataset values f v PayeeMapping (other f a (λ h. cc)));
    tracked = stays_table values f v ReflectBudgets budget_table rows.tracked are.tracked (other_dataset values f v ReflectBudgets (other f a (λ h. cc)));
  }
  go (Some Notes) (Some c) a b = record {
    accounts = stays_table values f v Accounts account_table rows.accounts are.accounts (other_dataset values f v Accounts (other f a (λ h. cc)));
    groups = stays_table values f v CategoryGroups group_table rows.groups are.groups (other_dataset values f v CategoryGroups (other f a (λ h. cc)));
    categories = stays_table values f v Categories category_table rows.categories are.categories (other_dataset values f v Categories (other f a (λ h. cc)));
    payees = stays_table values f v Payees payee_table rows.payees are.payees (other_dataset values f v Payees (other f a (λ h. cc)));
    txs = stays_table values f v Transactions tx_table rows.txs are.txs (other_dataset values f v Transactions (other f a (λ h. cc)));
    budgets = stays_table values f v ZeroBudgets budget_table rows.budgets are.budgets (other_dataset values f v ZeroBudgets (other f a (λ h. cc)));
    months = stays_table values f v ZeroBudgetMonths month_table rows.months are.months (other_dataset values f v ZeroBudgetMonths (other f a (λ h. cc)));
    notes = table_follows values f v Notes note_table rows.notes are.notes note_is c a b;
    rules = stays_table values f v Rules rule_table rows.rules are.rules (other_dataset values f v Rules (other f a (λ h. cc)));
    schedules = stays_table values f v Schedules schedule_table rows.schedules are.schedules (other_dataset values f v Schedules (other f a (λ h. cc)));
    category_mappings = stays_table values f v CategoryMapping category_mapping_table rows.category_mappings are.category_mappings (other_dataset values f v CategoryMapping (other f a (λ h. cc)));
    payee_mappings = stays_table values f v PayeeMapping payee_mapping_table rows.payee_mappings are.payee_mappings (other_dataset values f v PayeeMapping (other f a (λ h. cc)));
    tracked = stays_table values f v ReflectBudgets budget_table rows.tracked are.tracked (other_dataset values f v ReflectBudgets (other f a (λ h. cc)));
  }
  go (Some Rules) (Some c) a b = record {
    accounts = stays_table values f v Accounts account_table rows.accounts are.accounts (other_dataset values f v Accounts (other f a (λ h. cc)));
    groups = stays_table values f v CategoryGroups group_table rows.groups are.groups (other_dataset values f v CategoryGroups (other f a (λ h. cc)));
    categories = stays_table values f v Categories category_table rows.categories are.categories (other_dataset values f v Categories (other f a (λ h. cc)));
    payees = stays_table values f v Payees payee_table rows.payees are.payees (other_dataset values f v Payees (other f a (λ h. cc)));
    txs = stays_table values f v Transactions tx_table rows.txs are.txs (other_dataset values f v Transactions (other f a (λ h. cc)));
    budgets = stays_table values f v ZeroBudgets budget_table rows.budgets are.budgets (other_dataset values f v ZeroBudgets (other f a (λ h. cc)));
    months = stays_table values f v ZeroBudgetMonths month_table rows.months are.months (other_dataset values f v ZeroBudgetMonths (other f a (λ h. cc)));
    notes = stays_table values f v Notes note_table rows.notes are.notes (other_dataset values f v Notes (other f a (λ h. cc)));
    rules = table_follows values f v Rules rule_table rows.rules are.rules rule_is c a b;
    schedules = stays_table values f v Schedules schedule_table rows.schedules are.schedules (other_dataset values f v Schedules (other f a (λ h. cc)));
    category_mappings = stays_table values f v CategoryMapping category_mapping_table rows.category_mappings are.category_mappings (other_dataset values f v CategoryMapping (other f a (λ h. cc)));
    payee_mappings = stays_table values f v PayeeMapping payee_mapping_table rows.payee_mappings are.payee_mappings (other_dataset values f v PayeeMapping (other f a (λ h. cc)));
    tracked = stays_table values f v ReflectBudgets budget_table rows.tracked are.tracked (other_dataset values f v ReflectBudgets (other f a (λ h. cc)));
  }
  go (Some Schedules) (Some c) a b = record {
    accounts = stays_table values f v Accounts account_table rows.accounts are.accounts (other_dataset values f v Accounts (other f a (λ h. cc)));
    groups = stays_table values f v CategoryGroups group_table rows.groups are.groups (other_dataset values f v CategoryGroups (other f a (λ h. cc)));
    categories = stays_table values f v Categories category_table rows.categories are.categories (other_dataset values f v Categories (other f a (λ h. cc)));
    payees = stays_table values f v Payees payee_table rows.payees are.payees (other_dataset values f v Payees (other f a (λ h. cc)));
    txs = stays_table values f v Transactions tx_table rows.txs are.txs (other_dataset values f v Transactions (other f a (λ h. cc)));
    budgets = stays_table values f v ZeroBudgets budget_table rows.budgets are.budgets (other_dataset values f v ZeroBudgets (other f a (λ h. cc)));
    months = stays_table values f v ZeroBudgetMonths month_table rows.months are.months (other_dataset values f v ZeroBudgetMonths (other f a (λ h. cc)));
    notes = stays_table values f v Notes note_table rows.notes are.notes (other_dataset values f v Notes (other f a (λ h. cc)));
    rules = stays_table values f v Rules rule_table rows.rules are.rules (other_dataset values f v Rules (other f a (λ h. cc)));
    schedules = table_follows values f v Schedules schedule_table rows.schedules are.schedules schedule_is c a b;
    category_mappings = stays_table values f v CategoryMapping category_mapping_table rows.category_mappings are.category_mappings (other_dataset values f v CategoryMapping (other f a (λ h. cc)));
    payee_mappings = stays_table values f v PayeeMapping payee_mapping_table rows.payee_mappings are.payee_mappings (other_dataset values f v PayeeMapping (other f a (λ h. cc)));
    tracked = stays_table values f v ReflectBudgets budget_table rows.tracked are.tracked (other_dataset values f v ReflectBudgets (other f a (λ h. cc)));
  }
  go (Some CategoryMapping) (Some c) a b = record {
    accounts = stays_table values f v Accounts account_table rows.accounts are.accounts (other_dataset values f v Accounts (other f a (λ h. cc)));
    groups = stays_table values f v CategoryGroups group_table rows.groups are.groups (other_dataset values f v CategoryGroups (other f a (λ h. cc)));
    categories = stays_table values f v Categories category_table rows.categories are.categories (other_dataset values f v Categories (other f a (λ h. cc)));
    payees = stays_table values f v Payees payee_table rows.payees are.payees (other_dataset values f v Payees (other f a (λ h. cc)));
    txs = stays_table values f v Transactions tx_table rows.txs are.txs (other_dataset values f v Transactions (other f a (λ h. cc)));
    budgets = stays_table values f v ZeroBudgets budget_table rows.budgets are.budgets (other_dataset values f v ZeroBudgets (other f a (λ h. cc)));
    months = stays_table values f v ZeroBudgetMonths month_table rows.months are.months (other_dataset values f v ZeroBudgetMonths (other f a (λ h. cc)));
    notes = stays_table values f v Notes note_table rows.notes are.notes (other_dataset values f v Notes (other f a (λ h. cc)));
    rules = stays_table values f v Rules rule_table rows.rules are.rules (other_dataset values f v Rules (other f a (λ h. cc)));
    schedules = stays_table values f v Schedules schedule_table rows.schedules are.schedules (other_dataset values f v Schedules (other f a (λ h. cc)));
    category_mappings = table_follows values f v CategoryMapping category_mapping_table rows.category_mappings are.category_mappings category_mapping_is c a b;
    payee_mappings = stays_table values f v PayeeMapping payee_mapping_table rows.payee_mappings are.payee_mappings (other_dataset values f v PayeeMapping (other f a (λ h. cc)));
    tracked = stays_table values f v ReflectBudgets budget_table rows.tracked are.tracked (other_dataset values f v ReflectBudgets (other f a (λ h. cc)));
  }
  go (Some PayeeMapping) (Some c) a b = record {
    accounts = stays_table values f v Accounts account_table rows.accounts are.accounts (other_dataset values f v Accounts (other f a (λ h. cc)));
    groups = stays_table values f v CategoryGroups group_table rows.groups are.groups (other_dataset values f v CategoryGroups (other f a (λ h. cc)));
    categories = stays_table values f v Categories category_table rows.categories are.categories (other_dataset values f v Categories (other f a (λ h. cc)));
    payees = stays_table values f v Payees payee_table rows.payees are.payees (other_dataset values f v Payees (other f a (λ h. cc)));
    txs = stays_table values f v Transactions tx_table rows.txs are.txs (other_dataset values f v Transactions (other f a (λ h. cc)));
    budgets = stays_table values f v ZeroBudgets budget_table rows.budgets are.budgets (other_dataset values f v ZeroBudgets (other f a (λ h. cc)));
    months = stays_table values f v ZeroBudgetMonths month_table rows.months are.months (other_dataset values f v ZeroBudgetMonths (other f a (λ h. cc)));
    notes = stays_table values f v Notes note_table rows.notes are.notes (other_dataset values f v Notes (other f a (λ h. cc)));
    rules = stays_table values f v Rules rule_table rows.rules are.rules (other_dataset values f v Rules (other f a (λ h. cc)));
    schedules = stays_table values f v Schedules schedule_table rows.schedules are.schedules (other_dataset values f v Schedules (other f a (λ h. cc)));
    category_mappings = stays_table values f v CategoryMapping category_mapping_table rows.category_mappings are.category_mappings (other_dataset values f v CategoryMapping (other f a (λ h. cc)));
    payee_mappings = table_follows values f v PayeeMapping payee_mapping_table rows.payee_mappings are.payee_mappings payee_mapping_is c a b;
    tracked = stays_table values f v ReflectBudgets budget_table rows.tracked are.tracked (other_dataset values f v ReflectBudgets (other f a (λ h. cc)));
  }
  go (Some ReflectBudgets) (Some c) a b = record {
    accounts = stays_table values f v Accounts account_table rows.accounts are.accounts (other_dataset values f v Accounts (other f a (λ h. cc)));
    groups = stays_table values f v CategoryGroups group_table rows.groups are.groups (other_dataset values f v CategoryGroups (other f a (λ h. cc)));
    categories = stays_table values f v Categories category_table rows.categories are.categories (other_dataset values f v Categories (other f a (λ h. cc)));
    payees = stays_table values f v Payees payee_table rows.payees are.payees (other_dataset values f v Payees (other f a (λ h. cc)));
    txs = stays_table values f v Transactions tx_table rows.txs are.txs (other_dataset values f v Transactions (other f a (λ h. cc)));
    budgets = stays_table values f v ZeroBudgets budget_table rows.budgets are.budgets (other_dataset values f v ZeroBudgets (other f a (λ h. cc)));
    months = stays_table values f v ZeroBudgetMonths month_table rows.months are.months (other_dataset values f v ZeroBudgetMonths (other f a (λ h. cc)));
    notes = stays_table values f v Notes note_table rows.notes are.notes (other_dataset values f v Notes (other f a (λ h. cc)));
    rules = stays_table values f v Rules rule_table rows.rules are.rules (other_dataset values f v Rules (other f a (λ h. cc)));
    schedules = stays_table values f v Schedules schedule_table rows.schedules are.schedules (other_dataset values f v Schedules (other f a (λ h. cc)));
    category_mappings = stays_table values f v CategoryMapping category_mapping_table rows.category_mappings are.category_mappings (other_dataset values f v CategoryMapping (other f a (λ h. cc)));
    payee_mappings = stays_table values f v PayeeMapping payee_mapping_table rows.payee_mappings are.payee_mappings (other_dataset values f v PayeeMapping (other f a (λ h. cc)));
    tracked = table_follows values f v ReflectBudgets budget_table rows.tracked are.tracked budget_is c a b;
  }

  pub rows_follow : AreRowsOf (with_value values f v) (with_field rows f v)
  rows_follow = go (dataset_of f.dataset) (column_of f.column) refl refl

pub one_book : (values : Values) (r s : Rows) → AreRowsOf values r → AreRowsOf values s → r ≡ s
one_book values r s a b = λ i. record {
  accounts = map.same_map text_total text_same r.accounts s.accounts (λ q. a.accounts q ∙ sym (b.accounts q)) i;
  groups = map.same_map text_total text_same r.groups s.groups (λ q. a.groups q ∙ sym (b.groups q)) i;
  categories = map.same_map text_total text_same r.categories s.categories (λ q. a.categories q ∙ sym (b.categories q)) i;
  payees = map.same_map text_total text_same r.payees s.payees (λ q. a.payees q ∙ sym (b.payees q)) i;
  txs = map.same_map text_total text_same r.txs s.txs (λ q. a.txs q ∙ sym (b.txs q)) i;
  budgets = map.same_map text_total text_same r.budgets s.budgets (λ q. a.budgets q ∙ sym (b.budgets q)) i;
  months = map.same_map text_total text_same r.months s.months (λ q. a.months q ∙ sym (b.months q)) i;
  notes = map.same_map text_total text_same r.notes s.notes (λ q. a.notes q ∙ sym (b.notes q)) i;
  rules = map.same_map text_total text_same r.rules s.rules (λ q. a.rules q ∙ sym (b.rules q)) i;
  schedules = map.same_map text_total text_same r.schedules s.schedules (λ q. a.schedules q ∙ sym (b.schedules q)) i;
  category_mappings = map.same_map text_total text_same r.category_mappings s.category_mappings (λ q. a.category_mappings q ∙ sym (b.category_mappings q)) i;
  payee_mappings = map.same_map text_total text_same r.payee_mappings s.payee_mappings (λ q. a.payee_mappings q ∙ sym (b.payee_mappings q)) i;
  tracked = map.same_map text_total text_same r.tracked s.tracked (λ q. a.tracked q ∙ sym (b.tracked q)) i;
}

pub no_fields : AreRowsOf (λ f. None) no_rows
no_fields = record {
  accounts = λ q. map.get-empty _ q ∙ sym (nothing account_table q);
  groups = λ q. map.get-empty _ q ∙ sym (nothing group_table q);
  categories = λ q. map.get-empty _ q ∙ sym (nothing category_table q);
  payees = λ q. map.get-empty _ q ∙ sym (nothing payee_table q);
  txs = λ q. map.get-empty _ q ∙ sym (nothing tx_table q);
  budgets = λ q. map.get-empty _ q ∙ sym (nothing budget_table q);
  months = λ q. map.get-empty _ q ∙ sym (nothing month_table q);
  notes = λ q. map.get-empty _ q ∙ sym (nothing note_table q);
  rules = λ q. map.get-empty _ q ∙ sym (nothing rule_table q);
  schedules = λ q. map.get-empty _ q ∙ sym (nothing schedule_table q);
  category_mappings = λ q. map.get-empty _ q ∙ sym (nothing category_mapping_table q);
  payee_mappings = λ q. map.get-empty _ q ∙ sym (nothing payee_mapping_table q);
  tracked = λ q. map.get-empty _ q ∙ sym (nothing budget_table q);
}
  where
    none_known : (p : Column → Bool) → ((c : Column) → p c ≡ false) → (xs : List Column) → list_any p xs ≡ false
    none_known p h [] = refl
    none_known p h (x ∷ xs) = rw h (none_known p h xs)

    never_there : (b : Bool) → (b && false) ≡ false
    never_there true = refl
    never_there false = refl

    nothing : {Row : Type 0} (t : Table Row) (q : Text) → row_at t q (λ d. None) ≡ None
    nothing t q = ap (λ b. if b then Some (t.row q (λ d. Null)) else None) (none_known (λ d. is_some (t.kind d) && false) (λ c. never_there (is_some (t.kind c))) all_columns)

-- ---- what isn't known
unknown_cell : (ds : Dataset) (c : Column) (id : Text) (v : Value) (rows : Rows) → dataset_kind ds c ≡ None → with_cell ds id c v rows ≡ rows
unknown_cell Accounts c id v rows h = ap (λ o. record rows { accounts = if is_some o then map.insert rows.accounts id (row_after account_table id c v rows.accounts) else rows.accounts }) h
unknown_cell CategoryGroups c id v rows h = ap (λ o. record rows { groups = if is_some o then map.insert rows.groups id (row_after group_table id c v rows.groups) else rows.groups }) h
unknown_cell Categories c id v rows h = ap (λ o. record rows { categories = if is_some o then map.insert rows.categories id (row_after category_table id c v rows.categories) else rows.categories }) h
unknown_cell Payees c id v rows h = ap (λ o. record rows { payees = if is_some o then map.insert rows.payees id (row_after payee_table id c v rows.payees) else rows.payees }) h
unknown_cell Transactions c id v rows h = ap (λ o. record rows { txs = if is_some o then map.insert rows.txs id (row_after tx_table id c v rows.txs) else rows.txs }) h
unknown_cell ZeroBudgets c id v rows h = ap (λ o. record rows { budgets = if is_some o then map.insert rows.budgets id (row_after budget_table id c v rows.budgets) else rows.budgets }) h
unknown_cell ZeroBudgetMonths c id v rows h = ap (λ o. record rows { months = if is_some o then map.insert rows.months id (row_after month_table id c v rows.months) else rows.months }) h
unknown_cell Notes c id v rows h = ap (λ o. record rows { notes = if is_some o then map.insert rows.notes id (row_after note_table id c v rows.notes) else rows.notes }) h
unknown_cell Rules c id v rows h = ap (λ o. record rows { rules = if is_some o then map.insert rows.rules id (row_after rule_table id c v rows.rules) else rows.rules }) h
unknown_cell Schedules c id v rows h = ap (λ o. record rows { schedules = if is_some o then map.insert rows.schedules id (row_after schedule_table id c v rows.schedules) else rows.schedules }) h
unknown_cell CategoryMapping c id v rows h = ap (λ o. record rows { category_mappings = if is_some o then map.insert rows.category_mappings id (row_after category_mapping_table id c v rows.category_mappings) else rows.category_mappings }) h
unknown_cell PayeeMapping c id v rows h = ap (λ o. record rows { payee_mappings = if is_some o then map.insert rows.payee_mappings id (row_after payee_mapping_table id c v rows.payee_mappings) else rows.payee_mappings }) h
unknown_cell ReflectBudgets c id v rows h = ap (λ o. record rows { tracked = if is_some o then map.insert rows.tracked id (row_after budget_table id c v rows.tracked) else rows.tracked }) h

unknown_known : (o : Option Dataset) (k : Option Column) (id : Text) (v : Value) (rows : Rows) → known_kind o k ≡ None → with_known o k id v rows ≡ rows
unknown_known None k id v rows h = refl
unknown_known (Some ds) None id v rows h = refl
unknown_known (Some ds) (Some c) id v rows h = unknown_cell ds c id v rows h

pub unknown_stays : (rows : Rows) (f : FieldNames) (v : Value) → kind_of f.dataset f.column ≡ None → with_field rows f v ≡ rows
unknown_stays rows f v h = unknown_known (dataset_of f.dataset) (column_of f.column) f.row v rows h

-- ---- which rows are there
in_table : {Row : Type 0} (t : Table Row) (d : Dataset) (values : Values) (rows : Texts Row) (id : Text) → AreTableOf t d values rows → is_some (map.get rows id) ≡ has_column t.kind (values_at values d id)
in_table t d values rows id are = ap is_some (are id) ∙ by (has_column t.kind (values_at values d id))
  where
    by : (b : Bool) → is_some (if b then Some (t.row id (λ c. unwrap_or (values_at values d id c) Null)) else None) ≡ b
    by true = refl
    by false = refl

there_is : (values : Values) (rows : Rows) → AreRowsOf values rows → (o : Option Dataset) (id : Text) → is_row rows o id ≡ some_and (λ d. has_column (dataset_kind d) (values_at values d id)) o
there_is values rows are None id = refl
there_is values rows are (Some Accounts) id = in_table account_table Accounts values rows.accounts id are.accounts
there_is values rows are (Some CategoryGroups) id = in_table group_table CategoryGroups values rows.groups id are.groups
there_is values rows are (Some Categories) id = in_table category_table Categories values rows.categories id are.categories
there_is values rows are (Some Payees) id = in_table payee_table Payees values rows.payees id are.payees
there_is values rows are (Some Transactions) id = in_table tx_table Transactions values rows.txs id are.txs
there_is values rows are (Some ZeroBudgets) id = in_table budget_table ZeroBudgets values rows.budgets id are.budgets
there_is values rows are (Some ZeroBudgetMonths) id = in_table month_table ZeroBudgetMonths values rows.months id are.months
there_is values rows are (Some Notes) id = in_table note_table Notes values rows.notes id are.notes
there_is values rows are (Some Rules) id = in_table rule_table Rules values rows.rules id are.rules
there_is values rows are (Some Schedules) id = in_table schedule_table Schedules values rows.schedules id are.schedules
there_is values rows are (Some CategoryMapping) id = in_table category_mapping_table CategoryMapping values rows.category_mappings id are.category_mappings
there_is values rows are (Some PayeeMapping) id = in_table payee_mapping_table PayeeMapping values rows.payee_mappings id are.payee_mappings
there_is values rows are (Some ReflectBudgets) id = in_table budget_table ReflectBudgets values rows.tracked id are.tracked

pub row_there : (values : Values) (rows : Rows) (f : FieldNames) → AreRowsOf values rows → is_row rows (dataset_of f.dataset) f.row ≡ has_row values f
row_there values rows f are = there_is values rows are (dataset_of f.dataset) f.row
