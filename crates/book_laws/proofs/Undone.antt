-- Which rows are there, and what an undo leaves of those that an edit made.
use Rattle.std.proofs.Common.{◌≡◌, Bool, true, false, List, Option, Some, None, refl, sym, ap, ◌∙◌, map as list_map}
use Rattle.std.specs.Prelude.{◌&&◌, is_some, unwrap_or, if◌then◌else◌, codes}
use lib.IntN.{pos}
use Rattle.std.specs.FinMap.{get}
use Rattle.field_values.specs.declared.value.Value.{Value}
use Rattle.field_values.specs.declared.value.Value.TheVariants.{Null, Number}
use Rattle.field_values.specs.Names.{FieldNames, field_of}
use Rattle.finite_sums.specs.Maps.{Text, Texts, some_and}
use Rattle.book_rows.specs.declared.column.Column.{Column}
use Rattle.book_rows.specs.declared.column.Column.TheVariants.{Tombstone}
use Rattle.book_rows.specs.declared.column.Dataset.{Dataset}
use Rattle.book_rows.specs.declared.column.Dataset.TheVariants.{Accounts, CategoryGroups, Categories, Payees, Transactions, Rules, Schedules}
use Rattle.book_rows.specs.declared.rows.Rows.{Rows}
use Rattle.book_rows.specs.Kinds.{flag_of}
use Rattle.book_rows.specs.Columns.{same_text, dataset_name, column_name, all_columns, dataset_of, later_dataset_of, column_of, second_column_of, third_column_of}
use Rattle.book_rows.specs.Tables.{Table, has_column}
use Rattle.book_rows.specs.Rules.{account_table, group_table, category_table, payee_table, tx_table, rule_table, schedule_table}
use Rattle.book_rows.specs.Rows.{Values, values_at, AreTableOf, AreRowsOf, dataset_kind, known_kind, has_row}
use Rattle.book_rows.proofs.Naming.{dataset_named, column_found, some_column}
use Rattle.edit_history.specs.Undo.{entry_over, tombstone_of, undo_values}
use Rattle.edit_history.specs.Laws.{with_values, MakesRow}
use Rattle.edit_history.proofs.Basics.{both, both_parts, true_false}
use Rattle.edit_history.proofs.Rows.{row_of}
use Rattle.edit_history.proofs.UndoLaw.{entries_undo}
use Rattle.book_laws.specs.Undone.{HasKnownValue, AreGone, MadeRowsAreGone, RowsAreUndone}
use Rattle.book_laws.proofs.Again.{one_of, the_value}
use Rattle.book_laws.proofs.AsBefore.{all_again, all_as_before}

-- ---- rows that are there

there_so : (values : Values) (f : FieldNames) → has_row values f ≡ true → HasKnownValue values f
there_so values f h = by (dataset_of f.dataset) refl
  where
    by : (d : Option Dataset) → dataset_of f.dataset ≡ d → HasKnownValue values f
    by None is = true_false false (sym (ap (some_and (λ (d : Dataset). has_column (dataset_kind d) (values_at values d f.row))) is) ∙ h) refl
    by (Some d) is =
        let got = one_of (λ (c : Column). is_some (dataset_kind d c) && is_some (values_at values d f.row c)) all_columns
        (sym (ap (some_and (λ (d : Dataset). has_column (dataset_kind d) (values_at values d f.row))) is) ∙ h) in
        let parts = both_parts (is_some (dataset_kind d got.0)) (is_some (values_at values d f.row got.0)) got.1 in
        let kind = the_value (dataset_kind d got.0) parts.0 in
        let value = the_value (values_at values d f.row got.0) parts.1 in
        let name : f.dataset ≡ dataset_name d = dataset_named f.dataset d is in
        record {
          column = column_name got.0;
          kind = kind.0;
          known = ap (λ o. known_kind o (column_of (column_name got.0))) is ∙ ap (known_kind (Some d)) (column_found got.0) ∙ kind.1;
          value = value.0;
          has = ap (λ (a : Text). values (field_of a f.row (column_name got.0))) name ∙ value.1;
        }

so_there : (values : Values) (f : FieldNames) → HasKnownValue values f → has_row values f ≡ true
so_there values f h = row_of values (field_of f.dataset f.row h.column) h.kind h.value h.known h.has

-- ---- rows that an edit made

none_is_some : {X P : Type 0} (x : X) → None ≡ Some x → P
none_is_some x h = true_false true refl (ap is_some (sym h))

some_if : {X : Type 0} (b : Bool) (x y : X) → (if b then Some x else None) ≡ Some y → b ≡ true
some_if true x y h = refl
some_if false x y h = none_is_some y h

none_if : {X : Type 0} (b : Bool) (x : X) → (if b then Some x else None) ≡ None → b ≡ false
none_if true x h = none_is_some x (sym h)
none_if false x h = refl

module _ {Row : Type 0} (t : Table Row) (d : Dataset) (dead : Row → Bool) (known : is_some (t.kind Tombstone) ≡ true)
    (is_dead : (id : Text) (value : Column → Value) → dead (t.row id value) ≡ flag_of (value Tombstone)) where
  -- the row of an id that has its tombstone set
  deleted : (values : Values) (rows : Texts Row) (id : Text) → AreTableOf t d values rows → values_at values d id Tombstone ≡ Some (Number (pos 1)) → (y : Row) × (get rows id ≡ Some y) × (dead y ≡ true)
  deleted values rows id are h =
      let value = λ (c : Column). unwrap_or (values_at values d id c) Null in
      let there : has_column t.kind (values_at values d id) ≡ true =
      some_column (λ (c : Column). is_some (t.kind c) && is_some (values_at values d id c)) Tombstone (both _ _ known (ap is_some h)) in (
        t.row id value,
        are id ∙ ap (λ b. if b then Some (t.row id value) else None) there,
        is_dead id value ∙ ap (λ o. flag_of (unwrap_or o Null)) h,
      )

  made : (before after undone : Values) (r s u : Texts Row) → AreTableOf t d before r → AreTableOf t d after s → AreTableOf t d undone u
      → ((id : Text) → has_column t.kind (values_at before d id) ≡ false → has_column t.kind (values_at after d id) ≡ true → values_at undone d id Tombstone ≡ Some (Number (pos 1)))
      → AreGone dead r s u
  made before after undone r s u is_r is_s is_u marks id x new there =
      deleted undone u id is_u (marks id
      (none_if (has_column t.kind (values_at before d id)) _ (sym (is_r id) ∙ new))
      (some_if (has_column t.kind (values_at after d id)) _ x (sym (is_s id) ∙ there)))

module _ (values : Values) (ws : List (FieldNames × Value)) where
  mark : (f : FieldNames) → MakesRow values (with_values values ws) f → with_values (with_values values ws) (undo_values (entry_over values (list_map (λ w. w.0) ws))) (tombstone_of f) ≡ Some (Number (pos 1))
  mark f m = (entries_undo values ws).made f m

  all_gone : (r s u : Rows) → AreRowsOf values r → AreRowsOf (with_values values ws) s → AreRowsOf (with_values (with_values values ws) (undo_values (entry_over values (list_map (λ w. w.0) ws)))) u → MadeRowsAreGone r s u
  unfolding same_text dataset_of later_dataset_of column_of second_column_of third_column_of
  all_gone r s u is_r is_s is_u =
      let end = with_values (with_values values ws) (undo_values (entry_over values (list_map (λ w. w.0) ws))) in
      record {
        accounts = made account_table Accounts (λ x. x.tombstone) refl (λ id value. refl) values (with_values values ws) end r.accounts s.accounts u.accounts is_r.accounts is_s.accounts is_u.accounts
            (λ id n t. mark (field_of (dataset_name Accounts) id (codes "tombstone")) (record { new = n; there = t; mortal = refl }));
        groups = made group_table CategoryGroups (λ x. x.tombstone) refl (λ id value. refl) values (with_values values ws) end r.groups s.groups u.groups is_r.groups is_s.groups is_u.groups
            (λ id n t. mark (field_of (dataset_name CategoryGroups) id (codes "tombstone")) (record { new = n; there = t; mortal = refl }));
        categories = made category_table Categories (λ x. x.tombstone) refl (λ id value. refl) values (with_values values ws) end r.categories s.categories u.categories is_r.categories is_s.categories is_u.categories
            (λ id n t. mark (field_of (dataset_name Categories) id (codes "tombstone")) (record { new = n; there = t; mortal = refl }));
        payees = made payee_table Payees (λ x. x.tombstone) refl (λ id value. refl) values (with_values values ws) end r.payees s.payees u.payees is_r.payees is_s.payees is_u.payees
            (λ id n t. mark (field_of (dataset_name Payees) id (codes "tombstone")) (record { new = n; there = t; mortal = refl }));
        transactions = made tx_table Transactions (λ x. x.tombstone) refl (λ id value. refl) values (with_values values ws) end r.txs s.txs u.txs is_r.txs is_s.txs is_u.txs
            (λ id n t. mark (field_of (dataset_name Transactions) id (codes "tombstone")) (record { new = n; there = t; mortal = refl }));
        rules = made rule_table Rules (λ x. x.tombstone) refl (λ id value. refl) values (with_values values ws) end r.rules s.rules u.rules is_r.rules is_s.rules is_u.rules
            (λ id n t. mark (field_of (dataset_name Rules) id (codes "tombstone")) (record { new = n; there = t; mortal = refl }));
        schedules = made schedule_table Schedules (λ x. x.tombstone) refl (λ id value. refl) values (with_values values ws) end r.schedules s.schedules u.schedules is_r.schedules is_s.schedules is_u.schedules
            (λ id n t. mark (field_of (dataset_name Schedules) id (codes "tombstone")) (record { new = n; there = t; mortal = refl }));
      }

pub rows_undone : RowsAreUndone
rows_undone = record { there = λ values f. (there_so values f, so_there values f); gone = all_gone; again = all_again; as_before = all_as_before }
