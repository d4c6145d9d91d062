-- The undo of a handing on, and that of a merge.
use Rattle.std.proofs.Common.{◌≡◌, ℕ, Bool, true, false, List, [], ◌∷◌, ◌++◌, Ok, refl, sym, ap, subst, ◌∙◌, map as list_map}
use Rattle.std.specs.Prelude.{is_some, not, flat_map, codes, pos}
use Rattle.std.specs.List.{AllByRecursion}
use Rattle.std.specs.FinMap.{get}
use Rattle.field_values.specs.declared.value.Value.{Value}
use Rattle.field_values.specs.declared.value.Value.TheVariants.{Number, Text as IsText}
use Rattle.field_values.specs.Names.{FieldNames, field_of}
use Rattle.finite_sums.specs.Maps.{Text}
use Rattle.book_rows.specs.declared.column.Dataset.{Dataset}
use Rattle.book_rows.specs.declared.column.Dataset.TheVariants.{Categories, Payees, ZeroBudgets, CategoryMapping, PayeeMapping}
use Rattle.book_rows.specs.declared.rows.Rows.{Rows}
use Rattle.book_rows.specs.declared.rows.CategoryMappingRow.{CategoryMappingRow}
use Rattle.book_rows.specs.declared.rows.PayeeMappingRow.{PayeeMappingRow}
use Rattle.book_rows.specs.declared.write.RowName.TheVariants.{Given}
use Rattle.book_rows.specs.declared.write.Write.{Write}
use Rattle.book_rows.specs.declared.fault.EditFault.TheVariants.{NoSuchCategory, NoSuchPayee}
use Rattle.book_rows.specs.Columns.{dataset_name}
use Rattle.book_rows.specs.Ids.{budget_id}
use Rattle.book_rows.specs.Live.{is_live_category, is_live_payee}
use Rattle.book_rows.specs.Rows.{Values, AreRowsOf, has_tombstone, has_row, is_row}
use Rattle.book_rows.proofs.Following.{rows_follow, row_there}
use Rattle.book_rows.proofs.Naming.{dataset_found}
use Rattle.book_edits.specs.declared.gains.Gain.{Gain}
use Rattle.book_edits.specs.Faults.{each}
use Rattle.book_edits.specs.Checks.{same_id, distinct, live_category, live_payee, two_ids, no_transfer}
use Rattle.book_edits.specs.Writing.{write}
use Rattle.book_edits.specs.Accounts.{payee_deletion}
use Rattle.book_edits.specs.Budgets.{made_unless, column_writes}
use Rattle.book_edits.specs.Categories.{category_deletion}
use Rattle.book_edits.specs.Mappings.{mapped_to, category_mapped, categories_mapped, payee_mapped, payees_mapped, gains, gain_writes, may_hand_on, may_gain, category_delete_to, payee_merged, payee_merge}
use Rattle.book_edits.proofs.Valid.{inside, passed, was_so, all_append, all_filter, all_flat, each_was}
use Rattle.edit_history.specs.Undo.{entry_over, undo_values, write_of}
use Rattle.edit_history.specs.Laws.{with_values}
use Rattle.edit_history.proofs.Basics.{true_false}
use Rattle.edit_history.proofs.Listing.{all_map}
use Rattle.split_transfer.specs.After.{Ids, row_of, value_in, with_writes}
use Rattle.split_transfer.proofs.Basics.{holds_some}
use Rattle.book_laws.specs.Undone.{AreAsBefore}
use Rattle.book_laws.specs.TakingBack.{into_fields, rows_undone, MappingsAreTakenBack}
use Rattle.book_laws.proofs.Again.{tombstone_is}
use Rattle.book_laws.proofs.AsBefore.{all_as_before}

-- ---- rows follow the values

written : (ids : Ids) (ws : List Write) (values : Values) (rows : Rows) → AreRowsOf values rows → AreRowsOf (with_values values (into_fields ids ws)) (with_writes ids rows ws)
written ids [] values rows are = are
written ids (w ∷ ws) values rows are = written ids ws _ _ (rows_follow values (field_of w.dataset (row_of ids w.row) w.column) (value_in ids w.value) rows are)

given_back : (ids : Ids) (es : List (FieldNames × Value)) (values : Values) (rows : Rows) → AreRowsOf values rows → AreRowsOf (with_values values es) (with_writes ids rows (list_map write_of es))
given_back ids [] values rows are = are
given_back ids (e ∷ es) values rows are = given_back ids es _ _ (rows_follow values e.0 e.1 rows are)

module _ (ids : Ids) (values : Values) (rows : Rows) (are : AreRowsOf values rows) where
  -- a write into a row that is there, or that can't be deleted
  abbrev MakesNone : Write → Type 0
  MakesNone w = has_tombstone w.dataset ≡ true → has_row values (field_of w.dataset (row_of ids w.row) w.column) ≡ true

  taken_back : (ws : List Write) → AllByRecursion MakesNone ws → AreAsBefore rows (rows_undone ids values rows ws)
  taken_back ws none =
      let fields = into_fields ids ws in
      all_as_before values fields rows (rows_undone ids values rows ws)
      (all_map (λ (w : FieldNames × Value). has_tombstone w.0.dataset ≡ true → has_row values w.0 ≡ true) MakesNone (λ w. (field_of w.dataset (row_of ids w.row) w.column, value_in ids w.value)) ws (λ w h. h) none)
      are
      (given_back ids (undo_values (entry_over values (list_map (λ w. w.0) fields))) (with_values values fields) (with_writes ids rows ws) (written ids ws values rows are))

  lasting : (d : Dataset) (w : Write) → w.dataset ≡ dataset_name d → has_tombstone (dataset_name d) ≡ false → MakesNone w
  lasting d w is lasts mortal = true_false (has_tombstone w.dataset) mortal (ap has_tombstone is ∙ lasts)

  all_lasting : (d : Dataset) (f : Text → Write) → ((k : Text) → (f k).dataset ≡ dataset_name d) → has_tombstone (dataset_name d) ≡ false → (ks : List Text) → AllByRecursion MakesNone (list_map f ks)
  all_lasting d f is lasts [] = tt
  all_lasting d f is lasts (k ∷ ks) = (lasting d (f k) (is k) lasts, all_lasting d f is lasts ks)

  -- ---- categories

  mapping_none : (id to : Text) → AllByRecursion MakesNone (categories_mapped rows id to)
  mapping_none id to =
      let ks = mapped_to (λ (m : CategoryMappingRow). m.transfer_id) rows.category_mappings id in
      all_append MakesNone (list_map (category_mapped to) ks) (category_mapped to id ∷ [])
      (all_lasting CategoryMapping (category_mapped to) (λ k. refl) (tombstone_is CategoryMapping) ks)
      (lasting CategoryMapping (category_mapped to id) refl (tombstone_is CategoryMapping), tt)

  budget_none : (there : Bool) (category : Text) (month : ℕ) (column : Text) (value : Value) → AllByRecursion MakesNone (column_writes there (codes "zero_budgets") category month column value)
  budget_none there category month column value =
      let row = Given (budget_id category month) in
      all_append MakesNone (made_unless there (codes "zero_budgets") category month) (write (codes "zero_budgets") row column value ∷ [])
      (made there)
      (lasting ZeroBudgets (write (codes "zero_budgets") row column value) refl (tombstone_is ZeroBudgets), tt)
    where
      made : (there : Bool) → AllByRecursion MakesNone (made_unless there (codes "zero_budgets") category month)
      made true = tt
      made false = (
        lasting ZeroBudgets (write (codes "zero_budgets") (Given (budget_id category month)) (codes "month") (Number (pos month))) refl (tombstone_is ZeroBudgets),
        (lasting ZeroBudgets (write (codes "zero_budgets") (Given (budget_id category month)) (codes "category") (IsText category)) refl (tombstone_is ZeroBudgets), tt),
      )

  gains_none : (to : Text) (gs : List Gain) → AllByRecursion MakesNone (flat_map (gain_writes rows to) gs)
  gains_none to [] = tt
  gains_none to (g ∷ gs) =
      all_append MakesNone (gain_writes rows to g) (flat_map (gain_writes rows to) gs)
      (budget_none (is_some (get rows.budgets (budget_id to g.month))) to g.month (codes "amount") (Number g.amount))
      (gains_none to gs)

  category_there : (id : Text) → is_live_category rows id ≡ true → MakesNone (category_deletion id)
  category_there id live mortal =
      let c = holds_some _ (get rows.categories id) live in
      sym (row_there values rows (field_of (dataset_name Categories) id (codes "tombstone")) are)
      ∙ ap (λ o. is_row rows o id) (dataset_found Categories) ∙ ap is_some c.1

  category_back : (id to : Text) (ws : List Write) → category_delete_to rows id to ≡ Ok ws → AreAsBefore rows (rows_undone ids values rows ws)
  category_back id to ws h =
      let f = passed (may_hand_on rows id to) _ _ h in
      let g = passed (may_gain rows id to) _ _ f.2 in
      let a = passed (live_category rows id) _ _ f.1 in
      let live = was_so (is_live_category rows id) (NoSuchCategory id) a.0 a.1 in
      let given = flat_map (gain_writes rows to) (gains rows id to) in
      taken_back ws (subst (AllByRecursion MakesNone) (inside _ _ g.2)
      (all_append MakesNone (categories_mapped rows id to ++ given) (category_deletion id ∷ [])
      (all_append MakesNone (categories_mapped rows id to) given (mapping_none id to) (gains_none to (gains rows id to)))
      (category_there id live, tt)))

  -- ---- payees

  payee_there : (id : Text) → is_live_payee rows id ≡ true → MakesNone (payee_deletion id)
  payee_there id live mortal =
      let p = holds_some _ (get rows.payees id) live in
      sym (row_there values rows (field_of (dataset_name Payees) id (codes "tombstone")) are)
      ∙ ap (λ o. is_row rows o id) (dataset_found Payees) ∙ ap is_some p.1

  merged_none : (to id : Text) → live_payee rows id ≡ Ok tt → AllByRecursion MakesNone (payee_merged rows to id)
  merged_none to id live =
      let ks = mapped_to (λ (m : PayeeMappingRow). m.target_id) rows.payee_mappings id in
      all_append MakesNone (payees_mapped rows to id) (payee_deletion id ∷ [])
      (all_append MakesNone (list_map (payee_mapped to) ks) (payee_mapped to id ∷ [])
      (all_lasting PayeeMapping (payee_mapped to) (λ k. refl) (tombstone_is PayeeMapping) ks)
      (lasting PayeeMapping (payee_mapped to id) refl (tombstone_is PayeeMapping), tt))
      (payee_there id (was_so (is_live_payee rows id) (NoSuchPayee id) tt live), tt)

  all_distinct : (P : Text → Type 0) (ks : List Text) → AllByRecursion P ks → AllByRecursion P (distinct ks)
  all_distinct P [] h = tt
  all_distinct P (k ∷ ks) h = (h.0, all_filter P (λ other. not (same_id k other)) (distinct ks) (all_distinct P ks h.1))

  payees_back : (to : Text) (these : List Text) (ws : List Write) → payee_merge rows to these ≡ Ok ws → AreAsBefore rows (rows_undone ids values rows ws)
  payees_back to these ws h =
      let p = passed (live_payee rows to) _ _ h in
      let q = passed (each (live_payee rows) these) _ _ p.2 in
      let r = passed (each (two_ids to) these) _ _ q.2 in
      let s = passed (no_transfer rows to) _ _ r.2 in
      let t = passed (each (no_transfer rows) these) _ _ s.2 in
      taken_back ws (subst (AllByRecursion MakesNone) (inside _ _ t.2)
      (all_flat MakesNone (λ id. live_payee rows id ≡ Ok tt) (payee_merged rows to) (distinct these) (merged_none to)
      (all_distinct (λ id. live_payee rows id ≡ Ok tt) these (each_was (live_payee rows) these q.0 q.1))))

pub mappings_back : MappingsAreTakenBack
mappings_back = record {
  category = λ ids values rows id to ws are h. category_back ids values rows are id to ws h;
  payees = λ ids values rows to these ws are h. payees_back ids values rows are to these ws h;
}
