-- A category that is handed on to another one.
use Rattle.std.proofs.Common.{◌≡◌, ℕ, Bool, true, false, cond, List, [], ◌∷◌, ◌++◌, drop, Option, Some, refl, ap, sym, subst, ◌∙◌, arith}
use Rattle.std.specs.Prelude.{◌≢◌, ◌+ℤ◌, ◌&&◌, ◌==◌, not, unwrap_or, map as list_map, flat_map, if◌then◌else◌}
use lib.IntN.{ℤ, pos}
use Rattle.std.specs.Option.{option_map}
use Rattle.std.specs.FinMap.{get, insert, get-insert, entries}
use Rattle.std.proofs.lemmas.Int.{ints}
use Rattle.field_values.specs.declared.value.Value.TheVariants.{Text as IsText}
use Rattle.finite_sums.specs.Sums.{total, only_if}
use Rattle.finite_sums.specs.Maps.{Text, Texts, text_cmp, some_and, value_or_zero, is_among}
use Rattle.finite_sums.proofs.Texts.{text_total, text_same}
use Rattle.finite_sums.proofs.MapSums.{total_same}
use Rattle.finite_sums.proofs.Totals.{total-plus}
use Rattle.book_rows.specs.declared.column.Dataset.TheVariants.{Categories, CategoryMapping}
use Rattle.book_rows.specs.declared.column.Column.TheVariants as of
use Rattle.book_rows.specs.declared.rows.Rows.{Rows}
use Rattle.book_rows.specs.declared.rows.BudgetRow.{BudgetRow}
use Rattle.book_rows.specs.declared.rows.CategoryRow.{CategoryRow}
use Rattle.book_rows.specs.declared.rows.CategoryMappingRow.{CategoryMappingRow}
use Rattle.book_rows.specs.declared.rows.TxRow.{TxRow}
use Rattle.book_rows.specs.declared.write.RowName.TheVariants.{Given}
use Rattle.book_rows.specs.declared.write.WriteValue.TheVariants.{Plain}
use Rattle.book_rows.specs.declared.write.Write.{Write}
use Rattle.book_rows.specs.declared.fault.EditFault.TheVariants.{NoSuchCategory, SameAccount, CategoryType}
use Rattle.book_rows.specs.Ids.{budget_id}
use Rattle.book_rows.specs.Live.{is_live_category, is_income_category, is_expense_category, has_income_group, is_live_category_row, is_counted, mapped, mapped_category, category_of}
use Rattle.book_rows.specs.Months.{month_of_row}
use Rattle.book_rows.specs.Parts.{is_text}
use Rattle.book_rows.specs.Rules.{category_table, category_mapping_table}
use Rattle.book_rows.specs.Tables.{blank_row}
use Rattle.book_edits.specs.Checks.{same_id, same_flag, live_category, two_ids}
use Rattle.book_edits.specs.Writing.{flag}
use Rattle.book_edits.specs.Categories.{category_deletion}
use Rattle.book_edits.specs.Mappings.{mapped_to, category_mapped, categories_mapped, given_months, month_gain, gains, gain_writes, may_hand_on, may_gain}
use Rattle.book_edits.proofs.Valid.{inside, passed, was_so}
use Rattle.edit_history.proofs.Listing.{map_plus}
use Rattle.envelope_cells.specs.BudgetOf.{share}
use Rattle.split_transfer.specs.After.{Ids, with_writes}
use Rattle.split_transfer.proofs.After.{with_writes-append}
use Rattle.split_transfer.proofs.Basics.{same_refl, same_is, not_same, is_other, bool_cases, true_false, not_true, names_is, names_it}
use Rattle.book_laws.specs.HandingOn.{TransactionsAreHandedOn, SumsAreHandedOn, BudgetsAreHandedOn, IsHandedOn, CategoriesAreHandedOn}
use Rattle.book_laws.proofs.Done.{cell}
use Rattle.book_laws.proofs.Each.{each_changed}
use Rattle.book_laws.proofs.Gained.{gained, gains_written, all_there, gains_apart, other_row, gained_carries, row_gained, amount_gained}
use Rattle.book_laws.proofs.Handed.{those_of, itself_in, mapped_in, in_which, column_aimed, column_as_before, resolved}
use Rattle.book_laws.proofs.Whole.{month_stays, cells_stay}

abbrev target : CategoryMappingRow → Option Text
target m = m.transfer_id

abbrev blank : Text → CategoryMappingRow
blank id = blank_row category_mapping_table id

abbrev aim : Text → CategoryMappingRow → CategoryMappingRow
aim to m = record m { transfer_id = Some to }

abbrev dead : CategoryRow → CategoryRow
dead c = record c { tombstone = true }

drop_month : (c to : Text) (month n : ℕ) → c ≢ to → budget_id c month ≢ budget_id to n
drop_month c to month n h e = h (ap (drop 7) e)

-- ---- the rows after the writes

module _ (ids : Ids) where
  targets_set : (to : Text) (ks : List Text) (s : Rows) → with_writes ids s (list_map (category_mapped to) ks) ≡ record s { category_mappings = each_changed blank (aim to) ks s.category_mappings }
  targets_set to [] s = refl
  targets_set to (k ∷ ks) s =
      let t : Rows = record s { category_mappings = insert s.category_mappings k (aim to (unwrap_or (get s.category_mappings k) (blank k))) } in
      ap (λ (x : Rows). with_writes ids x (list_map (category_mapped to) ks)) (cell ids s CategoryMapping (Given k) of.TransferId (Plain (IsText to))) ∙ targets_set to ks t

module _ (rows : Rows) (id to : Text) (two : id ≢ to) where
  abbrev m : Texts CategoryMappingRow
  m = rows.category_mappings

  abbrev ks : List Text
  ks = those_of target m id

  abbrev gone_row : CategoryRow
  gone_row = dead (unwrap_or (get rows.categories id) (blank_row category_table id))

  abbrev after : Rows
  after = record rows {
    category_mappings = each_changed blank (aim to) ks m;
    budgets = gained rows to (gains rows id to) rows.budgets;
    categories = insert rows.categories id gone_row;
  }

  written : (ids : Ids) → with_writes ids rows (categories_mapped rows id to ++ flat_map (gain_writes rows to) (gains rows id to) ++ category_deletion id ∷ []) ≡ after
  written ids =
      let mapping : Rows = record rows { category_mappings = each_changed blank (aim to) ks m } in
      let giving : Rows = record mapping { budgets = gained rows to (gains rows id to) rows.budgets } in
      let given : List Write = flat_map (gain_writes rows to) (gains rows id to) in
      let last : List Write = category_deletion id ∷ [] in
      with_writes-append ids rows (categories_mapped rows id to ++ given) last
      ∙ ap (λ (x : Rows). with_writes ids x last)
      (with_writes-append ids rows (categories_mapped rows id to) given
      ∙ ap (λ (ws : List Write). with_writes ids (with_writes ids rows ws) given) (sym (map_plus (category_mapped to) (mapped_to target m id) (id ∷ [])))
      ∙ ap (λ (x : Rows). with_writes ids x given) (targets_set ids to ks rows)
      ∙ gains_written rows to ids (gains rows id to) mapping (gains_apart rows to id) (all_there rows to (gains rows id to)))
      ∙ cell ids giving Categories (Given id) of.Tombstone (Plain (flag true))

  -- ---- transactions

  handed_so : (x : TxRow) → category_of rows x ≡ Some id → category_of after x ≡ Some to
  handed_so x h =
      let q = resolved target m x.category id h in
      column_aimed target m blank (aim to) (λ r. refl) to (λ r. refl) ks x.category q.0 q.1 (mapped_in target m id q.0 q.2)

  named_so : (x : TxRow) → x.category ≡ Some id → category_of after x ≡ Some to
  named_so x e = column_aimed target m blank (aim to) (λ r. refl) to (λ r. refl) ks x.category id e (itself_in target m id)

  others_so : (x : TxRow) → category_of rows x ≢ Some id → x.category ≢ Some id → category_of after x ≡ category_of rows x
  others_so x not_of not_named = column_as_before target m blank (aim to) (λ r. refl) to (λ r. refl) ks x.category (λ q e.
      bool_cases (is_among text_cmp ks q)
      (λ t. in_which target m id q t
      (λ same. absurd (not_named (e ∙ ap (λ (t : Text). Some t) same)))
      (λ stands. absurd (not_of (ap (option_map (mapped target m)) e ∙ ap (λ (t : Text). Some t) stands))))
      (λ f. f))

  transactions_so : TransactionsAreHandedOn rows after id to
  transactions_so = record { handed = handed_so; named = named_so; others = others_so }

  -- ---- sums

  module _ (own : mapped_category rows id ≡ id) where
    -- a transaction is of the category, or it stays where it is
    either_way : (x : TxRow) {P : Type 0} → (category_of rows x ≡ Some id → category_of after x ≡ Some to → P) → (category_of rows x ≢ Some id → category_of after x ≡ category_of rows x → P) → P
    either_way x here there = bool_cases (is_text id (category_of rows x))
        (λ t. let is = names_is (category_of rows x) id t in here is (handed_so x is))
        (λ f.
        let not_of : category_of rows x ≢ Some id = λ e. true_false (is_text id (category_of rows x)) (names_it (category_of rows x) id e) f in
        there not_of (others_so x not_of (λ e. not_of (ap (option_map (mapped target m)) e ∙ ap (λ (t : Text). Some t) own))))

    module _ (month : ℕ) where
      abbrev counts : Bool → TxRow → ℤ
      counts of x = only_if (is_counted rows x && (of && some_and (λ n. n == month) (month_of_row x))) x.amount

      not_named : (c d : Text) (o : Option Text) → o ≡ Some d → d ≢ c → is_text c o ≡ false
      not_named c d o e h = ap (is_text c) e ∙ not_same d c h

      none_counts : (x : TxRow) → counts false x ≡ pos 0
      none_counts x = by (is_counted rows x)
        where
          by : (b : Bool) → only_if (b && false) x.amount ≡ pos 0
          by true = refl
          by false = refl

      both_shares : (x : TxRow) → share after to month x ≡ share rows to month x +ℤ share rows id month x
      both_shares x = either_way x
          (λ was is.
          let a : share after to month x ≡ counts true x = ap (λ b. counts b x) (names_it (category_of after x) to is) in
          let b : share rows to month x ≡ pos 0 = ap (λ b. counts b x) (not_named to id (category_of rows x) was two) ∙ none_counts x in
          let c : share rows id month x ≡ counts true x = ap (λ b. counts b x) (names_it (category_of rows x) id was) in
          sums (share after to month x) (share rows to month x) (share rows id month x) (counts true x) a b c)
          (λ was is.
          let a : share after to month x ≡ share rows to month x = ap (λ (o : Option Text). counts (is_text to o) x) is in
          let b : share rows id month x ≡ pos 0 = ap (λ b. counts b x) (bool_cases (is_text id (category_of rows x)) (λ t. absurd (was (names_is (category_of rows x) id t))) (λ f. f)) ∙ none_counts x in
          same (share after to month x) (share rows to month x) (share rows id month x) a b)
        where
          sums : (a b c z : ℤ) → a ≡ z → b ≡ pos 0 → c ≡ z → a ≡ b +ℤ c
          sums a b c z p q r = omega (arith, ints, p, q, r)

          same : (a b c : ℤ) → a ≡ b → c ≡ pos 0 → a ≡ b +ℤ c
          same a b c p q = omega (arith, ints, p, q)

      none_left : (x : TxRow) → share after id month x ≡ pos 0
      none_left x = either_way x
          (λ was is. ap (λ b. counts b x) (not_named id to (category_of after x) is (λ e. two (sym e))) ∙ none_counts x)
          (λ was is. ap (λ (o : Option Text). counts (is_text id o) x) is ∙ ap (λ b. counts b x) (bool_cases (is_text id (category_of rows x)) (λ t. absurd (was (names_is (category_of rows x) id t))) (λ f. f)) ∙ none_counts x)

      other_shares : (c : Text) → c ≢ id → c ≢ to → (x : TxRow) → share after c month x ≡ share rows c month x
      other_shares c not_id not_to x = either_way x
          (λ was is. ap (λ b. counts b x) (not_named c to (category_of after x) is (λ e. not_to (sym e)) ∙ sym (not_named c id (category_of rows x) was (λ e. not_id (sym e)))))
          (λ was is. ap (λ (o : Option Text). counts (is_text c o) x) is)

      total_zero : (es : List (Text × TxRow)) → total (λ (e : Text × TxRow). pos 0) es ≡ pos 0
      total_zero [] = refl
      total_zero (e ∷ es) = omega (arith, ints, total_zero es)

      sums_so : SumsAreHandedOn rows after id to month
      sums_so = record {
        both = total_same text_total text_same (share after to month) (λ x. share rows to month x +ℤ share rows id month x) rows.txs (λ q x there. both_shares x)
            ∙ total-plus (λ (e : Text × TxRow). share rows to month e.1) (λ (e : Text × TxRow). share rows id month e.1) (entries rows.txs);
        none = total_same text_total text_same (share after id month) (λ x. pos 0) rows.txs (λ q x there. none_left x) ∙ total_zero (entries rows.txs);
        others = λ c not_id not_to. total_same text_total text_same (share after c month) (share rows c month) rows.txs (λ q x there. other_shares c not_id not_to x);
      }

  -- ---- budgets

  budgets_so : BudgetsAreHandedOn rows after id to
  budgets_so = record {
    both = amount_gained rows to id;
    row = row_gained rows to id;
    nothing = λ income. ap (λ b. gained rows to (if b then [] else list_map (month_gain rows id to) (given_months rows id)) rows.budgets) income;
    others = other_row rows to id;
    given = λ c month h. ap (value_or_zero (λ (b : BudgetRow). b.amount)) (other_row rows to id (budget_id c month) (λ n is some. drop_month c to month n h));
    carried = λ c month. gained_carries rows to (gains rows id to) rows.budgets (λ q. refl) (budget_id c month);
    held = λ month. refl;
  }

  -- ---- categories

  -- which categories pass a test that the deleted one doesn't
  passes_then : (p : CategoryRow → Bool) → p gone_row ≡ false → (q : Text) → some_and p (get after.categories q) ≡ (not (same_id id q) && some_and p (get rows.categories q))
  passes_then p dies q = ap (some_and p) (get-insert text_total rows.categories id gone_row q) ∙ bool_cases (same_id q id)
      (λ t. ap (λ b. some_and p (cond b (Some gone_row) (get rows.categories q))) t ∙ dies ∙ sym (ap (λ b. not b && some_and p (get rows.categories q)) (ap (same_id id) (same_is q id t) ∙ same_refl id)))
      (λ f. ap (λ b. some_and p (cond b (Some gone_row) (get rows.categories q))) f ∙ sym (ap (λ b. not b && some_and p (get rows.categories q)) (not_same id q (λ e. is_other q id f (sym e)))))

  live_then : (q : Text) → is_live_category after q ≡ (not (same_id id q) && is_live_category rows q)
  live_then = passes_then (is_live_category_row rows) refl

  income_then : (q : Text) → is_income_category after q ≡ (not (same_id id q) && is_income_category rows q)
  income_then = passes_then (λ c. is_live_category_row rows c && has_income_group rows c) refl

  expense_then : (q : Text) → is_expense_category after q ≡ (not (same_id id q) && is_expense_category rows q)
  expense_then = passes_then (λ c. is_live_category_row rows c && not (has_income_group rows c)) refl

  module _ (live_id : is_live_category rows id ≡ true) (live_to : is_live_category rows to ≡ true) (kind : is_income_category rows id ≡ is_income_category rows to) where
    handed_on : IsHandedOn rows after id to
    handed_on = record {
      transactions = transactions_so;
      sums = sums_so;
      months = λ own. month_stays rows after id to two live_id live_to kind live_then income_then expense_then (sums_so own) budgets_so;
      cells = λ own. cells_stay rows after id to two live_id live_to kind live_then income_then expense_then (sums_so own) budgets_so;
      budgets = budgets_so;
      gone = live_then id ∙ ap (λ b. not b && is_live_category rows id) (same_refl id);
      live = λ c h. live_then c ∙ ap (λ b. not b && is_live_category rows c) (not_same id c (λ e. h (sym e)));
      elsewhere = refl;
    }

same_kinds : (a b : Bool) → same_flag a b ≡ true → a ≡ b
same_kinds true true h = refl
same_kinds true false h = true_false false h refl
same_kinds false true h = true_false false h refl
same_kinds false false h = refl

pub all_handed_on : CategoriesAreHandedOn
all_handed_on ids rows id to ws h =
    let f = passed (may_hand_on rows id to) _ _ h in
    let g = passed (may_gain rows id to) _ _ f.2 in
    let a = passed (live_category rows id) _ _ f.1 in
    let b = passed (live_category rows to) _ _ a.2 in
    let c = passed (two_ids id to) _ _ b.2 in
    let two : id ≢ to = is_other id to (not_true (same_id id to) (was_so (not (same_id id to)) (SameAccount id) c.0 c.1)) in
    subst (λ (x : Rows). IsHandedOn rows x id to) (sym (ap (with_writes ids rows) (sym (inside _ _ g.2)) ∙ written rows id to two ids))
    (handed_on rows id to two
    (was_so (is_live_category rows id) (NoSuchCategory id) a.0 a.1)
    (was_so (is_live_category rows to) (NoSuchCategory to) b.0 b.1)
    (same_kinds (is_income_category rows id) (is_income_category rows to) (was_so (same_flag (is_income_category rows id) (is_income_category rows to)) (CategoryType to) tt c.2)))
