-- What plain edits change in the rows, and that they change nothing else.
use Rattle.std.proofs.Common.{◌≡◌, ℕ, Bool, true, false, cond, List, [], ◌∷◌, ◌++◌, Option, None, Some, Ok, Err, refl, ap, sym, ◌∙◌, drop}
use Rattle.std.specs.Prelude.{◌+ℤ◌, ◌-ℤ◌, not, is_some, unwrap_or, map as list_map, if◌then◌else◌}
use Rattle.std.specs.Option.{option_map}
use lib.IntN.{ℤ, pos}
use Rattle.std.specs.FinMap.{get, insert, get-insert, same_map}
use Rattle.field_values.specs.declared.name.NameFault.{NameFault}
use Rattle.field_values.specs.declared.value.Value.{Value}
use Rattle.field_values.specs.declared.value.Value.TheVariants.{Number, Text as IsText}
use Rattle.field_values.specs.Names.{FieldNames, names_fault}
use Rattle.finite_sums.specs.Maps.{Text, Texts, some_and, value_or_zero}
use Rattle.finite_sums.proofs.Texts.{text_total, text_same}
use Rattle.finite_sums.proofs.MapSums.{among-keys_where}
use Rattle.book_rows.specs.declared.column.Dataset.{Dataset}
use Rattle.book_rows.specs.declared.column.Dataset.TheVariants.{Accounts, CategoryGroups, Categories, Payees, Transactions, ZeroBudgets, ZeroBudgetMonths, Notes, ReflectBudgets}
use Rattle.book_rows.specs.declared.column.Column.{Column}
use Rattle.book_rows.specs.declared.column.Column.TheVariants as of
use Rattle.book_rows.specs.declared.rows.Rows.{Rows}
use Rattle.book_rows.specs.declared.rows.TxRow.{TxRow}
use Rattle.book_rows.specs.declared.rows.AccountRow.{AccountRow}
use Rattle.book_rows.specs.declared.rows.GroupRow.{GroupRow}
use Rattle.book_rows.specs.declared.rows.CategoryRow.{CategoryRow}
use Rattle.book_rows.specs.declared.rows.PayeeRow.{PayeeRow}
use Rattle.book_rows.specs.declared.rows.BudgetRow.{BudgetRow}
use Rattle.book_rows.specs.declared.write.RowName.{RowName}
use Rattle.book_rows.specs.declared.write.RowName.TheVariants.{Given}
use Rattle.book_rows.specs.declared.write.WriteValue.TheVariants.{Plain}
use Rattle.book_rows.specs.declared.write.Write.{Write}
use Rattle.book_rows.specs.declared.fault.EditFault.{EditFault}
use Rattle.book_rows.specs.declared.fault.EditFault.TheVariants.{BadDate, SameAccount}
use Rattle.book_rows.specs.Columns.{dataset_name, column_name}
use Rattle.book_rows.specs.Ids.{budget_id, month_id}
use Rattle.book_rows.specs.Kinds.{is_day, text_of}
use Rattle.book_rows.specs.Rows.{with_cell, with_field}
use Rattle.book_rows.specs.Rules.{account_table, group_table, category_table, payee_table, tx_table, budget_table, month_table, note_table}
use Rattle.book_rows.specs.Tables.{Table, blank_row, with_column}
use Rattle.book_edits.specs.Faults.{if_there}
use Rattle.book_edits.specs.Checks.{same_id, new_row, live_account, live_group, live_category, live_payee, no_income, without_balance, two_ids, free_group_name, free_category_name, name_of, group_of, a_day, a_month, an_amount, a_held, a_name}
use Rattle.book_edits.specs.Edits.{bad_id, write_unless, set_writes}
use Rattle.book_edits.specs.Writing.{flag, text_or_null, notes_value, id_value}
use Rattle.book_edits.specs.Accounts.{is_account, is_payee, account_writes, account_add, account_rename, account_offbudget, account_reopen, account_close, payee_add, payee_rename, payee_delete}
use Rattle.book_edits.specs.Categories.{is_group, is_category, takes_income, is_live_in, categories_of, category_deletion, placed_in, group_add, group_rename, group_delete, category_add, category_rename, category_move, category_delete}
use Rattle.book_edits.specs.Transactions.{is_tx, tx_writes, tx_add, note}
use Rattle.book_edits.specs.Budgets.{budgeted, row_made, column_writes, budget_writes, track_writes, two_amounts, may_move, budget, carryover, hold, move, track, track_carryover}
use Rattle.book_edits.proofs.Valid.{inside, passed, was_so}
use Rattle.split_transfer.specs.After.{Ids, row_of, value_in, with_write, with_writes}
use Rattle.split_transfer.proofs.After.{with_writes-append}
use Rattle.split_transfer.proofs.Basics.{same_refl, not_same, is_other, not_true}
use Rattle.book_laws.specs.Doing.{new_id}
use Rattle.book_laws.specs.Leaving.{changed, new_budget, budget_row, with_budget, with_tracked, without_group, notes_or_none, PlainEditsDoNoMore}
use Rattle.book_laws.proofs.Each.{each_changed, get-each}
use Rattle.book_laws.proofs.Done.{text_back, flag_back, given_is, into, cell, id_is, accounts_after}

-- ---- a row that is written twice

put_twice : {Row : Type 0} (m : Texts Row) (k : Text) (x y : Row) → insert (insert m k x) k y ≡ insert m k y
put_twice {Row} m k x y = same_map text_total text_same _ _ (λ q.
    get-insert text_total (insert m k x) k y q
    ∙ ap (cond (same_id q k) (Some y)) (get-insert text_total m k x q)
    ∙ by (same_id q k) (get m q)
    ∙ sym (get-insert text_total m k y q))
  where
    by : (b : Bool) (o : Option Row) → cond b (Some y) (cond b (Some x) o) ≡ cond b (Some y) o
    by true o = refl
    by false o = refl

module _ {Row : Type 0} (T : Table Row) (k : Text) (c : Column) (v : Value) (m : Texts Row) where
  one_more : (x : Row) → is_some (T.kind c) ≡ true → with_column T k c v (insert m k x) ≡ insert m k (T.set c v x)
  one_more x h =
      ap (λ b. cond b (insert (insert m k x) k (T.set c v (unwrap_or (get (insert m k x) k) (blank_row T k)))) (insert m k x)) h
      ∙ ap (λ o. insert (insert m k x) k (T.set c v (unwrap_or o (blank_row T k)))) (get-insert text_total m k x k ∙ ap (λ b. cond b (Some x) (get m k)) (same_refl k))
      ∙ put_twice m k x (T.set c v x)

pub notes_are : (t : Text) → text_of (notes_value t) ≡ notes_or_none t
notes_are [] = refl
notes_are (byte ∷ bytes) = refl

fault_ok : (f : EditFault) (ws : List Write) → Err f ≡ Ok ws → ⊥
fault_ok f ws h = cc

-- ---- what a category is given

-- the datasets of what categories are given
pub record IsOfBudgets (D : Dataset) (part : Rows → Texts BudgetRow) (put : Rows → Texts BudgetRow → Rows) : Type 0 where
  pub cells : (id : Text) (c : Column) (v : Value) (r : Rows) → with_cell D id c v r ≡ put r (with_column budget_table id c v (part r))
  pub has : (r : Rows) (m : Texts BudgetRow) → part (put r m) ≡ m
  pub last : (r : Rows) (m n : Texts BudgetRow) → put (put r m) n ≡ put r n

module _ (ids : Ids) (D : Dataset) (part : Rows → Texts BudgetRow) (put : Rows → Texts BudgetRow → Rows) (is : IsOfBudgets D part put)
    (r : Rows) (category : Text) (month : ℕ) (c : Column) (v : Value) (known : is_some (budget_table.kind c) ≡ true) where
  abbrev key : Text
  key = budget_id category month

  abbrev at : BudgetRow → Rows
  at b = put r (insert (part r) key b)

  step : (d : Column) (w : Value) (b : BudgetRow) → is_some (budget_table.kind d) ≡ true → with_write ids (at b) (into D (Given key) d (Plain w)) ≡ at (budget_table.set d w b)
  step d w b h =
      cell ids (at b) D (Given key) d (Plain w) ∙ is.cells key d w (at b)
      ∙ ap (λ (m : Texts BudgetRow). put (at b) (with_column budget_table key d w m)) (is.has r (insert (part r) key b))
      ∙ is.last r (insert (part r) key b) (with_column budget_table key d w (insert (part r) key b))
      ∙ ap (put r) (one_more budget_table key d w (part r) b h)

  first : (d : Column) (w : Value) → is_some (budget_table.kind d) ≡ true → with_write ids r (into D (Given key) d (Plain w)) ≡ at (budget_table.set d w (unwrap_or (get (part r) key) (blank_row budget_table key)))
  first d w h =
      cell ids r D (Given key) d (Plain w) ∙ is.cells key d w r
      ∙ ap (λ b. put r (cond b (insert (part r) key (budget_table.set d w (unwrap_or (get (part r) key) (blank_row budget_table key)))) (part r))) h

  by_row : (o : Option BudgetRow) → get (part r) key ≡ o → with_writes ids r (column_writes (is_some o) (dataset_name D) category month (column_name c) v) ≡ at (budget_table.set c v (unwrap_or o (new_budget category month)))
  by_row (Some b) e = first c v known ∙ ap (λ o. at (budget_table.set c v (unwrap_or o (blank_row budget_table key)))) e
  by_row None e =
      let w : Write = into D (Given key) of.Category (Plain (IsText category)) in
      let last : Write = into D (Given key) c (Plain v) in
      ap (λ (s : Rows). with_writes ids s (w ∷ last ∷ [])) (first of.Month (Number (pos month)) refl ∙ ap (λ o. at (budget_table.set of.Month (Number (pos month)) (unwrap_or o (blank_row budget_table key)))) e)
      ∙ ap (λ (s : Rows). with_writes ids s (last ∷ [])) (step of.Category (IsText category) (budget_table.set of.Month (Number (pos month)) (blank_row budget_table key)) refl)
      ∙ step c v (new_budget category month) known

  row_cell : with_writes ids r (column_writes (is_some (get (part r) key)) (dataset_name D) category month (column_name c) v) ≡ at (budget_table.set c v (unwrap_or (get (part r) key) (new_budget category month)))
  row_cell = by_row (get (part r) key) refl

module _ (ids : Ids) (r : Rows) (category : Text) (month : ℕ) (c : Column) (v : Value) (known : is_some (budget_table.kind c) ≡ true) where
  pub budget_cell : with_writes ids r (budget_writes r category month (column_name c) v) ≡ with_budget r category month (budget_table.set c v)
  budget_cell = row_cell ids ZeroBudgets (λ s. s.budgets) (λ s m. record s { budgets = m }) (record { cells = λ id c v s. refl; has = λ s m. refl; last = λ s m n. refl }) r category month c v known

  tracked_cell : with_writes ids r (track_writes r category month (column_name c) v) ≡ with_tracked r category month (budget_table.set c v)
  tracked_cell = row_cell ids ReflectBudgets (λ s. s.tracked) (λ s m. record s { tracked = m }) (record { cells = λ id c v s. refl; has = λ s m. refl; last = λ s m n. refl }) r category month c v known

-- the amount of a row, or 0 where it is not there, is that of the row or of another one, with the amount 0, in its place
pub given_as : (o : Option BudgetRow) (other : BudgetRow) → other.amount ≡ pos 0 → value_or_zero (λ b. b.amount) o ≡ (unwrap_or o other).amount
given_as None other h = sym h
given_as (Some b) other h = refl

two_keys : (month : ℕ) (from to : Text) → same_id from to ≡ false → same_id (budget_id to month) (budget_id from month) ≡ false
two_keys month from to h = not_same (budget_id to month) (budget_id from month) (λ e. is_other from to h (sym (ap (drop 7) e)))

module _ (ids : Ids) (r : Rows) (ws : List Write) where
  -- writes that make these rows are those of the edit
  made : (vs : List Write) (s : Rows) → ◌≡◌ {A = List Write} vs ws → with_writes ids r vs ≡ s → with_writes ids r ws ≡ s
  made vs s same h = ap (with_writes ids r) (sym same) ∙ h

  -- ---- any field

  any_set : (field : FieldNames) (value : Value) → set_writes field value ≡ Ok ws → with_writes ids r ws ≡ with_field r field value
  any_set field value h = by (names_fault field) h
    where
      by : (o : Option NameFault) → write_unless o field value ≡ Ok ws → with_writes ids r ws ≡ with_field r field value
      by None k = made _ _ (inside _ _ k) refl
      by (Some fault) k = absurd (fault_ok (bad_id field fault) ws k)

  -- ---- accounts and payees

  account_added : (id : Option Text) (name : Text) (off : Bool) → account_add r id name off ≡ Ok ws → with_writes ids r ws ≡ record r {
    accounts = changed account_table r.accounts (new_id ids id) (λ a. record a { name = Some name; offbudget = off });
    payees = changed payee_table r.payees (ids 2) (λ p. record p { name = Some []; transfer_acct = Some (new_id ids id) });
  }
  account_added id name off h =
      let p = passed (new_row (is_account r) id) _ _ h in
      let k = row_of ids p.0 in
      let v = value_in ids (id_value p.0) in
      let after : Text → Bool → Option Text → Rows = λ key o t. record r {
        accounts = changed account_table r.accounts key (λ a. record a { name = Some name; offbudget = o });
        payees = changed payee_table r.payees (ids 2) (λ y. record y { name = Some []; transfer_acct = t });
      } in
      let a : AccountRow = account_table.set of.Name (IsText name) (unwrap_or (get r.accounts k) (blank_row account_table k)) in
      let y : PayeeRow = payee_table.set of.Name (IsText []) (unwrap_or (get r.payees (ids 2)) (blank_row payee_table (ids 2))) in
      let is = given_is ids (is_account r) id p.0 p.1 in
      made (account_writes p.0 name off) _ (inside _ _ p.2)
      (accounts_after ids r p.0 name off
      ∙ ap (λ (m : Texts AccountRow). record r { accounts = m; payees = with_column payee_table (ids 2) of.TransferAcct v (insert r.payees (ids 2) y) }) (one_more account_table k of.Offbudget (flag off) r.accounts a refl)
      ∙ ap (λ (m : Texts PayeeRow). record r { accounts = insert r.accounts k (account_table.set of.Offbudget (flag off) a); payees = m }) (one_more payee_table (ids 2) of.TransferAcct v r.payees y refl)
      ∙ ap (λ b. after k b (text_of v)) (flag_back off)
      ∙ ap (λ t. after k off t) (ap text_of (id_is ids p.0) ∙ ap (λ (t : Text). Some t) is)
      ∙ ap (λ key. after key off (Some (new_id ids id))) is)

  account_renamed : (id name : Text) → account_rename r id name ≡ Ok ws → with_writes ids r ws ≡ record r { accounts = changed account_table r.accounts id (λ a. record a { name = Some name }) }
  account_renamed id name h =
      let p = passed (live_account r id) _ _ h in
      made (into Accounts (Given id) of.Name (Plain (IsText name)) ∷ []) _ (inside _ _ p.2) (cell ids r Accounts (Given id) of.Name (Plain (IsText name)))

  account_moved : (id : Text) (off : Bool) → account_offbudget r id off ≡ Ok ws → with_writes ids r ws ≡ record r { accounts = changed account_table r.accounts id (λ a. record a { offbudget = off }) }
  account_moved id off h =
      let p = passed (live_account r id) _ _ h in
      made (into Accounts (Given id) of.Offbudget (Plain (flag off)) ∷ []) _ (inside _ _ p.2)
      (cell ids r Accounts (Given id) of.Offbudget (Plain (flag off)) ∙ ap (λ b. record r { accounts = changed account_table r.accounts id (λ a. record a { offbudget = b }) }) (flag_back off))

  account_opened : (id : Text) → account_reopen r id ≡ Ok ws → with_writes ids r ws ≡ record r { accounts = changed account_table r.accounts id (λ a. record a { closed = false }) }
  account_opened id h =
      let p = passed (live_account r id) _ _ h in
      made (into Accounts (Given id) of.Closed (Plain (flag false)) ∷ []) _ (inside _ _ p.2) (cell ids r Accounts (Given id) of.Closed (Plain (flag false)))

  account_closed : (id : Text) → account_close r id ≡ Ok ws → with_writes ids r ws ≡ record r { accounts = changed account_table r.accounts id (λ a. record a { closed = true }) }
  account_closed id h =
      let p = passed (live_account r id) _ _ h in
      let q = passed (without_balance r id) _ _ p.2 in
      made (into Accounts (Given id) of.Closed (Plain (flag true)) ∷ []) _ (inside _ _ q.2) (cell ids r Accounts (Given id) of.Closed (Plain (flag true)))

  payee_added : (id : Option Text) (name : Text) → payee_add r id name ≡ Ok ws → with_writes ids r ws ≡ record r { payees = changed payee_table r.payees (new_id ids id) (λ p. record p { name = Some name }) }
  payee_added id name h =
      let p = passed (new_row (is_payee r) id) _ _ h in
      made (into Payees p.0 of.Name (Plain (IsText name)) ∷ []) _ (inside _ _ p.2)
      (cell ids r Payees p.0 of.Name (Plain (IsText name))
      ∙ ap (λ key. record r { payees = changed payee_table r.payees key (λ y. record y { name = Some name }) }) (given_is ids (is_payee r) id p.0 p.1))

  payee_renamed : (id name : Text) → payee_rename r id name ≡ Ok ws → with_writes ids r ws ≡ record r { payees = changed payee_table r.payees id (λ p. record p { name = Some name }) }
  payee_renamed id name h =
      let p = passed (live_payee r id) _ _ h in
      made (into Payees (Given id) of.Name (Plain (IsText name)) ∷ []) _ (inside _ _ p.2) (cell ids r Payees (Given id) of.Name (Plain (IsText name)))

  payee_deleted : (id : Text) → payee_delete r id ≡ Ok ws → with_writes ids r ws ≡ record r { payees = changed payee_table r.payees id (λ p. record p { tombstone = true }) }
  payee_deleted id h =
      let p = passed (live_payee r id) _ _ h in
      made (into Payees (Given id) of.Tombstone (Plain (flag true)) ∷ []) _ (inside _ _ p.2) (cell ids r Payees (Given id) of.Tombstone (Plain (flag true)))

  -- ---- groups

  group_added : (id : Option Text) (name : Text) (income : Bool) → group_add r id name income ≡ Ok ws
      → with_writes ids r ws ≡ record r { groups = changed group_table r.groups (new_id ids id) (λ g. record g { name = Some name; is_income = income }) }
  group_added id name income h =
      let p = passed (new_row (is_group r) id) _ _ h in
      let q = passed (free_group_name r name) _ _ p.2 in
      let k = row_of ids p.0 in
      let at : GroupRow → Rows = λ g. record r { groups = insert r.groups k g } in
      let g : GroupRow = group_table.set of.Name (IsText name) (unwrap_or (get r.groups k) (blank_row group_table k)) in
      let after : Text → Bool → Rows = λ key b. record r { groups = changed group_table r.groups key (λ x. record x { name = Some name; is_income = b }) } in
      made (into CategoryGroups p.0 of.Name (Plain (IsText name)) ∷ into CategoryGroups p.0 of.IsIncome (Plain (flag income)) ∷ []) _ (inside _ _ q.2)
      (ap (λ (s : Rows). with_write ids s (into CategoryGroups p.0 of.IsIncome (Plain (flag income)))) (cell ids r CategoryGroups p.0 of.Name (Plain (IsText name)))
      ∙ cell ids (at g) CategoryGroups p.0 of.IsIncome (Plain (flag income)) ∙ ap (λ (m : Texts GroupRow). record r { groups = m }) (one_more group_table k of.IsIncome (flag income) r.groups g refl)
      ∙ ap (λ b. after k b) (flag_back income)
      ∙ ap (λ key. after key income) (given_is ids (is_group r) id p.0 p.1))

  group_renamed : (id name : Text) → group_rename r id name ≡ Ok ws → with_writes ids r ws ≡ record r { groups = changed group_table r.groups id (λ g. record g { name = Some name }) }
  group_renamed id name h =
      let p = passed (live_group r id) _ _ h in
      let q = passed (free_group_name r name) _ _ p.2 in
      made (into CategoryGroups (Given id) of.Name (Plain (IsText name)) ∷ []) _ (inside _ _ q.2) (cell ids r CategoryGroups (Given id) of.Name (Plain (IsText name)))

  -- ---- the categories of a group that is deleted

  abbrev dead : CategoryRow → CategoryRow
  dead c = record c { tombstone = true }

  abbrev blank : Text → CategoryRow
  blank k = blank_row category_table k

  abbrev deleted : List Text → Texts CategoryRow → Texts CategoryRow
  deleted = each_changed blank dead

  deletions : (ks : List Text) (s : Rows) → with_writes ids s (list_map category_deletion ks) ≡ record s { categories = deleted ks s.categories }
  deletions [] s = refl
  deletions (k ∷ ks) s =
      let t : Rows = record s { categories = insert s.categories k (dead (unwrap_or (get s.categories k) (blank k))) } in
      ap (λ (x : Rows). with_writes ids x (list_map category_deletion ks)) (cell ids s Categories (Given k) of.Tombstone (Plain (flag true))) ∙ deletions ks t

  last : (p : CategoryRow → Bool) (o : Option CategoryRow) (b : CategoryRow) → cond (some_and p o) (Some (dead (unwrap_or o b))) o ≡ option_map (λ c. cond (p c) (dead c) c) o
  last p None b = refl
  last p (Some c) b = by (p c)
    where
      by : (t : Bool) → cond t (Some (dead c)) (Some c) ≡ Some (cond t (dead c) c)
      by true = refl
      by false = refl

  group_deleted : (id : Text) → group_delete r id ≡ Ok ws → (categories : Texts CategoryRow)
      × (with_writes ids r ws ≡ record r { categories = categories; groups = changed group_table r.groups id (λ g. record g { tombstone = true }) })
      × ((q : Text) → get categories q ≡ option_map (without_group r id) (get r.categories q))
  group_deleted id h =
      let p = passed (live_group r id) _ _ h in
      let ks = categories_of r id in
      let mid : Rows = record r { categories = deleted ks r.categories } in
      let w = into CategoryGroups (Given id) of.Tombstone (Plain (flag true)) in (
        deleted ks r.categories,
        made (list_map category_deletion ks ++ w ∷ []) _ (inside _ _ p.2)
            (with_writes-append ids r (list_map category_deletion ks) (w ∷ [])
            ∙ ap (λ (s : Rows). with_write ids s w) (deletions ks r) ∙ cell ids mid CategoryGroups (Given id) of.Tombstone (Plain (flag true))),
        λ q. get-each blank dead (λ c. refl) ks r.categories q
            ∙ ap (λ b. cond b (Some (dead (unwrap_or (get r.categories q) (blank q)))) (get r.categories q)) (among-keys_where text_total text_same (is_live_in r id) r.categories q)
            ∙ last (is_live_in r id) (get r.categories q) (blank q),
      )

  -- ---- categories

  module _ (row : RowName) (group : Text) (base : CategoryRow) where
    abbrev place : Text
    place = row_of ids row

    abbrev side : Bool
    side = takes_income r group

    abbrev with_category : CategoryRow → Rows
    with_category c = record r { categories = insert r.categories place c }

    abbrev placed : CategoryRow → CategoryRow
    placed c = category_table.set of.IsIncome (flag side) (category_table.set of.CatGroup (IsText group) c)

    -- a row that was written gets its group, and the side of that
    then_placed : with_writes ids (with_category base) (placed_in r row group) ≡ with_category (placed base)
    then_placed =
        let c = category_table.set of.CatGroup (IsText group) base in
        ap (λ (s : Rows). with_write ids s (into Categories row of.IsIncome (Plain (flag side))))
        (cell ids (with_category base) Categories row of.CatGroup (Plain (IsText group)) ∙ ap (λ (m : Texts CategoryRow). record r { categories = m }) (one_more category_table place of.CatGroup (IsText group) r.categories base refl))
        ∙ (cell ids (with_category c) Categories row of.IsIncome (Plain (flag side)) ∙ ap (λ (m : Texts CategoryRow). record r { categories = m }) (one_more category_table place of.IsIncome (flag side) r.categories c refl))

  category_added : (id : Option Text) (group name : Text) → category_add r id group name ≡ Ok ws
      → with_writes ids r ws ≡ record r { categories = changed category_table r.categories (new_id ids id) (λ c. record c { name = Some name; cat_group = Some group; is_income = some_and (λ g. g.is_income) (get r.groups group) }) }
  category_added id group name h =
      let p = passed (new_row (is_category r) id) _ _ h in
      let q = passed (live_group r group) _ _ p.2 in
      let s = passed (free_category_name r group name) _ _ q.2 in
      let k = row_of ids p.0 in
      let c : CategoryRow = category_table.set of.Name (IsText name) (unwrap_or (get r.categories k) (blank k)) in
      let after : Text → Bool → Rows = λ key b. record r { categories = changed category_table r.categories key (λ x. record x { name = Some name; cat_group = Some group; is_income = b }) } in
      made (into Categories p.0 of.Name (Plain (IsText name)) ∷ placed_in r p.0 group) _ (inside _ _ s.2)
      (ap (λ (s : Rows). with_writes ids s (placed_in r p.0 group)) (cell ids r Categories p.0 of.Name (Plain (IsText name))) ∙ then_placed p.0 group c
      ∙ ap (λ b. after k b) (flag_back (takes_income r group))
      ∙ ap (λ key. after key (takes_income r group)) (given_is ids (is_category r) id p.0 p.1))

  category_renamed : (id name : Text) → category_rename r id name ≡ Ok ws → with_writes ids r ws ≡ record r { categories = changed category_table r.categories id (λ c. record c { name = Some name }) }
  category_renamed id name h =
      let p = passed (live_category r id) _ _ h in
      let q = passed (if_there (λ group. free_category_name r group name) (group_of r id)) _ _ p.2 in
      made (into Categories (Given id) of.Name (Plain (IsText name)) ∷ []) _ (inside _ _ q.2) (cell ids r Categories (Given id) of.Name (Plain (IsText name)))

  category_moved : (id group : Text) → category_move r id group ≡ Ok ws
      → with_writes ids r ws ≡ record r { categories = changed category_table r.categories id (λ c. record c { cat_group = Some group; is_income = some_and (λ g. g.is_income) (get r.groups group) }) }
  category_moved id group h =
      let p = passed (live_category r id) _ _ h in
      let q = passed (live_group r group) _ _ p.2 in
      let s = passed (if_there (free_category_name r group) (name_of r id)) _ _ q.2 in
      let v = flag (takes_income r group) in
      let c : CategoryRow = category_table.set of.CatGroup (IsText group) (unwrap_or (get r.categories id) (blank id)) in
      let at : CategoryRow → Rows = λ x. record r { categories = insert r.categories id x } in
      made (placed_in r (Given id) group) _ (inside _ _ s.2)
      (ap (λ (s : Rows). with_write ids s (into Categories (Given id) of.IsIncome (Plain v))) (cell ids r Categories (Given id) of.CatGroup (Plain (IsText group)))
      ∙ cell ids (at c) Categories (Given id) of.IsIncome (Plain v) ∙ ap (λ (m : Texts CategoryRow). record r { categories = m }) (one_more category_table id of.IsIncome v r.categories c refl)
      ∙ ap (λ b. record r { categories = changed category_table r.categories id (λ x. record x { cat_group = Some group; is_income = b }) }) (flag_back (takes_income r group)))

  category_deleted : (id : Text) → category_delete r id ≡ Ok ws → with_writes ids r ws ≡ record r { categories = changed category_table r.categories id (λ c. record c { tombstone = true }) }
  category_deleted id h =
      let p = passed (live_category r id) _ _ h in
      made (into Categories (Given id) of.Tombstone (Plain (flag true)) ∷ []) _ (inside _ _ p.2) (cell ids r Categories (Given id) of.Tombstone (Plain (flag true)))

  -- ---- transactions and notes

  module _ (row : RowName) where
    abbrev tx_key : Text
    tx_key = row_of ids row

    abbrev with_tx : TxRow → Rows
    with_tx x = record r { txs = insert r.txs tx_key x }

    into_tx : (c : Column) (v : Value) (x : TxRow) → is_some (tx_table.kind c) ≡ true → with_write ids (with_tx x) (into Transactions row c (Plain v)) ≡ with_tx (tx_table.set c v x)
    into_tx c v x h = cell ids (with_tx x) Transactions row c (Plain v) ∙ ap (λ (m : Texts TxRow). record r { txs = m }) (one_more tx_table tx_key c v r.txs x h)

  tx_added : (id : Option Text) (account : Text) (date : ℕ) (amount : ℤ) (payee category : Option Text) (notes : Text) → tx_add r id account date amount payee category notes ≡ Ok ws
      → with_writes ids r ws ≡ record r { txs = changed tx_table r.txs (new_id ids id) (λ x. record x { acct = Some account; date = Some date; amount = amount; description = payee; category = category; notes = notes_or_none notes }) }
  tx_added id account date amount payee category notes h =
      let p = passed (new_row (is_tx r) id) _ _ h in
      let a = passed (live_account r account) _ _ p.2 in
      let d = passed (a_day date) _ _ a.2 in
      let e = passed (an_amount amount) _ _ d.2 in
      let f = passed (if_there (live_payee r) payee) _ _ e.2 in
      let g = passed (if_there (live_category r) category) _ _ f.2 in
      let k = row_of ids p.0 in
      let is_day_so : is_day date ≡ true = was_so (is_day date) (BadDate date) d.0 d.1 in
      let x1 : TxRow = tx_table.set of.Acct (IsText account) (unwrap_or (get r.txs k) (blank_row tx_table k)) in
      let x2 : TxRow = tx_table.set of.Date (Number (pos date)) x1 in
      let x3 : TxRow = tx_table.set of.Amount (Number amount) x2 in
      let x4 : TxRow = tx_table.set of.Description (text_or_null payee) x3 in
      let x5 : TxRow = tx_table.set of.Category (text_or_null category) x4 in
      let w2 : Write = into Transactions p.0 of.Date (Plain (Number (pos date))) in
      let w3 : Write = into Transactions p.0 of.Amount (Plain (Number amount)) in
      let w4 : Write = into Transactions p.0 of.Description (Plain (text_or_null payee)) in
      let w5 : Write = into Transactions p.0 of.Category (Plain (text_or_null category)) in
      let w6 : Write = into Transactions p.0 of.Notes (Plain (notes_value notes)) in
      let after : Text → Option ℕ → Option Text → Option Text → Option Text → Rows = λ key day y c n. record r { txs = changed tx_table r.txs key (λ x. record x { acct = Some account; date = day; amount = amount; description = y; category = c; notes = n }) } in
      made (tx_writes p.0 account date amount payee category notes) _ (inside _ _ g.2)
      (ap (λ (s : Rows). with_writes ids s (w2 ∷ w3 ∷ w4 ∷ w5 ∷ w6 ∷ [])) (cell ids r Transactions p.0 of.Acct (Plain (IsText account)))
      ∙ ap (λ (s : Rows). with_writes ids s (w3 ∷ w4 ∷ w5 ∷ w6 ∷ [])) (into_tx p.0 of.Date (Number (pos date)) x1 refl)
      ∙ ap (λ (s : Rows). with_writes ids s (w4 ∷ w5 ∷ w6 ∷ [])) (into_tx p.0 of.Amount (Number amount) x2 refl)
      ∙ ap (λ (s : Rows). with_writes ids s (w5 ∷ w6 ∷ [])) (into_tx p.0 of.Description (text_or_null payee) x3 refl)
      ∙ ap (λ (s : Rows). with_writes ids s (w6 ∷ [])) (into_tx p.0 of.Category (text_or_null category) x4 refl)
      ∙ into_tx p.0 of.Notes (notes_value notes) x5 refl
      ∙ ap (λ b. after k (cond b (Some date) None) (text_of (text_or_null payee)) (text_of (text_or_null category)) (text_of (notes_value notes))) is_day_so
      ∙ ap (λ t. after k (Some date) t (text_of (text_or_null category)) (text_of (notes_value notes))) (text_back payee)
      ∙ ap (λ t. after k (Some date) payee t (text_of (notes_value notes))) (text_back category)
      ∙ ap (λ t. after k (Some date) payee category t) (notes_are notes)
      ∙ ap (λ key. after key (Some date) payee category (notes_or_none notes)) (given_is ids (is_tx r) id p.0 p.1))

  noted : (id text : Text) → note id text ≡ Ok ws → with_writes ids r ws ≡ record r { notes = changed note_table r.notes id (λ n. record n { note = Some text }) }
  noted id text h =
      let p = passed (a_name id) _ _ h in
      made (into Notes (Given id) of.Note (Plain (IsText text)) ∷ []) _ (inside _ _ p.2) (cell ids r Notes (Given id) of.Note (Plain (IsText text)))

  -- ---- what categories are given, and what is held back

  budgeted_so : (month : ℕ) (category : Text) (amount : ℤ) → budget r month category amount ≡ Ok ws → with_writes ids r ws ≡ with_budget r category month (λ b. record b { amount = amount })
  budgeted_so month category amount h =
      let a = passed (a_month month) _ _ h in
      let b = passed (live_category r category) _ _ a.2 in
      let c = passed (no_income r category) _ _ b.2 in
      let d = passed (an_amount amount) _ _ c.2 in
      let e = passed (a_name (budget_id category month)) _ _ d.2 in
      made (budget_writes r category month (column_name of.Amount) (Number amount)) _ (inside _ _ e.2) (budget_cell ids r category month of.Amount (Number amount) refl)

  carried_so : (month : ℕ) (category : Text) (carries : Bool) → carryover r month category carries ≡ Ok ws → with_writes ids r ws ≡ with_budget r category month (λ b. record b { carryover = carries })
  carried_so month category carries h =
      let a = passed (a_month month) _ _ h in
      let b = passed (live_category r category) _ _ a.2 in
      let c = passed (no_income r category) _ _ b.2 in
      let e = passed (a_name (budget_id category month)) _ _ c.2 in
      made (budget_writes r category month (column_name of.Carryover) (flag carries)) _ (inside _ _ e.2)
      (budget_cell ids r category month of.Carryover (flag carries) refl ∙ ap (λ t. with_budget r category month (λ b. record b { carryover = t })) (flag_back carries))

  held_so : (month : ℕ) (amount : ℤ) → hold month amount ≡ Ok ws → with_writes ids r ws ≡ record r { months = changed month_table r.months (month_id month) (λ m. record m { buffered = amount }) }
  held_so month amount h =
      let a = passed (a_month month) _ _ h in
      let b = passed (a_held amount) _ _ a.2 in
      made (into ZeroBudgetMonths (Given (month_id month)) of.Buffered (Plain (Number amount)) ∷ []) _ (inside _ _ b.2) (cell ids r ZeroBudgetMonths (Given (month_id month)) of.Buffered (Plain (Number amount)))

  -- ---- the tracking budget

  tracked_so : (month : ℕ) (category : Text) (amount : ℤ) → track r month category amount ≡ Ok ws → with_writes ids r ws ≡ with_tracked r category month (λ b. record b { amount = amount })
  tracked_so month category amount h =
      let a = passed (a_month month) _ _ h in
      let b = passed (live_category r category) _ _ a.2 in
      let d = passed (an_amount amount) _ _ b.2 in
      let e = passed (a_name (budget_id category month)) _ _ d.2 in
      made (track_writes r category month (column_name of.Amount) (Number amount)) _ (inside _ _ e.2) (tracked_cell ids r category month of.Amount (Number amount) refl)

  tracked_carries : (month : ℕ) (category : Text) (carries : Bool) → track_carryover r month category carries ≡ Ok ws → with_writes ids r ws ≡ with_tracked r category month (λ b. record b { carryover = carries })
  tracked_carries month category carries h =
      let a = passed (a_month month) _ _ h in
      let b = passed (live_category r category) _ _ a.2 in
      let e = passed (a_name (budget_id category month)) _ _ b.2 in
      made (track_writes r category month (column_name of.Carryover) (flag carries)) _ (inside _ _ e.2)
      (tracked_cell ids r category month of.Carryover (flag carries) refl ∙ ap (λ t. with_tracked r category month (λ b. record b { carryover = t })) (flag_back carries))

  -- ---- a move

  module _ (month : ℕ) (from to : Text) (amount : ℤ) (apart : same_id from to ≡ false) where
    abbrev to_key : Text
    to_key = budget_id to month

    abbrev less : ℤ
    less = budgeted r from month -ℤ amount

    abbrev mid : Rows
    mid = with_budget r from month (λ b. record b { amount = less })

    same_there : get mid.budgets to_key ≡ get r.budgets to_key
    same_there =
        get-insert text_total r.budgets (budget_id from month) (record (budget_row r from month) { amount = less }) to_key
        ∙ ap (λ b. cond b (Some (record (budget_row r from month) { amount = less })) (get r.budgets to_key)) (two_keys month from to apart)

    was : budgeted r to month ≡ (budget_row mid to month).amount
    was = ap (value_or_zero (λ (b : BudgetRow). b.amount)) (sym same_there) ∙ given_as (get mid.budgets to_key) (new_budget to month) refl

    was_from : budgeted r from month ≡ (budget_row r from month).amount
    was_from = given_as (get r.budgets (budget_id from month)) (new_budget from month) refl

    row_same : row_made r to month ≡ row_made mid to month
    row_same =
        ap (λ (o : Option BudgetRow). if is_some o then [] else into ZeroBudgets (Given to_key) of.Month (Plain (Number (pos month))) ∷ into ZeroBudgets (Given to_key) of.Category (Plain (IsText to)) ∷ []) (sym same_there)

    both : (more : ℤ) → with_writes ids r (two_amounts r month from less to more) ≡ with_budget mid to month (λ b. record b { amount = more })
    both more =
        with_writes-append ids r (budget_writes r from month (column_name of.Amount) (Number less)) (budget_writes r to month (column_name of.Amount) (Number more))
        ∙ ap (λ (s : Rows). with_writes ids s (budget_writes r to month (column_name of.Amount) (Number more))) (budget_cell ids r from month of.Amount (Number less) refl)
        ∙ ap (λ (vs : List Write). with_writes ids mid (vs ++ into ZeroBudgets (Given to_key) of.Amount (Plain (Number more)) ∷ [])) row_same
        ∙ budget_cell ids mid to month of.Amount (Number more) refl

  moved_so : (month : ℕ) (from to : Text) (amount : ℤ) → move r month from to amount ≡ Ok ws
      → with_writes ids r ws ≡ with_budget (with_budget r from month (λ b. record b { amount = b.amount -ℤ amount })) to month (λ b. record b { amount = b.amount +ℤ amount })
  moved_so month from to amount h =
      let p = passed (may_move r month from to amount) _ _ h in
      let l = passed (an_amount (budgeted r from month -ℤ amount)) _ _ p.2 in
      let g = passed (an_amount (budgeted r to month +ℤ amount)) _ _ l.2 in
      let f = passed (a_name (budget_id from month)) _ _ g.2 in
      let t = passed (a_name (budget_id to month)) _ _ f.2 in
      let a = passed (a_month month) _ _ p.1 in
      let b = passed (live_category r from) _ _ a.2 in
      let c = passed (live_category r to) _ _ b.2 in
      let d = passed (no_income r from) _ _ c.2 in
      let e = passed (no_income r to) _ _ d.2 in
      let i = passed (two_ids from to) _ _ e.2 in
      let apart = not_true (same_id from to) (was_so (not (same_id from to)) (SameAccount from) i.0 i.1) in
      made (two_amounts r month from (budgeted r from month -ℤ amount) to (budgeted r to month +ℤ amount)) _ (inside _ _ t.2)
      (both month from to amount apart (budgeted r to month +ℤ amount)
      ∙ ap (λ z. with_budget (mid month from to amount apart) to month (λ b. record b { amount = z +ℤ amount })) (was month from to amount apart)
      ∙ ap (λ z. with_budget (with_budget r from month (λ b. record b { amount = z -ℤ amount })) to month (λ b. record b { amount = b.amount +ℤ amount })) (was_from month from to amount apart))

pub nothing_more : (ids : Ids) (rows : Rows) (ws : List Write) → PlainEditsDoNoMore ids rows ws
nothing_more ids rows ws = record {
  set = any_set ids rows ws;
  account_add = account_added ids rows ws;
  account_rename = account_renamed ids rows ws;
  account_offbudget = account_moved ids rows ws;
  account_reopen = account_opened ids rows ws;
  account_close = account_closed ids rows ws;
  payee_add = payee_added ids rows ws;
  payee_rename = payee_renamed ids rows ws;
  payee_delete = payee_deleted ids rows ws;
  group_add = group_added ids rows ws;
  group_rename = group_renamed ids rows ws;
  group_delete = group_deleted ids rows ws;
  category_add = category_added ids rows ws;
  category_rename = category_renamed ids rows ws;
  category_move = category_moved ids rows ws;
  category_delete = category_deleted ids rows ws;
  tx_add = tx_added ids rows ws;
  note = noted ids rows ws;
  budget = budgeted_so ids rows ws;
  carryover = carried_so ids rows ws;
  hold = held_so ids rows ws;
  move = moved_so ids rows ws;
  track = tracked_so ids rows ws;
  track_carryover = tracked_carries ids rows ws;
}
