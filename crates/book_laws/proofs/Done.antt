-- What edits do, in the rows that they leave.
use Rattle.std.proofs.Common.{◌≡◌, ℕ, Bool, true, false, cond, List, [], ◌∷◌, ◌++◌, Option, None, Some, Ok, refl, ap, sym, ◌∙◌}
use Rattle.std.specs.Prelude.{◌≢◌, ◌&&◌, not, is_some, unwrap_or, map as list_map, option_to_list}
use lib.IntN.{ℤ, pos, neg_ℤ}
use Rattle.std.proofs.lemmas.Bool.Decides.{Decides-int_eq}
use Rattle.std.specs.Ordering.{int_eq}
use Rattle.std.specs.FinMap.{get, insert, get-insert}
use Rattle.field_values.specs.declared.value.Value.{Value}
use Rattle.field_values.specs.declared.value.Value.TheVariants.{Number, Text as IsText}
use Rattle.finite_sums.specs.Maps.{Text, Texts, text_cmp, is_among}
use Rattle.finite_sums.proofs.Texts.{text_total}
use Rattle.book_rows.specs.declared.column.Dataset.{Dataset}
use Rattle.book_rows.specs.declared.column.Dataset.TheVariants.{Accounts, CategoryGroups, Categories, Payees, ZeroBudgets, ZeroBudgetMonths}
use Rattle.book_rows.specs.declared.column.Column.{Column}
use Rattle.book_rows.specs.declared.column.Column.TheVariants as of
use Rattle.book_rows.specs.declared.rows.Rows.{Rows}
use Rattle.book_rows.specs.declared.rows.TxRow.{TxRow}
use Rattle.book_rows.specs.declared.rows.AccountRow.{AccountRow}
use Rattle.book_rows.specs.declared.rows.GroupRow.{GroupRow}
use Rattle.book_rows.specs.declared.rows.CategoryRow.{CategoryRow}
use Rattle.book_rows.specs.declared.rows.PayeeRow.{PayeeRow}
use Rattle.book_rows.specs.declared.rows.BudgetRow.{BudgetRow}
use Rattle.book_rows.specs.declared.rows.MonthRow.{MonthRow}
use Rattle.book_rows.specs.declared.write.RowName.{RowName}
use Rattle.book_rows.specs.declared.write.RowName.TheVariants.{Given, Made}
use Rattle.book_rows.specs.declared.write.WriteValue.{WriteValue}
use Rattle.book_rows.specs.declared.write.WriteValue.TheVariants.{Plain}
use Rattle.book_rows.specs.declared.write.Write.{Write}
use Rattle.book_rows.specs.declared.fault.EditFault.TheVariants.{BadId, IdTaken, BadDate, ClosedAccount}
use Rattle.book_rows.specs.Balances.{balance_of}
use Rattle.book_rows.specs.Columns.{dataset_name, column_name, column_of}
use Rattle.book_rows.specs.Ids.{budget_id, month_id}
use Rattle.book_rows.specs.Kinds.{is_day, text_of, flag_of}
use Rattle.book_rows.specs.Rows.{with_cell, with_known}
use Rattle.book_rows.specs.Rules.{account_table, group_table, category_table, payee_table, budget_table, month_table}
use Rattle.book_rows.specs.Tables.{Table, blank_row, with_column}
use Rattle.book_rows.proofs.Naming.{dataset_found, column_found}
use Rattle.book_edits.specs.Faults.{must, if_there}
use Rattle.book_edits.specs.Checks.{same_id, may_be_chosen, new_row, live_account, live_group, live_category, live_payee, no_income, without_balance, free_group_name, free_category_name, name_of, group_of, a_day, a_month, an_amount, a_held, a_name}
use Rattle.book_edits.specs.Writing.{flag, text_or_null, notes_value, id_value}
use Rattle.book_edits.specs.Accounts.{is_account, is_payee, account_writes, account_add, account_rename, account_offbudget, account_reopen, account_close, payee_add, payee_rename, payee_delete}
use Rattle.book_edits.specs.Categories.{is_group, is_category, takes_income, categories_of, category_deletion, group_add, group_rename, group_delete, category_add, category_rename, category_move, category_delete}
use Rattle.book_edits.specs.Transactions.{is_tx, tx_writes, tx_add}
use Rattle.book_edits.specs.Budgets.{row_made, budget, carryover, hold}
use Rattle.book_edits.proofs.Valid.{inside, passed, was_so}
use Rattle.split_transfer.specs.Pairs.{partner_of, names_back, parts_of}
use Rattle.split_transfer.specs.Changes.{set_date, set_amount, set_account, set_payee, set_category, set_cleared, set_schedule, set_notes, tx_delete}
use Rattle.split_transfer.specs.Checks.{live_tx, live_schedule, no_child, no_pair, takes_category, stays_even}
use Rattle.split_transfer.specs.After.{Ids, row_of, value_in, with_write, with_writes}
use Rattle.book_laws.specs.Doing.{new_id, PlainEditsDo, ChangesDo}
use Rattle.split_transfer.proofs.Adding.{at_new}
use Rattle.split_transfer.proofs.After.{with_writes-append, each_row}
use Rattle.split_transfer.proofs.Basics.{bool_cases, both_true, or_left, true_false, same_refl, where_some, not_true, among-option_to_list}
use Rattle.split_transfer.proofs.Columns.{TxColumn, Acct, Date, Amount, Description, Category, Notes, Cleared, Schedule, Tombstone, blank, on_each, with_column as with_tx}
use Rattle.split_transfer.proofs.Promise.{live_is}

-- ---- values that are read back

pub text_back : (t : Option Text) → text_of (text_or_null t) ≡ t
text_back None = refl
text_back (Some t) = refl

pub flag_back : (b : Bool) → flag_of (flag b) ≡ b
flag_back true = refl
flag_back false = refl

notes_back : (t : Text) → (t ≢ [] → text_of (notes_value t) ≡ Some t) × (t ≡ [] → text_of (notes_value t) ≡ None)
notes_back [] = (λ h. absurd (h refl), λ h. refl)
notes_back (byte ∷ bytes) = (λ h. refl, λ h. cc)

-- what the writes of a new transaction make of a row
abbrev added : Text → ℕ → ℤ → Option Text → Option Text → Text → TxRow → TxRow
added account date amount payee category notes base =
    with_tx Notes (notes_value notes) (with_tx Category (text_or_null category) (with_tx Description (text_or_null payee)
    (with_tx Amount (Number amount) (with_tx Date (Number (pos date)) (with_tx Acct (IsText account) base)))))

-- ---- the row of a new id

pub given_is : (ids : Ids) (there : Text → Bool) (id : Option Text) (row : RowName) → new_row there id ≡ Ok row → row_of ids row ≡ new_id ids id
given_is ids there None row h = ap (row_of ids) (sym (inside (Made 0) row h))
given_is ids there (Some id) row h =
    let a = passed (must (may_be_chosen id) (BadId id)) _ _ h in
    let b = passed (must (not (there id)) (IdTaken id)) _ _ a.2 in
    ap (row_of ids) (sym (inside (Given id) row b.2))

-- ---- cells

-- the write of a value into a column of a dataset
abbrev pub into : Dataset → RowName → Column → WriteValue → Write
into d row c v = record { dataset = dataset_name d; row = row; column = column_name c; value = v }

pub cell : (ids : Ids) (r : Rows) (d : Dataset) (row : RowName) (c : Column) (v : WriteValue) → with_write ids r (into d row c v) ≡ with_cell d (row_of ids row) c (value_in ids v) r
cell ids r d row c v =
    ap (λ x. with_known x (column_of (column_name c)) (row_of ids row) (value_in ids v) r) (dataset_found d)
    ∙ ap (λ x. with_known (Some d) x (row_of ids row) (value_in ids v) r) (column_found c)

two_cells : (ids : Ids) (r : Rows) (d e : Dataset) (row other : RowName) (b c : Column) (v w : WriteValue)
    → with_writes ids r (into d row b v ∷ into e other c w ∷ []) ≡ with_cell e (row_of ids other) c (value_in ids w) (with_cell d (row_of ids row) b (value_in ids v) r)
two_cells ids r d e row other b c v w = ap (λ m. with_write ids m (into e other c w)) (cell ids r d row b v) ∙ cell ids (with_cell d (row_of ids row) b (value_in ids v) r) e other c w

module _ {Row : Type 0} (T : Table Row) (id : Text) where
  got : (c : Column) (v : Value) (m : Texts Row) → is_some (T.kind c) ≡ true → get (with_column T id c v m) id ≡ Some (T.set c v (unwrap_or (get m id) (blank_row T id)))
  got c v m h =
      ap (λ b. get (cond b (insert m id (T.set c v (unwrap_or (get m id) (blank_row T id)))) m) id) h
      ∙ get-insert text_total m id (T.set c v (unwrap_or (get m id) (blank_row T id))) id
      ∙ ap (λ b. cond b (Some (T.set c v (unwrap_or (get m id) (blank_row T id)))) (get m id)) (same_refl id)

  got_two : (b c : Column) (v w : Value) (m : Texts Row) → is_some (T.kind b) ≡ true → is_some (T.kind c) ≡ true
      → get (with_column T id c w (with_column T id b v m)) id ≡ Some (T.set c w (T.set b v (unwrap_or (get m id) (blank_row T id))))
  got_two b c v w m h k = got c w (with_column T id b v m) k ∙ ap (λ o. Some (T.set c w (unwrap_or o (blank_row T id)))) (got b v m h)

-- the id of a row, as a value that is written
pub id_is : (ids : Ids) (row : RowName) → value_in ids (id_value row) ≡ IsText (row_of ids row)
id_is ids (Given id) = refl
id_is ids (Made at) = refl

module _ (ids : Ids) (r : Rows) where
  -- ---- accounts and payees

  abbrev pub accounts_set : Text → Text → Bool → Rows
  accounts_set k name off = with_cell Accounts k of.Offbudget (flag off) (with_cell Accounts k of.Name (IsText name) r)

  pub accounts_after : (row : RowName) (name : Text) (off : Bool)
      → with_writes ids r (account_writes row name off) ≡ with_cell Payees (ids 2) of.TransferAcct (value_in ids (id_value row)) (with_cell Payees (ids 2) of.Name (IsText []) (accounts_set (row_of ids row) name off))
  accounts_after row name off =
      ap (λ m. with_writes ids m (into Payees (Made 2) of.Name (Plain (IsText [])) ∷ into Payees (Made 2) of.TransferAcct (id_value row) ∷ []))
      (two_cells ids r Accounts Accounts row row of.Name of.Offbudget (Plain (IsText name)) (Plain (flag off)))
      ∙ two_cells ids (accounts_set (row_of ids row) name off) Payees Payees (Made 2) (Made 2) of.Name of.TransferAcct (Plain (IsText [])) (id_value row)

  account_done : (ws : List Write) (id : Option Text) (name : Text) (off : Bool) → account_add r id name off ≡ Ok ws
      → (a : AccountRow) × (get (with_writes ids r ws).accounts (new_id ids id) ≡ Some a) × (a.name ≡ Some name) × (a.offbudget ≡ off)
      × (get r.accounts (new_id ids id) ≡ None → (a.tombstone ≡ false) × (a.closed ≡ false))
  account_done ws id name off h =
      let p = passed (new_row (is_account r) id) _ _ h in
      let k = row_of ids p.0 in
      let a : AccountRow = account_table.set of.Offbudget (flag off) (account_table.set of.Name (IsText name) (unwrap_or (get r.accounts k) (blank_row account_table k))) in
      let same : account_writes p.0 name off ≡ ws = inside _ _ p.2 in (
        a,
        ap (get (with_writes ids r ws).accounts) (sym (given_is ids (is_account r) id p.0 p.1)) ∙ ap (λ (vs : List Write). get (with_writes ids r vs).accounts k) (sym same)
            ∙ ap (λ (m : Rows). get m.accounts k) (accounts_after p.0 name off) ∙ got_two account_table k of.Name of.Offbudget (IsText name) (flag off) r.accounts refl refl,
        refl,
        flag_back off,
        λ none.
            let was = ap (get r.accounts) (given_is ids (is_account r) id p.0 p.1) ∙ none in
            let made : Option AccountRow → AccountRow = λ o. account_table.set of.Offbudget (flag off) (account_table.set of.Name (IsText name) (unwrap_or o (blank_row account_table k))) in
            (ap (λ o. (made o).tombstone) was, ap (λ o. (made o).closed) was),
      )

  stands_done : (ws : List Write) (id : Option Text) (name : Text) (off : Bool) → account_add r id name off ≡ Ok ws
      → (p : PayeeRow) × (get (with_writes ids r ws).payees (ids 2) ≡ Some p) × (p.transfer_acct ≡ Some (new_id ids id))
      × (get r.payees (ids 2) ≡ None → p.tombstone ≡ false)
  stands_done ws id name off h =
      let p = passed (new_row (is_account r) id) _ _ h in
      let v = value_in ids (id_value p.0) in
      let y : PayeeRow = payee_table.set of.TransferAcct v (payee_table.set of.Name (IsText []) (unwrap_or (get r.payees (ids 2)) (blank_row payee_table (ids 2)))) in
      let same : account_writes p.0 name off ≡ ws = inside _ _ p.2 in (
        y,
        ap (λ (vs : List Write). get (with_writes ids r vs).payees (ids 2)) (sym same)
            ∙ ap (λ (m : Rows). get m.payees (ids 2)) (accounts_after p.0 name off) ∙ got_two payee_table (ids 2) of.Name of.TransferAcct (IsText []) v r.payees refl refl,
        ap text_of (id_is ids p.0) ∙ ap (λ (t : Text). Some t) (given_is ids (is_account r) id p.0 p.1),
        λ none. ap (λ o. (payee_table.set of.TransferAcct v (payee_table.set of.Name (IsText []) (unwrap_or o (blank_row payee_table (ids 2))))).tombstone) none,
      )

  renamed_done : (ws : List Write) (id name : Text) → account_rename r id name ≡ Ok ws → (a : AccountRow) × (get (with_writes ids r ws).accounts id ≡ Some a) × (a.name ≡ Some name)
  renamed_done ws id name h =
      let p = passed (live_account r id) _ _ h in
      let a : AccountRow = account_table.set of.Name (IsText name) (unwrap_or (get r.accounts id) (blank_row account_table id)) in
      let same : into Accounts (Given id) of.Name (Plain (IsText name)) ∷ [] ≡ ws = inside _ _ p.2 in (
        a,
        ap (λ (vs : List Write). get (with_writes ids r vs).accounts id) (sym same) ∙ ap (λ (m : Rows). get m.accounts id) (cell ids r Accounts (Given id) of.Name (Plain (IsText name)))
            ∙ got account_table id of.Name (IsText name) r.accounts refl,
        refl,
      )

  opened_done : (ws : List Write) (id : Text) → account_reopen r id ≡ Ok ws → (a : AccountRow) × (get (with_writes ids r ws).accounts id ≡ Some a) × (a.closed ≡ false)
  opened_done ws id h =
      let p = passed (live_account r id) _ _ h in
      let a : AccountRow = account_table.set of.Closed (flag false) (unwrap_or (get r.accounts id) (blank_row account_table id)) in
      let same : into Accounts (Given id) of.Closed (Plain (flag false)) ∷ [] ≡ ws = inside _ _ p.2 in (
        a,
        ap (λ (vs : List Write). get (with_writes ids r vs).accounts id) (sym same) ∙ ap (λ (m : Rows). get m.accounts id) (cell ids r Accounts (Given id) of.Closed (Plain (flag false)))
            ∙ got account_table id of.Closed (flag false) r.accounts refl,
        refl,
      )

  off_done : (ws : List Write) (id : Text) (off : Bool) → account_offbudget r id off ≡ Ok ws → (a : AccountRow) × (get (with_writes ids r ws).accounts id ≡ Some a) × (a.offbudget ≡ off)
  off_done ws id off h =
      let p = passed (live_account r id) _ _ h in
      let a : AccountRow = account_table.set of.Offbudget (flag off) (unwrap_or (get r.accounts id) (blank_row account_table id)) in
      let same : into Accounts (Given id) of.Offbudget (Plain (flag off)) ∷ [] ≡ ws = inside _ _ p.2 in (
        a,
        ap (λ (vs : List Write). get (with_writes ids r vs).accounts id) (sym same) ∙ ap (λ (m : Rows). get m.accounts id) (cell ids r Accounts (Given id) of.Offbudget (Plain (flag off)))
            ∙ got account_table id of.Offbudget (flag off) r.accounts refl,
        flag_back off,
      )

  closed_done : (ws : List Write) (id : Text) → account_close r id ≡ Ok ws → (a : AccountRow) × (get (with_writes ids r ws).accounts id ≡ Some a) × (a.closed ≡ true) × (balance_of r id ≡ pos 0)
  closed_done ws id h =
      let p = passed (live_account r id) _ _ h in
      let q = passed (without_balance r id) _ _ p.2 in
      let a : AccountRow = account_table.set of.Closed (flag true) (unwrap_or (get r.accounts id) (blank_row account_table id)) in
      let same : into Accounts (Given id) of.Closed (Plain (flag true)) ∷ [] ≡ ws = inside _ _ q.2 in (
        a,
        ap (λ (vs : List Write). get (with_writes ids r vs).accounts id) (sym same) ∙ ap (λ (m : Rows). get m.accounts id) (cell ids r Accounts (Given id) of.Closed (Plain (flag true)))
            ∙ got account_table id of.Closed (flag true) r.accounts refl,
        refl,
        (Decides-int_eq (balance_of r id) (pos 0)).0 (was_so (int_eq (balance_of r id) (pos 0)) (ClosedAccount (balance_of r id)) q.0 q.1),
      )

  payee_done : (ws : List Write) (id : Option Text) (name : Text) → payee_add r id name ≡ Ok ws → (p : PayeeRow) × (get (with_writes ids r ws).payees (new_id ids id) ≡ Some p) × (p.name ≡ Some name)
      × (get r.payees (new_id ids id) ≡ None → p.tombstone ≡ false)
  payee_done ws id name h =
      let p = passed (new_row (is_payee r) id) _ _ h in
      let k = row_of ids p.0 in
      let y : PayeeRow = payee_table.set of.Name (IsText name) (unwrap_or (get r.payees k) (blank_row payee_table k)) in
      let same : into Payees p.0 of.Name (Plain (IsText name)) ∷ [] ≡ ws = inside _ _ p.2 in (
        y,
        ap (get (with_writes ids r ws).payees) (sym (given_is ids (is_payee r) id p.0 p.1)) ∙ ap (λ (vs : List Write). get (with_writes ids r vs).payees k) (sym same)
            ∙ ap (λ (m : Rows). get m.payees k) (cell ids r Payees p.0 of.Name (Plain (IsText name))) ∙ got payee_table k of.Name (IsText name) r.payees refl,
        refl,
        λ none. ap (λ o. (payee_table.set of.Name (IsText name) (unwrap_or o (blank_row payee_table k))).tombstone) (ap (get r.payees) (given_is ids (is_payee r) id p.0 p.1) ∙ none),
      )

  payee_renamed : (ws : List Write) (id name : Text) → payee_rename r id name ≡ Ok ws → (p : PayeeRow) × (get (with_writes ids r ws).payees id ≡ Some p) × (p.name ≡ Some name)
  payee_renamed ws id name h =
      let p = passed (live_payee r id) _ _ h in
      let y : PayeeRow = payee_table.set of.Name (IsText name) (unwrap_or (get r.payees id) (blank_row payee_table id)) in
      let same : into Payees (Given id) of.Name (Plain (IsText name)) ∷ [] ≡ ws = inside _ _ p.2 in (
        y,
        ap (λ (vs : List Write). get (with_writes ids r vs).payees id) (sym same) ∙ ap (λ (m : Rows). get m.payees id) (cell ids r Payees (Given id) of.Name (Plain (IsText name)))
            ∙ got payee_table id of.Name (IsText name) r.payees refl,
        refl,
      )

  payee_gone : (ws : List Write) (id : Text) → payee_delete r id ≡ Ok ws → (p : PayeeRow) × (get (with_writes ids r ws).payees id ≡ Some p) × (p.tombstone ≡ true)
  payee_gone ws id h =
      let p = passed (live_payee r id) _ _ h in
      let y : PayeeRow = payee_table.set of.Tombstone (flag true) (unwrap_or (get r.payees id) (blank_row payee_table id)) in
      let same : into Payees (Given id) of.Tombstone (Plain (flag true)) ∷ [] ≡ ws = inside _ _ p.2 in (
        y,
        ap (λ (vs : List Write). get (with_writes ids r vs).payees id) (sym same) ∙ ap (λ (m : Rows). get m.payees id) (cell ids r Payees (Given id) of.Tombstone (Plain (flag true)))
            ∙ got payee_table id of.Tombstone (flag true) r.payees refl,
        refl,
      )

  -- ---- groups and categories

  group_done : (ws : List Write) (id : Option Text) (name : Text) (income : Bool) → group_add r id name income ≡ Ok ws
      → (g : GroupRow) × (get (with_writes ids r ws).groups (new_id ids id) ≡ Some g) × (g.name ≡ Some name) × (g.is_income ≡ income)
      × (get r.groups (new_id ids id) ≡ None → g.tombstone ≡ false)
  group_done ws id name income h =
      let p = passed (new_row (is_group r) id) _ _ h in
      let q = passed (free_group_name r name) _ _ p.2 in
      let k = row_of ids p.0 in
      let g : GroupRow = group_table.set of.IsIncome (flag income) (group_table.set of.Name (IsText name) (unwrap_or (get r.groups k) (blank_row group_table k))) in
      let same : into CategoryGroups p.0 of.Name (Plain (IsText name)) ∷ into CategoryGroups p.0 of.IsIncome (Plain (flag income)) ∷ [] ≡ ws = inside _ _ q.2 in (
        g,
        ap (get (with_writes ids r ws).groups) (sym (given_is ids (is_group r) id p.0 p.1)) ∙ ap (λ (vs : List Write). get (with_writes ids r vs).groups k) (sym same)
            ∙ ap (λ (m : Rows). get m.groups k) (two_cells ids r CategoryGroups CategoryGroups p.0 p.0 of.Name of.IsIncome (Plain (IsText name)) (Plain (flag income)))
            ∙ got_two group_table k of.Name of.IsIncome (IsText name) (flag income) r.groups refl refl,
        refl,
        flag_back income,
        λ none. ap (λ o. (group_table.set of.IsIncome (flag income) (group_table.set of.Name (IsText name) (unwrap_or o (blank_row group_table k)))).tombstone)
            (ap (get r.groups) (given_is ids (is_group r) id p.0 p.1) ∙ none),
      )

  group_renamed : (ws : List Write) (id name : Text) → group_rename r id name ≡ Ok ws → (g : GroupRow) × (get (with_writes ids r ws).groups id ≡ Some g) × (g.name ≡ Some name)
  group_renamed ws id name h =
      let p = passed (live_group r id) _ _ h in
      let q = passed (free_group_name r name) _ _ p.2 in
      let g : GroupRow = group_table.set of.Name (IsText name) (unwrap_or (get r.groups id) (blank_row group_table id)) in
      let same : into CategoryGroups (Given id) of.Name (Plain (IsText name)) ∷ [] ≡ ws = inside _ _ q.2 in (
        g,
        ap (λ (vs : List Write). get (with_writes ids r vs).groups id) (sym same) ∙ ap (λ (m : Rows). get m.groups id) (cell ids r CategoryGroups (Given id) of.Name (Plain (IsText name)))
            ∙ got group_table id of.Name (IsText name) r.groups refl,
        refl,
      )

  group_gone : (ws : List Write) (id : Text) → group_delete r id ≡ Ok ws → (g : GroupRow) × (get (with_writes ids r ws).groups id ≡ Some g) × (g.tombstone ≡ true)
  group_gone ws id h =
      let p = passed (live_group r id) _ _ h in
      let mid = with_writes ids r (list_map category_deletion (categories_of r id)) in
      let g : GroupRow = group_table.set of.Tombstone (flag true) (unwrap_or (get mid.groups id) (blank_row group_table id)) in
      let same : list_map category_deletion (categories_of r id) ++ into CategoryGroups (Given id) of.Tombstone (Plain (flag true)) ∷ [] ≡ ws = inside _ _ p.2 in (
        g,
        ap (λ (vs : List Write). get (with_writes ids r vs).groups id) (sym same)
            ∙ ap (λ (m : Rows). get m.groups id) (with_writes-append ids r (list_map category_deletion (categories_of r id)) (into CategoryGroups (Given id) of.Tombstone (Plain (flag true)) ∷ []))
            ∙ ap (λ (m : Rows). get m.groups id) (cell ids mid CategoryGroups (Given id) of.Tombstone (Plain (flag true)))
            ∙ got group_table id of.Tombstone (flag true) mid.groups refl,
        refl,
      )

  category_done : (ws : List Write) (id : Option Text) (group name : Text) → category_add r id group name ≡ Ok ws
      → (c : CategoryRow) × (get (with_writes ids r ws).categories (new_id ids id) ≡ Some c) × (c.name ≡ Some name) × (c.cat_group ≡ Some group)
      × (get r.categories (new_id ids id) ≡ None → c.tombstone ≡ false)
  category_done ws id group name h =
      let p = passed (new_row (is_category r) id) _ _ h in
      let q = passed (live_group r group) _ _ p.2 in
      let s = passed (free_category_name r group name) _ _ q.2 in
      let k = row_of ids p.0 in
      let v = flag (takes_income r group) in
      let mid = with_cell Categories k of.CatGroup (IsText group) (with_cell Categories k of.Name (IsText name) r) in
      let c : CategoryRow = category_table.set of.IsIncome v (category_table.set of.CatGroup (IsText group) (category_table.set of.Name (IsText name) (unwrap_or (get r.categories k) (blank_row category_table k)))) in
      let same : into Categories p.0 of.Name (Plain (IsText name)) ∷ into Categories p.0 of.CatGroup (Plain (IsText group)) ∷ into Categories p.0 of.IsIncome (Plain v) ∷ [] ≡ ws = inside _ _ s.2 in (
        c,
        ap (get (with_writes ids r ws).categories) (sym (given_is ids (is_category r) id p.0 p.1)) ∙ ap (λ (vs : List Write). get (with_writes ids r vs).categories k) (sym same)
            ∙ ap (λ (m : Rows). get (with_write ids m (into Categories p.0 of.IsIncome (Plain v))).categories k) (two_cells ids r Categories Categories p.0 p.0 of.Name of.CatGroup (Plain (IsText name)) (Plain (IsText group)))
            ∙ ap (λ (m : Rows). get m.categories k) (cell ids mid Categories p.0 of.IsIncome (Plain v))
            ∙ got category_table k of.IsIncome v mid.categories refl
            ∙ ap (λ o. Some (category_table.set of.IsIncome v (unwrap_or o (blank_row category_table k)))) (got_two category_table k of.Name of.CatGroup (IsText name) (IsText group) r.categories refl refl),
        refl,
        refl,
        λ none. ap (λ o. (category_table.set of.IsIncome v (category_table.set of.CatGroup (IsText group) (category_table.set of.Name (IsText name) (unwrap_or o (blank_row category_table k))))).tombstone)
            (ap (get r.categories) (given_is ids (is_category r) id p.0 p.1) ∙ none),
      )

  category_renamed : (ws : List Write) (id name : Text) → category_rename r id name ≡ Ok ws → (c : CategoryRow) × (get (with_writes ids r ws).categories id ≡ Some c) × (c.name ≡ Some name)
  category_renamed ws id name h =
      let p = passed (live_category r id) _ _ h in
      let q = passed (if_there (λ group. free_category_name r group name) (group_of r id)) _ _ p.2 in
      let c : CategoryRow = category_table.set of.Name (IsText name) (unwrap_or (get r.categories id) (blank_row category_table id)) in
      let same : into Categories (Given id) of.Name (Plain (IsText name)) ∷ [] ≡ ws = inside _ _ q.2 in (
        c,
        ap (λ (vs : List Write). get (with_writes ids r vs).categories id) (sym same) ∙ ap (λ (m : Rows). get m.categories id) (cell ids r Categories (Given id) of.Name (Plain (IsText name)))
            ∙ got category_table id of.Name (IsText name) r.categories refl,
        refl,
      )

  category_moved : (ws : List Write) (id group : Text) → category_move r id group ≡ Ok ws → (c : CategoryRow) × (get (with_writes ids r ws).categories id ≡ Some c) × (c.cat_group ≡ Some group)
  category_moved ws id group h =
      let p = passed (live_category r id) _ _ h in
      let q = passed (live_group r group) _ _ p.2 in
      let s = passed (if_there (free_category_name r group) (name_of r id)) _ _ q.2 in
      let v = flag (takes_income r group) in
      let c : CategoryRow = category_table.set of.IsIncome v (category_table.set of.CatGroup (IsText group) (unwrap_or (get r.categories id) (blank_row category_table id))) in
      let same : into Categories (Given id) of.CatGroup (Plain (IsText group)) ∷ into Categories (Given id) of.IsIncome (Plain v) ∷ [] ≡ ws = inside _ _ s.2 in (
        c,
        ap (λ (vs : List Write). get (with_writes ids r vs).categories id) (sym same)
            ∙ ap (λ (m : Rows). get m.categories id) (two_cells ids r Categories Categories (Given id) (Given id) of.CatGroup of.IsIncome (Plain (IsText group)) (Plain v))
            ∙ got_two category_table id of.CatGroup of.IsIncome (IsText group) v r.categories refl refl,
        refl,
      )

  category_gone : (ws : List Write) (id : Text) → category_delete r id ≡ Ok ws → (c : CategoryRow) × (get (with_writes ids r ws).categories id ≡ Some c) × (c.tombstone ≡ true)
  category_gone ws id h =
      let p = passed (live_category r id) _ _ h in
      let c : CategoryRow = category_table.set of.Tombstone (flag true) (unwrap_or (get r.categories id) (blank_row category_table id)) in
      let same : into Categories (Given id) of.Tombstone (Plain (flag true)) ∷ [] ≡ ws = inside _ _ p.2 in (
        c,
        ap (λ (vs : List Write). get (with_writes ids r vs).categories id) (sym same) ∙ ap (λ (m : Rows). get m.categories id) (cell ids r Categories (Given id) of.Tombstone (Plain (flag true)))
            ∙ got category_table id of.Tombstone (flag true) r.categories refl,
        refl,
      )

  -- ---- transactions

  tx_done : (ws : List Write) (id : Option Text) (account : Text) (date : ℕ) (amount : ℤ) (payee category : Option Text) (notes : Text) → tx_add r id account date amount payee category notes ≡ Ok ws
      → get r.txs (new_id ids id) ≡ None → (x : TxRow) × (get (with_writes ids r ws).txs (new_id ids id) ≡ Some x) × (x.acct ≡ Some account) × (x.date ≡ Some date)
      × (x.amount ≡ amount) × (x.description ≡ payee) × (x.category ≡ category) × (notes ≢ [] → x.notes ≡ Some notes) × (notes ≡ [] → x.notes ≡ None)
      × (x.tombstone ≡ false) × (x.is_parent ≡ false) × (x.is_child ≡ false) × (x.transferred_id ≡ None)
  tx_done ws id account date amount payee category notes h none =
      let p = passed (new_row (is_tx r) id) _ _ h in
      let a = passed (live_account r account) _ _ p.2 in
      let d = passed (a_day date) _ _ a.2 in
      let e = passed (an_amount amount) _ _ d.2 in
      let f = passed (if_there (live_payee r) payee) _ _ e.2 in
      let g = passed (if_there (live_category r) category) _ _ f.2 in
      let k = given_is ids (is_tx r) id p.0 p.1 in
      let same : tx_writes p.0 account date amount payee category notes ≡ ws = inside _ _ g.2 in
      let at = at_new ids r p.0 account date amount payee category notes (ap (get r.txs) k ∙ none) in
      let is_day_so : is_day date ≡ true = was_so (is_day date) (BadDate date) d.0 d.1 in (
        added account date amount payee category notes (blank (row_of ids p.0)),
        ap (get (with_writes ids r ws).txs) (sym k) ∙ ap (λ (vs : List Write). get (with_writes ids r vs).txs (row_of ids p.0)) (sym same) ∙ at,
        refl,
        ap (λ b. cond b (Some date) None) is_day_so,
        refl,
        text_back payee,
        text_back category,
        (notes_back notes).0,
        (notes_back notes).1,
        refl,
        refl,
        refl,
        refl,
      )

  -- ---- what categories are given

  budget_at : (category : Text) (month : ℕ) (c : Column) (v : Value) → is_some (budget_table.kind c) ≡ true
      → get (with_writes ids r (row_made r category month ++ into ZeroBudgets (Given (budget_id category month)) c (Plain v) ∷ [])).budgets (budget_id category month)
      ≡ Some (budget_table.set c v (unwrap_or (get (with_writes ids r (row_made r category month)).budgets (budget_id category month)) (blank_row budget_table (budget_id category month))))
  budget_at category month c v h =
      let k = budget_id category month in
      let mid = with_writes ids r (row_made r category month) in
      ap (λ (m : Rows). get m.budgets k) (with_writes-append ids r (row_made r category month) (into ZeroBudgets (Given k) c (Plain v) ∷ []))
      ∙ ap (λ (m : Rows). get m.budgets k) (cell ids mid ZeroBudgets (Given k) c (Plain v)) ∙ got budget_table k c v mid.budgets h

  budget_done : (ws : List Write) (month : ℕ) (category : Text) (amount : ℤ) → budget r month category amount ≡ Ok ws
      → (b : BudgetRow) × (get (with_writes ids r ws).budgets (budget_id category month) ≡ Some b) × (b.amount ≡ amount)
  budget_done ws month category amount h =
      let a = passed (a_month month) _ _ h in
      let b = passed (live_category r category) _ _ a.2 in
      let c = passed (no_income r category) _ _ b.2 in
      let d = passed (an_amount amount) _ _ c.2 in
      let e = passed (a_name (budget_id category month)) _ _ d.2 in
      let k = budget_id category month in
      let same : row_made r category month ++ into ZeroBudgets (Given k) of.Amount (Plain (Number amount)) ∷ [] ≡ ws = inside _ _ e.2 in (
        budget_table.set of.Amount (Number amount) (unwrap_or (get (with_writes ids r (row_made r category month)).budgets k) (blank_row budget_table k)),
        ap (λ (vs : List Write). get (with_writes ids r vs).budgets k) (sym same) ∙ budget_at category month of.Amount (Number amount) refl,
        refl,
      )

  carries_done : (ws : List Write) (month : ℕ) (category : Text) (carries : Bool) → carryover r month category carries ≡ Ok ws
      → (b : BudgetRow) × (get (with_writes ids r ws).budgets (budget_id category month) ≡ Some b) × (b.carryover ≡ carries)
  carries_done ws month category carries h =
      let a = passed (a_month month) _ _ h in
      let b = passed (live_category r category) _ _ a.2 in
      let c = passed (no_income r category) _ _ b.2 in
      let e = passed (a_name (budget_id category month)) _ _ c.2 in
      let k = budget_id category month in
      let same : row_made r category month ++ into ZeroBudgets (Given k) of.Carryover (Plain (flag carries)) ∷ [] ≡ ws = inside _ _ e.2 in (
        budget_table.set of.Carryover (flag carries) (unwrap_or (get (with_writes ids r (row_made r category month)).budgets k) (blank_row budget_table k)),
        ap (λ (vs : List Write). get (with_writes ids r vs).budgets k) (sym same) ∙ budget_at category month of.Carryover (flag carries) refl,
        flag_back carries,
      )

  held_done : (ws : List Write) (month : ℕ) (amount : ℤ) → hold month amount ≡ Ok ws → (m : MonthRow) × (get (with_writes ids r ws).months (month_id month) ≡ Some m) × (m.buffered ≡ amount)
  held_done ws month amount h =
      let a = passed (a_month month) _ _ h in
      let b = passed (a_held amount) _ _ a.2 in
      let k = month_id month in
      let same : into ZeroBudgetMonths (Given k) of.Buffered (Plain (Number amount)) ∷ [] ≡ ws = inside _ _ b.2 in (
        month_table.set of.Buffered (Number amount) (unwrap_or (get r.months k) (blank_row month_table k)),
        ap (λ (vs : List Write). get (with_writes ids r vs).months k) (sym same) ∙ ap (λ (m : Rows). get m.months k) (cell ids r ZeroBudgetMonths (Given k) of.Buffered (Plain (Number amount)))
            ∙ got month_table k of.Buffered (Number amount) r.months refl,
        refl,
      )

pub plain_done : (ids : Ids) (rows : Rows) (ws : List Write) → PlainEditsDo ids rows ws
plain_done ids rows ws = record {
  account = account_done ids rows ws;
  stands_for = stands_done ids rows ws;
  renamed = renamed_done ids rows ws;
  off = off_done ids rows ws;
  opened = opened_done ids rows ws;
  closed = closed_done ids rows ws;
  payee = payee_done ids rows ws;
  payee_renamed = payee_renamed ids rows ws;
  payee_gone = payee_gone ids rows ws;
  group = group_done ids rows ws;
  group_renamed = group_renamed ids rows ws;
  group_gone = group_gone ids rows ws;
  category = category_done ids rows ws;
  category_renamed = category_renamed ids rows ws;
  moved = category_moved ids rows ws;
  category_gone = category_gone ids rows ws;
  tx = tx_done ids rows ws;
  given = budget_done ids rows ws;
  carries = carries_done ids rows ws;
  held = held_done ids rows ws;
}

-- ---- changes of a transaction

module _ (ids : Ids) (r : Rows) (id : Text) (x : TxRow) (there : get r.txs id ≡ Some x) where
  -- a value is written into a column of the transaction, and perhaps of others
  first_of : (c : TxColumn) (v : Value) (others : List Text) → get (with_writes ids r (on_each c v (id ∷ others))).txs id ≡ Some (with_tx c v x)
  first_of c v others = each_row ids r c v (id ∷ others) id x there ∙ ap (λ b. Some (cond b (with_tx c v x) x)) (or_left (same_id id id) (is_among text_cmp others id) (same_refl id))

-- the partner is another one
not_partner : (r : Rows) (id : Text) (x : TxRow) → is_among text_cmp (option_to_list (partner_of r id x)) id ≡ false
not_partner r id x = bool_cases (is_among text_cmp (option_to_list (partner_of r id x)) id)
    (λ t.
    let found = among-option_to_list (partner_of r id x) id t in
    let passes = where_some (λ other. not (same_id other id) && names_back r id other) x.transferred_id id found in
    let apart = not_true (same_id id id) (both_true (not (same_id id id)) (names_back r id id) passes.1).0 in
    true_false (same_id id id) (same_refl id) apart)
    (λ f. f)

module _ (ids : Ids) (r : Rows) (id : Text) (ws : List Write) where
  date_done : (day : ℕ) → set_date r id day ≡ Ok ws → (x : TxRow) × (get (with_writes ids r ws).txs id ≡ Some x) × (x.date ≡ Some day)
  date_done day h =
      let a = passed (live_tx r id) _ _ h in
      let b = passed (no_child id a.0) _ _ a.2 in
      let c = passed (a_day day) _ _ b.2 in
      let there = (live_is r id a.0 a.1).there in
      let same : on_each Date (Number (pos day)) (id ∷ parts_of r id ++ option_to_list (partner_of r id a.0)) ≡ ws = inside _ _ c.2 in (
        with_tx Date (Number (pos day)) a.0,
        ap (λ (vs : List Write). get (with_writes ids r vs).txs id) (sym same) ∙ first_of ids r id a.0 there Date (Number (pos day)) (parts_of r id ++ option_to_list (partner_of r id a.0)),
        ap (λ t. cond t (Some day) None) (was_so (is_day day) (BadDate day) c.0 c.1),
      )

  amount_done : (z : ℤ) → set_amount r id z ≡ Ok ws → (x : TxRow) × (get (with_writes ids r ws).txs id ≡ Some x) × (x.amount ≡ z)
  amount_done z h =
      let a = passed (live_tx r id) _ _ h in
      let b = passed (no_child id a.0) _ _ a.2 in
      let c = passed (an_amount z) _ _ b.2 in
      let d = passed (stays_even r id a.0 z) _ _ c.2 in
      let there = (live_is r id a.0 a.1).there in
      let others = option_to_list (partner_of r id a.0) in
      let mid = with_writes ids r (on_each Amount (Number z) (id ∷ [])) in
      let same : on_each Amount (Number z) (id ∷ []) ++ on_each Amount (Number (neg_ℤ z)) others ≡ ws = inside _ _ d.2 in (
        with_tx Amount (Number z) a.0,
        ap (λ (vs : List Write). get (with_writes ids r vs).txs id) (sym same)
            ∙ each_row ids mid Amount (Number (neg_ℤ z)) others id (with_tx Amount (Number z) a.0) (first_of ids r id a.0 there Amount (Number z) [])
            ∙ ap (λ t. Some (cond t (with_tx Amount (Number (neg_ℤ z)) (with_tx Amount (Number z) a.0)) (with_tx Amount (Number z) a.0))) (not_partner r id a.0),
        refl,
      )

  account_changed : (account : Text) → set_account r id account ≡ Ok ws → (x : TxRow) × (get (with_writes ids r ws).txs id ≡ Some x) × (x.acct ≡ Some account)
  account_changed account h =
      let a = passed (live_tx r id) _ _ h in
      let b = passed (no_child id a.0) _ _ a.2 in
      let c = passed (no_pair r id a.0) _ _ b.2 in
      let d = passed (live_account r account) _ _ c.2 in
      let there = (live_is r id a.0 a.1).there in
      let same : on_each Acct (IsText account) (id ∷ parts_of r id) ≡ ws = inside _ _ d.2 in (
        with_tx Acct (IsText account) a.0,
        ap (λ (vs : List Write). get (with_writes ids r vs).txs id) (sym same) ∙ first_of ids r id a.0 there Acct (IsText account) (parts_of r id),
        refl,
      )

  payee_changed : (payee : Option Text) → set_payee r id payee ≡ Ok ws → (x : TxRow) × (get (with_writes ids r ws).txs id ≡ Some x) × (x.description ≡ payee)
  payee_changed payee h =
      let a = passed (live_tx r id) _ _ h in
      let b = passed (no_child id a.0) _ _ a.2 in
      let c = passed (no_pair r id a.0) _ _ b.2 in
      let d = passed (if_there (live_payee r) payee) _ _ c.2 in
      let there = (live_is r id a.0 a.1).there in
      let same : on_each Description (text_or_null payee) (id ∷ []) ≡ ws = inside _ _ d.2 in (
        with_tx Description (text_or_null payee) a.0,
        ap (λ (vs : List Write). get (with_writes ids r vs).txs id) (sym same) ∙ first_of ids r id a.0 there Description (text_or_null payee) [],
        text_back payee,
      )

  category_changed : (category : Option Text) → set_category r id category ≡ Ok ws → (x : TxRow) × (get (with_writes ids r ws).txs id ≡ Some x) × (x.category ≡ category)
  category_changed category h =
      let a = passed (live_tx r id) _ _ h in
      let b = passed (takes_category r id a.0 category) _ _ a.2 in
      let there = (live_is r id a.0 a.1).there in
      let same : on_each Category (text_or_null category) (id ∷ []) ≡ ws = inside _ _ b.2 in (
        with_tx Category (text_or_null category) a.0,
        ap (λ (vs : List Write). get (with_writes ids r vs).txs id) (sym same) ∙ first_of ids r id a.0 there Category (text_or_null category) [],
        text_back category,
      )

  cleared_changed : (cleared : Bool) → set_cleared r id cleared ≡ Ok ws → (x : TxRow) × (get (with_writes ids r ws).txs id ≡ Some x) × (x.cleared ≡ cleared)
  cleared_changed cleared h =
      let a = passed (live_tx r id) _ _ h in
      let there = (live_is r id a.0 a.1).there in
      let same : on_each Cleared (flag cleared) (id ∷ []) ≡ ws = inside _ _ a.2 in (
        with_tx Cleared (flag cleared) a.0,
        ap (λ (vs : List Write). get (with_writes ids r vs).txs id) (sym same) ∙ first_of ids r id a.0 there Cleared (flag cleared) [],
        flag_back cleared,
      )

  schedule_changed : (schedule : Option Text) → set_schedule r id schedule ≡ Ok ws → (x : TxRow) × (get (with_writes ids r ws).txs id ≡ Some x) × (x.schedule ≡ schedule)
  schedule_changed schedule h =
      let a = passed (live_tx r id) _ _ h in
      let b = passed (if_there (live_schedule r) schedule) _ _ a.2 in
      let there = (live_is r id a.0 a.1).there in
      let same : on_each Schedule (text_or_null schedule) (id ∷ []) ≡ ws = inside _ _ b.2 in (
        with_tx Schedule (text_or_null schedule) a.0,
        ap (λ (vs : List Write). get (with_writes ids r vs).txs id) (sym same) ∙ first_of ids r id a.0 there Schedule (text_or_null schedule) [],
        text_back schedule,
      )

  notes_changed : (text : Text) → set_notes r id text ≡ Ok ws → (x : TxRow) × (get (with_writes ids r ws).txs id ≡ Some x) × (text ≢ [] → x.notes ≡ Some text) × (text ≡ [] → x.notes ≡ None)
  notes_changed text h =
      let a = passed (live_tx r id) _ _ h in
      let there = (live_is r id a.0 a.1).there in
      let same : on_each Notes (notes_value text) (id ∷ []) ≡ ws = inside _ _ a.2 in (
        with_tx Notes (notes_value text) a.0,
        ap (λ (vs : List Write). get (with_writes ids r vs).txs id) (sym same) ∙ first_of ids r id a.0 there Notes (notes_value text) [],
        (notes_back text).0,
        (notes_back text).1,
      )

  deleted : tx_delete r id ≡ Ok ws → (x : TxRow) × (get (with_writes ids r ws).txs id ≡ Some x) × (x.tombstone ≡ true)
  deleted h =
      let a = passed (live_tx r id) _ _ h in
      let b = passed (no_child id a.0) _ _ a.2 in
      let there = (live_is r id a.0 a.1).there in
      let same : on_each Tombstone (flag true) (id ∷ option_to_list (partner_of r id a.0)) ≡ ws = inside _ _ b.2 in (
        with_tx Tombstone (flag true) a.0,
        ap (λ (vs : List Write). get (with_writes ids r vs).txs id) (sym same) ∙ first_of ids r id a.0 there Tombstone (flag true) (option_to_list (partner_of r id a.0)),
        refl,
      )

pub changes_done : (ids : Ids) (rows : Rows) (id : Text) (ws : List Write) → ChangesDo ids rows id ws
changes_done ids rows id ws = record {
  date = date_done ids rows id ws;
  amount = amount_done ids rows id ws;
  account = account_changed ids rows id ws;
  payee = payee_changed ids rows id ws;
  category = category_changed ids rows id ws;
  cleared = cleared_changed ids rows id ws;
  schedule = schedule_changed ids rows id ws;
  notes = notes_changed ids rows id ws;
  gone = deleted ids rows id ws;
}
