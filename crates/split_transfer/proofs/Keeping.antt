-- Plain edits leave pairs and splits right.
use Rattle.std.proofs.Common.{◌≡◌, ℕ, Bool, true, false, List, [], ◌∷◌, ◌++◌, Option, None, Some, Ok, refl, ap, sym, subst, codes}
use lib.IntN.{ℤ, pos}
use Rattle.std.specs.Prelude.{not, is_some, map as list_map, flat_map, ◌-ℤ◌, ◌+ℤ◌}
use Rattle.std.specs.FinMap.{get}
use Rattle.finite_sums.specs.Maps.{Text}
use Rattle.field_values.specs.declared.value.Value.{Value}
use Rattle.field_values.specs.declared.value.Value.TheVariants.{Number, Text as IsText}
use Rattle.book_rows.specs.declared.column.Dataset.TheVariants.{Accounts, CategoryGroups, Categories, Payees, ZeroBudgets, ZeroBudgetMonths, Notes, CategoryMapping, PayeeMapping, ReflectBudgets}
use Rattle.book_rows.specs.declared.rows.Rows.{Rows}
use Rattle.book_rows.specs.declared.rows.CategoryMappingRow.{CategoryMappingRow}
use Rattle.book_rows.specs.declared.rows.PayeeMappingRow.{PayeeMappingRow}
use Rattle.book_rows.specs.declared.write.RowName.{RowName}
use Rattle.book_rows.specs.declared.write.RowName.TheVariants.{Given, Made}
use Rattle.book_rows.specs.declared.write.Write.{Write}
use Rattle.book_rows.specs.declared.fault.EditFault.TheVariants.{BadId, IdTaken}
use Rattle.book_rows.specs.Ids.{budget_id}
use Rattle.book_edits.specs.declared.edit.BookEdit.TheVariants.{Set, AccountAdd, AccountRename, AccountOffbudget, AccountReopen, AccountClose, GroupAdd, GroupRename, GroupDelete, CategoryAdd, CategoryRename, CategoryMove, CategoryDelete, CategoryDeleteTo, PayeeAdd, PayeeRename, PayeeDelete, PayeeMerge, TxAdd, Budget, Carryover, Hold, Move, Track, TrackCarryover, Note}
use Rattle.book_edits.specs.declared.gains.Gain.{Gain}
use Rattle.book_edits.specs.Faults.{must, if_there, each}
use Rattle.book_edits.specs.Checks.{may_be_chosen, new_row, two_ids, distinct, no_transfer, live_account, live_group, live_category, live_payee, no_income, without_balance, free_group_name, free_category_name, group_of, name_of, a_day, a_month, an_amount, a_held, a_name}
use Rattle.book_edits.specs.Writing.{write}
use Rattle.book_edits.specs.Accounts.{is_account, is_payee, account_add, account_rename, account_offbudget, account_reopen, account_close, payee_add, payee_rename, payee_deletion, payee_delete}
use Rattle.book_edits.specs.Categories.{is_group, is_category, categories_of, group_add, group_rename, category_deletion, group_deletion, group_delete, category_add, category_rename, category_move, category_delete}
use Rattle.book_edits.specs.Transactions.{is_tx, tx_writes, tx_add, note}
use Rattle.book_edits.specs.Budgets.{budgeted, made_unless, column_writes, budget_writes, track_writes, budget, carryover, hold, may_move, move, track, track_carryover}
use Rattle.book_edits.specs.Mappings.{mapped_to, category_mapped, categories_mapped, payee_mapped, payees_mapped, gains, gain_writes, may_hand_on, may_gain, category_delete_to, payee_merged, payee_merge}
use Rattle.book_edits.proofs.Valid.{inside, passed, was_so, all_append, all_map}
use Rattle.split_transfer.specs.After.{Ids, row_of, with_writes, makes}
use Rattle.split_transfer.specs.Right.{StayRight}
use Rattle.split_transfer.specs.PlainEdits.{IsAdded, PlainEditsKeepPairsAndSplits}
use Rattle.split_transfer.proofs.Basics.{true_false}
use Rattle.split_transfer.proofs.Elsewhere.{IsOther, AreElsewhere, elsewhere_stays_right}
use Rattle.split_transfer.proofs.Adding.{at_new, addition_stays_right}

-- ---- datasets that are not that of transactions

accounts : IsOther (codes "accounts")
accounts = record { dataset = Accounts; named = refl; other = λ id c v r. refl }

payees : IsOther (codes "payees")
payees = record { dataset = Payees; named = refl; other = λ id c v r. refl }

groups : IsOther (codes "category_groups")
groups = record { dataset = CategoryGroups; named = refl; other = λ id c v r. refl }

categories : IsOther (codes "categories")
categories = record { dataset = Categories; named = refl; other = λ id c v r. refl }

budgets : IsOther (codes "zero_budgets")
budgets = record { dataset = ZeroBudgets; named = refl; other = λ id c v r. refl }

months : IsOther (codes "zero_budget_months")
months = record { dataset = ZeroBudgetMonths; named = refl; other = λ id c v r. refl }

notes_of : IsOther (codes "notes")
notes_of = record { dataset = Notes; named = refl; other = λ id c v r. refl }

tracked : IsOther (codes "reflect_budgets")
tracked = record { dataset = ReflectBudgets; named = refl; other = λ id c v r. refl }

category_mappings : IsOther (codes "category_mapping")
category_mappings = record { dataset = CategoryMapping; named = refl; other = λ id c v r. refl }

payee_mappings : IsOther (codes "payee_mapping")
payee_mappings = record { dataset = PayeeMapping; named = refl; other = λ id c v r. refl }

-- each write of a list is one elsewhere
each_elsewhere : {X : Type 0} (f : X → Write) (xs : List X) → ((x : X) → IsOther (f x).dataset) → AreElsewhere (list_map f xs)
each_elsewhere f [] is = tt
each_elsewhere f (x ∷ xs) is = (is x, each_elsewhere f xs is)

all_elsewhere : {X : Type 0} (f : X → List Write) (xs : List X) → ((x : X) → AreElsewhere (f x)) → AreElsewhere (flat_map f xs)
all_elsewhere f [] are = tt
all_elsewhere f (x ∷ xs) are = all_append (λ w. IsOther w.dataset) (f x) (flat_map f xs) (are x) (all_elsewhere f xs are)

made_elsewhere : (dataset : Text) (is : IsOther dataset) (there : Bool) (category : Text) (month : ℕ) → AreElsewhere (made_unless there dataset category month)
made_elsewhere dataset is true category month = tt
made_elsewhere dataset is false category month = (is, (is, tt))

column_writes_elsewhere : (dataset : Text) (is : IsOther dataset) (there : Bool) (category : Text) (month : ℕ) (column : Text) (value : Value) → AreElsewhere (column_writes there dataset category month column value)
column_writes_elsewhere dataset is there category month column value =
    all_append (λ w. IsOther w.dataset) (made_unless there dataset category month) (write dataset (Given (budget_id category month)) column value ∷ [])
    (made_elsewhere dataset is there category month)
    (is, tt)

module _ (rows : Rows) where
  -- ---- accounts and payees
  account_add_elsewhere : (id : Option Text) (name : Text) (off : Bool) (ws : List Write) → account_add rows id name off ≡ Ok ws → AreElsewhere ws
  account_add_elsewhere id name off ws h =
      let p = passed (new_row (is_account rows) id) _ _ h in
      subst AreElsewhere (inside _ _ p.2) (accounts, (accounts, (payees, (payees, tt))))

  account_rename_elsewhere : (id name : Text) (ws : List Write) → account_rename rows id name ≡ Ok ws → AreElsewhere ws
  account_rename_elsewhere id name ws h =
      let p = passed (live_account rows id) _ _ h in
      subst AreElsewhere (inside _ _ p.2) (accounts, tt)

  account_offbudget_elsewhere : (id : Text) (off : Bool) (ws : List Write) → account_offbudget rows id off ≡ Ok ws → AreElsewhere ws
  account_offbudget_elsewhere id off ws h =
      let p = passed (live_account rows id) _ _ h in
      subst AreElsewhere (inside _ _ p.2) (accounts, tt)

  account_reopen_elsewhere : (id : Text) (ws : List Write) → account_reopen rows id ≡ Ok ws → AreElsewhere ws
  account_reopen_elsewhere id ws h =
      let p = passed (live_account rows id) _ _ h in
      subst AreElsewhere (inside _ _ p.2) (accounts, tt)

  account_close_elsewhere : (id : Text) (ws : List Write) → account_close rows id ≡ Ok ws → AreElsewhere ws
  account_close_elsewhere id ws h =
      let p = passed (live_account rows id) _ _ h in
      let q = passed (without_balance rows id) _ _ p.2 in
      subst AreElsewhere (inside _ _ q.2) (accounts, tt)

  payee_add_elsewhere : (id : Option Text) (name : Text) (ws : List Write) → payee_add rows id name ≡ Ok ws → AreElsewhere ws
  payee_add_elsewhere id name ws h =
      let p = passed (new_row (is_payee rows) id) _ _ h in
      subst AreElsewhere (inside _ _ p.2) (payees, tt)

  payee_rename_elsewhere : (id name : Text) (ws : List Write) → payee_rename rows id name ≡ Ok ws → AreElsewhere ws
  payee_rename_elsewhere id name ws h =
      let p = passed (live_payee rows id) _ _ h in
      subst AreElsewhere (inside _ _ p.2) (payees, tt)

  payee_delete_elsewhere : (id : Text) (ws : List Write) → payee_delete rows id ≡ Ok ws → AreElsewhere ws
  payee_delete_elsewhere id ws h =
      let p = passed (live_payee rows id) _ _ h in
      subst AreElsewhere (inside _ _ p.2) (payees, tt)

  -- ---- groups and categories
  group_add_elsewhere : (id : Option Text) (name : Text) (income : Bool) (ws : List Write) → group_add rows id name income ≡ Ok ws → AreElsewhere ws
  group_add_elsewhere id name income ws h =
      let p = passed (new_row (is_group rows) id) _ _ h in
      let q = passed (free_group_name rows name) _ _ p.2 in
      subst AreElsewhere (inside _ _ q.2) (groups, (groups, tt))

  group_rename_elsewhere : (id name : Text) (ws : List Write) → group_rename rows id name ≡ Ok ws → AreElsewhere ws
  group_rename_elsewhere id name ws h =
      let p = passed (live_group rows id) _ _ h in
      let q = passed (free_group_name rows name) _ _ p.2 in
      subst AreElsewhere (inside _ _ q.2) (groups, tt)

  group_delete_elsewhere : (id : Text) (ws : List Write) → group_delete rows id ≡ Ok ws → AreElsewhere ws
  group_delete_elsewhere id ws h =
      let p = passed (live_group rows id) _ _ h in
      subst AreElsewhere (inside _ _ p.2)
      (all_append (λ w. IsOther w.dataset) (list_map category_deletion (categories_of rows id)) (group_deletion id ∷ [])
      (all_map (λ w. IsOther w.dataset) category_deletion (categories_of rows id) (λ q among. categories))
      (groups, tt))

  category_add_elsewhere : (id : Option Text) (group name : Text) (ws : List Write) → category_add rows id group name ≡ Ok ws → AreElsewhere ws
  category_add_elsewhere id group name ws h =
      let p = passed (new_row (is_category rows) id) _ _ h in
      let q = passed (live_group rows group) _ _ p.2 in
      let r = passed (free_category_name rows group name) _ _ q.2 in
      subst AreElsewhere (inside _ _ r.2) (categories, (categories, (categories, tt)))

  category_rename_elsewhere : (id name : Text) (ws : List Write) → category_rename rows id name ≡ Ok ws → AreElsewhere ws
  category_rename_elsewhere id name ws h =
      let p = passed (live_category rows id) _ _ h in
      let q = passed (if_there (λ group. free_category_name rows group name) (group_of rows id)) _ _ p.2 in
      subst AreElsewhere (inside _ _ q.2) (categories, tt)

  category_move_elsewhere : (id group : Text) (ws : List Write) → category_move rows id group ≡ Ok ws → AreElsewhere ws
  category_move_elsewhere id group ws h =
      let p = passed (live_category rows id) _ _ h in
      let q = passed (live_group rows group) _ _ p.2 in
      let r = passed (if_there (free_category_name rows group) (name_of rows id)) _ _ q.2 in
      subst AreElsewhere (inside _ _ r.2) (categories, (categories, tt))

  category_delete_elsewhere : (id : Text) (ws : List Write) → category_delete rows id ≡ Ok ws → AreElsewhere ws
  category_delete_elsewhere id ws h =
      let p = passed (live_category rows id) _ _ h in
      subst AreElsewhere (inside _ _ p.2) (categories, tt)

  -- ---- budgets
  budget_writes_elsewhere : (category : Text) (month : ℕ) (column : Text) (value : Value) → AreElsewhere (budget_writes rows category month column value)
  budget_writes_elsewhere category month column value = column_writes_elsewhere (codes "zero_budgets") budgets (is_some (get rows.budgets (budget_id category month))) category month column value

  track_writes_elsewhere : (category : Text) (month : ℕ) (column : Text) (value : Value) → AreElsewhere (track_writes rows category month column value)
  track_writes_elsewhere category month column value = column_writes_elsewhere (codes "reflect_budgets") tracked (is_some (get rows.tracked (budget_id category month))) category month column value

  budget_elsewhere : (month : ℕ) (category : Text) (amount : ℤ) (ws : List Write) → budget rows month category amount ≡ Ok ws → AreElsewhere ws
  budget_elsewhere month category amount ws h =
      let m = passed (a_month month) _ _ h in
      let c = passed (live_category rows category) _ _ m.2 in
      let i = passed (no_income rows category) _ _ c.2 in
      let a = passed (an_amount amount) _ _ i.2 in
      let n = passed (a_name (budget_id category month)) _ _ a.2 in
      subst AreElsewhere (inside _ _ n.2) (budget_writes_elsewhere category month _ _)

  carryover_elsewhere : (month : ℕ) (category : Text) (carries : Bool) (ws : List Write) → carryover rows month category carries ≡ Ok ws → AreElsewhere ws
  carryover_elsewhere month category carries ws h =
      let m = passed (a_month month) _ _ h in
      let c = passed (live_category rows category) _ _ m.2 in
      let i = passed (no_income rows category) _ _ c.2 in
      let n = passed (a_name (budget_id category month)) _ _ i.2 in
      subst AreElsewhere (inside _ _ n.2) (budget_writes_elsewhere category month _ _)

  hold_elsewhere : (month : ℕ) (amount : ℤ) (ws : List Write) → hold month amount ≡ Ok ws → AreElsewhere ws
  hold_elsewhere month amount ws h =
      let m = passed (a_month month) _ _ h in
      let a = passed (a_held amount) _ _ m.2 in
      subst AreElsewhere (inside _ _ a.2) (months, tt)

  move_elsewhere : (month : ℕ) (from to : Text) (amount : ℤ) (ws : List Write) → move rows month from to amount ≡ Ok ws → AreElsewhere ws
  move_elsewhere month from to amount ws h =
      let p = passed (may_move rows month from to amount) _ _ h in
      let l = passed (an_amount (budgeted rows from month -ℤ amount)) _ _ p.2 in
      let g = passed (an_amount (budgeted rows to month +ℤ amount)) _ _ l.2 in
      let f = passed (a_name (budget_id from month)) _ _ g.2 in
      let t = passed (a_name (budget_id to month)) _ _ f.2 in
      let less = budgeted rows from month -ℤ amount in
      let more = budgeted rows to month +ℤ amount in
      subst AreElsewhere (inside _ _ t.2)
      (all_append (λ w. IsOther w.dataset) (budget_writes rows from month (codes "amount") (Number less)) (budget_writes rows to month (codes "amount") (Number more))
      (budget_writes_elsewhere from month (codes "amount") (Number less))
      (budget_writes_elsewhere to month (codes "amount") (Number more)))

  track_elsewhere : (month : ℕ) (category : Text) (amount : ℤ) (ws : List Write) → track rows month category amount ≡ Ok ws → AreElsewhere ws
  track_elsewhere month category amount ws h =
      let m = passed (a_month month) _ _ h in
      let c = passed (live_category rows category) _ _ m.2 in
      let a = passed (an_amount amount) _ _ c.2 in
      let n = passed (a_name (budget_id category month)) _ _ a.2 in
      subst AreElsewhere (inside _ _ n.2) (track_writes_elsewhere category month _ _)

  track_carryover_elsewhere : (month : ℕ) (category : Text) (carries : Bool) (ws : List Write) → track_carryover rows month category carries ≡ Ok ws → AreElsewhere ws
  track_carryover_elsewhere month category carries ws h =
      let m = passed (a_month month) _ _ h in
      let c = passed (live_category rows category) _ _ m.2 in
      let n = passed (a_name (budget_id category month)) _ _ c.2 in
      subst AreElsewhere (inside _ _ n.2) (track_writes_elsewhere category month _ _)

  -- ---- mappings
  categories_mapped_elsewhere : (id to : Text) → AreElsewhere (categories_mapped rows id to)
  categories_mapped_elsewhere id to =
      let others = mapped_to (λ (m : CategoryMappingRow). m.transfer_id) rows.category_mappings id in
      all_append (λ w. IsOther w.dataset) (list_map (category_mapped to) others) (category_mapped to id ∷ [])
      (each_elsewhere (category_mapped to) others (λ q. category_mappings))
      (category_mappings, tt)

  category_delete_to_elsewhere : (id to : Text) (ws : List Write) → category_delete_to rows id to ≡ Ok ws → AreElsewhere ws
  category_delete_to_elsewhere id to ws h =
      let m = passed (may_hand_on rows id to) _ _ h in
      let e = passed (may_gain rows id to) _ _ m.2 in
      let moved = flat_map (gain_writes rows to) (gains rows id to) in
      subst AreElsewhere (inside _ _ e.2)
      (all_append (λ w. IsOther w.dataset) (categories_mapped rows id to ++ moved) (category_deletion id ∷ [])
      (all_append (λ w. IsOther w.dataset) (categories_mapped rows id to) moved
      (categories_mapped_elsewhere id to)
      (all_elsewhere (gain_writes rows to) (gains rows id to) (λ (g : Gain). budget_writes_elsewhere to g.month (codes "amount") (Number g.amount))))
      (categories, tt))

  merged_elsewhere : (to id : Text) → AreElsewhere (payee_merged rows to id)
  merged_elsewhere to id =
      let others = mapped_to (λ (m : PayeeMappingRow). m.target_id) rows.payee_mappings id in
      all_append (λ w. IsOther w.dataset) (payees_mapped rows to id) (payee_deletion id ∷ [])
      (all_append (λ w. IsOther w.dataset) (list_map (payee_mapped to) others) (payee_mapped to id ∷ [])
      (each_elsewhere (payee_mapped to) others (λ q. payee_mappings))
      (payee_mappings, tt))
      (payees, tt)

  payee_merge_elsewhere : (to : Text) (named : List Text) (ws : List Write) → payee_merge rows to named ≡ Ok ws → AreElsewhere ws
  payee_merge_elsewhere to named ws h =
      let p = passed (live_payee rows to) _ _ h in
      let q = passed (each (live_payee rows) named) _ _ p.2 in
      let r = passed (each (two_ids to) named) _ _ q.2 in
      let s = passed (no_transfer rows to) _ _ r.2 in
      let t = passed (each (no_transfer rows) named) _ _ s.2 in
      subst AreElsewhere (inside _ _ t.2) (all_elsewhere (payee_merged rows to) (distinct named) (merged_elsewhere to))

  note_elsewhere : (id text : Text) (ws : List Write) → note id text ≡ Ok ws → AreElsewhere ws
  note_elsewhere id text ws h =
      let p = passed (a_name id) _ _ h in
      subst AreElsewhere (inside _ _ p.2) (notes_of, tt)

-- ---- a new transaction

absent : {X : Type 0} (o : Option X) → not (is_some o) ≡ true → o ≡ None
absent None h = refl
absent (Some x) h = true_false false h refl

-- there is no row of the id of a new one: a made id is new, and a given one was asked for
row_is_new : (ids : Ids) (r : Rows) (id : Option Text) (row : RowName) → new_row (is_tx r) id ≡ Ok row → (row ≡ Made 0 → get r.txs (ids 0) ≡ None) → get r.txs (row_of ids row) ≡ None
row_is_new ids r None row h made = subst (λ t. get r.txs (row_of ids t) ≡ None) (inside _ _ h) (made (sym (inside _ _ h)))
row_is_new ids r (Some id) row h made =
    let first = passed (must (may_be_chosen id) (BadId id)) _ _ h in
    let second = passed (must (not (is_tx r id)) (IdTaken id)) _ _ first.2 in
    subst (λ t. get r.txs (row_of ids t) ≡ None) (inside _ _ second.2) (absent (get r.txs id) (was_so _ _ second.0 second.1))

added_right : (ids : Ids) (r : Rows) (id : Option Text) (row : RowName) (account : Text) (date : ℕ) (amount : ℤ) (payee category : Option Text) (notes : Text)
    → new_row (is_tx r) id ≡ Ok row → IsAdded ids r (tx_writes row account date amount payee category notes)
    → StayRight r (with_writes ids r (tx_writes row account date amount payee category notes))
added_right ids r id row account date amount payee category notes h a =
    addition_stays_right ids r row account date amount payee category notes none
    (λ q v was. a.childless (row_of ids row) q _ v none (at_new ids r row account date amount payee category notes none) was)
  where
    none : get r.txs (row_of ids row) ≡ None
    none = row_is_new ids r id row h (λ e. a.new 0 (ap (λ t. makes (tx_writes t account date amount payee category notes) 0) e))

tx_add_right : (ids : Ids) (r : Rows) (id : Option Text) (account : Text) (date : ℕ) (amount : ℤ) (payee category : Option Text) (notes : Text) (ws : List Write)
    → tx_add r id account date amount payee category notes ≡ Ok ws → IsAdded ids r ws → StayRight r (with_writes ids r ws)
tx_add_right ids r id account date amount payee category notes ws h a =
    let p = passed (new_row (is_tx r) id) _ _ h in
    let l = passed (live_account r account) _ _ p.2 in
    let d = passed (a_day date) _ _ l.2 in
    let z = passed (an_amount amount) _ _ d.2 in
    let y = passed (if_there (live_payee r) payee) _ _ z.2 in
    let c = passed (if_there (live_category r) category) _ _ y.2 in
    let is : tx_writes p.0 account date amount payee category notes ≡ ws = inside _ _ c.2 in
    subst (λ t. StayRight r (with_writes ids r t)) is
    (added_right ids r id p.0 account date amount payee category notes p.1 (subst (IsAdded ids r) (sym is) a))

pub keep_right : PlainEditsKeepPairsAndSplits
keep_right ids r (Set dataset row column value) ws h any a = true_false true refl any
keep_right ids r (AccountAdd id name off) ws h any a = elsewhere_stays_right ids r ws (account_add_elsewhere r id name off ws h)
keep_right ids r (AccountRename id name) ws h any a = elsewhere_stays_right ids r ws (account_rename_elsewhere r id name ws h)
keep_right ids r (AccountOffbudget id off) ws h any a = elsewhere_stays_right ids r ws (account_offbudget_elsewhere r id off ws h)
keep_right ids r (AccountReopen id) ws h any a = elsewhere_stays_right ids r ws (account_reopen_elsewhere r id ws h)
keep_right ids r (AccountClose id) ws h any a = elsewhere_stays_right ids r ws (account_close_elsewhere r id ws h)
keep_right ids r (GroupAdd id name income) ws h any a = elsewhere_stays_right ids r ws (group_add_elsewhere r id name income ws h)
keep_right ids r (GroupRename id name) ws h any a = elsewhere_stays_right ids r ws (group_rename_elsewhere r id name ws h)
keep_right ids r (GroupDelete id) ws h any a = elsewhere_stays_right ids r ws (group_delete_elsewhere r id ws h)
keep_right ids r (CategoryAdd id group name) ws h any a = elsewhere_stays_right ids r ws (category_add_elsewhere r id group name ws h)
keep_right ids r (CategoryRename id name) ws h any a = elsewhere_stays_right ids r ws (category_rename_elsewhere r id name ws h)
keep_right ids r (CategoryMove id group) ws h any a = elsewhere_stays_right ids r ws (category_move_elsewhere r id group ws h)
keep_right ids r (CategoryDelete id) ws h any a = elsewhere_stays_right ids r ws (category_delete_elsewhere r id ws h)
keep_right ids r (CategoryDeleteTo id to) ws h any a = elsewhere_stays_right ids r ws (category_delete_to_elsewhere r id to ws h)
keep_right ids r (PayeeAdd id name) ws h any a = elsewhere_stays_right ids r ws (payee_add_elsewhere r id name ws h)
keep_right ids r (PayeeRename id name) ws h any a = elsewhere_stays_right ids r ws (payee_rename_elsewhere r id name ws h)
keep_right ids r (PayeeDelete id) ws h any a = elsewhere_stays_right ids r ws (payee_delete_elsewhere r id ws h)
keep_right ids r (PayeeMerge to named) ws h any a = elsewhere_stays_right ids r ws (payee_merge_elsewhere r to named ws h)
keep_right ids r (TxAdd id account date amount payee category notes) ws h any a = tx_add_right ids r id account date amount payee category notes ws h a
keep_right ids r (Budget month category amount) ws h any a = elsewhere_stays_right ids r ws (budget_elsewhere r month category amount ws h)
keep_right ids r (Carryover month category carries) ws h any a = elsewhere_stays_right ids r ws (carryover_elsewhere r month category carries ws h)
keep_right ids r (Hold month amount) ws h any a = elsewhere_stays_right ids r ws (hold_elsewhere r month amount ws h)
keep_right ids r (Move month from to amount) ws h any a = elsewhere_stays_right ids r ws (move_elsewhere r month from to amount ws h)
keep_right ids r (Track month category amount) ws h any a = elsewhere_stays_right ids r ws (track_elsewhere r month category amount ws h)
keep_right ids r (TrackCarryover month category carries) ws h any a = elsewhere_stays_right ids r ws (track_carryover_elsewhere r month category carries ws h)
keep_right ids r (Note id text) ws h any a = elsewhere_stays_right ids r ws (note_elsewhere r id text ws h)
