-- The writes of each edit are valid.
use Rattle.std.proofs.Common.{◌≡◌, ℕ, Bool, true, false, List, [], ◌∷◌, ◌++◌, length, Option, None, Some, Ok, refl, sym, ◌∙◌, subst, arith}
use lib.IntN.{ℤ, pos}
use Rattle.std.specs.Prelude.{codes, is_some, map as list_map, ◌-ℤ◌, ◌+ℤ◌}
use Rattle.std.specs.List.{AllByRecursion}
use Rattle.std.specs.FinMap as map
use Rattle.field_values.specs.declared.name.NameFault.{NameFault}
use Rattle.field_values.specs.declared.name.NamePart.TheVariants.{Row}
use Rattle.field_values.specs.declared.value.Value.{Value}
use Rattle.field_values.specs.declared.value.Value.TheVariants.{Number, Text as IsText}
use Rattle.field_values.specs.Names.{FieldNames, IsName, name_fault, names_fault, field_of}
use Rattle.field_values.specs.Value.{IsValue, HoldsNumber}
use Rattle.field_values.proofs.NameLemmas.{names_without_fault}
use Rattle.finite_sums.specs.Maps.{Text, is_among, text_cmp}
use Rattle.finite_sums.proofs.Texts.{text_total, text_same}
use Rattle.finite_sums.proofs.MapSums.{among-keys_where}
use Rattle.book_rows.specs.declared.rows.Rows.{Rows}
use Rattle.book_rows.specs.declared.write.RowName.{RowName}
use Rattle.book_rows.specs.declared.write.RowName.TheVariants.{Given, Made}
use Rattle.book_rows.specs.declared.write.Write.{Write}
use Rattle.book_rows.specs.Named.{HasNames}
use Rattle.book_rows.specs.Ids.{budget_id, month_id}
use Rattle.book_rows.specs.Writes.{IsRowName, IsWrite, AreWrites}
use Rattle.book_edits.specs.declared.edit.BookEdit.{BookEdit}
use Rattle.book_edits.specs.declared.edit.BookEdit.TheVariants.{Set, AccountAdd, AccountRename, AccountOffbudget, AccountReopen, AccountClose, GroupAdd, GroupRename, GroupDelete, CategoryAdd, CategoryRename, CategoryMove, CategoryDelete, CategoryDeleteTo, PayeeAdd, PayeeRename, PayeeDelete, PayeeMerge, TxAdd, Budget, Carryover, Hold, Move, Track, TrackCarryover, Note}
use Rattle.book_edits.specs.Faults.{if_there}
use Rattle.book_edits.specs.Checks.{new_row, live_account, live_group, live_category, live_payee, no_income, without_balance, free_group_name, free_category_name, group_of, name_of, a_day, a_month, an_amount, a_held, a_name}
use Rattle.book_edits.specs.Writing.{write, flag}
use Rattle.book_edits.specs.Accounts.{is_account, is_payee, account_add, account_rename, account_offbudget, account_reopen, account_close, payee_add, payee_rename, payee_delete}
use Rattle.book_edits.specs.Categories.{is_group, is_category, takes_income, is_live_in, categories_of, group_add, group_rename, category_deletion, group_delete, placed_in, category_add, category_rename, category_move, category_delete}
use Rattle.book_edits.specs.Transactions.{is_tx, tx_add, note}
use Rattle.book_edits.specs.Budgets.{budgeted, budget_writes, track_writes, budget, carryover, hold, may_move, move, track, track_carryover}
use Rattle.book_edits.specs.Edits.{write_unless, book_writes, IsBookEdit}
use Rattle.book_edits.proofs.ValidMappings.{column_writes_valid, category_delete_to_valid, payee_merge_valid}
use Rattle.book_edits.proofs.Passing.{name_of_is, amount_is, held_is}
use Rattle.book_edits.proofs.Valid.{inside, passed, was_so, flag_is, text_or_null_is, notes_is, day_is, month_is, month_name, name_there, new_row_is, id_value_is, write_is, all_append, all_map}

-- one write
one : (dataset id column : Text) (value : Value) → name_fault Row dataset ≡ None → IsName id → name_fault Row column ≡ None → IsValue value → AreWrites (write dataset (Given id) column value ∷ [])
one dataset id column value d name c v = (write_is 1 dataset (Given id) column value d name c v, tt)

-- ---- any field
set_valid : (fault : Option NameFault) (f : FieldNames) (value : Value) (ws : List Write) → names_fault f ≡ fault → IsValue value → write_unless fault f value ≡ Ok ws → AreWrites ws
set_valid None f value ws none v h =
    let are = names_without_fault f none in
    subst AreWrites (inside _ _ h) (record { dataset = are.dataset; row = are.row; column = are.column; value = v }, tt)
set_valid (Some fault) f value ws some v h = cc

module _ (rows : Rows) (names : HasNames rows) where
  -- ---- accounts and payees
  account_add_valid : (id : Option Text) (name : Text) (off : Bool) (ws : List Write) → account_add rows id name off ≡ Ok ws → AreWrites ws
  account_add_valid id name off ws h =
      let p = passed (new_row (is_account rows) id) _ _ h in
      let row = new_row_is _ id p.0 4 p.1 (omega arith) in
      subst AreWrites (inside _ _ p.2) (
        write_is 4 (codes "accounts") p.0 (codes "name") (IsText name) refl row refl tt,
        (
          write_is 4 (codes "accounts") p.0 (codes "offbudget") (flag off) refl row refl (flag_is off),
          (
            write_is 4 (codes "payees") (Made 2) (codes "name") (IsText []) refl (omega arith) refl tt,
            (
              record { dataset = name_of_is (codes "payees") refl; row = omega arith; column = name_of_is (codes "transfer_acct") refl; value = id_value_is p.0 4 row },
              tt,
            ),
          ),
        ),
      )

  account_rename_valid : (id name : Text) (ws : List Write) → account_rename rows id name ≡ Ok ws → AreWrites ws
  account_rename_valid id name ws h =
      let p = passed (live_account rows id) _ _ h in
      let is = name_there rows.accounts _ id names.accounts (was_so _ _ _ p.1) in
      subst AreWrites (inside _ _ p.2) (one (codes "accounts") id (codes "name") (IsText name) refl is refl tt)

  account_offbudget_valid : (id : Text) (off : Bool) (ws : List Write) → account_offbudget rows id off ≡ Ok ws → AreWrites ws
  account_offbudget_valid id off ws h =
      let p = passed (live_account rows id) _ _ h in
      let is = name_there rows.accounts _ id names.accounts (was_so _ _ _ p.1) in
      subst AreWrites (inside _ _ p.2) (one (codes "accounts") id (codes "offbudget") (flag off) refl is refl (flag_is off))

  account_reopen_valid : (id : Text) (ws : List Write) → account_reopen rows id ≡ Ok ws → AreWrites ws
  account_reopen_valid id ws h =
      let p = passed (live_account rows id) _ _ h in
      let is = name_there rows.accounts _ id names.accounts (was_so _ _ _ p.1) in
      subst AreWrites (inside _ _ p.2) (one (codes "accounts") id (codes "closed") (flag false) refl is refl (flag_is false))

  account_close_valid : (id : Text) (ws : List Write) → account_close rows id ≡ Ok ws → AreWrites ws
  account_close_valid id ws h =
      let p = passed (live_account rows id) _ _ h in
      let q = passed (without_balance rows id) _ _ p.2 in
      let is = name_there rows.accounts _ id names.accounts (was_so _ _ _ p.1) in
      subst AreWrites (inside _ _ q.2) (one (codes "accounts") id (codes "closed") (flag true) refl is refl (flag_is true))

  payee_add_valid : (id : Option Text) (name : Text) (ws : List Write) → payee_add rows id name ≡ Ok ws → AreWrites ws
  payee_add_valid id name ws h =
      let p = passed (new_row (is_payee rows) id) _ _ h in
      let row = new_row_is _ id p.0 1 p.1 (omega arith) in
      subst AreWrites (inside _ _ p.2) (write_is 1 (codes "payees") p.0 (codes "name") (IsText name) refl row refl tt, tt)

  payee_rename_valid : (id name : Text) (ws : List Write) → payee_rename rows id name ≡ Ok ws → AreWrites ws
  payee_rename_valid id name ws h =
      let p = passed (live_payee rows id) _ _ h in
      let is = name_there rows.payees _ id names.payees (was_so _ _ _ p.1) in
      subst AreWrites (inside _ _ p.2) (one (codes "payees") id (codes "name") (IsText name) refl is refl tt)

  payee_delete_valid : (id : Text) (ws : List Write) → payee_delete rows id ≡ Ok ws → AreWrites ws
  payee_delete_valid id ws h =
      let p = passed (live_payee rows id) _ _ h in
      let is = name_there rows.payees _ id names.payees (was_so _ _ _ p.1) in
      subst AreWrites (inside _ _ p.2) (one (codes "payees") id (codes "tombstone") (flag true) refl is refl (flag_is true))

  -- ---- groups and categories
  group_add_valid : (id : Option Text) (name : Text) (income : Bool) (ws : List Write) → group_add rows id name income ≡ Ok ws → AreWrites ws
  group_add_valid id name income ws h =
      let p = passed (new_row (is_group rows) id) _ _ h in
      let q = passed (free_group_name rows name) _ _ p.2 in
      let row = new_row_is _ id p.0 2 p.1 (omega arith) in
      subst AreWrites (inside _ _ q.2) (
        write_is 2 (codes "category_groups") p.0 (codes "name") (IsText name) refl row refl tt,
        (
          write_is 2 (codes "category_groups") p.0 (codes "is_income") (flag income) refl row refl (flag_is income),
          tt,
        ),
      )

  group_rename_valid : (id name : Text) (ws : List Write) → group_rename rows id name ≡ Ok ws → AreWrites ws
  group_rename_valid id name ws h =
      let p = passed (live_group rows id) _ _ h in
      let q = passed (free_group_name rows name) _ _ p.2 in
      let is = name_there rows.groups _ id names.groups (was_so _ _ _ p.1) in
      subst AreWrites (inside _ _ q.2) (one (codes "category_groups") id (codes "name") (IsText name) refl is refl tt)

  group_delete_valid : (id : Text) (ws : List Write) → group_delete rows id ≡ Ok ws → AreWrites ws
  group_delete_valid id ws h =
      let p = passed (live_group rows id) _ _ h in
      let is = name_there rows.groups _ id names.groups (was_so _ _ _ p.1) in
      let n = length (list_map category_deletion (categories_of rows id) ++ write (codes "category_groups") (Given id) (codes "tombstone") (flag true) ∷ []) in
      let each = λ (q : Text) (among : is_among text_cmp (categories_of rows id) q ≡ true).
      let name = name_there rows.categories (is_live_in rows id) q names.categories (sym (among-keys_where text_total text_same (is_live_in rows id) rows.categories q) ∙ among) in
      write_is n (codes "categories") (Given q) (codes "tombstone") (flag true) refl name refl (flag_is true) in
      subst AreWrites (inside _ _ p.2) (all_append (IsWrite n) (list_map category_deletion (categories_of rows id)) (write (codes "category_groups") (Given id) (codes "tombstone") (flag true) ∷ [])
      (all_map (IsWrite n) category_deletion (categories_of rows id) each)
      (write_is n (codes "category_groups") (Given id) (codes "tombstone") (flag true) refl is refl (flag_is true), tt))

  placed_valid : (n : ℕ) (row : RowName) (group : Text) → IsRowName n row → AllByRecursion (IsWrite n) (placed_in rows row group)
  placed_valid n row group is = (
    write_is n (codes "categories") row (codes "cat_group") (IsText group) refl is refl tt,
    (
      write_is n (codes "categories") row (codes "is_income") (flag (takes_income rows group)) refl is refl (flag_is (takes_income rows group)),
      tt,
    ),
  )

  category_add_valid : (id : Option Text) (group name : Text) (ws : List Write) → category_add rows id group name ≡ Ok ws → AreWrites ws
  category_add_valid id group name ws h =
      let p = passed (new_row (is_category rows) id) _ _ h in
      let q = passed (live_group rows group) _ _ p.2 in
      let r = passed (free_category_name rows group name) _ _ q.2 in
      let row = new_row_is _ id p.0 3 p.1 (omega arith) in
      subst AreWrites (inside _ _ r.2) (write_is 3 (codes "categories") p.0 (codes "name") (IsText name) refl row refl tt, placed_valid 3 p.0 group row)

  category_rename_valid : (id name : Text) (ws : List Write) → category_rename rows id name ≡ Ok ws → AreWrites ws
  category_rename_valid id name ws h =
      let p = passed (live_category rows id) _ _ h in
      let q = passed (if_there (λ group. free_category_name rows group name) (group_of rows id)) _ _ p.2 in
      let is = name_there rows.categories _ id names.categories (was_so _ _ _ p.1) in
      subst AreWrites (inside _ _ q.2) (one (codes "categories") id (codes "name") (IsText name) refl is refl tt)

  category_move_valid : (id group : Text) (ws : List Write) → category_move rows id group ≡ Ok ws → AreWrites ws
  category_move_valid id group ws h =
      let p = passed (live_category rows id) _ _ h in
      let q = passed (live_group rows group) _ _ p.2 in
      let r = passed (if_there (free_category_name rows group) (name_of rows id)) _ _ q.2 in
      let is = name_there rows.categories _ id names.categories (was_so _ _ _ p.1) in
      subst AreWrites (inside _ _ r.2) (placed_valid 2 (Given id) group is)

  category_delete_valid : (id : Text) (ws : List Write) → category_delete rows id ≡ Ok ws → AreWrites ws
  category_delete_valid id ws h =
      let p = passed (live_category rows id) _ _ h in
      let is = name_there rows.categories _ id names.categories (was_so _ _ _ p.1) in
      subst AreWrites (inside _ _ p.2) (one (codes "categories") id (codes "tombstone") (flag true) refl is refl (flag_is true))

  -- ---- transactions
  tx_add_valid : (id : Option Text) (account : Text) (date : ℕ) (amount : ℤ) (payee category : Option Text) (notes : Text) (ws : List Write) → tx_add rows id account date amount payee category notes ≡ Ok ws → AreWrites ws
  tx_add_valid id account date amount payee category notes ws h =
      let p = passed (new_row (is_tx rows) id) _ _ h in
      let a = passed (live_account rows account) _ _ p.2 in
      let d = passed (a_day date) _ _ a.2 in
      let z = passed (an_amount amount) _ _ d.2 in
      let y = passed (if_there (live_payee rows) payee) _ _ z.2 in
      let c = passed (if_there (live_category rows) category) _ _ y.2 in
      let row = new_row_is _ id p.0 6 p.1 (omega arith) in
      subst AreWrites (inside _ _ c.2) (
        write_is 6 (codes "transactions") p.0 (codes "acct") (IsText account) refl row refl tt,
        (
          write_is 6 (codes "transactions") p.0 (codes "date") (Number (pos date)) refl row refl (day_is date (was_so _ _ _ d.1)),
          (
            write_is 6 (codes "transactions") p.0 (codes "amount") (Number amount) refl row refl (amount_is amount (was_so _ _ _ z.1)),
            (
              write_is 6 (codes "transactions") p.0 (codes "description") _ refl row refl (text_or_null_is payee),
              (
                write_is 6 (codes "transactions") p.0 (codes "category") _ refl row refl (text_or_null_is category),
                (
                  write_is 6 (codes "transactions") p.0 (codes "notes") _ refl row refl (notes_is notes),
                  tt,
                ),
              ),
            ),
          ),
        ),
      )

  -- ---- budgets
  budget_writes_valid : (n : ℕ) (category : Text) (month : ℕ) (column : Text) (value : Value) → IsName (budget_id category month) → HoldsNumber (pos month) → name_fault Row column ≡ None → IsValue value → AllByRecursion (IsWrite n) (budget_writes rows category month column value)
  budget_writes_valid n category month column value name number c v = column_writes_valid n (is_some (map.get rows.budgets (budget_id category month))) (codes "zero_budgets") category month column value refl name number c v

  track_writes_valid : (n : ℕ) (category : Text) (month : ℕ) (column : Text) (value : Value) → IsName (budget_id category month) → HoldsNumber (pos month) → name_fault Row column ≡ None → IsValue value → AllByRecursion (IsWrite n) (track_writes rows category month column value)
  track_writes_valid n category month column value name number c v = column_writes_valid n (is_some (map.get rows.tracked (budget_id category month))) (codes "reflect_budgets") category month column value refl name number c v

  budget_valid : (month : ℕ) (category : Text) (amount : ℤ) (ws : List Write) → budget rows month category amount ≡ Ok ws → AreWrites ws
  budget_valid month category amount ws h =
      let m = passed (a_month month) _ _ h in
      let c = passed (live_category rows category) _ _ m.2 in
      let i = passed (no_income rows category) _ _ c.2 in
      let a = passed (an_amount amount) _ _ i.2 in
      let n = passed (a_name (budget_id category month)) _ _ a.2 in
      subst AreWrites (inside _ _ n.2) (budget_writes_valid _ category month (codes "amount") (Number amount) (name_of_is (budget_id category month) (was_so _ _ _ n.1)) (month_is month (was_so _ _ _ m.1)) refl (amount_is amount (was_so _ _ _ a.1)))

  carryover_valid : (month : ℕ) (category : Text) (carries : Bool) (ws : List Write) → carryover rows month category carries ≡ Ok ws → AreWrites ws
  carryover_valid month category carries ws h =
      let m = passed (a_month month) _ _ h in
      let c = passed (live_category rows category) _ _ m.2 in
      let i = passed (no_income rows category) _ _ c.2 in
      let n = passed (a_name (budget_id category month)) _ _ i.2 in
      subst AreWrites (inside _ _ n.2) (budget_writes_valid _ category month (codes "carryover") (flag carries) (name_of_is (budget_id category month) (was_so _ _ _ n.1)) (month_is month (was_so _ _ _ m.1)) refl (flag_is carries))

  hold_valid : (month : ℕ) (amount : ℤ) (ws : List Write) → hold month amount ≡ Ok ws → AreWrites ws
  hold_valid month amount ws h =
      let m = passed (a_month month) _ _ h in
      let a = passed (a_held amount) _ _ m.2 in
      subst AreWrites (inside _ _ a.2) (one (codes "zero_budget_months") (month_id month) (codes "buffered") (Number amount) refl (month_name month) refl (held_is amount (was_so _ _ _ a.1)))

  move_valid : (month : ℕ) (from to : Text) (amount : ℤ) (ws : List Write) → move rows month from to amount ≡ Ok ws → AreWrites ws
  move_valid month from to amount ws h =
      let p = passed (may_move rows month from to amount) _ _ h in
      let l = passed (an_amount (budgeted rows from month -ℤ amount)) _ _ p.2 in
      let g = passed (an_amount (budgeted rows to month +ℤ amount)) _ _ l.2 in
      let f = passed (a_name (budget_id from month)) _ _ g.2 in
      let t = passed (a_name (budget_id to month)) _ _ f.2 in
      let number = month_is month (was_so _ _ _ (passed (a_month month) _ _ p.1).1) in
      let less = budgeted rows from month -ℤ amount in
      let more = budgeted rows to month +ℤ amount in
      let first = budget_writes rows from month (codes "amount") (Number less) in
      let second = budget_writes rows to month (codes "amount") (Number more) in
      let n = length (first ++ second) in
      subst AreWrites (inside _ _ t.2) (all_append (IsWrite n) first second
      (budget_writes_valid n from month (codes "amount") (Number less) (name_of_is (budget_id from month) (was_so _ _ _ f.1)) number refl (amount_is less (was_so _ _ _ l.1)))
      (budget_writes_valid n to month (codes "amount") (Number more) (name_of_is (budget_id to month) (was_so _ _ _ t.1)) number refl (amount_is more (was_so _ _ _ g.1))))

  track_valid : (month : ℕ) (category : Text) (amount : ℤ) (ws : List Write) → track rows month category amount ≡ Ok ws → AreWrites ws
  track_valid month category amount ws h =
      let m = passed (a_month month) _ _ h in
      let c = passed (live_category rows category) _ _ m.2 in
      let a = passed (an_amount amount) _ _ c.2 in
      let n = passed (a_name (budget_id category month)) _ _ a.2 in
      subst AreWrites (inside _ _ n.2) (track_writes_valid _ category month (codes "amount") (Number amount) (name_of_is (budget_id category month) (was_so _ _ _ n.1)) (month_is month (was_so _ _ _ m.1)) refl (amount_is amount (was_so _ _ _ a.1)))

  track_carryover_valid : (month : ℕ) (category : Text) (carries : Bool) (ws : List Write) → track_carryover rows month category carries ≡ Ok ws → AreWrites ws
  track_carryover_valid month category carries ws h =
      let m = passed (a_month month) _ _ h in
      let c = passed (live_category rows category) _ _ m.2 in
      let n = passed (a_name (budget_id category month)) _ _ c.2 in
      subst AreWrites (inside _ _ n.2) (track_writes_valid _ category month (codes "carryover") (flag carries) (name_of_is (budget_id category month) (was_so _ _ _ n.1)) (month_is month (was_so _ _ _ m.1)) refl (flag_is carries))

  note_valid : (id text : Text) (ws : List Write) → note id text ≡ Ok ws → AreWrites ws
  note_valid id text ws h =
      let p = passed (a_name id) _ _ h in
      subst AreWrites (inside _ _ p.2) (one (codes "notes") id (codes "note") (IsText text) refl (name_of_is id (was_so _ _ _ p.1)) refl tt)

  -- the writes of any edit
  pub writes_valid : (edit : BookEdit) (ws : List Write) → IsBookEdit edit → book_writes rows edit ≡ Ok ws → AreWrites ws
  writes_valid (Set dataset row column value) ws v h = set_valid _ (field_of dataset row column) value ws refl v h
  writes_valid (AccountAdd id name off) ws v h = account_add_valid id name off ws h
  writes_valid (AccountRename id name) ws v h = account_rename_valid id name ws h
  writes_valid (AccountOffbudget id off) ws v h = account_offbudget_valid id off ws h
  writes_valid (AccountReopen id) ws v h = account_reopen_valid id ws h
  writes_valid (AccountClose id) ws v h = account_close_valid id ws h
  writes_valid (GroupAdd id name income) ws v h = group_add_valid id name income ws h
  writes_valid (GroupRename id name) ws v h = group_rename_valid id name ws h
  writes_valid (GroupDelete id) ws v h = group_delete_valid id ws h
  writes_valid (CategoryAdd id group name) ws v h = category_add_valid id group name ws h
  writes_valid (CategoryRename id name) ws v h = category_rename_valid id name ws h
  writes_valid (CategoryMove id group) ws v h = category_move_valid id group ws h
  writes_valid (CategoryDelete id) ws v h = category_delete_valid id ws h
  writes_valid (CategoryDeleteTo id to) ws v h = category_delete_to_valid rows names id to ws h
  writes_valid (PayeeAdd id name) ws v h = payee_add_valid id name ws h
  writes_valid (PayeeRename id name) ws v h = payee_rename_valid id name ws h
  writes_valid (PayeeDelete id) ws v h = payee_delete_valid id ws h
  writes_valid (PayeeMerge to ids) ws v h = payee_merge_valid rows names to ids ws h
  writes_valid (TxAdd id account date amount payee category notes) ws v h = tx_add_valid id account date amount payee category notes ws h
  writes_valid (Budget month category amount) ws v h = budget_valid month category amount ws h
  writes_valid (Carryover month category carries) ws v h = carryover_valid month category carries ws h
  writes_valid (Hold month amount) ws v h = hold_valid month amount ws h
  writes_valid (Move month from to amount) ws v h = move_valid month from to amount ws h
  writes_valid (Track month category amount) ws v h = track_valid month category amount ws h
  writes_valid (TrackCarryover month category carries) ws v h = track_carryover_valid month category carries ws h
  writes_valid (Note id text) ws v h = note_valid id text ws h
