-- Plain edits are refused with the first fault of what they ask for.
use Rattle.std.proofs.Common.{◌≡◌, ℕ, Bool, true, false, List, [], ◌∷◌, ◌++◌, Option, None, Some, Result, Ok, Err, refl, ap, ◌∙◌}
use Rattle.std.specs.Prelude.{◌+ℤ◌, ◌-ℤ◌, unsigned_abs, nat_le, not, map as list_map}
use Rattle.std.specs.Option.{option_map, option_and_then, is_none}
use Rattle.std.specs.Ordering.{int_eq}
use lib.IntN.{ℤ, pos, negsuc}
use Rattle.std.specs.FinMap.{get}
use Rattle.field_values.specs.declared.name.NamePart.TheVariants.{Row}
use Rattle.field_values.specs.declared.name.NameFault.{NameFault}
use Rattle.field_values.specs.declared.value.Value.{Value}
use Rattle.field_values.specs.Names.{FieldNames, field_of, name_fault, names_fault}
use Rattle.field_values.specs.Value.{largest_number}
use Rattle.finite_sums.specs.Maps.{Text}
use Rattle.book_rows.specs.declared.rows.Rows.{Rows}
use Rattle.book_rows.specs.declared.rows.CategoryRow.{CategoryRow}
use Rattle.book_rows.specs.declared.write.RowName.{RowName}
use Rattle.book_rows.specs.declared.write.RowName.TheVariants.{Given, Made}
use Rattle.book_rows.specs.declared.write.Write.{Write}
use Rattle.book_rows.specs.declared.fault.EditFault.{EditFault}
use Rattle.book_rows.specs.declared.fault.EditFault.TheVariants.{BadId, IdTaken, NoSuchAccount, NoSuchGroup, NoSuchCategory, NoSuchPayee, BadDate, BadAmount, BadMonth, SameAccount, ClosedAccount, IncomeCategory, CategoryType, TransferPayee}
use Rattle.book_rows.specs.Balances.{balance_of}
use Rattle.book_rows.specs.Ids.{budget_id}
use Rattle.book_rows.specs.Kinds.{is_day}
use Rattle.book_rows.specs.Live.{is_live_account, is_live_group, is_live_payee, is_live_category, is_income_category}
use Rattle.book_rows.specs.Months.{is_month}
use Rattle.book_edits.specs.declared.edit.BookEdit.{BookEdit}
use Rattle.book_edits.specs.declared.edit.BookEdit.TheVariants.{Set, AccountAdd, AccountRename, AccountOffbudget, AccountReopen, AccountClose, GroupAdd, GroupRename, GroupDelete, CategoryAdd, CategoryRename, CategoryMove, CategoryDelete, CategoryDeleteTo, PayeeAdd, PayeeRename, PayeeDelete, PayeeMerge, TxAdd, Budget, Carryover, Hold, Move, Track, TrackCarryover, Note}
use Rattle.book_edits.specs.declared.gains.Gain.{Gain}
use Rattle.book_edits.specs.Faults.{◌>>=◌, Check, must, if_there, each}
use Rattle.book_edits.specs.Checks.{may_be_chosen, new_row, same_id, free_group_name, free_category_name, live_payee, live_category, same_flag, is_transfer_payee, two_ids, no_transfer, an_amount, a_name}
use Rattle.book_edits.specs.Edits.{bad_id, write_unless, book_writes}
use Rattle.book_edits.specs.Accounts.{is_account, is_payee}
use Rattle.book_edits.specs.Categories.{is_group, is_category}
use Rattle.book_edits.specs.Transactions.{is_tx}
use Rattle.book_edits.specs.Budgets.{budgeted, two_amounts}
use Rattle.book_edits.specs.Mappings.{gains}
use Rattle.book_laws.specs.Asking.{unless, fault_of, first_fault, new, named, payee, category, apart, no_account, amount_number, asked, PlainEditsAreJudged}
use Rattle.book_laws.specs.Leaving.{new_budget, budget_row}
use Rattle.book_laws.proofs.NoMore.{given_as}

module _ {A : Type 0} where
  -- a check of something that has to be so
  pub asks : (b : Bool) (f : EditFault) (go : Result A EditFault) (others : List (Option EditFault)) → fault_of go ≡ first_fault others → fault_of (must b f >>= λ _. go) ≡ first_fault (unless b f ∷ others)
  asks true f go others h = h
  asks false f go others h = refl

  -- any check
  checks : (c : Check) (go : Result A EditFault) (others : List (Option EditFault)) → fault_of go ≡ first_fault others → fault_of (c >>= λ _. go) ≡ first_fault (fault_of c ∷ others)
  checks (Ok u) go others h = h
  checks (Err f) go others h = refl

  -- a check of what may be absent
  pub maybe : {X : Type 0} (check : X → Check) (told : X → Option EditFault) → ((x : X) (go : Result A EditFault) (others : List (Option EditFault)) → fault_of go ≡ first_fault others → fault_of (check x >>= λ _. go) ≡ first_fault (told x ∷ others))
      → (o : Option X) (go : Result A EditFault) (others : List (Option EditFault)) → fault_of go ≡ first_fault others → fault_of (if_there check o >>= λ _. go) ≡ first_fault (option_and_then told o ∷ others)
  maybe check told same None go others h = h
  maybe check told same (Some x) go others h = same x go others h

  -- the row of a new id
  adds : (there : Text → Bool) (id : Option Text) (go : RowName → Result A EditFault) (others : List (Option EditFault)) → ((row : RowName) → fault_of (go row) ≡ first_fault others)
      → fault_of (new_row there id >>= go) ≡ first_fault (new there id ++ others)
  adds there None go others h = h (Made 0)
  adds there (Some id) go others h = by (may_be_chosen id) (not (there id))
    where
      by : (a b : Bool) → fault_of ((must a (BadId id) >>= λ _. must b (IdTaken id) >>= λ _. Ok (Given id)) >>= go) ≡ first_fault (unless a (BadId id) ∷ unless b (IdTaken id) ∷ others)
      by true true = h (Given id)
      by true false = refl
      by false b = refl

pub at_end : (xs : List (Option EditFault)) → xs ++ [] ≡ xs
at_end [] = refl
at_end (x ∷ xs) = ap (λ ys. x ∷ ys) (at_end xs)

-- two checks, and then the rest
in_turn : (a b : Check) (c : Result (List Write) EditFault) → fault_of ((a >>= λ _. b) >>= λ _. c) ≡ fault_of (a >>= λ _. (b >>= λ _. c))
in_turn (Ok u) b c = refl
in_turn (Err f) b c = refl

-- a check of each
pub all_asked : {X : Type 0} (check : X → Check) (told : X → Option EditFault) → ((x : X) (go : Result (List Write) EditFault) (others : List (Option EditFault)) → fault_of go ≡ first_fault others → fault_of (check x >>= λ _. go) ≡ first_fault (told x ∷ others))
    → (xs : List X) (go : Result (List Write) EditFault) (others : List (Option EditFault)) → fault_of go ≡ first_fault others → fault_of (each check xs >>= λ _. go) ≡ first_fault (list_map told xs ++ others)
all_asked check told same [] go others h = h
all_asked check told same (x ∷ xs) go others h =
    in_turn (check x) (each check xs) go ∙ same x (each check xs >>= λ _. go) (list_map told xs ++ others) (all_asked check told same xs go others h)

-- ---- edits

set_judged : (o : Option NameFault) (field : FieldNames) (value : Value) → fault_of (write_unless o field value) ≡ first_fault (option_map (bad_id field) o ∷ [])
set_judged None field value = refl
set_judged (Some fault) field value = refl

module _ (rows : Rows) where
  pub payee_asked : (x : Text) (go : Result (List Write) EditFault) (others : List (Option EditFault)) → fault_of go ≡ first_fault others → fault_of (live_payee rows x >>= λ _. go) ≡ first_fault (payee rows x ∷ others)
  payee_asked x go others h = asks (is_live_payee rows x) (NoSuchPayee x) go others h

  pub category_asked : (x : Text) (go : Result (List Write) EditFault) (others : List (Option EditFault)) → fault_of go ≡ first_fault others → fault_of (live_category rows x >>= λ _. go) ≡ first_fault (category rows x ∷ others)
  category_asked x go others h = asks (is_live_category rows x) (NoSuchCategory x) go others h

  -- a name in the group that a row names, and the name of a row in a group
  own_group : (o : Option CategoryRow) (name : Text) (go : Result (List Write) EditFault) (others : List (Option EditFault)) → fault_of go ≡ first_fault others
      → fault_of (if_there (λ own. free_category_name rows own name) (option_and_then (λ (c : CategoryRow). c.cat_group) o) >>= λ _. go)
      ≡ first_fault (option_and_then (λ (c : CategoryRow). option_and_then (λ own. fault_of (free_category_name rows own name)) c.cat_group) o ∷ others)
  own_group None name go others h = h
  own_group (Some c) name go others h = maybe (λ own. free_category_name rows own name) (λ own. fault_of (free_category_name rows own name)) (λ own. checks (free_category_name rows own name)) c.cat_group go others h

  own_name : (o : Option CategoryRow) (into : Text) (go : Result (List Write) EditFault) (others : List (Option EditFault)) → fault_of go ≡ first_fault others
      → fault_of (if_there (free_category_name rows into) (option_and_then (λ (c : CategoryRow). c.name) o) >>= λ _. go)
      ≡ first_fault (option_and_then (λ (c : CategoryRow). option_and_then (λ own. fault_of (free_category_name rows into own)) c.name) o ∷ others)
  own_name None into go others h = h
  own_name (Some c) into go others h = maybe (free_category_name rows into) (λ own. fault_of (free_category_name rows into own)) (λ own. checks (free_category_name rows into own)) c.name go others h

  -- what the row of a category says of a month
  amount_is : (id : Text) (month : ℕ) → budgeted rows id month ≡ (budget_row rows id month).amount
  amount_is id month = given_as (get rows.budgets (budget_id id month)) (new_budget id month) refl

  abbrev amount_of : ℤ → Bool
  amount_of z = nat_le (unsigned_abs z) largest_number

  abbrev name_at : Text → Bool
  name_at id = is_none (name_fault Row id)

  tx_judged : (id : Option Text) (own : Text) (date : ℕ) (amount : ℤ) (to of : Option Text) (notes : Text) → fault_of (book_writes rows (TxAdd id own date amount to of notes)) ≡ first_fault (asked rows (TxAdd id own date amount to of notes))
  tx_judged id own date amount to of notes =
      adds (is_tx rows) id _ _ (λ row.
      asks (is_live_account rows own) (NoSuchAccount own) _ _
      (asks (is_day date) (BadDate date) _ _
      (asks (amount_of amount) (BadAmount amount) _ _
      (maybe (live_payee rows) (payee rows) payee_asked to _ _
      (maybe (live_category rows) (category rows) category_asked of _ _ refl)))))

  move_judged : (month : ℕ) (from to : Text) (amount : ℤ) → fault_of (book_writes rows (Move month from to amount)) ≡ first_fault (asked rows (Move month from to amount))
  move_judged month from to amount =
      let less = budgeted rows from month -ℤ amount in
      let more = budgeted rows to month +ℤ amount in
      let low = (budget_row rows from month).amount -ℤ amount in
      let high = (budget_row rows to month).amount +ℤ amount in
      let names : List (Option EditFault) = unless (name_at (budget_id from month)) (BadId (budget_id from month)) ∷ unless (name_at (budget_id to month)) (BadId (budget_id to month)) ∷ [] in
      let go : Result (List Write) EditFault = an_amount less >>= λ _. an_amount more >>= λ _. a_name (budget_id from month) >>= λ _. a_name (budget_id to month) >>= λ _. Ok (two_amounts rows month from less to more) in
      by (is_month month) (is_live_category rows from) (is_live_category rows to) (not (is_income_category rows from)) (not (is_income_category rows to)) (not (same_id from to)) (amount_of amount)
      go (unless (amount_of low) (BadAmount low) ∷ unless (amount_of high) (BadAmount high) ∷ names)
      (asks (amount_of less) (BadAmount less) _ _
      (asks (amount_of more) (BadAmount more) _ _
      (asks (name_at (budget_id from month)) (BadId (budget_id from month)) _ _
      (asks (name_at (budget_id to month)) (BadId (budget_id to month)) (Ok (two_amounts rows month from less to more)) [] refl)))
      ∙ ap (λ z. first_fault (unless (amount_of (z -ℤ amount)) (BadAmount (z -ℤ amount)) ∷ unless (amount_of more) (BadAmount more) ∷ names)) (amount_is from month)
      ∙ ap (λ z. first_fault (unless (amount_of low) (BadAmount low) ∷ unless (amount_of (z +ℤ amount)) (BadAmount (z +ℤ amount)) ∷ names)) (amount_is to month))
    where
      -- the seven checks that a move may be made, and then the others
      by : (a b c d e f g : Bool) (go : Result (List Write) EditFault) (others : List (Option EditFault)) → fault_of go ≡ first_fault others
          → fault_of ((must a (BadMonth month) >>= λ _. must b (NoSuchCategory from) >>= λ _. must c (NoSuchCategory to) >>= λ _. must d (IncomeCategory from) >>= λ _. must e (IncomeCategory to) >>= λ _. must f (SameAccount from) >>= λ _. must g (BadAmount amount)) >>= λ _. go)
          ≡ first_fault (unless a (BadMonth month) ∷ unless b (NoSuchCategory from) ∷ unless c (NoSuchCategory to) ∷ unless d (IncomeCategory from) ∷ unless e (IncomeCategory to) ∷ unless f (SameAccount from) ∷ unless g (BadAmount amount) ∷ others)
      by false b c d e f g go others h = refl
      by true false c d e f g go others h = refl
      by true true false d e f g go others h = refl
      by true true true false e f g go others h = refl
      by true true true true false f g go others h = refl
      by true true true true true false g go others h = refl
      by true true true true true true false go others h = refl
      by true true true true true true true go others h = h

  -- what is handed on
  gain_amount : (g : Gain) (go : Result (List Write) EditFault) (others : List (Option EditFault)) → fault_of go ≡ first_fault others → fault_of (an_amount g.amount >>= λ _. go) ≡ first_fault (amount_number g.amount ∷ others)
  gain_amount g go others h = asks (amount_of g.amount) (BadAmount g.amount) go others h

  gain_name : (to : Text) (g : Gain) (go : Result (List Write) EditFault) (others : List (Option EditFault)) → fault_of go ≡ first_fault others
      → fault_of (a_name (budget_id to g.month) >>= λ _. go) ≡ first_fault (named (budget_id to g.month) ∷ others)
  gain_name to g go others h = asks (name_at (budget_id to g.month)) (BadId (budget_id to g.month)) go others h

  hand_on_judged : (id to : Text) → fault_of (book_writes rows (CategoryDeleteTo id to)) ≡ first_fault (asked rows (CategoryDeleteTo id to))
  hand_on_judged id to =
      by (is_live_category rows id) (is_live_category rows to) (not (same_id id to)) (same_flag (is_income_category rows id) (is_income_category rows to)) _ _
      (in_turn amounts names _
      ∙ all_asked (λ (g : Gain). an_amount g.amount) (λ (g : Gain). amount_number g.amount) gain_amount (gains rows id to) _ _
      (all_asked (λ (g : Gain). a_name (budget_id to g.month)) (λ (g : Gain). named (budget_id to g.month)) (gain_name to) (gains rows id to) _ [] refl
      ∙ ap first_fault (at_end (list_map (λ (g : Gain). named (budget_id to g.month)) (gains rows id to)))))
    where
      amounts : Check
      amounts = each (λ (g : Gain). an_amount g.amount) (gains rows id to)

      names : Check
      names = each (λ (g : Gain). a_name (budget_id to g.month)) (gains rows id to)

      by : (a b c d : Bool) (go : Result (List Write) EditFault) (others : List (Option EditFault)) → fault_of go ≡ first_fault others
          → fault_of ((must a (NoSuchCategory id) >>= λ _. must b (NoSuchCategory to) >>= λ _. must c (SameAccount id) >>= λ _. must d (CategoryType to)) >>= λ _. go)
          ≡ first_fault (unless a (NoSuchCategory id) ∷ unless b (NoSuchCategory to) ∷ unless c (SameAccount id) ∷ unless d (CategoryType to) ∷ others)
      by false b c d go others h = refl
      by true false c d go others h = refl
      by true true false d go others h = refl
      by true true true false go others h = refl
      by true true true true go others h = h

  -- payees that become another one
  apart_asked : (to x : Text) (go : Result (List Write) EditFault) (others : List (Option EditFault)) → fault_of go ≡ first_fault others → fault_of (two_ids to x >>= λ _. go) ≡ first_fault (apart to x ∷ others)
  apart_asked to x go others h = asks (not (same_id to x)) (SameAccount to) go others h

  no_account_asked : (x : Text) (go : Result (List Write) EditFault) (others : List (Option EditFault)) → fault_of go ≡ first_fault others → fault_of (no_transfer rows x >>= λ _. go) ≡ first_fault (no_account rows x ∷ others)
  no_account_asked x go others h = asks (not (is_transfer_payee rows x)) (TransferPayee x) go others h

  merge_judged : (to : Text) (ids : List Text) → fault_of (book_writes rows (PayeeMerge to ids)) ≡ first_fault (asked rows (PayeeMerge to ids))
  merge_judged to ids =
      payee_asked to _ _
      (all_asked (live_payee rows) (payee rows) payee_asked ids _ _
      (all_asked (two_ids to) (apart to) (apart_asked to) ids _ _
      (no_account_asked to _ _
      (all_asked (no_transfer rows) (no_account rows) no_account_asked ids _ [] refl ∙ ap first_fault (at_end (list_map (no_account rows) ids))))))

  judged_by : (edit : BookEdit) → fault_of (book_writes rows edit) ≡ first_fault (asked rows edit)
  judged_by (Set dataset row column value) = set_judged (names_fault (field_of dataset row column)) (field_of dataset row column) value
  judged_by (AccountAdd id name off) = adds (is_account rows) id _ [] (λ row. refl) ∙ ap first_fault (at_end (new (is_account rows) id))
  judged_by (AccountRename id name) = asks (is_live_account rows id) (NoSuchAccount id) _ [] refl
  judged_by (AccountOffbudget id off) = asks (is_live_account rows id) (NoSuchAccount id) _ [] refl
  judged_by (AccountReopen id) = asks (is_live_account rows id) (NoSuchAccount id) _ [] refl
  judged_by (AccountClose id) = asks (is_live_account rows id) (NoSuchAccount id) _ _ (asks (int_eq (balance_of rows id) (pos 0)) (ClosedAccount (balance_of rows id)) _ [] refl)
  judged_by (GroupAdd id name income) = adds (is_group rows) id _ _ (λ row. checks (free_group_name rows name) _ [] refl)
  judged_by (GroupRename id name) = asks (is_live_group rows id) (NoSuchGroup id) _ _ (checks (free_group_name rows name) _ [] refl)
  judged_by (GroupDelete id) = asks (is_live_group rows id) (NoSuchGroup id) _ [] refl
  judged_by (CategoryAdd id into name) = adds (is_category rows) id _ _ (λ row. asks (is_live_group rows into) (NoSuchGroup into) _ _ (checks (free_category_name rows into name) _ [] refl))
  judged_by (CategoryRename id name) = asks (is_live_category rows id) (NoSuchCategory id) _ _ (own_group (get rows.categories id) name _ [] refl)
  judged_by (CategoryMove id into) = asks (is_live_category rows id) (NoSuchCategory id) _ _ (asks (is_live_group rows into) (NoSuchGroup into) _ _ (own_name (get rows.categories id) into _ [] refl))
  judged_by (CategoryDelete id) = asks (is_live_category rows id) (NoSuchCategory id) _ [] refl
  judged_by (CategoryDeleteTo id to) = hand_on_judged id to
  judged_by (PayeeAdd id name) = adds (is_payee rows) id _ [] (λ row. refl) ∙ ap first_fault (at_end (new (is_payee rows) id))
  judged_by (PayeeRename id name) = asks (is_live_payee rows id) (NoSuchPayee id) _ [] refl
  judged_by (PayeeDelete id) = asks (is_live_payee rows id) (NoSuchPayee id) _ [] refl
  judged_by (PayeeMerge to ids) = merge_judged to ids
  judged_by (TxAdd id own date amount to of notes) = tx_judged id own date amount to of notes
  judged_by (Budget month id amount) =
      asks (is_month month) (BadMonth month) _ _ (asks (is_live_category rows id) (NoSuchCategory id) _ _ (asks (not (is_income_category rows id)) (IncomeCategory id) _ _
      (asks (amount_of amount) (BadAmount amount) _ _ (asks (name_at (budget_id id month)) (BadId (budget_id id month)) _ [] refl))))
  judged_by (Carryover month id carries) =
      asks (is_month month) (BadMonth month) _ _ (asks (is_live_category rows id) (NoSuchCategory id) _ _ (asks (not (is_income_category rows id)) (IncomeCategory id) _ _
      (asks (name_at (budget_id id month)) (BadId (budget_id id month)) _ [] refl)))
  judged_by (Hold month (pos cents)) = asks (is_month month) (BadMonth month) _ _ (asks (amount_of (pos cents)) (BadAmount (pos cents)) _ [] refl)
  judged_by (Hold month (negsuc cents)) = asks (is_month month) (BadMonth month) _ _ refl
  judged_by (Move month from to amount) = move_judged month from to amount
  judged_by (Track month id amount) =
      asks (is_month month) (BadMonth month) _ _ (asks (is_live_category rows id) (NoSuchCategory id) _ _
      (asks (amount_of amount) (BadAmount amount) _ _ (asks (name_at (budget_id id month)) (BadId (budget_id id month)) _ [] refl)))
  judged_by (TrackCarryover month id carries) =
      asks (is_month month) (BadMonth month) _ _ (asks (is_live_category rows id) (NoSuchCategory id) _ _ (asks (name_at (budget_id id month)) (BadId (budget_id id month)) _ [] refl))
  judged_by (Note id text) = asks (name_at id) (BadId id) _ [] refl

pub judged : PlainEditsAreJudged
judged = judged_by
