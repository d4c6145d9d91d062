-- Edits of transactions are refused with the first fault of what they ask for.
use Rattle.std.proofs.Common.{◌≡◌, Bool, true, false, List, [], ◌∷◌, Option, None, Some, Result, Ok, refl}
use Rattle.std.specs.Prelude.{◌-ℤ◌, unsigned_abs, nat_le, not, ok_or, if◌then◌else◌}
use Rattle.std.specs.Option.{is_none, option_and_then}
use Rattle.std.specs.Ordering.{int_eq}
use lib.IntN.{ℤ, pos}
use Rattle.std.specs.FinMap.{get}
use Rattle.field_values.specs.Value.{largest_number}
use Rattle.finite_sums.specs.Sums.{total}
use Rattle.finite_sums.specs.Maps.{Text, some_and}
use Rattle.book_rows.specs.declared.rows.Rows.{Rows}
use Rattle.book_rows.specs.declared.rows.TxRow.{TxRow}
use Rattle.book_rows.specs.declared.write.Write.{Write}
use Rattle.book_rows.specs.declared.fault.EditFault.{EditFault}
use Rattle.book_rows.specs.declared.fault.EditFault.TheVariants.{NoSuchTransaction, NoSuchSchedule, NoSuchAccount, NoSuchCategory, BadDate, BadAmount, IsChild, IsTransferPart, SameAccount, SplitSum}
use Rattle.book_rows.specs.Kinds.{is_day}
use Rattle.book_rows.specs.Live.{is_live_tx, is_live_account, is_live_category, is_live_schedule}
use Rattle.book_edits.specs.Faults.{◌>>=◌, must, if_there}
use Rattle.book_edits.specs.Checks.{same_id, an_amount, live_category, live_payee}
use Rattle.split_transfer.specs.declared.edit.PairEdit.{PairEdit}
use Rattle.split_transfer.specs.declared.edit.PairEdit.TheVariants.{TxSet, TxDelete, Split, Transfer}
use Rattle.split_transfer.specs.declared.edit.SplitPart.{SplitPart}
use Rattle.split_transfer.specs.declared.edit.TxChange.{TxChange}
use Rattle.split_transfer.specs.declared.edit.TxChange.TheVariants.{Date, Amount, Account, Payee, Category, Notes, Cleared, Schedule}
use Rattle.split_transfer.specs.Pairs.{only_where, partner_of, parts_sum}
use Rattle.split_transfer.specs.Checks.{live_schedule, is_beside, takes_category, no_rest as no_rest_so, stays_even}
use Rattle.split_transfer.specs.Edits.{pair_writes}
use Rattle.book_laws.specs.Asking.{unless, fault_of, first_fault, payee, category, amount_number}
use Rattle.book_laws.specs.AskingPairs.{where_live, its_category, no_rest, even, asked_of, asked_for, PairEditsAreJudged}
use Rattle.book_laws.proofs.Asked.{asks, maybe, all_asked, payee_asked, category_asked}

-- what an edit finds, where it is live
finds : (rows : Rows) (id : Text) (go : TxRow → Result (List Write) EditFault) (more : TxRow → List (Option EditFault)) → ((x : TxRow) → fault_of (go x) ≡ first_fault (more x)) → (o : Option TxRow)
    → fault_of (ok_or (only_where (is_live_tx rows) o) (NoSuchTransaction id) >>= go) ≡ first_fault (where_live rows id more o)
finds rows id go more h None = refl
finds rows id go more h (Some x) = by (is_live_tx rows x)
  where
    by : (b : Bool) → fault_of (ok_or (if b then Some x else None) (NoSuchTransaction id) >>= go) ≡ first_fault (if b then more x else Some (NoSuchTransaction id) ∷ [])
    by true = h x
    by false = refl

module _ (rows : Rows) where
  abbrev amount_of : ℤ → Bool
  amount_of z = nat_le (unsigned_abs z) largest_number

  -- the amount of what is split
  stays : (id : Text) (x : TxRow) (z : ℤ) (go : Result (List Write) EditFault) (others : List (Option EditFault)) → fault_of go ≡ first_fault others → fault_of (stays_even rows id x z >>= λ _. go) ≡ first_fault (even rows id x z ∷ others)
  stays id x z go others h = by x.is_parent
    where
      rest : ℤ
      rest = z -ℤ parts_sum rows id

      by : (b : Bool) → fault_of ((if b then no_rest_so rest else Ok tt) >>= λ _. go) ≡ first_fault ((if b then no_rest rest else None) ∷ others)
      by true = asks (int_eq rest (pos 0)) (SplitSum rest) go others h
      by false = h

  takes : (id : Text) (x : TxRow) (o : Option Text) (go : Result (List Write) EditFault) → fault_of go ≡ None → fault_of (takes_category rows id x o >>= λ _. go) ≡ first_fault (its_category rows id x o)
  takes id x None go h = h
  takes id x (Some own) go h = by (not x.is_parent) (not (some_and (is_beside rows x) (partner_of rows id x))) (is_live_category rows own)
    where
      by : (a b c : Bool) → fault_of ((must a (IsChild id) >>= λ _. must b (IsTransferPart id) >>= λ _. must c (NoSuchCategory own)) >>= λ _. go)
          ≡ first_fault (unless a (IsChild id) ∷ unless b (IsTransferPart id) ∷ unless c (NoSuchCategory own) ∷ [])
      by false b c = refl
      by true false c = refl
      by true true false = refl
      by true true true = h

  amount_asked : (p : SplitPart) (go : Result (List Write) EditFault) (others : List (Option EditFault)) → fault_of go ≡ first_fault others → fault_of (an_amount p.amount >>= λ _. go) ≡ first_fault (amount_number p.amount ∷ others)
  amount_asked p go others h = asks (amount_of p.amount) (BadAmount p.amount) go others h

  part_asked : (p : SplitPart) (go : Result (List Write) EditFault) (others : List (Option EditFault)) → fault_of go ≡ first_fault others → fault_of (if_there (live_category rows) p.category >>= λ _. go) ≡ first_fault (option_and_then (category rows) p.category ∷ others)
  part_asked p go others h = maybe (live_category rows) (category rows) (category_asked rows) p.category go others h

  schedule_asked : (q : Text) (go : Result (List Write) EditFault) (others : List (Option EditFault)) → fault_of go ≡ first_fault others → fault_of (live_schedule rows q >>= λ _. go) ≡ first_fault (unless (is_live_schedule rows q) (NoSuchSchedule q) ∷ others)
  schedule_asked q go others h = asks (is_live_schedule rows q) (NoSuchSchedule q) go others h

  set_judged : (id : Text) (change : TxChange) → fault_of (pair_writes rows (TxSet id change)) ≡ first_fault (asked_for rows (TxSet id change))
  set_judged id (Date date) = finds rows id _ (asked_of rows id (Date date)) (λ x. asks (not x.is_child) (IsChild id) _ _ (asks (is_day date) (BadDate date) _ [] refl)) (get rows.txs id)
  set_judged id (Amount z) = finds rows id _ (asked_of rows id (Amount z)) (λ x. asks (not x.is_child) (IsChild id) _ _ (asks (amount_of z) (BadAmount z) _ _ (stays id x z _ [] refl))) (get rows.txs id)
  set_judged id (Account own) = finds rows id _ (asked_of rows id (Account own)) (λ x. asks (not x.is_child) (IsChild id) _ _ (asks (is_none (partner_of rows id x)) (IsTransferPart id) _ _ (asks (is_live_account rows own) (NoSuchAccount own) _ [] refl))) (get rows.txs id)
  set_judged id (Payee to) = finds rows id _ (asked_of rows id (Payee to)) (λ x. asks (not x.is_child) (IsChild id) _ _ (asks (is_none (partner_of rows id x)) (IsTransferPart id) _ _ (maybe (live_payee rows) (payee rows) (payee_asked rows) to _ [] refl))) (get rows.txs id)
  set_judged id (Category of) = finds rows id _ (asked_of rows id (Category of)) (λ x. takes id x of _ refl) (get rows.txs id)
  set_judged id (Notes text) = finds rows id _ (asked_of rows id (Notes text)) (λ x. refl) (get rows.txs id)
  set_judged id (Cleared set) = finds rows id _ (asked_of rows id (Cleared set)) (λ x. refl) (get rows.txs id)
  set_judged id (Schedule by) = finds rows id _ (asked_of rows id (Schedule by)) (λ x. maybe (live_schedule rows) (λ q. unless (is_live_schedule rows q) (NoSuchSchedule q)) schedule_asked by _ [] refl) (get rows.txs id)

  judged_by : (edit : PairEdit) → fault_of (pair_writes rows edit) ≡ first_fault (asked_for rows edit)
  judged_by (TxSet id change) = set_judged id change
  judged_by (TxDelete id) = finds rows id _ _ (λ x. asks (not x.is_child) (IsChild id) _ [] refl) (get rows.txs id)
  judged_by (Split id parts) = finds rows id _ _ (λ x.
      asks (not x.is_child) (IsChild id) _ _ (asks (is_none (partner_of rows id x)) (IsTransferPart id) _ _
      (all_asked (λ (p : SplitPart). an_amount p.amount) (λ (p : SplitPart). amount_number p.amount) amount_asked parts _ _
      (all_asked (λ (p : SplitPart). if_there (live_category rows) p.category) (λ (p : SplitPart). option_and_then (category rows) p.category) part_asked parts _ _
      (asks (int_eq (x.amount -ℤ total (λ (p : SplitPart). p.amount) parts) (pos 0)) (SplitSum (x.amount -ℤ total (λ (p : SplitPart). p.amount) parts)) _ [] refl))))) (get rows.txs id)
  judged_by (Transfer from to date z notes) =
      asks (is_live_account rows from) (NoSuchAccount from) _ _ (asks (is_live_account rows to) (NoSuchAccount to) _ _ (asks (not (same_id from to)) (SameAccount from) _ _
      (asks (is_day date) (BadDate date) _ _ (asks (amount_of z) (BadAmount z) _ [] refl))))

pub pairs_judged : PairEditsAreJudged
pairs_judged = judged_by
