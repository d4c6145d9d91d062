-- What a transfer makes.
use Rattle.std.proofs.Common.{◌≡◌, ℕ, Bool, true, false, cond, List, [], ◌∷◌, Option, None, Some, refl, ap, sym, ◌∙◌, subst}
use Rattle.std.specs.Prelude.{◌≢◌, unwrap_or}
use lib.IntN.{ℤ, pos, neg_ℤ}
use Rattle.std.specs.FinMap.{get}
use Rattle.field_values.specs.declared.value.Value.{Value}
use Rattle.field_values.specs.declared.value.Value.TheVariants.{Number, Text as IsText}
use Rattle.finite_sums.specs.Maps.{Text}
use Rattle.book_rows.specs.declared.rows.Rows.{Rows}
use Rattle.book_rows.specs.declared.rows.TxRow.{TxRow}
use Rattle.book_rows.specs.declared.write.RowName.TheVariants.{Made}
use Rattle.book_rows.specs.declared.write.WriteValue.TheVariants.{IdOf}
use Rattle.book_rows.specs.Kinds.{is_day}
use Rattle.book_edits.specs.Checks.{same_id, live_account, two_ids, a_day, an_amount}
use Rattle.book_edits.specs.Writing.{text_or_null, notes_value}
use Rattle.book_edits.proofs.Valid.{inside, passed, was_so}
use Rattle.split_transfer.specs.After.{Ids, with_writes}
use Rattle.split_transfer.specs.Transfers.{payee_for, half_writes, transfer_writes}
use Rattle.book_laws.specs.Moving.{IsHalf, IsTransferred, TransfersMove}
use Rattle.split_transfer.proofs.Columns.{TxColumn, Acct, Date, Amount, Description, Notes, TransferredId, with_column, blank, Put, put}
use Rattle.split_transfer.proofs.Basics.{same_refl, not_same}
use Rattle.split_transfer.proofs.After.{with_writes-append, get-with_writes}
use Rattle.book_laws.proofs.Done.{text_back}
use Rattle.book_laws.proofs.NoMore.{notes_are}
use Rattle.book_laws.proofs.Unchanged.{InTxs, both_in, puts_in}

abbrev set : Text → Bool → TxColumn → Value → Option TxRow → Option TxRow
set q b c v o = cond b (Some (with_column c v (unwrap_or o (blank q)))) o

-- what the writes of one of its rows make of a row
abbrev half : Text → ℕ → ℤ → Option Text → Text → Text → TxRow → TxRow
half acct date amount payee notes other base =
    with_column TransferredId (IsText other) (with_column Notes (notes_value notes) (with_column Description (text_or_null payee)
    (with_column Amount (Number amount) (with_column Date (Number (pos date)) (with_column Acct (IsText acct) base)))))

abbrev six : ℕ → Text → ℕ → ℤ → Option Text → Text → ℕ → List Put
six n acct date amount payee notes k =
    put n Acct (IsText acct) ∷ put n Date (Number (pos date)) ∷ put n Amount (Number amount) ∷ put n Description (text_or_null payee) ∷ put n Notes (notes_value notes)
    ∷ record { row = Made n; column = TransferredId; value = IdOf k } ∷ []

get-half : (ids : Ids) (m : Rows) (n : ℕ) (acct : Text) (date : ℕ) (amount : ℤ) (payee : Option Text) (notes : Text) (k : ℕ) (q : Text)
    → get (with_writes ids m (half_writes n acct date amount payee notes k)).txs q
    ≡ cond (same_id q (ids n)) (Some (half acct date amount payee notes (ids k) (unwrap_or (get m.txs q) (blank q)))) (get m.txs q)
get-half ids m n acct date amount payee notes k q = get-with_writes ids m (six n acct date amount payee notes k) q ∙ by (same_id q (ids n)) (get m.txs q)
  where
    by : (b : Bool) (o : Option TxRow) → set q b TransferredId (IsText (ids k)) (set q b Notes (notes_value notes) (set q b Description (text_or_null payee)
        (set q b Amount (Number amount) (set q b Date (Number (pos date)) (set q b Acct (IsText acct) o)))))
        ≡ cond b (Some (half acct date amount payee notes (ids k) (unwrap_or o (blank q)))) o
    by true o = refl
    by false o = refl

-- a row with these six columns
is_half : (rows : Rows) (id account : Text) (amount : ℤ) (day : ℕ) (payee : Option Text) (notes other : Text) → is_day day ≡ true
    → get rows.txs id ≡ Some (half account day amount payee notes other (blank id)) → IsHalf rows id account amount day payee notes other
is_half rows id account amount day payee notes other is there = record {
  tx = half account day amount payee notes other (blank id);
  there = there;
  account_is = refl;
  moves = refl;
  dated = ap (λ b. cond b (Some day) None) is;
  to = text_back payee;
  noted = notes_are notes;
  free = refl;
  paired = refl;
  alive = refl;
  whole = refl;
  single = refl;
  bare = refl;
}

module _ (ids : Ids) (r : Rows) (from to : Text) (day : ℕ) (amount : ℤ) (notes : Text) (no_first : get r.txs (ids 0) ≡ None) (no_second : get r.txs (ids 6) ≡ None) (apart : ids 0 ≢ ids 6) (is : is_day day ≡ true) where
  abbrev mid : Rows
  mid = with_writes ids r (half_writes 0 from day (neg_ℤ amount) (payee_for r to) notes 6)

  abbrev last : Rows
  last = with_writes ids mid (half_writes 6 to day amount (payee_for r from) notes 0)

  abbrev lower : TxRow → TxRow
  lower = half from day (neg_ℤ amount) (payee_for r to) notes (ids 6)

  abbrev upper : TxRow → TxRow
  upper = half to day amount (payee_for r from) notes (ids 0)

  mid_at : (q : Text) (b : Bool) → same_id q (ids 0) ≡ b → get mid.txs q ≡ cond b (Some (lower (unwrap_or (get r.txs q) (blank q)))) (get r.txs q)
  mid_at q b e = get-half ids r 0 from day (neg_ℤ amount) (payee_for r to) notes 6 q ∙ ap (λ t. cond t (Some (lower (unwrap_or (get r.txs q) (blank q)))) (get r.txs q)) e

  last_at : (q : Text) (b : Bool) → same_id q (ids 6) ≡ b → get last.txs q ≡ cond b (Some (upper (unwrap_or (get mid.txs q) (blank q)))) (get mid.txs q)
  last_at q b e = get-half ids mid 6 to day amount (payee_for r from) notes 0 q ∙ ap (λ t. cond t (Some (upper (unwrap_or (get mid.txs q) (blank q)))) (get mid.txs q)) e

  first_is : get last.txs (ids 0) ≡ Some (lower (blank (ids 0)))
  first_is =
      last_at (ids 0) false (not_same (ids 0) (ids 6) apart)
      ∙ mid_at (ids 0) true (same_refl (ids 0))
      ∙ ap (λ o. Some (lower (unwrap_or o (blank (ids 0))))) no_first

  second_is : get last.txs (ids 6) ≡ Some (upper (blank (ids 6)))
  second_is =
      last_at (ids 6) true (same_refl (ids 6))
      ∙ ap (λ o. Some (upper (unwrap_or o (blank (ids 6))))) (mid_at (ids 6) false (not_same (ids 6) (ids 0) (λ e. apart (sym e))) ∙ no_second)

  -- each half is written into transactions
  in_txs : InTxs r last
  in_txs =
      both_in r mid last (puts_in ids r (six 0 from day (neg_ℤ amount) (payee_for r to) notes 6))
      (puts_in ids mid (six 6 to day amount (payee_for r from) notes 0))

  transferred : IsTransferred ids r last from to day amount notes
  transferred = record {
    out_of = is_half last (ids 0) from (neg_ℤ amount) day (payee_for r to) notes (ids 6) is first_is;
    into = is_half last (ids 6) to amount day (payee_for r from) notes (ids 0) is second_is;
    others = λ q a b. last_at q false (not_same q (ids 6) b) ∙ mid_at q false (not_same q (ids 0) a);
    elsewhere = in_txs;
  }

pub moved : TransfersMove
moved ids rows from to day amount notes ws h no_first no_second apart =
    let a = passed (live_account rows from) _ _ h in
    let b = passed (live_account rows to) _ _ a.2 in
    let c = passed (two_ids from to) _ _ b.2 in
    let d = passed (a_day day) _ _ c.2 in
    let e = passed (an_amount amount) _ _ d.2 in
    let same : transfer_writes rows from to day amount notes ≡ ws = inside _ _ e.2 in
    let split = with_writes-append ids rows (half_writes 0 from day (neg_ℤ amount) (payee_for rows to) notes 6) (half_writes 6 to day amount (payee_for rows from) notes 0) in
    subst (λ s. IsTransferred ids rows s from to day amount notes) (sym split ∙ ap (with_writes ids rows) same)
    (transferred ids rows from to day amount notes no_first no_second apart (was_so (is_day day) _ d.0 d.1))
