-- A transfer, which makes both rows of a pair.
use Rattle.std.proofs.Common.{◌≡◌, ℕ, Bool, true, false, cond, List, [], ◌∷◌, Option, Some, None, refl, ap, sym, ◌∙◌, subst, arith}
use Rattle.std.specs.Prelude.{◌≢◌, unwrap_or}
use lib.IntN.{ℤ, pos, neg_ℤ}
use Rattle.std.proofs.lemmas.Int.{ints}
use Rattle.std.specs.FinMap.{get}
use Rattle.finite_sums.specs.Maps.{Text, value_or_zero}
use Rattle.field_values.specs.declared.value.Value.{Value}
use Rattle.field_values.specs.declared.value.Value.TheVariants.{Number, Text as IsText}
use Rattle.book_rows.specs.declared.rows.Rows.{Rows}
use Rattle.book_rows.specs.declared.rows.TxRow.{TxRow}
use Rattle.book_edits.specs.Checks.{same_id}
use Rattle.split_transfer.specs.Pairs.{share, parts_sum}
use Rattle.split_transfer.specs.After.{Ids, with_writes}
use Rattle.split_transfer.specs.Right.{AreOpposite, StayRight}
use Rattle.split_transfer.proofs.Columns.{TxColumn, Acct, Date, Amount, Description, Notes, TransferredId, with_column, blank, Put, put, named}
use Rattle.split_transfer.proofs.Basics.{bool_cases, some_is, same_refl, same_is, not_same}
use Rattle.split_transfer.proofs.Links.{SameLinks, same_links, KeepsLinks, pairs_from, splits_from}
use Rattle.split_transfer.proofs.After.{get-with_writes}
use Rattle.split_transfer.proofs.SameSums.{total_of-same_values}
use Rattle.split_transfer.proofs.Single.{clash}
use Rattle.book_rows.specs.declared.write.RowName.TheVariants.{Made}
use Rattle.book_rows.specs.declared.write.WriteValue.TheVariants.{IdOf}
use Rattle.book_edits.specs.Writing.{text_or_null, notes_value}
use Rattle.split_transfer.specs.Transfers.{half_writes}

abbrev set : Text → Bool → TxColumn → Value → Option TxRow → Option TxRow
set q b c v o = cond b (Some (with_column c v (unwrap_or o (blank q)))) o

-- what the writes of one of its rows make of a row
abbrev half : Text → ℕ → ℤ → Option Text → Text → Text → TxRow → TxRow
half acct date amount payee notes other base =
    with_column TransferredId (IsText other) (with_column Notes (notes_value notes) (with_column Description (text_or_null payee)
    (with_column Amount (Number amount) (with_column Date (Number (pos date)) (with_column Acct (IsText acct) base)))))

abbrev six : ℕ → Text → ℕ → ℤ → Option Text → Text → ℕ → List Put
six n acct date amount payee notes k =
    put n Acct (IsText acct) ∷ put n Date (Number (pos date)) ∷ put n Amount (Number amount) ∷ put n Description (text_or_null payee) ∷ put n Notes (notes_value notes)
    ∷ record { row = Made n; column = TransferredId; value = IdOf k } ∷ []

get-half : (ids : Ids) (m : Rows) (n : ℕ) (acct : Text) (date : ℕ) (amount : ℤ) (payee : Option Text) (notes : Text) (k : ℕ) (q : Text)
    → get (with_writes ids m (half_writes n acct date amount payee notes k)).txs q
    ≡ cond (same_id q (ids n)) (Some (half acct date amount payee notes (ids k) (unwrap_or (get m.txs q) (blank q)))) (get m.txs q)
get-half ids m n acct date amount payee notes k q = get-with_writes ids m (six n acct date amount payee notes k) q ∙ by (same_id q (ids n)) (get m.txs q)
  where
    by : (b : Bool) (o : Option TxRow) → set q b TransferredId (IsText (ids k)) (set q b Notes (notes_value notes) (set q b Description (text_or_null payee)
        (set q b Amount (Number amount) (set q b Date (Number (pos date)) (set q b Acct (IsText acct) o)))))
        ≡ cond b (Some (half acct date amount payee notes (ids k) (unwrap_or o (blank q)))) o
    by true o = refl
    by false o = refl

module _ (ids : Ids) (r : Rows) (source target : Text) (date : ℕ) (amount : ℤ) (there here : Option Text) (notes : Text)
    (no_first : get r.txs (ids 0) ≡ None) (no_second : get r.txs (ids 6) ≡ None) (apart : ids 0 ≢ ids 6)
    (first_childless : (q : Text) (v : TxRow) → get r.txs q ≡ Some v → v.parent_id ≢ Some (ids 0))
    (second_childless : (q : Text) (v : TxRow) → get r.txs q ≡ Some v → v.parent_id ≢ Some (ids 6)) where
  abbrev mid : Rows
  mid = with_writes ids r (half_writes 0 source date (neg_ℤ amount) there notes 6)

  abbrev last : Rows
  last = with_writes ids mid (half_writes 6 target date amount here notes 0)

  abbrev lower : TxRow → TxRow
  lower = half source date (neg_ℤ amount) there notes (ids 6)

  abbrev upper : TxRow → TxRow
  upper = half target date amount here notes (ids 0)

  abbrev first : TxRow
  first = lower (blank (ids 0))

  abbrev second : TxRow
  second = upper (blank (ids 6))

  mid_other : (q : Text) → same_id q (ids 0) ≡ false → get mid.txs q ≡ get r.txs q
  mid_other q f = get-half ids r 0 source date (neg_ℤ amount) there notes 6 q ∙ ap (λ b. cond b (Some (lower (unwrap_or (get r.txs q) (blank q)))) (get r.txs q)) f

  last_other : (q : Text) → same_id q (ids 6) ≡ false → get last.txs q ≡ get mid.txs q
  last_other q f = get-half ids mid 6 target date amount here notes 0 q ∙ ap (λ b. cond b (Some (upper (unwrap_or (get mid.txs q) (blank q)))) (get mid.txs q)) f

  other : (q : Text) → same_id q (ids 0) ≡ false → same_id q (ids 6) ≡ false → get last.txs q ≡ get r.txs q
  other q f g = last_other q g ∙ mid_other q f

  at_first : get last.txs (ids 0) ≡ Some first
  at_first =
      last_other (ids 0) (not_same (ids 0) (ids 6) apart) ∙ get-half ids r 0 source date (neg_ℤ amount) there notes 6 (ids 0)
      ∙ ap (λ b. cond b (Some (lower (unwrap_or (get r.txs (ids 0)) (blank (ids 0))))) (get r.txs (ids 0))) (same_refl (ids 0))
      ∙ ap (λ o. Some (lower (unwrap_or o (blank (ids 0))))) no_first

  at_second : get last.txs (ids 6) ≡ Some second
  at_second =
      get-half ids mid 6 target date amount here notes 0 (ids 6)
      ∙ ap (λ b. cond b (Some (upper (unwrap_or (get mid.txs (ids 6)) (blank (ids 6))))) (get mid.txs (ids 6))) (same_refl (ids 6))
      ∙ ap (λ o. Some (upper (unwrap_or o (blank (ids 6))))) (mid_other (ids 6) (not_same (ids 6) (ids 0) (λ e. apart (sym e))) ∙ no_second)

  stays : (q : Text) (v : TxRow) → get r.txs q ≡ Some v → get last.txs q ≡ Some v
  stays q v h = other q (not_same q (ids 0) (λ e. clash _ v h (ap (get r.txs) e ∙ no_first))) (not_same q (ids 6) (λ e. clash _ v h (ap (get r.txs) e ∙ no_second))) ∙ h

  same : (q : Text) (v y : TxRow) → get r.txs q ≡ Some v → get last.txs q ≡ Some y → v ≡ y
  same q v y was now = some_is v y (sym (stays q v was) ∙ now)

  -- a row that was not there is one of both
  is_new : (q : Text) (y : TxRow) {P : Type 0} → get r.txs q ≡ None → get last.txs q ≡ Some y → (q ≡ ids 0 → first ≡ y → P) → (q ≡ ids 6 → second ≡ y → P) → P
  is_new q y none now f g = bool_cases (same_id q (ids 0))
      (λ t. let e = same_is q (ids 0) t in f e (some_is first y (sym (ap (get last.txs) e ∙ at_first) ∙ now)))
      (λ s. bool_cases (same_id q (ids 6))
      (λ t. let e = same_is q (ids 6) t in g e (some_is second y (sym (ap (get last.txs) e ∙ at_second) ∙ now)))
      (λ t. clash _ y now (other q s t ∙ none)))

  links : KeepsLinks r last
  links = record {
    rows = λ q v y was now. subst (SameLinks v) (same q v y was now) (same_links v);
    parents = λ q v p was up none. other p (not_same p (ids 0) (λ e. first_childless q v was (up ∙ ap Some e))) (not_same p (ids 6) (λ e. second_childless q v was (up ∙ ap Some e))) ∙ none;
  }

  forth : AreOpposite first second
  forth = record { amounts = omega (arith, ints); dates = refl }

  back : AreOpposite second first
  back = record { amounts = omega (arith, ints); dates = refl }

  opposite : {v w x y : TxRow} → v ≡ x → w ≡ y → AreOpposite v w → AreOpposite x y
  opposite {v} {w} {x} {y} e f h = subst (AreOpposite x) f (subst (λ u. AreOpposite u w) e h)

  made_pair : (a b : Text) (x y : TxRow) → get r.txs a ≡ None → get last.txs a ≡ Some x → get last.txs b ≡ Some y → x.transferred_id ≡ Some b → AreOpposite x y
  made_pair a b x y none was now named = is_new a x none was
      (λ e f.
      let g : ids 6 ≡ b = some_is (ids 6) b (ap (λ (t : TxRow). t.transferred_id) f ∙ named) in
      opposite f (some_is second y (sym (ap (get last.txs) (sym g) ∙ at_second) ∙ now)) forth)
      (λ e f.
      let g : ids 0 ≡ b = some_is (ids 0) b (ap (λ (t : TxRow). t.transferred_id) f ∙ named) in
      opposite f (some_is first y (sym (ap (get last.txs) (sym g) ∙ at_first) ∙ now)) back)

  sums : (id : Text) → parts_sum last id ≡ parts_sum r id
  sums id = total_of-same_values (share id) (share id) last.txs r.txs (λ q. bool_cases (same_id q (ids 0))
      (λ t. let e = same_is q (ids 0) t in ap (value_or_zero (share id)) (ap (get last.txs) e ∙ at_first) ∙ sym (ap (value_or_zero (share id)) (ap (get r.txs) e ∙ no_first)))
      (λ s. bool_cases (same_id q (ids 6))
      (λ t. let e = same_is q (ids 6) t in ap (value_or_zero (share id)) (ap (get last.txs) e ∙ at_second) ∙ sym (ap (value_or_zero (share id)) (ap (get r.txs) e ∙ no_second)))
      (λ t. ap (value_or_zero (share id)) (other q s t))))

  pub transfer_stays_right : StayRight r last
  transfer_stays_right = record {
    pairs = pairs_from r last links (λ a b v w x y p right was now. opposite (same a v x p.first.there was) (same b w y p.second.there now) right) made_pair;
    splits = splits_from r last links
        (λ id v y ls was split right now. ap (λ (t : TxRow). t.amount) (sym (same id v y was now)) ∙ right ∙ sym (sums id))
        (λ id v y was now up. ap (λ (t : TxRow). t.is_parent) (same id v y was now) ∙ up)
        (λ id y none now. is_new id y none now (λ e f. ap (λ (t : TxRow). t.is_parent) (sym f)) (λ e f. ap (λ (t : TxRow). t.is_parent) (sym f)));
  }
