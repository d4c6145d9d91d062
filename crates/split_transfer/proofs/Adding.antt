-- A transaction is added, which is in no pair and is neither split nor part of a split.
use Rattle.std.proofs.Common.{◌≡◌, ℕ, Bool, true, false, cond, List, [], ◌∷◌, Option, Some, None, refl, ap, sym, ◌∙◌, subst}
use Rattle.std.specs.Prelude.{◌≢◌, unwrap_or}
use lib.IntN.{ℤ, pos}
use Rattle.std.specs.FinMap.{get}
use Rattle.finite_sums.specs.Maps.{Text, value_or_zero}
use Rattle.field_values.specs.declared.value.Value.{Value}
use Rattle.field_values.specs.declared.value.Value.TheVariants.{Number, Text as IsText}
use Rattle.book_rows.specs.declared.rows.Rows.{Rows}
use Rattle.book_rows.specs.declared.rows.TxRow.{TxRow}
use Rattle.book_rows.specs.declared.write.RowName.{RowName}
use Rattle.book_rows.specs.declared.write.WriteValue.TheVariants.{Plain}
use Rattle.book_edits.specs.Checks.{same_id}
use Rattle.book_edits.specs.Writing.{text_or_null, notes_value}
use Rattle.book_edits.specs.Transactions.{tx_writes}
use Rattle.split_transfer.specs.Pairs.{share, parts_sum}
use Rattle.split_transfer.specs.After.{Ids, row_of, with_writes}
use Rattle.split_transfer.specs.Right.{StayRight}
use Rattle.split_transfer.proofs.Columns.{TxColumn, Acct, Date, Amount, Description, Category, Notes, with_column, blank, Put}
use Rattle.split_transfer.proofs.Basics.{bool_cases, none_some, some_is, same_refl, same_is, not_same}
use Rattle.split_transfer.proofs.Links.{SameLinks, same_links, KeepsLinks, pairs_from, splits_from}
use Rattle.split_transfer.proofs.After.{get-with_writes}
use Rattle.split_transfer.proofs.SameSums.{total_of-same_values}
use Rattle.split_transfer.proofs.Single.{clash}
use Rattle.split_transfer.proofs.Elsewhere.{still_opposite}

abbrev set : Text → Bool → TxColumn → Value → Option TxRow → Option TxRow
set q b c v o = cond b (Some (with_column c v (unwrap_or o (blank q)))) o

-- what the writes make of a row
abbrev added : Text → ℕ → ℤ → Option Text → Option Text → Text → TxRow → TxRow
added account date amount payee category notes base =
    with_column Notes (notes_value notes) (with_column Category (text_or_null category) (with_column Description (text_or_null payee)
    (with_column Amount (Number amount) (with_column Date (Number (pos date)) (with_column Acct (IsText account) base)))))

abbrev six : RowName → Text → ℕ → ℤ → Option Text → Option Text → Text → List Put
six row account date amount payee category notes =
    record { row = row; column = Acct; value = Plain (IsText account) }
    ∷ record { row = row; column = Date; value = Plain (Number (pos date)) }
    ∷ record { row = row; column = Amount; value = Plain (Number amount) }
    ∷ record { row = row; column = Description; value = Plain (text_or_null payee) }
    ∷ record { row = row; column = Category; value = Plain (text_or_null category) }
    ∷ record { row = row; column = Notes; value = Plain (notes_value notes) }
    ∷ []

module _ (ids : Ids) (r : Rows) (row : RowName) (account : Text) (date : ℕ) (amount : ℤ) (payee category : Option Text) (notes : Text) where
  abbrev last : Rows
  last = with_writes ids r (tx_writes row account date amount payee category notes)

  abbrev made : TxRow → TxRow
  made = added account date amount payee category notes

  get-last : (q : Text) → get last.txs q ≡ cond (same_id q (row_of ids row)) (Some (made (unwrap_or (get r.txs q) (blank q)))) (get r.txs q)
  get-last q = get-with_writes ids r (six row account date amount payee category notes) q ∙ by (same_id q (row_of ids row)) (get r.txs q)
    where
      by : (b : Bool) (o : Option TxRow) → set q b Notes (notes_value notes) (set q b Category (text_or_null category) (set q b Description (text_or_null payee)
          (set q b Amount (Number amount) (set q b Date (Number (pos date)) (set q b Acct (IsText account) o)))))
          ≡ cond b (Some (made (unwrap_or o (blank q)))) o
      by true o = refl
      by false o = refl

  other : (q : Text) → same_id q (row_of ids row) ≡ false → get last.txs q ≡ get r.txs q
  other q f = get-last q ∙ ap (λ b. cond b (Some (made (unwrap_or (get r.txs q) (blank q)))) (get r.txs q)) f

  module _ (none : get r.txs (row_of ids row) ≡ None) where
    abbrev new : TxRow
    new = made (blank (row_of ids row))

    pub at_new : get last.txs (row_of ids row) ≡ Some new
    at_new =
        get-last (row_of ids row)
        ∙ ap (λ b. cond b (Some (made (unwrap_or (get r.txs (row_of ids row)) (blank (row_of ids row))))) (get r.txs (row_of ids row))) (same_refl (row_of ids row))
        ∙ ap (λ o. Some (made (unwrap_or o (blank (row_of ids row))))) none

    stays : (q : Text) (v : TxRow) → get r.txs q ≡ Some v → get last.txs q ≡ Some v
    stays q v h = other q (not_same q (row_of ids row) (λ e. clash _ v h (ap (get r.txs) e ∙ none))) ∙ h

    same : (q : Text) (v y : TxRow) → get r.txs q ≡ Some v → get last.txs q ≡ Some y → v ≡ y
    same q v y was now = some_is v y (sym (stays q v was) ∙ now)

    -- a row that was not there is the new one
    is_new : (q : Text) (y : TxRow) → get r.txs q ≡ None → get last.txs q ≡ Some y → new ≡ y
    is_new q y was now = bool_cases (same_id q (row_of ids row))
        (λ t. some_is new y (sym (ap (get last.txs) (same_is q (row_of ids row) t) ∙ at_new) ∙ now))
        (λ f. clash _ y now (other q f ∙ was))

    sums : (id : Text) → parts_sum last id ≡ parts_sum r id
    sums id = total_of-same_values (share id) (share id) last.txs r.txs (λ q. bool_cases (same_id q (row_of ids row))
        (λ t. let e = same_is q (row_of ids row) t in ap (value_or_zero (share id)) (ap (get last.txs) e ∙ at_new) ∙ sym (ap (value_or_zero (share id)) (ap (get r.txs) e ∙ none)))
        (λ f. ap (value_or_zero (share id)) (other q f)))

    module _ (childless : (q : Text) (v : TxRow) → get r.txs q ≡ Some v → v.parent_id ≢ Some (row_of ids row)) where
      links : KeepsLinks r last
      links = record {
        rows = λ q v y was now. subst (SameLinks v) (same q v y was now) (same_links v);
        parents = λ q v p was up gone. other p (not_same p (row_of ids row) (λ e. childless q v was (up ∙ ap Some e))) ∙ gone;
      }

      pub addition_stays_right : StayRight r last
      addition_stays_right = record {
        pairs = pairs_from r last links
            (λ a b v w x y p right was now. still_opposite (same a v x p.first.there was) (same b w y p.second.there now) right)
            (λ a b x y gone was now named. none_some b (ap (λ (t : TxRow). t.transferred_id) (is_new a x gone was) ∙ named));
        splits = splits_from r last links
            (λ id v y ls was split right now. ap (λ (t : TxRow). t.amount) (sym (same id v y was now)) ∙ right ∙ sym (sums id))
            (λ id v y was now up. ap (λ (t : TxRow). t.is_parent) (same id v y was now) ∙ up)
            (λ id y gone now. ap (λ (t : TxRow). t.is_parent) (sym (is_new id y gone now)));
      }
