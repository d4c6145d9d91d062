-- Which payee a transfer has, and when it has a category.
use Rattle.std.proofs.Common.{◌≡◌, Bool, true, false, cond, List, [], ◌∷◌, Option, Some, None, Result, Ok, Err, inl, inr, refl, sym, ap, ◌∙◌}
use Rattle.std.specs.Prelude.{◌↔◌, not, ok_or, codes}
use Rattle.std.specs.FinMap.{get}
use Rattle.finite_sums.specs.Maps.{Text, some_and}
use Rattle.book_rows.specs.declared.rows.Rows.{Rows}
use Rattle.book_rows.specs.declared.rows.AccountRow.{AccountRow}
use Rattle.book_rows.specs.declared.rows.PayeeRow.{PayeeRow}
use Rattle.book_rows.specs.declared.rows.TxRow.{TxRow}
use Rattle.book_rows.specs.declared.write.Write.{Write}
use Rattle.book_rows.specs.declared.fault.EditFault.{EditFault}
use Rattle.book_rows.specs.declared.fault.EditFault.TheVariants.{NameTaken, NoSuchTransaction, NoSuchCategory, IsChild, IsTransferPart}
use Rattle.book_rows.specs.Live.{is_live_tx, is_live_category}
use Rattle.book_rows.specs.Parts.{is_text}
use Rattle.book_edits.specs.Faults.{◌>>=◌, must}
use Rattle.book_edits.specs.Checks.{nobody, same_flag}
use Rattle.book_edits.specs.Laws.{IsLeast}
use Rattle.book_edits.specs.Writing.{text_or_null}
use Rattle.book_edits.proofs.Told.{free_is, taken_is}
use Rattle.book_edits.proofs.Valid.{passed, was_so}
use Rattle.split_transfer.specs.declared.edit.PairEdit.TheVariants.{TxSet}
use Rattle.split_transfer.specs.declared.edit.TxChange.TheVariants.{Category}
use Rattle.split_transfer.specs.Pairs.{only_where, partner_of}
use Rattle.split_transfer.specs.Checks.{live_tx, is_off, is_beside, takes_category}
use Rattle.split_transfer.specs.Writing.{on_each}
use Rattle.split_transfer.specs.Edits.{pair_writes}
use Rattle.split_transfer.specs.Right.{ArePair}
use Rattle.split_transfer.specs.Transfers.{stands_for, payee_for}
use Rattle.split_transfer.proofs.Basics.{bool_cases, both_true, and_both, true_false, not_true, names_is, names_it, holds_some, some_is}
use Rattle.split_transfer.proofs.Links.{partner_found}
use Rattle.book_laws.specs.Standing.{StandsFor, IsOutside, Cross, TransfersAreOfAccounts}

-- ---- payees

none_free : (o : Option Text) → (o ≡ None) ↔ (nobody o ≡ Ok tt)
none_free None = (λ h. refl, λ h. refl)
none_free (Some id) = (λ h. cc, λ h. cc)

some_taken : (o : Option Text) (id : Text) → (o ≡ Some id) ↔ (nobody o ≡ Err (NameTaken id))
some_taken None id = (λ h. cc, λ h. cc)
some_taken (Some k) id = (λ h. ap (λ t. Err (NameTaken t)) (some_is k id h), λ h. let same : k ≡ id = cc in ap Some same)

module _ (rows : Rows) where
  to : (account q : Text) → StandsFor rows account q → (p : PayeeRow) × (get rows.payees q ≡ Some p) × (stands_for account p ≡ true)
  to account q s = (s.payee, s.there, and_both _ _ (ap not s.kept) (names_it s.payee.transfer_acct account s.stands))

  from : (account q : Text) (p : PayeeRow) → get rows.payees q ≡ Some p → stands_for account p ≡ true → StandsFor rows account q
  from account q p there h =
      let both = both_true (not p.tombstone) (is_text account p.transfer_acct) h in
      record { payee = p; there = there; kept = not_true p.tombstone both.0; stands = names_is p.transfer_acct account both.1 }

  payee_told : (account id : Text) → (payee_for rows account ≡ Some id) ↔ IsLeast (StandsFor rows account) id
  payee_told account id =
      let t = taken_is (stands_for account) rows.payees (StandsFor rows account) (to account) (from account) id in
      (λ h. t.0 ((some_taken (payee_for rows account) id).0 h), λ l. (some_taken (payee_for rows account) id).1 (t.1 l))

  none_told : (account : Text) → (payee_for rows account ≡ None) ↔ ((id : Text) → StandsFor rows account id → ⊥)
  none_told account =
      let f = free_is (stands_for account) rows.payees (StandsFor rows account) (to account) (from account) in
      (λ h. f.0 ((none_free (payee_for rows account)).0 h), λ n. (none_free (payee_for rows account)).1 (f.1 n))

  -- ---- categories

  off_so : (o : Option Text) → is_off rows o ≡ true → IsOutside rows o
  off_so o h =
      let a = holds_some (λ id. some_and (λ (r : AccountRow). r.offbudget) (get rows.accounts id)) o h in
      let r = holds_some (λ (r : AccountRow). r.offbudget) (get rows.accounts a.0) a.2 in
      record { id = a.0; row = r.0; is = a.1; there = r.1; outside = r.2 }

  so_off : (o : Option Text) → IsOutside rows o → is_off rows o ≡ true
  so_off o i =
      ap (some_and (λ id. some_and (λ (r : AccountRow). r.offbudget) (get rows.accounts id))) i.is
      ∙ ap (some_and (λ (r : AccountRow). r.offbudget)) i.there
      ∙ i.outside

  no_off : (o : Option Text) → (IsOutside rows o → ⊥) → is_off rows o ≡ false
  no_off o never = bool_cases (is_off rows o) (λ t. absurd (never (off_so o t))) (λ f. f)

  off_no : (o : Option Text) → is_off rows o ≡ false → IsOutside rows o → ⊥
  off_no o f i = true_false (is_off rows o) (so_off o i) f

  cross_so : (a b : Option Text) → same_flag (is_off rows a) (is_off rows b) ≡ false → Cross rows a b
  cross_so a b h = by (is_off rows a) (is_off rows b) refl refl h
    where
      by : (p q : Bool) → is_off rows a ≡ p → is_off rows b ≡ q → same_flag p q ≡ false → Cross rows a b
      by true true e f h = true_false true refl h
      by true false e f h = inl (off_so a e, off_no b f)
      by false true e f h = inr (off_no a e, off_so b f)
      by false false e f h = true_false true refl h

  so_cross : (a b : Option Text) → Cross rows a b → same_flag (is_off rows a) (is_off rows b) ≡ false
  so_cross a b c = elim c [
    | inl l ↦ ap (λ p. same_flag p (is_off rows b)) (so_off a l.0) ∙ no_off b l.1
    | inr r ↦ ap (λ p. same_flag p (is_off rows b)) (no_off a r.0) ∙ ap not (so_off b r.1)
  ]

  module _ (a b category : Text) (x y : TxRow) (p : ArePair rows a x b y) where
    found : live_tx rows a ≡ Ok x
    found =
        ap (λ o. ok_or o (NoSuchTransaction a))
        (ap (only_where (is_live_tx rows)) p.first.there
        ∙ ap (λ t. cond t (Some x) None) p.first.live)

    beside : some_and (is_beside rows x) (partner_of rows a x) ≡ same_flag (is_off rows x.acct) (is_off rows y.acct)
    beside =
        ap (some_and (is_beside rows x)) (partner_found rows a x b y p)
        ∙ ap (some_and (λ (z : TxRow). same_flag (is_off rows x.acct) (is_off rows z.acct))) p.second.there

    accepted : (ws : List Write) → pair_writes rows (TxSet a (Category (Some category))) ≡ Ok ws → Cross rows x.acct y.acct × (x.is_parent ≡ false) × (is_live_category rows category ≡ true)
    accepted ws h =
        let l = passed (live_tx rows a) _ _ h in
        let same : l.0 ≡ x = (let e : ◌≡◌ {A = Result TxRow EditFault} (Ok l.0) (Ok x) = sym l.1 ∙ found in cc) in
        let t = passed (takes_category rows a l.0 (Some category)) _ _ l.2 in
        let own : takes_category rows a x (Some category) ≡ Ok tt = ap (λ z. takes_category rows a z (Some category)) (sym same) ∙ t.1 in
        let first = passed (must (not x.is_parent) (IsChild a)) _ _ own in
        let second = passed (must (not (some_and (is_beside rows x) (partner_of rows a x))) (IsTransferPart a)) _ _ first.2 in (
          cross_so x.acct y.acct (sym beside ∙ not_true _ (was_so _ (IsTransferPart a) second.0 second.1)),
          not_true x.is_parent (was_so _ (IsChild a) first.0 first.1),
          was_so _ (NoSuchCategory category) tt second.2,
        )

    accepts : Cross rows x.acct y.acct → x.is_parent ≡ false → is_live_category rows category ≡ true → (ws : List Write) × (pair_writes rows (TxSet a (Category (Some category))) ≡ Ok ws)
    accepts c parent live =
        let even : not (some_and (is_beside rows x) (partner_of rows a x)) ≡ true = ap not (beside ∙ so_cross x.acct y.acct c) in
        let takes : takes_category rows a x (Some category) ≡ Ok tt =
        ap (λ t. must t (IsChild a) >>= λ _. must (not (some_and (is_beside rows x) (partner_of rows a x))) (IsTransferPart a) >>= λ _. must (is_live_category rows category) (NoSuchCategory category)) (ap not parent)
        ∙ ap (λ t. must t (IsTransferPart a) >>= λ _. must (is_live_category rows category) (NoSuchCategory category)) even
        ∙ ap (λ t. must t (NoSuchCategory category)) live in (
          _,
          ap (λ r. r >>= (λ z. takes_category rows a z (Some category) >>= λ _. Ok (on_each (codes "category") (text_or_null (Some category)) (a ∷ [])))) found
              ∙ ap (λ r. r >>= λ _. Ok (on_each (codes "category") (text_or_null (Some category)) (a ∷ []))) takes,
        )

pub of_accounts : (rows : Rows) → TransfersAreOfAccounts rows
of_accounts rows = record {
  payee = payee_told rows;
  no_payee = none_told rows;
  category = λ a b category x y p. (λ h. accepted rows a b category x y p h.0 h.1, λ h. accepts rows a b category x y p h.0 h.1 h.2);
}
