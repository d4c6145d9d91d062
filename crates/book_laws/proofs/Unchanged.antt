-- Which transactions changes change, and that they change nothing else.
use Rattle.std.proofs.Common.{◌≡◌, ℕ, Bool, true, false, cond, List, [], ◌∷◌, ◌++◌, Option, None, Some, Ok, refl, ap, sym, ◌∙◌, subst, map as list_map}
use Rattle.std.specs.Prelude.{unwrap_or, option_to_list}
use Rattle.std.specs.Option.{option_map}
use lib.IntN.{ℤ, pos, neg_ℤ}
use Rattle.std.specs.FinMap.{get}
use Rattle.field_values.specs.declared.value.Value.{Value}
use Rattle.field_values.specs.declared.value.Value.TheVariants.{Number, Text as IsText}
use Rattle.finite_sums.specs.Maps.{Text, Texts, text_cmp, is_among}
use Rattle.book_rows.specs.declared.column.Dataset.TheVariants.{Transactions}
use Rattle.book_rows.specs.declared.rows.Rows.{Rows}
use Rattle.book_rows.specs.declared.rows.TxRow.{TxRow}
use Rattle.book_rows.specs.declared.write.RowName.TheVariants.{Given}
use Rattle.book_rows.specs.declared.write.WriteValue.TheVariants.{Plain}
use Rattle.book_rows.specs.declared.write.Write.{Write}
use Rattle.book_rows.specs.declared.fault.EditFault.TheVariants.{BadDate}
use Rattle.book_rows.specs.Kinds.{is_day}
use Rattle.book_rows.specs.Rules.{tx_table}
use Rattle.book_rows.specs.Tables.{with_column as with_cell_of}
use Rattle.book_edits.specs.Faults.{if_there}
use Rattle.book_edits.specs.Checks.{a_day, an_amount, live_account, live_payee}
use Rattle.book_edits.specs.Writing.{flag, text_or_null, notes_value}
use Rattle.book_edits.proofs.Valid.{inside, passed, was_so}
use Rattle.split_transfer.specs.Pairs.{partner_of, parts_of}
use Rattle.split_transfer.specs.Changes.{set_date, set_amount, set_account, set_payee, set_category, set_cleared, set_schedule, set_notes, tx_delete}
use Rattle.split_transfer.specs.Checks.{live_tx, live_schedule, no_child, no_pair, takes_category, stays_even}
use Rattle.split_transfer.specs.Right.{IsLiveRow}
use Rattle.split_transfer.specs.After.{Ids, row_of, value_in, with_write, with_writes}
use Rattle.split_transfer.proofs.After.{each_after}
use Rattle.split_transfer.proofs.Basics.{some_is}
use Rattle.split_transfer.proofs.Columns.{TxColumn, Acct, Date, Amount, Description, Category, Notes, Cleared, Schedule, Tombstone, blank, Put, as_write, on_each, with_column}
use Rattle.split_transfer.proofs.Links.{AreThere}
use Rattle.split_transfer.proofs.Single.{some_are_there, partner_is_there, row_is_there, both_are_there, all_are_there}
use Rattle.split_transfer.proofs.Promise.{live_is}
use Rattle.book_laws.specs.Changing.{AreChanged, ChangesDoNoMore}
use Rattle.book_laws.specs.Leaving.{notes_or_none}
use Rattle.book_laws.proofs.Done.{text_back, flag_back, cell}
use Rattle.book_laws.proofs.NoMore.{notes_are}

-- the rows differ in transactions alone
abbrev pub InTxs : Rows → Rows → Type 0
InTxs before after = after ≡ record before { txs = after.txs }

-- and so do the rows after them, where those differ in transactions alone
pub both_in : (a b c : Rows) → InTxs a b → InTxs b c → InTxs a c
both_in a b c first last = last ∙ ap (λ (r : Rows). record r { txs = c.txs }) first

-- writes into transactions change no other dataset
put_in : (ids : Ids) (s : Rows) (p : Put) → InTxs s (with_write ids s (as_write p))
put_in ids s p =
    let e : with_write ids s (as_write p) ≡ record s { txs = with_cell_of tx_table (row_of ids p.row) p.column.0 (value_in ids p.value) s.txs } = cell ids s Transactions p.row p.column.0 p.value in
    e ∙ ap (λ (m : Texts TxRow). record s { txs = m }) (ap (λ (r : Rows). r.txs) (sym e))

pub puts_in : (ids : Ids) (s : Rows) (ps : List Put) → InTxs s (with_writes ids s (list_map as_write ps))
puts_in ids s [] = refl
puts_in ids s (p ∷ ps) =
    let mid = with_write ids s (as_write p) in
    both_in s mid (with_writes ids mid (list_map as_write ps)) (put_in ids s p) (puts_in ids mid ps)

module _ (ids : Ids) (c : TxColumn) (v : Value) where
  pub each_in : (s : Rows) (ts : List Text) → InTxs s (with_writes ids s (on_each c v ts))
  each_in s [] = refl
  each_in s (t ∷ ts) =
      let p : Put = record { row = Given t; column = c; value = Plain v } in
      let mid = with_write ids s (as_write p) in
      both_in s mid (with_writes ids mid (on_each c v ts)) (put_in ids s p) (each_in mid ts)

  changed_so : (s : Rows) (ts : List Text) (change : TxRow → TxRow) → AreThere s ts → ((y : TxRow) → with_column c v y ≡ change y) → AreChanged s (with_writes ids s (on_each c v ts)) ts change
  changed_so s ts change are is = record {
    txs = λ q. each_after ids s c v ts q ∙ by q (get s.txs q) refl (is_among text_cmp ts q) refl;
    others = each_in s ts;
  }
    where
      by : (q : Text) (o : Option TxRow) → get s.txs q ≡ o → (b : Bool) → is_among text_cmp ts q ≡ b → cond b (Some (with_column c v (unwrap_or o (blank q)))) o ≡ cond b (option_map change o) o
      by q None h true t = absurd (are.there q t h)
      by q (Some y) h true t = ap Some (is y)
      by q o h false t = refl

module _ (ids : Ids) (r : Rows) (id : Text) (x : TxRow) (ws : List Write) (there : get r.txs id ≡ Some x) where
  abbrev after : Rows
  after = with_writes ids r ws

  -- the transaction that the edit finds is this one
  is_this : (y : TxRow) → live_tx r id ≡ Ok y → (y ≡ x) × IsLiveRow r id x
  is_this y h =
      let l = live_is r id y h in
      let e = some_is y x (sym l.there ∙ there) in
      (e, subst (IsLiveRow r id) e l)

  -- a value is written into a column of these
  written : (c : TxColumn) (v : Value) (ts : List Text) (change : TxRow → TxRow) → ◌≡◌ {A = List Write} (on_each c v ts) ws → AreThere r ts → ((y : TxRow) → with_column c v y ≡ change y) → AreChanged r after ts change
  written c v ts change same are is = subst (λ (vs : List Write). AreChanged r (with_writes ids r vs) ts change) same (changed_so ids c v r ts change are is)

  date_only : (day : ℕ) → set_date r id day ≡ Ok ws → AreChanged r after (id ∷ parts_of r id ++ option_to_list (partner_of r id x)) (λ y. record y { date = Some day })
  date_only day h =
      let a = passed (live_tx r id) _ _ h in
      let b = passed (no_child id a.0) _ _ a.2 in
      let d = passed (a_day day) _ _ b.2 in
      let l = is_this a.0 a.1 in
      written Date (Number (pos day)) (id ∷ parts_of r id ++ option_to_list (partner_of r id x)) (λ y. record y { date = Some day })
      (ap (λ (y : TxRow). on_each Date (Number (pos day)) (id ∷ parts_of r id ++ option_to_list (partner_of r id y))) (sym l.0) ∙ inside _ _ d.2)
      (all_are_there r id x l.1)
      (λ y. ap (λ b. record y { date = cond b (Some day) None }) (was_so (is_day day) (BadDate day) d.0 d.1))

  account_only : (account : Text) → set_account r id account ≡ Ok ws → AreChanged r after (id ∷ parts_of r id) (λ y. record y { acct = Some account })
  account_only account h =
      let a = passed (live_tx r id) _ _ h in
      let b = passed (no_child id a.0) _ _ a.2 in
      let c = passed (no_pair r id a.0) _ _ b.2 in
      let d = passed (live_account r account) _ _ c.2 in
      written Acct (IsText account) (id ∷ parts_of r id) (λ y. record y { acct = Some account }) (inside _ _ d.2) (some_are_there r id x (is_this a.0 a.1).1) (λ y. refl)

  amount_only : (z : ℤ) → set_amount r id z ≡ Ok ws → (mid : Rows) × AreChanged r mid (id ∷ []) (λ y. record y { amount = z })
      × AreChanged mid after (option_to_list (partner_of r id x)) (λ y. record y { amount = neg_ℤ z })
  amount_only z h =
      let a = passed (live_tx r id) _ _ h in
      let b = passed (no_child id a.0) _ _ a.2 in
      let c = passed (an_amount z) _ _ b.2 in
      let d = passed (stays_even r id a.0 z) _ _ c.2 in
      let l = is_this a.0 a.1 in
      let others = option_to_list (partner_of r id x) in
      let mid = with_writes ids r (on_each Amount (Number z) (id ∷ [])) in
      let same : ◌≡◌ {A = List Write} (on_each Amount (Number z) (id ∷ []) ++ on_each Amount (Number (neg_ℤ z)) others) ws =
      ap (λ (y : TxRow). on_each Amount (Number z) (id ∷ []) ++ on_each Amount (Number (neg_ℤ z)) (option_to_list (partner_of r id y))) (sym l.0) ∙ inside _ _ d.2 in
      let first = changed_so ids Amount (Number z) r (id ∷ []) (λ y. record y { amount = z }) (row_is_there r id x l.1) (λ y. refl) in
      let are : AreThere mid others = record { there = λ q t none. (partner_is_there r id x l.1).there q t (still q none) } in (
        mid,
        first,
        subst (λ (vs : List Write). AreChanged mid (with_writes ids r vs) others (λ y. record y { amount = neg_ℤ z })) same
            (changed_so ids Amount (Number (neg_ℤ z)) mid others (λ y. record y { amount = neg_ℤ z }) are (λ y. refl)),
      )
    where
      -- a row that is not there after the first write was not there before
      still : (q : Text) → get (with_writes ids r (on_each Amount (Number z) (id ∷ []))).txs q ≡ None → get r.txs q ≡ None
      still q none = by (get r.txs q) (is_among text_cmp (id ∷ []) q) (sym (each_after ids r Amount (Number z) (id ∷ []) q) ∙ none)
        where
          by : (o : Option TxRow) (b : Bool) → cond b (Some (with_column Amount (Number z) (unwrap_or o (blank q)))) o ≡ None → o ≡ None
          by o true k = cc
          by o false k = k

  payee_only : (payee : Option Text) → set_payee r id payee ≡ Ok ws → AreChanged r after (id ∷ []) (λ y. record y { description = payee })
  payee_only payee h =
      let a = passed (live_tx r id) _ _ h in
      let b = passed (no_child id a.0) _ _ a.2 in
      let c = passed (no_pair r id a.0) _ _ b.2 in
      let d = passed (if_there (live_payee r) payee) _ _ c.2 in
      written Description (text_or_null payee) (id ∷ []) (λ y. record y { description = payee }) (inside _ _ d.2) (row_is_there r id x (is_this a.0 a.1).1) (λ y. ap (λ t. record y { description = t }) (text_back payee))

  category_only : (category : Option Text) → set_category r id category ≡ Ok ws → AreChanged r after (id ∷ []) (λ y. record y { category = category })
  category_only category h =
      let a = passed (live_tx r id) _ _ h in
      let b = passed (takes_category r id a.0 category) _ _ a.2 in
      written Category (text_or_null category) (id ∷ []) (λ y. record y { category = category }) (inside _ _ b.2) (row_is_there r id x (is_this a.0 a.1).1) (λ y. ap (λ t. record y { category = t }) (text_back category))

  cleared_only : (cleared : Bool) → set_cleared r id cleared ≡ Ok ws → AreChanged r after (id ∷ []) (λ y. record y { cleared = cleared })
  cleared_only cleared h =
      let a = passed (live_tx r id) _ _ h in
      written Cleared (flag cleared) (id ∷ []) (λ y. record y { cleared = cleared }) (inside _ _ a.2) (row_is_there r id x (is_this a.0 a.1).1) (λ y. ap (λ b. record y { cleared = b }) (flag_back cleared))

  schedule_only : (schedule : Option Text) → set_schedule r id schedule ≡ Ok ws → AreChanged r after (id ∷ []) (λ y. record y { schedule = schedule })
  schedule_only schedule h =
      let a = passed (live_tx r id) _ _ h in
      let b = passed (if_there (live_schedule r) schedule) _ _ a.2 in
      written Schedule (text_or_null schedule) (id ∷ []) (λ y. record y { schedule = schedule }) (inside _ _ b.2) (row_is_there r id x (is_this a.0 a.1).1) (λ y. ap (λ t. record y { schedule = t }) (text_back schedule))

  notes_only : (text : Text) → set_notes r id text ≡ Ok ws → AreChanged r after (id ∷ []) (λ y. record y { notes = notes_or_none text })
  notes_only text h =
      let a = passed (live_tx r id) _ _ h in
      written Notes (notes_value text) (id ∷ []) (λ y. record y { notes = notes_or_none text }) (inside _ _ a.2) (row_is_there r id x (is_this a.0 a.1).1) (λ y. ap (λ t. record y { notes = t }) (notes_are text))

  deleted_only : tx_delete r id ≡ Ok ws → AreChanged r after (id ∷ option_to_list (partner_of r id x)) (λ y. record y { tombstone = true })
  deleted_only h =
      let a = passed (live_tx r id) _ _ h in
      let b = passed (no_child id a.0) _ _ a.2 in
      let l = is_this a.0 a.1 in
      written Tombstone (flag true) (id ∷ option_to_list (partner_of r id x)) (λ y. record y { tombstone = true })
      (ap (λ (y : TxRow). on_each Tombstone (flag true) (id ∷ option_to_list (partner_of r id y))) (sym l.0) ∙ inside _ _ b.2)
      (both_are_there r id x l.1) (λ y. refl)

pub no_more : (ids : Ids) (rows : Rows) (id : Text) (x : TxRow) (ws : List Write) → get rows.txs id ≡ Some x → ChangesDoNoMore ids rows id x ws
no_more ids rows id x ws there = record {
  date = date_only ids rows id x ws there;
  account = account_only ids rows id x ws there;
  amount = amount_only ids rows id x ws there;
  payee = payee_only ids rows id x ws there;
  category = category_only ids rows id x ws there;
  cleared = cleared_only ids rows id x ws there;
  schedule = schedule_only ids rows id x ws there;
  notes = notes_only ids rows id x ws there;
  gone = deleted_only ids rows id x ws there;
}
