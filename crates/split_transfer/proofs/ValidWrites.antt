-- The writes of each edit are valid.
use Rattle.std.proofs.Common.{◌≡◌, ℕ, ◌+◌, ◌≤◌, true, List, [], ◌∷◌, ◌++◌, length, Option, Some, None, refl, subst, arith}
use lib.IntN.{ℤ, pos, neg_ℤ, ◌-ℤ◌}
use Rattle.std.proofs.lemmas.Int.{ints}
use Rattle.std.specs.FinMap.{get}
use Rattle.finite_sums.specs.Sums.{total}
use Rattle.finite_sums.specs.Maps.{Text, text_cmp, is_among}
use Rattle.field_values.specs.declared.value.Value.{Value}
use Rattle.field_values.specs.declared.value.Value.TheVariants.{Null, Number, Text as IsText}
use Rattle.book_rows.specs.declared.rows.Rows.{Rows}
use Rattle.book_rows.specs.declared.rows.TxRow.{TxRow}
use Rattle.book_rows.specs.declared.write.Write.{Write}
use Rattle.split_transfer.specs.declared.edit.SplitPart.{SplitPart}
use Rattle.split_transfer.specs.Pairs.{parts_of}
use Rattle.split_transfer.specs.Right.{IsLiveRow}
use Rattle.split_transfer.proofs.Basics.{option_cases}
use Rattle.std.proofs.Common.{Ok, Err, Result, IfOk, codes, ◌<◌}
use Rattle.std.specs.List.{AllByRecursion}
use Rattle.field_values.specs.declared.name.NamePart.TheVariants.{Row}
use Rattle.field_values.specs.Names.{IsName, name_fault}
use Rattle.field_values.specs.Value.{IsValue, HoldsNumber}
use Rattle.book_rows.specs.declared.write.RowName.TheVariants.{Given, Made}
use Rattle.book_rows.specs.Named.{HasNames}
use Rattle.book_rows.specs.Writes.{IsWrite, AreWrites}
use Rattle.book_edits.specs.Faults.{if_there, each}
use Rattle.book_edits.specs.Checks.{a_day, an_amount, live_account, live_payee, live_category, two_ids}
use Rattle.book_edits.specs.Writing.{flag, text_or_null, notes_value}
use Rattle.book_edits.proofs.Passing.{name_of_is, amount_is}
use Rattle.book_edits.proofs.Valid.{inside, passed, was_so, flag_is, text_or_null_is, notes_is, day_is, write_is, all_append, all_map}
use Rattle.split_transfer.specs.declared.edit.PairEdit.{PairEdit}
use Rattle.split_transfer.specs.declared.edit.TxChange.{TxChange}
use Rattle.split_transfer.specs.declared.edit.TxChange.TheVariants as change
use Rattle.split_transfer.specs.declared.edit.PairEdit.TheVariants.{TxSet, TxDelete, Split, Transfer}
use Rattle.split_transfer.specs.Checks.{live_tx, live_schedule, no_child, no_pair, takes_category, no_rest, stays_even}
use Rattle.split_transfer.specs.Writing.{tx_write, on_each, day_or_null}
use Rattle.split_transfer.specs.Changes.{set_date, set_amount, set_account, tx_set, tx_delete}
use Rattle.split_transfer.specs.Splits.{parts_writes, split, HasDay}
use Rattle.split_transfer.specs.Transfers.{payee_for, half_writes, transfer}
use Rattle.split_transfer.specs.Edits.{pair_writes, IsDated}
use Rattle.split_transfer.proofs.Lists.{length-on_each, length-plus}
use Rattle.split_transfer.proofs.Links.{AreThere}
use Rattle.split_transfer.proofs.Single.{row_is_there, some_are_there, both_are_there, all_are_there, parts_are_there, partner_is_there}
use Rattle.split_transfer.proofs.Promise.{live_is}

pub both_values : {A E : Type 0} {P Q S : A → Type 0} (r : Result A E) → ((a : A) → P a → Q a → S a) → IfOk r P → IfOk r Q → IfOk r S
both_values (Ok x) f p q = f x p q
both_values (Err e) f p q = p

opposite : (z : ℤ) → HoldsNumber z → HoldsNumber (neg_ℤ z)
opposite z h = let low = h.low in let high = h.high in record { low = omega (arith, ints, high); high = omega (arith, ints, low) }

day_or_null_is : (d : Option ℕ) → ((n : ℕ) → d ≡ Some n → HoldsNumber (pos n)) → IsValue (day_or_null d)
day_or_null_is None h = tt
day_or_null_is (Some n) h = h n refl

-- the row that a write makes is one of them
made_is : (n at : ℕ) (column : Text) (value : Value) → at < n → name_fault Row column ≡ None → IsValue value → IsWrite n (tx_write (Made at) column value)
made_is n at column value small c v = write_is n (codes "transactions") (Made at) column value refl small c v

module _ (rows : Rows) (names : HasNames rows) where
  name_of : (ts : List Text) → AreThere rows ts → (q : Text) → is_among text_cmp ts q ≡ true → IsName q
  name_of ts are q among = option_cases (get rows.txs q) (λ none. absurd (are.there q among none)) (λ x there. names.txs q x there)

  each_valid : (n : ℕ) (column : Text) (value : Value) (ts : List Text) → AreThere rows ts → name_fault Row column ≡ None → IsValue value → AllByRecursion (IsWrite n) (on_each column value ts)
  each_valid n column value ts are c v = all_map (IsWrite n) (λ id. tx_write (Given id) column value) ts (λ q among. write_is n (codes "transactions") (Given q) column value refl (name_of ts are q among) c v)

  row_name : (id : Text) (x : TxRow) → IsLiveRow rows id x → IsName id
  row_name id x l = names.txs id x l.there

  -- ---- changes
  date_valid : (id : Text) (date : ℕ) (ws : List Write) → set_date rows id date ≡ Ok ws → AreWrites ws
  date_valid id date ws h =
      let x = passed (live_tx rows id) _ _ h in
      let c = passed (no_child id x.0) _ _ x.2 in
      let d = passed (a_day date) _ _ c.2 in
      subst AreWrites (inside _ _ d.2) (each_valid _ (codes "date") (Number (pos date)) _ (all_are_there rows id x.0 (live_is rows id x.0 x.1)) refl (day_is date (was_so _ _ _ d.1)))

  amount_valid : (id : Text) (z : ℤ) (ws : List Write) → set_amount rows id z ≡ Ok ws → AreWrites ws
  amount_valid id z ws h =
      let x = passed (live_tx rows id) _ _ h in
      let c = passed (no_child id x.0) _ _ x.2 in
      let d = passed (an_amount z) _ _ c.2 in
      let s = passed (stays_even rows id x.0 z) _ _ d.2 in
      let l = live_is rows id x.0 x.1 in
      let small = amount_is z (was_so _ _ _ d.1) in
      subst AreWrites (inside _ _ s.2) (write_is _ (codes "transactions") (Given id) (codes "amount") (Number z) refl (row_name id x.0 l) refl small, each_valid _ (codes "amount") (Number (neg_ℤ z)) _ (partner_is_there rows id x.0 l) refl (opposite z small))

  account_valid : (id account : Text) (ws : List Write) → set_account rows id account ≡ Ok ws → AreWrites ws
  account_valid id account ws h =
      let x = passed (live_tx rows id) _ _ h in
      let c = passed (no_child id x.0) _ _ x.2 in
      let d = passed (no_pair rows id x.0) _ _ c.2 in
      let a = passed (live_account rows account) _ _ d.2 in
      subst AreWrites (inside _ _ a.2) (each_valid _ (codes "acct") (IsText account) _ (some_are_there rows id x.0 (live_is rows id x.0 x.1)) refl tt)

  one_valid : (id : Text) (x : TxRow) (column : Text) (value : Value) → live_tx rows id ≡ Ok x → name_fault Row column ≡ None → IsValue value → AreWrites (on_each column value (id ∷ []))
  one_valid id x column value live c v = each_valid 1 column value (id ∷ []) (row_is_there rows id x (live_is rows id x live)) c v

  change_valid : (id : Text) (change : TxChange) (ws : List Write) → tx_set rows id change ≡ Ok ws → AreWrites ws
  change_valid id (change.Date date) ws h = date_valid id date ws h
  change_valid id (change.Amount z) ws h = amount_valid id z ws h
  change_valid id (change.Account account) ws h = account_valid id account ws h
  change_valid id (change.Payee payee) ws h =
      let x = passed (live_tx rows id) _ _ h in
      let c = passed (no_child id x.0) _ _ x.2 in
      let d = passed (no_pair rows id x.0) _ _ c.2 in
      let p = passed (if_there (live_payee rows) payee) _ _ d.2 in
      subst AreWrites (inside _ _ p.2) (one_valid id x.0 (codes "description") (text_or_null payee) x.1 refl (text_or_null_is payee))
  change_valid id (change.Category category) ws h =
      let x = passed (live_tx rows id) _ _ h in
      let c = passed (takes_category rows id x.0 category) _ _ x.2 in
      subst AreWrites (inside _ _ c.2) (one_valid id x.0 (codes "category") (text_or_null category) x.1 refl (text_or_null_is category))
  change_valid id (change.Notes notes) ws h =
      let x = passed (live_tx rows id) _ _ h in
      subst AreWrites (inside _ _ x.2) (one_valid id x.0 (codes "notes") (notes_value notes) x.1 refl (notes_is notes))
  change_valid id (change.Cleared cleared) ws h =
      let x = passed (live_tx rows id) _ _ h in
      subst AreWrites (inside _ _ x.2) (one_valid id x.0 (codes "cleared") (flag cleared) x.1 refl (flag_is cleared))
  change_valid id (change.Schedule schedule) ws h =
      let x = passed (live_tx rows id) _ _ h in
      let s = passed (if_there (live_schedule rows) schedule) _ _ x.2 in
      subst AreWrites (inside _ _ s.2) (one_valid id x.0 (codes "schedule") (text_or_null schedule) x.1 refl (text_or_null_is schedule))

  delete_valid : (id : Text) (ws : List Write) → tx_delete rows id ≡ Ok ws → AreWrites ws
  delete_valid id ws h =
      let x = passed (live_tx rows id) _ _ h in
      let c = passed (no_child id x.0) _ _ x.2 in
      subst AreWrites (inside _ _ c.2) (each_valid _ (codes "tombstone") (flag true) _ (both_are_there rows id x.0 (live_is rows id x.0 x.1)) refl (flag_is true))

  -- ---- splits
  parts_valid : (n at : ℕ) (id : Text) (x : TxRow) (ps : List SplitPart) (u : Unit {0}) → HasDay x → each (λ (p : SplitPart). an_amount p.amount) ps ≡ Ok u
      → at + length (parts_writes at id x ps) ≤ n → AllByRecursion (IsWrite n) (parts_writes at id x ps)
  parts_valid n at id x [] u day amounts small = tt
  parts_valid n at id x (p ∷ ps) u day amounts small =
      let a = passed (an_amount p.amount) _ _ amounts in
      let here : at < n = omega (arith, small) in (
        made_is n at (codes "acct") (text_or_null x.acct) here refl (text_or_null_is x.acct),
        (
          made_is n at (codes "date") (day_or_null x.date) here refl (day_or_null_is x.date day),
          (
            made_is n at (codes "amount") (Number p.amount) here refl (amount_is p.amount (was_so _ _ _ a.1)),
            (
              made_is n at (codes "category") (text_or_null p.category) here refl (text_or_null_is p.category),
              (
                made_is n at (codes "description") (text_or_null x.description) here refl (text_or_null_is x.description),
                (
                  made_is n at (codes "isChild") (flag true) here refl (flag_is true),
                  (made_is n at (codes "parent_id") (IsText id) here refl tt, parts_valid n (at + 7) id x ps u day a.2 (omega (arith, small))),
                ),
              ),
            ),
          ),
        ),
      )

  split_valid : (id : Text) (ps : List SplitPart) (ws : List Write) → ((x : TxRow) → live_tx rows id ≡ Ok x → HasDay x) → split rows id ps ≡ Ok ws → AreWrites ws
  split_valid id ps ws dated h =
      let x = passed (live_tx rows id) _ _ h in
      let c = passed (no_child id x.0) _ _ x.2 in
      let d = passed (no_pair rows id x.0) _ _ c.2 in
      let e = passed (each (λ (p : SplitPart). an_amount p.amount) ps) _ _ d.2 in
      let f = passed (each (λ (p : SplitPart). if_there (live_category rows) p.category) ps) _ _ e.2 in
      let g = passed (no_rest (x.0.amount -ℤ total (λ (p : SplitPart). p.amount) ps)) _ _ f.2 in
      let l = live_is rows id x.0 x.1 in
      let old = on_each (codes "tombstone") (flag true) (parts_of rows id) in
      let new = parts_writes (length (parts_of rows id) + 2) id x.0 ps in
      let rest = tx_write (Given id) (codes "isParent") (flag true) ∷ tx_write (Given id) (codes "category") Null ∷ new in
      let n = length (old ++ rest) in
      let fits : length (parts_of rows id) + 2 + length new ≤ n = (let p = length-plus old rest in let q = length-on_each (codes "tombstone") (flag true) (parts_of rows id) in omega (arith, p, q)) in
      subst AreWrites (inside _ _ g.2) (all_append (IsWrite n) old rest
      (each_valid n (codes "tombstone") (flag true) (parts_of rows id) (parts_are_there rows id x.0 l) refl (flag_is true)) (
        write_is n (codes "transactions") (Given id) (codes "isParent") (flag true) refl (row_name id x.0 l) refl (flag_is true),
        (
          write_is n (codes "transactions") (Given id) (codes "category") Null refl (row_name id x.0 l) refl tt,
          parts_valid n (length (parts_of rows id) + 2) id x.0 ps e.0 (dated x.0 x.1) e.1 fits,
        ),
      ))

  -- ---- transfers
  half_valid : (at : ℕ) (account : Text) (date : ℕ) (amount : ℤ) (payee : Option Text) (notes : Text) (other : ℕ) (ws : List Write) → at < 12 → other < 12 → HoldsNumber (pos date) → HoldsNumber amount
      → AllByRecursion (IsWrite 12) ws → AllByRecursion (IsWrite 12) (half_writes at account date amount payee notes other ++ ws)
  half_valid at account date amount payee notes other ws here there day small more = (
    made_is 12 at (codes "acct") (IsText account) here refl tt,
    (
      made_is 12 at (codes "date") (Number (pos date)) here refl day,
      (
        made_is 12 at (codes "amount") (Number amount) here refl small,
        (
          made_is 12 at (codes "description") (text_or_null payee) here refl (text_or_null_is payee),
          (
            made_is 12 at (codes "notes") (notes_value notes) here refl (notes_is notes),
            (record { dataset = name_of_is (codes "transactions") refl; row = here; column = name_of_is (codes "transferred_id") refl; value = there }, more),
          ),
        ),
      ),
    ),
  )

  transfer_valid : (from to : Text) (date : ℕ) (z : ℤ) (notes : Text) (ws : List Write) → transfer rows from to date z notes ≡ Ok ws → AreWrites ws
  transfer_valid from to date z notes ws h =
      let b = passed (live_account rows from) _ _ h in
      let c = passed (live_account rows to) _ _ b.2 in
      let d = passed (two_ids from to) _ _ c.2 in
      let e = passed (a_day date) _ _ d.2 in
      let f = passed (an_amount z) _ _ e.2 in
      let day = day_is date (was_so _ _ _ e.1) in
      let small = amount_is z (was_so _ _ _ f.1) in
      subst AreWrites (inside _ _ f.2) (half_valid 0 from date (neg_ℤ z) (payee_for rows to) notes 6 (half_writes 6 to date z (payee_for rows from) notes 0) (omega arith) (omega arith) day (opposite z small)
      (half_valid 6 to date z (payee_for rows from) notes 0 [] (omega arith) (omega arith) day small tt))

  -- the writes of any edit
  pub writes_valid : (edit : PairEdit) (ws : List Write) → IsDated rows edit → pair_writes rows edit ≡ Ok ws → AreWrites ws
  writes_valid (TxSet id change) ws d h = change_valid id change ws h
  writes_valid (TxDelete id) ws d h = delete_valid id ws h
  writes_valid (Split id ps) ws d h = split_valid id ps ws d h
  writes_valid (Transfer from to date z notes) ws d h = transfer_valid from to date z notes ws h
