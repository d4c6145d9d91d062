-- Edits leave pairs and splits right.
use Rattle.std.proofs.Common.{◌≡◌, ℕ, ◌+◌, Bool, true, false, cond, List, [], ◌∷◌, ◌++◌, length, Option, Some, None, refl, ap, sym, ◌∙◌, subst, arith}
use lib.IntN.{ℤ, pos, ◌-ℤ◌}
use Rattle.std.proofs.lemmas.Int.{ints}
use Rattle.std.specs.FinMap.{get}
use Rattle.finite_sums.specs.Sums.{total}
use Rattle.finite_sums.specs.Maps.{Text}
use Rattle.field_values.specs.declared.value.Value.TheVariants.{Null, Number, Text as IsText}
use Rattle.book_rows.specs.declared.rows.Rows.{Rows}
use Rattle.book_rows.specs.declared.rows.TxRow.{TxRow}
use Rattle.book_rows.specs.declared.write.Write.{Write}
use Rattle.book_rows.specs.Live.{is_live_tx}
use Rattle.split_transfer.specs.declared.edit.SplitPart.{SplitPart}
use Rattle.split_transfer.specs.Pairs.{parts_of, parts_sum}
use Rattle.split_transfer.specs.After.{Ids, with_writes, makes}
use Rattle.split_transfer.specs.Right.{IsLiveRow, StayRight, AreApart}
use Rattle.split_transfer.proofs.Columns.{Acct, Description, Category, Notes, Cleared, Schedule, IsParent, Tombstone, named, on_each}
use Rattle.split_transfer.proofs.Basics.{or_right, not_true, where_some}
use Rattle.split_transfer.proofs.After.{with_writes-append}
use Rattle.std.proofs.Common.{Ok}
use Rattle.std.specs.Prelude.{ok_or}
use Rattle.std.specs.Ordering.{int_eq}
use Rattle.std.proofs.lemmas.Bool.Decides.{Decides-int_eq}
use Rattle.book_rows.specs.declared.fault.EditFault.{EditFault}
use Rattle.book_rows.specs.declared.fault.EditFault.TheVariants.{SplitSum}
use Rattle.book_edits.specs.Faults.{if_there, each}
use Rattle.book_edits.specs.Checks.{a_day, an_amount, live_account, live_payee, live_category, two_ids}
use Rattle.book_edits.specs.Writing.{flag, text_or_null, notes_value}
use Rattle.book_edits.proofs.Valid.{inside, passed, was_so}
use Rattle.split_transfer.specs.declared.edit.TxChange.TheVariants as change
use Rattle.split_transfer.specs.declared.edit.PairEdit.TheVariants.{TxSet, TxDelete, Split, Transfer}
use Rattle.split_transfer.specs.Checks.{live_tx, live_schedule, no_child, no_pair, takes_category, no_rest, stays_even}
use Rattle.split_transfer.specs.Changes.{set_date, set_amount, set_account, set_payee, set_category, set_notes, set_cleared, set_schedule, tx_delete}
use Rattle.split_transfer.specs.Splits.{parts_writes, split_writes, split}
use Rattle.split_transfer.specs.Transfers.{payee_for, transfer_writes, transfer}
use Rattle.split_transfer.specs.Right.{PairsAndSplitsStayRight}
use Rattle.split_transfer.proofs.Single.{ArePlain, row_is_there, some_are_there, date_stays_right, column_stays_right, deletion_stays_right}
use Rattle.split_transfer.proofs.Amounts.{amount_stays_right}
use Rattle.split_transfer.proofs.Splitting.{split_stays_right}
use Rattle.split_transfer.proofs.Transferring.{transfer_stays_right}

ok_or_some : {X : Type 0} (o : Option X) (e : EditFault) (x : X) → ok_or o e ≡ Ok x → o ≡ Some x
ok_or_some None e x h = cc
ok_or_some (Some y) e x h = ap Some (inside y x h)

pub live_is : (r : Rows) (id : Text) (x : TxRow) → live_tx r id ≡ Ok x → IsLiveRow r id x
live_is r id x h = let w = where_some (is_live_tx r) (get r.txs id) x (ok_or_some _ _ x h) in record { there = w.0; live = w.1 }

are_plain : (ids : Ids) (r : Rows) (ws : List Write) → AreApart ids r ws → ArePlain r
are_plain ids r ws a = record { plain = a.plain }

holds_for : (ids : Ids) (r : Rows) (ws vs : List Write) → ws ≡ vs → StayRight r (with_writes ids r ws) → StayRight r (with_writes ids r vs)
holds_for ids r ws vs e h = subst (λ t. StayRight r (with_writes ids r t)) e h

rest_is : (z : ℤ) (u : Unit {0}) → no_rest z ≡ Ok u → z ≡ pos 0
rest_is z u h = (Decides-int_eq z (pos 0)).0 (was_so (int_eq z (pos 0)) (SplitSum z) u h)

even_is : (r : Rows) (id : Text) (x : TxRow) (z : ℤ) (u : Unit {0}) → stays_even r id x z ≡ Ok u → x.is_parent ≡ true → z ≡ parts_sum r id
even_is r id x z u h up =
    let e = rest_is (z -ℤ parts_sum r id) u (ap (λ (b : Bool). cond b (no_rest (z -ℤ parts_sum r id)) (Ok tt)) (sym up) ∙ h) in omega (arith, ints, e)

single : (id : Text) (x : TxRow) (u : Unit {0}) → no_child id x ≡ Ok u → x.is_child ≡ false
single id x u h = not_true x.is_child (was_so _ _ u h)

date_right : (ids : Ids) (r : Rows) (id : Text) (date : ℕ) (ws : List Write) → set_date r id date ≡ Ok ws → AreApart ids r ws → StayRight r (with_writes ids r ws)
date_right ids r id date ws h a =
    let x = passed (live_tx r id) _ _ h in
    let c = passed (no_child id x.0) _ _ x.2 in
    let d = passed (a_day date) _ _ c.2 in
    holds_for ids r _ ws (inside _ _ d.2) (date_stays_right ids r id x.0 (Number (pos date)) (live_is r id x.0 x.1) (are_plain ids r ws a))

amount_right : (ids : Ids) (r : Rows) (id : Text) (z : ℤ) (ws : List Write) → set_amount r id z ≡ Ok ws → AreApart ids r ws → StayRight r (with_writes ids r ws)
amount_right ids r id z ws h a =
    let x = passed (live_tx r id) _ _ h in
    let c = passed (no_child id x.0) _ _ x.2 in
    let d = passed (an_amount z) _ _ c.2 in
    let s = passed (stays_even r id x.0 z) _ _ d.2 in
    holds_for ids r _ ws (inside _ _ s.2)
    (amount_stays_right ids r id x.0 z (live_is r id x.0 x.1) (single id x.0 c.0 c.1) (are_plain ids r ws a) (even_is r id x.0 z s.0 s.1))

account_right : (ids : Ids) (r : Rows) (id account : Text) (ws : List Write) → set_account r id account ≡ Ok ws → StayRight r (with_writes ids r ws)
account_right ids r id account ws h =
    let x = passed (live_tx r id) _ _ h in
    let c = passed (no_child id x.0) _ _ x.2 in
    let d = passed (no_pair r id x.0) _ _ c.2 in
    let l = passed (live_account r account) _ _ d.2 in
    holds_for ids r _ ws (inside _ _ l.2) (column_stays_right ids r Acct (IsText account) (id ∷ parts_of r id) (some_are_there r id x.0 (live_is r id x.0 x.1))
    (λ y. record { transferred = refl; child = refl; parent = refl; alive = λ h. h }) (λ y. (refl, refl)) (λ y. refl) (λ other y. refl))

payee_right : (ids : Ids) (r : Rows) (id : Text) (payee : Option Text) (ws : List Write) → set_payee r id payee ≡ Ok ws → StayRight r (with_writes ids r ws)
payee_right ids r id payee ws h =
    let x = passed (live_tx r id) _ _ h in
    let c = passed (no_child id x.0) _ _ x.2 in
    let d = passed (no_pair r id x.0) _ _ c.2 in
    let l = passed (if_there (live_payee r) payee) _ _ d.2 in
    holds_for ids r _ ws (inside _ _ l.2) (column_stays_right ids r Description (text_or_null payee) (id ∷ []) (row_is_there r id x.0 (live_is r id x.0 x.1))
    (λ y. record { transferred = refl; child = refl; parent = refl; alive = λ h. h }) (λ y. (refl, refl)) (λ y. refl) (λ other y. refl))

category_right : (ids : Ids) (r : Rows) (id : Text) (category : Option Text) (ws : List Write) → set_category r id category ≡ Ok ws → StayRight r (with_writes ids r ws)
category_right ids r id category ws h =
    let x = passed (live_tx r id) _ _ h in
    let c = passed (takes_category r id x.0 category) _ _ x.2 in
    holds_for ids r _ ws (inside _ _ c.2) (column_stays_right ids r Category (text_or_null category) (id ∷ []) (row_is_there r id x.0 (live_is r id x.0 x.1))
    (λ y. record { transferred = refl; child = refl; parent = refl; alive = λ h. h }) (λ y. (refl, refl)) (λ y. refl) (λ other y. refl))

notes_right : (ids : Ids) (r : Rows) (id notes : Text) (ws : List Write) → set_notes r id notes ≡ Ok ws → StayRight r (with_writes ids r ws)
notes_right ids r id notes ws h =
    let x = passed (live_tx r id) _ _ h in
    holds_for ids r _ ws (inside _ _ x.2) (column_stays_right ids r Notes (notes_value notes) (id ∷ []) (row_is_there r id x.0 (live_is r id x.0 x.1))
    (λ y. record { transferred = refl; child = refl; parent = refl; alive = λ h. h }) (λ y. (refl, refl)) (λ y. refl) (λ other y. refl))

cleared_right : (ids : Ids) (r : Rows) (id : Text) (cleared : Bool) (ws : List Write) → set_cleared r id cleared ≡ Ok ws → StayRight r (with_writes ids r ws)
cleared_right ids r id cleared ws h =
    let x = passed (live_tx r id) _ _ h in
    holds_for ids r _ ws (inside _ _ x.2) (column_stays_right ids r Cleared (flag cleared) (id ∷ []) (row_is_there r id x.0 (live_is r id x.0 x.1))
    (λ y. record { transferred = refl; child = refl; parent = refl; alive = λ h. h }) (λ y. (refl, refl)) (λ y. refl) (λ other y. refl))

schedule_right : (ids : Ids) (r : Rows) (id : Text) (schedule : Option Text) (ws : List Write) → set_schedule r id schedule ≡ Ok ws → StayRight r (with_writes ids r ws)
schedule_right ids r id schedule ws h =
    let x = passed (live_tx r id) _ _ h in
    let l = passed (if_there (live_schedule r) schedule) _ _ x.2 in
    holds_for ids r _ ws (inside _ _ l.2) (column_stays_right ids r Schedule (text_or_null schedule) (id ∷ []) (row_is_there r id x.0 (live_is r id x.0 x.1))
    (λ y. record { transferred = refl; child = refl; parent = refl; alive = λ h. h }) (λ y. (refl, refl)) (λ y. refl) (λ other y. refl))

delete_right : (ids : Ids) (r : Rows) (id : Text) (ws : List Write) → tx_delete r id ≡ Ok ws → AreApart ids r ws → StayRight r (with_writes ids r ws)
delete_right ids r id ws h a =
    let x = passed (live_tx r id) _ _ h in
    let c = passed (no_child id x.0) _ _ x.2 in
    holds_for ids r _ ws (inside _ _ c.2) (deletion_stays_right ids r id x.0 (live_is r id x.0 x.1) (single id x.0 c.0 c.1) (are_plain ids r ws a))

-- ---- splits

makes-append : (ws vs : List Write) (k : ℕ) → makes vs k ≡ true → makes (ws ++ vs) k ≡ true
makes-append [] vs k h = h
makes-append (w ∷ ws) vs k h = or_right _ _ (makes-append ws vs k h)

split_of : (ids : Ids) (r : Rows) (id : Text) (x : TxRow) (ps : List SplitPart) → IsLiveRow r id x → x.amount ≡ total (λ (p : SplitPart). p.amount) ps
    → AreApart ids r (split_writes r id x ps) → StayRight r (with_writes ids r (split_writes r id x ps))
split_of ids r id x ps l balanced a =
    subst (StayRight r) (sym (with_writes-append ids r old (named id IsParent (Number (pos 1)) ∷ named id Category Null ∷ new)))
    (split_stays_right ids r id x ps l balanced
    (record { new = λ k h. a.new k (made_by k h); different = λ j k g h. a.different j k (made_by j g) (made_by k h) })
    (λ k q v h. a.childless k q v (made_by k h)))
  where
    old : List Write
    old = on_each Tombstone (Number (pos 1)) (parts_of r id)

    new : List Write
    new = parts_writes (length (parts_of r id) + 2) id x ps

    made_by : (k : ℕ) → makes (parts_writes (length (parts_of r id) + 2) id x ps) k ≡ true → makes (split_writes r id x ps) k ≡ true
    made_by k h = makes-append (on_each Tombstone (Number (pos 1)) (parts_of r id)) (named id IsParent (Number (pos 1)) ∷ named id Category Null ∷ parts_writes (length (parts_of r id) + 2) id x ps) k h

split_right : (ids : Ids) (r : Rows) (id : Text) (ps : List SplitPart) (ws : List Write) → split r id ps ≡ Ok ws → AreApart ids r ws → StayRight r (with_writes ids r ws)
split_right ids r id ps ws h a =
    let x = passed (live_tx r id) _ _ h in
    let c = passed (no_child id x.0) _ _ x.2 in
    let d = passed (no_pair r id x.0) _ _ c.2 in
    let e = passed (each (λ (p : SplitPart). an_amount p.amount) ps) _ _ d.2 in
    let f = passed (each (λ (p : SplitPart). if_there (live_category r) p.category) ps) _ _ e.2 in
    let g = passed (no_rest (x.0.amount -ℤ total (λ (p : SplitPart). p.amount) ps)) _ _ f.2 in
    let is : split_writes r id x.0 ps ≡ ws = inside _ _ g.2 in
    let zero = rest_is (x.0.amount -ℤ total (λ (p : SplitPart). p.amount) ps) g.0 g.1 in
    holds_for ids r _ ws is (split_of ids r id x.0 ps (live_is r id x.0 x.1) (omega (arith, ints, zero)) (subst (AreApart ids r) (sym is) a))

-- ---- transfers

transfer_of : (ids : Ids) (r : Rows) (source target : Text) (date : ℕ) (z : ℤ) (notes : Text) → AreApart ids r (transfer_writes r source target date z notes)
    → StayRight r (with_writes ids r (transfer_writes r source target date z notes))
transfer_of ids r source target date z notes a =
    transfer_stays_right ids r source target date z (payee_for r target) (payee_for r source) notes (a.new 0 refl) (a.new 6 refl) (λ e. let f = a.different 0 6 refl refl e in omega (arith, f))
    (λ q v h. a.childless 0 q v refl h) (λ q v h. a.childless 6 q v refl h)

transfer_right : (ids : Ids) (r : Rows) (source target : Text) (date : ℕ) (z : ℤ) (notes : Text) (ws : List Write) → transfer r source target date z notes ≡ Ok ws → AreApart ids r ws → StayRight r (with_writes ids r ws)
transfer_right ids r source target date z notes ws h a =
    let b = passed (live_account r source) _ _ h in
    let c = passed (live_account r target) _ _ b.2 in
    let d = passed (two_ids source target) _ _ c.2 in
    let e = passed (a_day date) _ _ d.2 in
    let f = passed (an_amount z) _ _ e.2 in
    let is : transfer_writes r source target date z notes ≡ ws = inside _ _ f.2 in
    holds_for ids r _ ws is (transfer_of ids r source target date z notes (subst (AreApart ids r) (sym is) a))

pub stay_right : PairsAndSplitsStayRight
stay_right ids r (TxSet id (change.Date date)) ws h a = date_right ids r id date ws h a
stay_right ids r (TxSet id (change.Amount z)) ws h a = amount_right ids r id z ws h a
stay_right ids r (TxSet id (change.Account account)) ws h a = account_right ids r id account ws h
stay_right ids r (TxSet id (change.Payee payee)) ws h a = payee_right ids r id payee ws h
stay_right ids r (TxSet id (change.Category category)) ws h a = category_right ids r id category ws h
stay_right ids r (TxSet id (change.Notes notes)) ws h a = notes_right ids r id notes ws h
stay_right ids r (TxSet id (change.Cleared cleared)) ws h a = cleared_right ids r id cleared ws h
stay_right ids r (TxSet id (change.Schedule schedule)) ws h a = schedule_right ids r id schedule ws h
stay_right ids r (TxDelete id) ws h a = delete_right ids r id ws h a
stay_right ids r (Split id ps) ws h a = split_right ids r id ps ws h a
stay_right ids r (Transfer source target date z notes) ws h a = transfer_right ids r source target date z notes ws h a
