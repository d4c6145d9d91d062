-- The writes of each edit are valid.
use Rattle.std.proofs.Common.{◌≡◌, ℕ, ◌+◌, ◌<◌, Bool, true, false, List, Option, None, Some, Result, Ok, Err, refl, ap, subst, arith}
use lib.IntN.{ℤ, pos}
use Rattle.std.specs.Prelude.{codes, not, if◌then◌else◌, ok_or, option_and_then}
use Rattle.std.proofs.lemmas.Bool.{and_parts}
use Rattle.std.specs.FinMap as map
use Rattle.field_values.specs.declared.value.Value.TheVariants.{Null, Number, Text as IsText}
use Rattle.field_values.specs.Names.{IsName}
use Rattle.field_values.specs.Value.{HoldsNumber}
use Rattle.finite_sums.specs.Maps.{Text}
use Rattle.book_rows.specs.declared.rows.Rows.{Rows}
use Rattle.book_rows.specs.declared.rows.ScheduleRow.{ScheduleRow}
use Rattle.book_rows.specs.declared.write.RowName.{RowName}
use Rattle.book_rows.specs.declared.write.RowName.TheVariants.{Given, Made}
use Rattle.book_rows.specs.declared.write.Write.{Write}
use Rattle.book_rows.specs.declared.fault.EditFault.{EditFault}
use Rattle.book_rows.specs.declared.fault.EditFault.TheVariants.{BadId, IdTaken, NoSuchSchedule, BadRecur}
use Rattle.book_rows.specs.declared.fault.RecurPart.{RecurPart}
use Rattle.book_rows.specs.declared.fault.RecurPart.TheVariants.{EndMode}
use Rattle.book_rows.specs.Named.{HasNames}
use Rattle.book_rows.specs.Writes.{IsRowName, IsWrite, AreWrites}
use Rattle.book_edits.specs.Faults.{if_there, must}
use Rattle.book_edits.specs.Checks.{may_be_chosen, live_account, live_payee, an_amount}
use Rattle.book_edits.specs.Writing.{flag, text_or_null}
use Rattle.book_edits.proofs.Passing.{name_of_is, held}
use Rattle.book_edits.proofs.Valid.{inside, passed, was_so, flag_is, text_or_null_is, write_is}
use Rattle.schedules.specs.declared.edit.ScheduleEdit.{ScheduleEdit}
use Rattle.schedules.specs.declared.edit.ScheduleEdit.TheVariants.{Add, Post, Skip, Delete}
use Rattle.schedules.specs.Months.{date_of, day_in}
use Rattle.schedules.specs.Days.{Said, next_from}
use Rattle.schedules.specs.Reading.{or_recur, recurrence_of}
use Rattle.schedules.specs.Terms.{Terms, terms_of}
use Rattle.schedules.specs.Status.{live_row, next_day}
use Rattle.schedules.specs.Edits.{live_schedule, not_done, is_schedule, new_schedule, first_day, conditions_text, schedule_add, schedule_post, schedule_skip, schedule_delete, skip_write, schedule_writes}
use Rattle.schedules.proofs.Dating.{date_back, is_placed}
use Rattle.schedules.proofs.Telling.{occurs_within, some_told}

none_some : {X P : Type 0} (x : X) → None ≡ Some x → P
none_some x h = absurd (clash h)
  where
    clash : None ≡ Some x → ⊥
    clash h = cc

some_is : {X : Type 0} (x y : X) → Some x ≡ Some y → x ≡ y
some_is x y h = cc

ok_or_some : {X : Type 0} (o : Option X) (e : EditFault) (x : X) → ok_or o e ≡ Ok x → o ≡ Some x
ok_or_some None e x h = cc
ok_or_some (Some y) e x h = ap Some (inside y x h)

was_read : {A : Type 0} (r : Result A RecurPart) (a : A) → or_recur r ≡ Ok a → r ≡ Ok a
was_read (Ok b) a h = ap Ok (inside b a h)
was_read (Err part) a h = cc

-- a date is a number that a value holds
pub date_holds : (d : ℕ) → d < 84_006 → HoldsNumber (pos (date_of d))
date_holds d h = let is = is_placed d h in held (pos (date_of d)) (omega (arith, is.month, is.short))

-- the day of an occurrence that follows
pub next_holds : (r : Said) (from d : ℕ) → next_from r from ≡ Some d → HoldsNumber (pos (date_of d))
next_holds r from d e = date_holds d (occurs_within r d (some_told r from d e).occurs)

-- the next day of a row
next_within : (row : ScheduleRow) (d : ℕ) → next_day row ≡ Some d → d < 84_006
next_within row d h = by row.completed row.next_date h
  where
    by : (b : Bool) (o : Option ℕ) → (if b then None else option_and_then day_in o) ≡ Some d → d < 84_006
    by true o k = none_some d k
    by false None k = none_some d k
    by false (Some n) k = (date_back n d k).1

-- the id of a live schedule is a name
module _ (rows : Rows) (names : HasNames rows) where
  schedule_name : (id : Text) (row : ScheduleRow) → live_schedule rows id ≡ Ok row → IsName id
  schedule_name id row h = by (map.get rows.schedules id) refl (ok_or_some (live_row rows id) (NoSuchSchedule id) row h)
    where
      by : (o : Option ScheduleRow) → map.get rows.schedules id ≡ o → option_and_then (λ (x : ScheduleRow). if x.tombstone then None else Some x) o ≡ Some row → IsName id
      by None e k = none_some row k
      by (Some x) e k = names.schedules id x e

  new_is : (id : Option Text) (row : RowName) → new_schedule rows id ≡ Ok row → IsRowName 8 row
  new_is None row h = subst (IsRowName 8) (inside _ _ h) (omega arith)
  new_is (Some id) row h =
      let first = passed (must (may_be_chosen id) (BadId id)) _ _ h in
      let second = passed (must (not (is_schedule rows id)) (IdTaken id)) _ _ first.2 in
      let chosen = was_so (may_be_chosen id) (BadId id) first.0 first.1 in
      subst (IsRowName 8) (inside _ _ second.2) (name_of_is id (and_parts _ _ chosen).0)

  add_valid : (id : Option Text) (name account : Text) (payee : Option Text) (amount : ℤ) (recur : Text) (ws : List Write) → schedule_add rows id name account payee amount recur ≡ Ok ws → AreWrites ws
  add_valid id name account payee amount recur ws h =
      let row = passed (new_schedule rows id) _ _ h in
      let a = passed (live_account rows account) _ _ row.2 in
      let p = passed (if_there (live_payee rows) payee) _ _ a.2 in
      let n = passed (an_amount amount) _ _ p.2 in
      let r = passed (recurrence_of recur) _ _ n.2 in
      let d = passed (first_day r.0) _ _ r.2 in
      let is = new_is id row.0 row.1 in
      let day = next_holds r.0 0 d.0 (ok_or_some (next_from r.0 0) (BadRecur EndMode) d.0 d.1) in
      subst AreWrites (inside _ _ d.2) (
        write_is 8 (codes "rules") (Made 0) (codes "stage") Null refl (omega arith) refl tt,
        (
          write_is 8 (codes "rules") (Made 0) (codes "conditions_op") (IsText (codes "and")) refl (omega arith) refl tt,
          (
            write_is 8 (codes "rules") (Made 0) (codes "conditions") (IsText (conditions_text account payee amount recur)) refl (omega arith) refl tt,
            (
              write_is 8 (codes "rules") (Made 0) (codes "actions") (IsText (codes "[]")) refl (omega arith) refl tt,
              (
                record { dataset = name_of_is (codes "schedules") refl; row = is; column = name_of_is (codes "rule") refl; value = omega arith },
                (
                  write_is 8 (codes "schedules") row.0 (codes "name") (IsText name) refl is refl tt,
                  (
                    write_is 8 (codes "schedules") row.0 (codes "next_date") (Number (pos (date_of d.0))) refl is refl day,
                    (write_is 8 (codes "schedules") row.0 (codes "completed") (flag false) refl is refl (flag_is false), tt),
                  ),
                ),
              ),
            ),
          ),
        ),
      )

  skip_valid : (id : Text) (ws : List Write) → schedule_skip rows id ≡ Ok ws → AreWrites ws
  skip_valid id ws h =
      let row = passed (live_schedule rows id) _ _ h in
      let d = passed (not_done id row.0) _ _ row.2 in
      let t = passed (or_recur (terms_of rows row.0)) _ _ d.2 in
      subst AreWrites (inside _ _ t.2) (by t.0.days (d.0 + 1) (next_from t.0.days (d.0 + 1)) refl (schedule_name id row.0 row.1), tt)
    where
      by : (r : Said) (from : ℕ) (o : Option ℕ) → next_from r from ≡ o → IsName id → IsWrite 1 (skip_write id o)
      by r from None e is = write_is 1 (codes "schedules") (Given id) (codes "completed") (flag true) refl is refl (flag_is true)
      by r from (Some n) e is = write_is 1 (codes "schedules") (Given id) (codes "next_date") (Number (pos (date_of n))) refl is refl (next_holds r from n e)

  delete_valid : (id : Text) (ws : List Write) → schedule_delete rows id ≡ Ok ws → AreWrites ws
  delete_valid id ws h =
      let row = passed (live_schedule rows id) _ _ h in
      subst AreWrites (inside _ _ row.2) (write_is 1 (codes "schedules") (Given id) (codes "tombstone") (flag true) refl (schedule_name id row.0 row.1) refl (flag_is true), tt)

  post_valid : (id : Text) (ws : List Write) → ((t : Terms) (row : ScheduleRow) → terms_of rows row ≡ Ok t → HoldsNumber t.amount) → schedule_post rows id ≡ Ok ws → AreWrites ws
  post_valid id ws small h =
      let row = passed (live_schedule rows id) _ _ h in
      let d = passed (not_done id row.0) _ _ row.2 in
      let t = passed (or_recur (terms_of rows row.0)) _ _ d.2 in
      let a = passed (live_account rows t.0.account) _ _ t.2 in
      let day = date_holds d.0 (next_within row.0 d.0 (ok_or_some (next_day row.0) _ d.0 d.1)) in
      let amount = small t.0 row.0 (was_read (terms_of rows row.0) t.0 t.1) in
      subst AreWrites (inside _ _ a.2) (
        write_is 5 (codes "transactions") (Made 0) (codes "acct") (IsText t.0.account) refl (omega arith) refl tt,
        (
          write_is 5 (codes "transactions") (Made 0) (codes "date") (Number (pos (date_of d.0))) refl (omega arith) refl day,
          (
            write_is 5 (codes "transactions") (Made 0) (codes "amount") (Number t.0.amount) refl (omega arith) refl amount,
            (
              write_is 5 (codes "transactions") (Made 0) (codes "description") (text_or_null t.0.payee) refl (omega arith) refl (text_or_null_is t.0.payee),
              (write_is 5 (codes "transactions") (Made 0) (codes "schedule") (IsText id) refl (omega arith) refl tt, tt),
            ),
          ),
        ),
      )

  pub writes_valid : (edit : ScheduleEdit) (ws : List Write) → ((t : Terms) (row : ScheduleRow) → terms_of rows row ≡ Ok t → HoldsNumber t.amount) → schedule_writes rows edit ≡ Ok ws → AreWrites ws
  writes_valid (Add id name account payee amount recur) ws small h = add_valid id name account payee amount recur ws h
  writes_valid (Post id) ws small h = post_valid id ws small h
  writes_valid (Skip id) ws small h = skip_valid id ws h
  writes_valid (Delete id) ws small h = delete_valid id ws h
