-- Edits of schedules leave pairs and splits right.
use Rattle.std.proofs.Common.{◌≡◌, ℕ, List, Option, Some, None, Ok, refl, sym, subst, codes}
use Rattle.std.specs.Prelude.{◌+◌}
use lib.IntN.{ℤ, pos}
use Rattle.std.specs.FinMap.{get}
use Rattle.finite_sums.specs.Maps.{Text}
use Rattle.field_values.specs.declared.value.Value.TheVariants.{Number, Text as IsText}
use Rattle.book_rows.specs.declared.rows.Rows.{Rows}
use Rattle.book_rows.specs.declared.write.RowName.TheVariants.{Made}
use Rattle.book_rows.specs.declared.write.WriteValue.TheVariants.{Plain}
use Rattle.book_rows.specs.declared.write.Write.{Write}
use Rattle.book_edits.specs.Faults.{if_there}
use Rattle.book_edits.specs.Checks.{live_account, live_payee, an_amount}
use Rattle.book_edits.specs.Writing.{text_or_null}
use Rattle.book_edits.proofs.Valid.{inside, passed}
use Rattle.split_transfer.specs.After.{Ids}
use Rattle.split_transfer.specs.PlainEdits.{IsAdded}
use Rattle.split_transfer.proofs.Columns.{Acct, Date, Amount, Description, Schedule}
use Rattle.split_transfer.proofs.Elsewhere.{IsOther}
use Rattle.schedules.specs.declared.edit.ScheduleEdit.TheVariants.{Add, Post, Skip, Delete}
use Rattle.schedules.specs.Months.{date_of}
use Rattle.schedules.specs.Days.{next_from}
use Rattle.schedules.specs.Reading.{or_recur, recurrence_of}
use Rattle.schedules.specs.Terms.{Terms, terms_of}
use Rattle.schedules.specs.Edits.{live_schedule, not_done, new_schedule, first_day, schedule_add, post_writes, schedule_post, skip_write, schedule_skip, schedule_delete}
use Rattle.kept_pairs.specs.Kept.{SchedulesKeepPairsAndSplits}
use Rattle.kept_pairs.proofs.Harmless.{IsHarmless, AreHarmless, elsewhere, harmless_stays_right}
use Rattle.kept_pairs.proofs.Written.{rules, schedules, account, payee, schedule, day, amount, tx_plain, tx_new}

module _ (ids : Ids) (r : Rows) where
  into_rules : (w : Write) → w.dataset ≡ codes "rules" → IsHarmless ids r w
  into_rules w e = elsewhere ids r w (subst (λ t. IsOther t) (sym e) rules)

  into_schedules : (w : Write) → w.dataset ≡ codes "schedules" → IsHarmless ids r w
  into_schedules w e = elsewhere ids r w (subst (λ t. IsOther t) (sym e) schedules)

  add_harmless : (id : Option Text) (name account : Text) (payee : Option Text) (amount : ℤ) (recur : Text) (ws : List Write) → schedule_add r id name account payee amount recur ≡ Ok ws → AreHarmless ids r ws
  add_harmless id name account payee amount recur ws h =
      let p = passed (new_schedule r id) _ _ h in
      let l = passed (live_account r account) _ _ p.2 in
      let y = passed (if_there (live_payee r) payee) _ _ l.2 in
      let z = passed (an_amount amount) _ _ y.2 in
      let s = passed (recurrence_of recur) _ _ z.2 in
      let d = passed (first_day s.0) _ _ s.2 in
      subst (AreHarmless ids r) (inside _ _ d.2)
      (into_rules _ refl, (into_rules _ refl, (into_rules _ refl, (into_rules _ refl, (into_schedules _ refl, (into_schedules _ refl, (into_schedules _ refl, (into_schedules _ refl, tt))))))))

  posted : (id : Text) (n : ℕ) (t : Terms) → get r.txs (ids 0) ≡ None → AreHarmless ids r (post_writes id n t)
  posted id n t none = (
    tx_plain ids r (Made 0) Acct (Plain (IsText t.account)) account,
    (
      tx_new ids r (Made 0) Date (Plain (Number (pos (date_of n)))) day none,
      (
        tx_new ids r (Made 0) Amount (Plain (Number t.amount)) amount none,
        (
          tx_plain ids r (Made 0) Description (Plain (text_or_null t.payee)) payee,
          (
            tx_plain ids r (Made 0) Schedule (Plain (IsText id)) schedule,
            tt,
          ),
        ),
      ),
    ),
  )

  post_harmless : (id : Text) (ws : List Write) → schedule_post r id ≡ Ok ws → IsAdded ids r ws → AreHarmless ids r ws
  post_harmless id ws h a =
      let s = passed (live_schedule r id) _ _ h in
      let n = passed (not_done id s.0) _ _ s.2 in
      let t = passed (or_recur (terms_of r s.0)) _ _ n.2 in
      let l = passed (live_account r t.0.account) _ _ t.2 in
      let is : post_writes id n.0 t.0 ≡ ws = inside _ _ l.2 in
      subst (AreHarmless ids r) is (posted id n.0 t.0 ((subst (IsAdded ids r) (sym is) a).new 0 refl))

  skipped : (id : Text) (o : Option ℕ) → IsHarmless ids r (skip_write id o)
  skipped id None = into_schedules _ refl
  skipped id (Some n) = into_schedules _ refl

  skip_harmless : (id : Text) (ws : List Write) → schedule_skip r id ≡ Ok ws → AreHarmless ids r ws
  skip_harmless id ws h =
      let s = passed (live_schedule r id) _ _ h in
      let n = passed (not_done id s.0) _ _ s.2 in
      let t = passed (or_recur (terms_of r s.0)) _ _ n.2 in
      subst (AreHarmless ids r) (inside _ _ t.2) (skipped id (next_from t.0.days (n.0 + 1)), tt)

  delete_harmless : (id : Text) (ws : List Write) → schedule_delete r id ≡ Ok ws → AreHarmless ids r ws
  delete_harmless id ws h =
      let s = passed (live_schedule r id) _ _ h in
      subst (AreHarmless ids r) (inside _ _ s.2) (into_schedules _ refl, tt)

pub schedules_keep : SchedulesKeepPairsAndSplits
schedules_keep r (Add id name account payee amount recur) ws h ids a = harmless_stays_right ids r ws (add_harmless ids r id name account payee amount recur ws h) a
schedules_keep r (Post id) ws h ids a = harmless_stays_right ids r ws (post_harmless ids r id ws h a) a
schedules_keep r (Skip id) ws h ids a = harmless_stays_right ids r ws (skip_harmless ids r id ws h) a
schedules_keep r (Delete id) ws h ids a = harmless_stays_right ids r ws (delete_harmless ids r id ws h) a
