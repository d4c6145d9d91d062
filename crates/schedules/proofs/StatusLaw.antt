-- Which status a schedule has.
use Rattle.std.proofs.Common.{◌≡◌, ℕ, ◌+◌, ◌<◌, ◌≤◌, Bool, true, false, cond, inl, inr, Option, Some, None, refl, sym, ap, ◌∙◌, arith}
use Rattle.std.specs.Prelude.{◌⊎◌, ◌&&◌, ◌==◌, nat_lt, nat_le, option_and_then, option_map}
use Rattle.std.specs.declared.cmp.Ordering.{Ordering}
use Rattle.std.specs.declared.cmp.Ordering.TheVariants.{Less, Equal, Greater}
use Rattle.std.specs.Ordering.{is_eq}
use Rattle.std.proofs.lemmas.Bool.{and_parts, and_from, cond_both, eqb-true, eqb-false, ltb-true, ltb-false, leb-true, leb-false, lt-ltb, le-leb, both_ways}
use Rattle.std.specs.Cmp.{eq_by_cmp_equiv}
use Rattle.std.specs.FinMap as map
use Rattle.finite_sums.specs.Maps.{Text, some_and}
use Rattle.finite_sums.proofs.Texts.{text_total, text_same}
use Rattle.book_rows.specs.declared.rows.Rows.{Rows}
use Rattle.book_rows.specs.declared.rows.ScheduleRow.{ScheduleRow}
use Rattle.book_rows.specs.Live.{is_live_tx}
use Rattle.book_rows.specs.Parts.{is_text}
use Rattle.book_rows.proofs.Spans.{row_any, any_row}
use Rattle.book_edits.proofs.Passing.{there}
use Rattle.schedules.specs.declared.standing.ScheduleStatus.{ScheduleStatus}
use Rattle.schedules.specs.declared.standing.ScheduleStatus.TheVariants.{Completed, Paid, Due, Upcoming, Missed, Scheduled}
use Rattle.schedules.specs.Months.{day_in}
use Rattle.schedules.specs.Status.{next_day, pays, is_paid, by_days, status_by, live_row, status_of, status_in}
use Rattle.schedules.specs.Statuses.{IsPayment, IsStatusOn, StatusesAreTold}

-- ---- payments

is_equal : (r : Ordering) → is_eq r ≡ true → r ≡ Equal
is_equal Less h = cc
is_equal Equal h = refl
is_equal Greater h = cc

is_one : (id : Text) (o : Option Text) → is_text id o ≡ true → o ≡ Some id
is_one id None h = cc
is_one id (Some own) h = ap (λ (t : Text). Some t) (text_same own id (is_equal _ h))

one_is : (id : Text) (o : Option Text) → o ≡ Some id → is_text id o ≡ true
one_is id o e = ap (is_text id) e ∙ (eq_by_cmp_equiv text_total).refl id

some_passes : {X : Type 0} (p : X → Bool) (o : Option X) (x : X) → o ≡ Some x → p x ≡ true → some_and p o ≡ true
some_passes p o x e t = ap (some_and p) e ∙ t

payment_so : (rows : Rows) (id : Text) (next : ℕ) → is_paid rows id next ≡ true → IsPayment rows id next
payment_so rows id next h =
    let key = any_row (pays rows id next) rows.txs h in
    let row = there (pays rows id next) (map.get rows.txs key.0) key.1 in
    let x = row.0 in
    let a = and_parts (is_live_tx rows x) (is_text id x.schedule && some_and (λ day. nat_le next (day + 2)) (option_and_then day_in x.date)) row.2 in
    let b = and_parts (is_text id x.schedule) (some_and (λ day. nat_le next (day + 2)) (option_and_then day_in x.date)) a.1 in
    let day = there (λ day. nat_le next (day + 2)) (option_and_then day_in x.date) b.1 in
    record { id = key.0; tx = x; there = row.1; live = a.0; names = is_one id x.schedule b.0; day = day.0; dated = day.1; near = leb-true next (day.0 + 2) day.2 }

so_payment : (rows : Rows) (id : Text) (next : ℕ) → IsPayment rows id next → is_paid rows id next ≡ true
so_payment rows id next p =
    let x = p.tx in
    let late = some_passes (λ day. nat_le next (day + 2)) (option_and_then day_in x.date) p.day p.dated (le-leb next (p.day + 2) p.near) in
    let passes : pays rows id next x ≡ true = and_from _ _ p.live (and_from _ _ (one_is id x.schedule p.names) late) in
    row_any (pays rows id next) rows.txs p.id (some_passes (pays rows id next) (map.get rows.txs p.id) x p.there passes)

-- ---- statuses are told apart by numbers
abbrev number : ScheduleStatus → ℕ
number Completed = 0
number Paid = 1
number Due = 2
number Upcoming = 3
number Missed = 4
number Scheduled = 5

-- two numbers that differ are not the same
clash : (a b : ℕ) → a ≡ b → (a == b) ≡ false → ⊥
clash a b e f = eqb-false a b f e

paid_on : (rows : Rows) (id : Text) (next day : ℕ) → IsPayment rows id next → IsStatusOn rows id next day Paid
paid_on rows id next day p = record {
  paid = (λ _. p, λ _. refl);
  due = λ h. absurd (clash 1 2 (ap number h) refl);
  upcoming = λ h. absurd (clash 1 3 (ap number h) refl);
  missed = λ h. absurd (clash 1 4 (ap number h) refl);
  scheduled = λ h. absurd (clash 1 5 (ap number h) refl);
  going = λ h. clash 1 0 (ap number h) refl;
}

-- without a payment the next day decides
unpaid_on : (rows : Rows) (id : Text) (next day : ℕ) → (IsPayment rows id next → ⊥) → IsStatusOn rows id next day (by_days next day)
unpaid_on rows id next day none =
    cond_both (next == day) Due (cond (nat_lt day next && nat_le next (day + 7)) Upcoming (cond (nat_lt next day) Missed Scheduled)) P
    (λ t. record {
      paid = (λ h. absurd (clash 2 1 (ap number h) refl), λ p. absurd (none p));
      due = λ _. eqb-true next day t;
      upcoming = λ h. absurd (clash 2 3 (ap number h) refl);
      missed = λ h. absurd (clash 2 4 (ap number h) refl);
      scheduled = λ h. absurd (clash 2 5 (ap number h) refl);
      going = λ h. clash 2 0 (ap number h) refl;
    })
    (λ f. cond_both (nat_lt day next && nat_le next (day + 7)) Upcoming (cond (nat_lt next day) Missed Scheduled) P
    (λ t. let both = and_parts _ _ t in
    record {
      paid = (λ h. absurd (clash 3 1 (ap number h) refl), λ p. absurd (none p));
      due = λ h. absurd (clash 3 2 (ap number h) refl);
      upcoming = λ _. (ltb-true day next both.0, leb-true next (day + 7) both.1);
      missed = λ h. absurd (clash 3 4 (ap number h) refl);
      scheduled = λ h. absurd (clash 3 5 (ap number h) refl);
      going = λ h. clash 3 0 (ap number h) refl;
    })
    (λ g. cond_both (nat_lt next day) Missed Scheduled P
    (λ t. record {
      paid = (λ h. absurd (clash 4 1 (ap number h) refl), λ p. absurd (none p));
      due = λ h. absurd (clash 4 2 (ap number h) refl);
      upcoming = λ h. absurd (clash 4 3 (ap number h) refl);
      missed = λ _. ltb-true next day t;
      scheduled = λ h. absurd (clash 4 5 (ap number h) refl);
      going = λ h. clash 4 0 (ap number h) refl;
    })
    (λ k. record {
      paid = (λ h. absurd (clash 5 1 (ap number h) refl), λ p. absurd (none p));
      due = λ h. absurd (clash 5 2 (ap number h) refl);
      upcoming = λ h. absurd (clash 5 3 (ap number h) refl);
      missed = λ h. absurd (clash 5 4 (ap number h) refl);
      scheduled = λ _. far f g k;
      going = λ h. clash 5 0 (ap number h) refl;
    })))
  where
    P : ScheduleStatus → Type 0
    P = λ s. IsStatusOn rows id next day s

    by_le : (next ≤ day + 7 → day + 7 < next) → day + 7 < next
    by_le h = elim (nat_le next (day + 7)) as (λ b. nat_le next (day + 7) ≡ b → day + 7 < next) [ true ↦ λ t. h (leb-true next (day + 7) t) | false ↦ λ f. leb-false next (day + 7) f ] refl

    far : (next == day) ≡ false → (nat_lt day next && nat_le next (day + 7)) ≡ false → nat_lt next day ≡ false → day + 7 < next
    far f g k =
        let other : next ≡ day → ⊥ = eqb-false next day f in
        let late : day < next = omega (arith, other, ltb-false next day k) in
        by_le (λ near. absurd (both_ways (nat_lt day next && nat_le next (day + 7)) g (and_from _ _ (lt-ltb day next late) (le-leb next (day + 7) near))))

-- ---- from rows to statuses

is_live : (o : Option ScheduleRow) (row : ScheduleRow) → option_and_then (λ (r : ScheduleRow). cond r.tombstone None (Some r)) o ≡ Some row → (o ≡ Some row) × (row.tombstone ≡ false)
is_live None row h = cc
is_live (Some r) row h =
    (elim r.tombstone as (λ b. r.tombstone ≡ b → cond b None (Some r) ≡ Some row → (Some r ≡ Some row) × (row.tombstone ≡ false)) [
      | true ↦ λ e k. cc
      | false ↦ λ e k. (k, sym (ap (λ (x : ScheduleRow). x.tombstone) (inside r row k)) ∙ e)
    ]) refl h
  where
    inside : (a b : ScheduleRow) → Some a ≡ Some b → a ≡ b
    inside a b e = cc

live_is : (o : Option ScheduleRow) (row : ScheduleRow) → o ≡ Some row → row.tombstone ≡ false → option_and_then (λ (r : ScheduleRow). cond r.tombstone None (Some r)) o ≡ Some row
live_is o row e t = ap (option_and_then (λ (r : ScheduleRow). cond r.tombstone None (Some r))) e ∙ ap (λ b. cond b None (Some row)) t

of_row : (rows : Rows) (id : Text) (date day : ℕ) (row : ScheduleRow) → day_in date ≡ Some day → live_row rows id ≡ Some row → status_in rows id date ≡ Some (status_by rows id day (next_day row))
of_row rows id date day row on live = ap (option_and_then (status_of rows id)) on ∙ ap (option_map (λ (r : ScheduleRow). status_by rows id day (next_day r))) live

no_row : (rows : Rows) (id : Text) (date : ℕ) → live_row rows id ≡ None → status_in rows id date ≡ None
no_row rows id date h = by (day_in date)
  where
    by : (o : Option ℕ) → option_and_then (status_of rows id) o ≡ None
    by None = refl
    by (Some day) = ap (option_map (λ (r : ScheduleRow). status_by rows id day (next_day r))) h

no_next : (done : Bool) (o : Option ℕ) → (done ≡ true) ⊎ (o ≡ None) → cond done None o ≡ None
no_next done o (inl h) = ap (λ b. cond b None o) h
no_next true o (inr h) = refl
no_next false o (inr h) = h

ended : (rows : Rows) (id : Text) (date day : ℕ) (row : ScheduleRow) → day_in date ≡ Some day → live_row rows id ≡ Some row → (row.completed ≡ true) ⊎ (option_and_then day_in row.next_date ≡ None) → status_in rows id date ≡ Some Completed
ended rows id date day row on live h = of_row rows id date day row on live ∙ ap (λ o. Some (status_by rows id day o)) (no_next row.completed (option_and_then day_in row.next_date) h)

going_on : (rows : Rows) (id : Text) (date day next : ℕ) (row : ScheduleRow) → day_in date ≡ Some day → live_row rows id ≡ Some row → row.completed ≡ false → option_and_then day_in row.next_date ≡ Some next
    → (status : ScheduleStatus) × (status_in rows id date ≡ Some status) × IsStatusOn rows id next day status
going_on rows id date day next row on live runs later =
    let there : next_day row ≡ Some next = ap (λ b. cond b None (option_and_then day_in row.next_date)) runs ∙ later in
    let is = of_row rows id date day row on live ∙ ap (λ o. Some (status_by rows id day o)) there in (
      cond (is_paid rows id next) Paid (by_days next day),
      is,
      cond_both (is_paid rows id next) Paid (by_days next day) (λ s. IsStatusOn rows id next day s)
          (λ t. paid_on rows id next day (payment_so rows id next t))
          (λ f. unpaid_on rows id next day (λ p. both_ways (is_paid rows id next) f (so_payment rows id next p))),
    )

pub statuses : StatusesAreTold
statuses = record {
  live = λ rows id row. (λ h. is_live (map.get rows.schedules id) row h, λ h. live_is (map.get rows.schedules id) row h.0 h.1);
  none = no_row;
  completed = ended;
  going = going_on;
}
