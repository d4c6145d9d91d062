-- The rows that edits of schedules leave.
use Rattle.std.proofs.Common.{◌≡◌, ℕ, ◌+◌, ◌<◌, Bool, true, false, cond, List, [], ◌∷◌, Option, None, Some, Result, Ok, Err, refl, ap, sym, ◌∙◌}
use Rattle.std.specs.Prelude.{is_some, unwrap_or, option_and_then, ok_or, codes, if◌then◌else◌}
use lib.IntN.{ℤ, pos}
use Rattle.std.specs.FinMap.{get, insert}
use Rattle.field_values.specs.declared.value.Value.{Value}
use Rattle.field_values.specs.declared.value.Value.TheVariants.{Null, Number, Text as IsText}
use Rattle.finite_sums.specs.Maps.{Text, Texts}
use Rattle.book_rows.specs.declared.column.Dataset.TheVariants.{Rules, Schedules, Transactions}
use Rattle.book_rows.specs.declared.column.Column.{Column}
use Rattle.book_rows.specs.declared.column.Column.TheVariants as of
use Rattle.book_rows.specs.declared.rows.Rows.{Rows}
use Rattle.book_rows.specs.declared.rows.RuleRow.{RuleRow}
use Rattle.book_rows.specs.declared.rows.ScheduleRow.{ScheduleRow}
use Rattle.book_rows.specs.declared.rows.TxRow.{TxRow}
use Rattle.book_rows.specs.declared.write.RowName.{RowName}
use Rattle.book_rows.specs.declared.write.RowName.TheVariants.{Given, Made}
use Rattle.book_rows.specs.declared.write.WriteValue.{WriteValue}
use Rattle.book_rows.specs.declared.write.WriteValue.TheVariants.{Plain, IdOf}
use Rattle.book_rows.specs.declared.write.Write.{Write}
use Rattle.book_rows.specs.declared.fault.EditFault.{EditFault}
use Rattle.book_rows.specs.declared.fault.EditFault.TheVariants.{NoSuchSchedule, NoSuchAccount, ScheduleDone, BadRecur}
use Rattle.book_rows.specs.declared.fault.RecurPart.{RecurPart}
use Rattle.book_rows.specs.declared.fault.RecurPart.TheVariants.{EndMode}
use Rattle.book_rows.specs.Kinds.{is_day, text_of}
use Rattle.book_rows.specs.Live.{is_live_account}
use Rattle.book_rows.specs.Rules.{rule_table, schedule_table, tx_table}
use Rattle.book_rows.specs.Tables.{blank_row}
use Rattle.book_edits.specs.Faults.{if_there}
use Rattle.book_edits.specs.Checks.{live_account, live_payee, an_amount}
use Rattle.book_edits.specs.Writing.{flag, text_or_null}
use Rattle.book_edits.proofs.Valid.{inside, passed, was_so}
use Rattle.split_transfer.specs.After.{Ids, row_of, value_in, with_write, with_writes}
use Rattle.schedules.specs.Months.{day_in, date_of}
use Rattle.schedules.specs.Days.{Said, next_from}
use Rattle.schedules.specs.Reading.{or_recur, recurrence_of}
use Rattle.schedules.specs.Terms.{Terms, terms_of}
use Rattle.schedules.specs.Status.{live_row, next_day}
use Rattle.schedules.specs.Upcoming.{IsNext}
use Rattle.schedules.specs.Edits.{live_schedule, not_done, is_schedule, new_schedule, first_day, conditions_text, add_writes, schedule_add, post_writes, schedule_post, skip_write, schedule_skip, schedule_delete}
use Rattle.schedules.proofs.Dating.{day_so, date_back, date_forth}
use Rattle.schedules.proofs.Telling.{occurs_within, some_told}
use Rattle.schedules.proofs.Following.{next_date, no_date}
use Rattle.rule_laws.specs.Making.{own_id}
use Rattle.rule_laws.specs.Scheduling.{IsThere, IsGoing, posted_row, gone_on, rule_of_new, new_schedule as new_row, ScheduleEditsDo}
use Rattle.rule_laws.proofs.Written.{one_more, into, cell, made, given_is}

none_some : {X P : Type 0} (x : X) → None ≡ Some x → P
none_some x h = absurd (clash h)
  where
    clash : None ≡ Some x → ⊥
    clash h = cc

some_is : {X : Type 0} (x y : X) → Some x ≡ Some y → x ≡ y
some_is x y h = cc

ok_or_some : {X : Type 0} (o : Option X) (e : EditFault) (x : X) → ok_or o e ≡ Ok x → o ≡ Some x
ok_or_some None e x h = cc
ok_or_some (Some y) e x h = ap Some (inside y x h)

was_read : {A : Type 0} (r : Result A RecurPart) (a : A) → or_recur r ≡ Ok a → r ≡ Ok a
was_read (Ok b) a h = ap Ok (inside b a h)
was_read (Err part) a h = cc

text_back : (t : Option Text) → text_of (text_or_null t) ≡ t
text_back None = refl
text_back (Some t) = refl

-- ---- the row of a live schedule, and its next date

live_so : (rows : Rows) (id : Text) (row : ScheduleRow) → live_schedule rows id ≡ Ok row → IsThere rows id row
live_so rows id row h = by (get rows.schedules id) refl (ok_or_some (live_row rows id) (NoSuchSchedule id) row h)
  where
    by : (o : Option ScheduleRow) → get rows.schedules id ≡ o → option_and_then (λ (x : ScheduleRow). if x.tombstone then None else Some x) o ≡ Some row → IsThere rows id row
    by None e k = none_some row k
    by (Some x) e k = dead x.tombstone refl k
      where
        dead : (b : Bool) → x.tombstone ≡ b → (if b then None else Some x) ≡ Some row → IsThere rows id row
        dead true t k = none_some row k
        dead false t k = record { there = e ∙ k; kept = ap (λ (y : ScheduleRow). y.tombstone) (sym (some_is x row k)) ∙ t }

-- the next date of a row that goes on, and its day
record HasDate (row : ScheduleRow) (day : ℕ) : Type 0 where
  going : row.completed ≡ false
  date : ℕ
  next : row.next_date ≡ Some date
  is : day_in date ≡ Some day

date_so : (row : ScheduleRow) (day : ℕ) → next_day row ≡ Some day → HasDate row day
date_so row day h = by row.completed refl row.next_date refl h
  where
    by : (b : Bool) → row.completed ≡ b → (o : Option ℕ) → row.next_date ≡ o → (if b then None else option_and_then day_in o) ≡ Some day → HasDate row day
    by true c o n k = none_some day k
    by false c None n k = none_some day k
    by false c (Some date) n k = record { going = c; date = date; next = n; is = k }

going_so : (rows : Rows) (id : Text) (row : ScheduleRow) (day : ℕ) (t : Terms) → live_schedule rows id ≡ Ok row → (d : HasDate row day) → or_recur (terms_of rows row) ≡ Ok t → IsGoing rows id row d.date t
going_so rows id row day t h d k = record { is = live_so rows id row h; going = d.going; next = d.next; says = was_read (terms_of rows row) t k }

-- a date that is written is read back
date_read : (day : ℕ) → day < 84_006 → (if is_day (date_of day) then Some (date_of day) else None) ≡ Some (date_of day)
date_read day h = ap (λ b. cond b (Some (date_of day)) None) (day_so (date_of day) day (date_forth day h)).0

module _ (ids : Ids) (r : Rows) (ws : List Write) where
  -- ---- a new schedule

  own_is : (id : Option Text) (row : RowName) → new_schedule r id ≡ Ok row → row_of ids row ≡ own_id ids 4 id
  own_is None row h = ap (row_of ids) (sym (inside (Made 4) row h))
  own_is (Some id) row h = ap (row_of ids) (given_is (is_schedule r id) id row h)

  module _ (row : RowName) (name conditions : Text) (day : ℕ) (new_rule : get r.rules (ids 0) ≡ None) (new : get r.schedules (row_of ids row) ≡ None) where
    abbrev key : Text
    key = row_of ids row

    abbrev with_rule : RuleRow → Rows
    with_rule x = record r { rules = insert r.rules (ids 0) x }

    into_rule : (c : Column) (v : Value) (x : RuleRow) → is_some (rule_table.kind c) ≡ true → with_write ids (with_rule x) (into Rules (Made 0) c (Plain v)) ≡ with_rule (rule_table.set c v x)
    into_rule c v x h = cell ids (with_rule x) Rules (Made 0) c (Plain v) ∙ ap (λ (m : Texts RuleRow). record r { rules = m }) (one_more rule_table (ids 0) c v r.rules x h)

    abbrev rule : RuleRow
    rule = rule_of_new (ids 0) conditions

    abbrev with_both : ScheduleRow → Rows
    with_both x = record r { rules = insert r.rules (ids 0) rule; schedules = insert r.schedules key x }

    into_schedule : (c : Column) (v : WriteValue) (x : ScheduleRow) → is_some (schedule_table.kind c) ≡ true → with_write ids (with_both x) (into Schedules row c v) ≡ with_both (schedule_table.set c (value_in ids v) x)
    into_schedule c v x h =
        cell ids (with_both x) Schedules row c v
        ∙ ap (λ (m : Texts ScheduleRow). record r { rules = insert r.rules (ids 0) rule; schedules = m }) (one_more schedule_table key c (value_in ids v) r.schedules x h)

    both_made : day < 84_006 → with_writes ids r (add_writes row name day conditions) ≡ with_both (new_row key (ids 0) name (date_of day))
    both_made h =
        let x1 : RuleRow = rule_table.set of.Stage Null (blank_row rule_table (ids 0)) in
        let x2 : RuleRow = rule_table.set of.ConditionsOp (IsText (codes "and")) x1 in
        let x3 : RuleRow = rule_table.set of.Conditions (IsText conditions) x2 in
        let y1 : ScheduleRow = schedule_table.set of.Rule (IsText (ids 0)) (blank_row schedule_table key) in
        let y2 : ScheduleRow = schedule_table.set of.Name (IsText name) y1 in
        let y3 : ScheduleRow = schedule_table.set of.NextDate (Number (pos (date_of day))) y2 in
        let w2 : Write = into Rules (Made 0) of.ConditionsOp (Plain (IsText (codes "and"))) in
        let w3 : Write = into Rules (Made 0) of.Conditions (Plain (IsText conditions)) in
        let w4 : Write = into Rules (Made 0) of.Actions (Plain (IsText (codes "[]"))) in
        let w5 : Write = into Schedules row of.Rule (IdOf 0) in
        let w6 : Write = into Schedules row of.Name (Plain (IsText name)) in
        let w7 : Write = into Schedules row of.NextDate (Plain (Number (pos (date_of day)))) in
        let w8 : Write = into Schedules row of.Completed (Plain (flag false)) in
        ap (λ (s : Rows). with_writes ids s (w2 ∷ w3 ∷ w4 ∷ w5 ∷ w6 ∷ w7 ∷ w8 ∷ []))
        (cell ids r Rules (Made 0) of.Stage (Plain Null) ∙ ap (λ (o : Option RuleRow). with_rule (rule_table.set of.Stage Null (unwrap_or o (blank_row rule_table (ids 0))))) new_rule)
        ∙ ap (λ (s : Rows). with_writes ids s (w3 ∷ w4 ∷ w5 ∷ w6 ∷ w7 ∷ w8 ∷ [])) (into_rule of.ConditionsOp (IsText (codes "and")) x1 refl)
        ∙ ap (λ (s : Rows). with_writes ids s (w4 ∷ w5 ∷ w6 ∷ w7 ∷ w8 ∷ [])) (into_rule of.Conditions (IsText conditions) x2 refl)
        ∙ ap (λ (s : Rows). with_writes ids s (w5 ∷ w6 ∷ w7 ∷ w8 ∷ [])) (into_rule of.Actions (IsText (codes "[]")) x3 refl)
        ∙ ap (λ (s : Rows). with_writes ids s (w6 ∷ w7 ∷ w8 ∷ []))
        (cell ids (with_rule rule) Schedules row of.Rule (IdOf 0) ∙ ap (λ (o : Option ScheduleRow). with_both (schedule_table.set of.Rule (IsText (ids 0)) (unwrap_or o (blank_row schedule_table key)))) new)
        ∙ ap (λ (s : Rows). with_writes ids s (w7 ∷ w8 ∷ [])) (into_schedule of.Name (Plain (IsText name)) y1 refl)
        ∙ ap (λ (s : Rows). with_writes ids s (w8 ∷ [])) (into_schedule of.NextDate (Plain (Number (pos (date_of day)))) y2 refl)
        ∙ into_schedule of.Completed (Plain (flag false)) y3 refl
        ∙ ap (λ (o : Option ℕ). with_both (record (new_row key (ids 0) name (date_of day)) { next_date = o })) (date_read day h)

  added : (id : Option Text) (name account : Text) (payee : Option Text) (amount : ℤ) (recur : Text) → schedule_add r id name account payee amount recur ≡ Ok ws
      → get r.rules (ids 0) ≡ None → get r.schedules (own_id ids 4 id) ≡ None
      → (s : Said) × (day : ℕ) × (recurrence_of recur ≡ Ok s) × (next_from s 0 ≡ Some day) × (with_writes ids r ws ≡ record r {
        rules = insert r.rules (ids 0) (rule_of_new (ids 0) (conditions_text account payee amount recur));
        schedules = insert r.schedules (own_id ids 4 id) (new_row (own_id ids 4 id) (ids 0) name (date_of day));
      })
  added id name account payee amount recur h none none_there =
      let p = passed (new_schedule r id) _ _ h in
      let l = passed (live_account r account) _ _ p.2 in
      let y = passed (if_there (live_payee r) payee) _ _ l.2 in
      let z = passed (an_amount amount) _ _ y.2 in
      let s = passed (recurrence_of recur) _ _ z.2 in
      let d = passed (first_day s.0) _ _ s.2 in
      let e = ok_or_some (next_from s.0 0) (BadRecur EndMode) d.0 d.1 in
      let is = own_is id p.0 p.1 in
      let words = conditions_text account payee amount recur in (
        s.0,
        d.0,
        s.1,
        e,
        made ids r ws (add_writes p.0 name d.0 words) _ (inside _ _ d.2)
            (both_made p.0 name words d.0 none (ap (get r.schedules) is ∙ none_there) (occurs_within s.0 d.0 (some_told s.0 0 d.0 e).occurs)
            ∙ ap (λ k. record r { rules = insert r.rules (ids 0) (rule_of_new (ids 0) words); schedules = insert r.schedules k (new_row k (ids 0) name (date_of d.0)) }) is),
      )

  -- ---- a transaction that is posted

  abbrev with_tx : TxRow → Rows
  with_tx x = record r { txs = insert r.txs (ids 0) x }

  into_tx : (c : Column) (v : Value) (x : TxRow) → is_some (tx_table.kind c) ≡ true → with_write ids (with_tx x) (into Transactions (Made 0) c (Plain v)) ≡ with_tx (tx_table.set c v x)
  into_tx c v x h = cell ids (with_tx x) Transactions (Made 0) c (Plain v) ∙ ap (λ (m : Texts TxRow). record r { txs = m }) (one_more tx_table (ids 0) c v r.txs x h)

  tx_made : (id : Text) (day : ℕ) (t : Terms) → day < 84_006 → get r.txs (ids 0) ≡ None → with_writes ids r (post_writes id day t) ≡ with_tx (posted_row (ids 0) id (date_of day) t)
  tx_made id day t h none =
      let x1 : TxRow = tx_table.set of.Acct (IsText t.account) (blank_row tx_table (ids 0)) in
      let x2 : TxRow = tx_table.set of.Date (Number (pos (date_of day))) x1 in
      let x3 : TxRow = tx_table.set of.Amount (Number t.amount) x2 in
      let x4 : TxRow = tx_table.set of.Description (text_or_null t.payee) x3 in
      let row : Option ℕ → Option Text → Rows = λ date payee. with_tx (record (posted_row (ids 0) id (date_of day) t) { date = date; description = payee }) in
      let w2 : Write = into Transactions (Made 0) of.Date (Plain (Number (pos (date_of day)))) in
      let w3 : Write = into Transactions (Made 0) of.Amount (Plain (Number t.amount)) in
      let w4 : Write = into Transactions (Made 0) of.Description (Plain (text_or_null t.payee)) in
      let w5 : Write = into Transactions (Made 0) of.Schedule (Plain (IsText id)) in
      ap (λ (s : Rows). with_writes ids s (w2 ∷ w3 ∷ w4 ∷ w5 ∷ []))
      (cell ids r Transactions (Made 0) of.Acct (Plain (IsText t.account)) ∙ ap (λ (o : Option TxRow). with_tx (tx_table.set of.Acct (IsText t.account) (unwrap_or o (blank_row tx_table (ids 0))))) none)
      ∙ ap (λ (s : Rows). with_writes ids s (w3 ∷ w4 ∷ w5 ∷ [])) (into_tx of.Date (Number (pos (date_of day))) x1 refl)
      ∙ ap (λ (s : Rows). with_writes ids s (w4 ∷ w5 ∷ [])) (into_tx of.Amount (Number t.amount) x2 refl)
      ∙ ap (λ (s : Rows). with_writes ids s (w5 ∷ [])) (into_tx of.Description (text_or_null t.payee) x3 refl)
      ∙ into_tx of.Schedule (IsText id) x4 refl
      ∙ ap (λ (o : Option ℕ). row o (text_of (text_or_null t.payee))) (date_read day h)
      ∙ ap (λ (o : Option Text). row (Some (date_of day)) o) (text_back t.payee)

  posted : (id : Text) → schedule_post r id ≡ Ok ws → get r.txs (ids 0) ≡ None
      → (row : ScheduleRow) × (date : ℕ) × (t : Terms) × IsGoing r id row date t × (is_live_account r t.account ≡ true)
      × (with_writes ids r ws ≡ record r { txs = insert r.txs (ids 0) (posted_row (ids 0) id date t) })
  posted id h none =
      let s = passed (live_schedule r id) _ _ h in
      let n = passed (not_done id s.0) _ _ s.2 in
      let t = passed (or_recur (terms_of r s.0)) _ _ n.2 in
      let a = passed (live_account r t.0.account) _ _ t.2 in
      let d = date_so s.0 n.0 (ok_or_some (next_day s.0) (ScheduleDone id) n.0 n.1) in
      let back = date_back d.date n.0 d.is in (
        s.0,
        d.date,
        t.0,
        going_so r id s.0 n.0 t.0 s.1 d t.1,
        was_so (is_live_account r t.0.account) (NoSuchAccount t.0.account) a.0 a.1,
        made ids r ws (post_writes id n.0 t.0) _ (inside _ _ a.2)
            (tx_made id n.0 t.0 back.1 none ∙ ap (λ (date : ℕ). with_tx (posted_row (ids 0) id date t.0)) back.0),
      )

  -- ---- a schedule that goes on, or is deleted

  there_so : (id : Text) (row : ScheduleRow) → get r.schedules id ≡ Some row → (c : Column) (v : Value) → is_some (schedule_table.kind c) ≡ true
      → with_writes ids r (into Schedules (Given id) c (Plain v) ∷ []) ≡ record r { schedules = insert r.schedules id (schedule_table.set c v row) }
  there_so id row there c v h =
      cell ids r Schedules (Given id) c (Plain v)
      ∙ ap (λ b. record r { schedules = cond b (insert r.schedules id (schedule_table.set c v (unwrap_or (get r.schedules id) (blank_row schedule_table id)))) r.schedules }) h
      ∙ ap (λ (o : Option ScheduleRow). record r { schedules = insert r.schedules id (schedule_table.set c v (unwrap_or o (blank_row schedule_table id))) }) there

  -- the date that follows, by its day
  abbrev date_after : Option ℕ → Option ℕ
  date_after None = None
  date_after (Some day) = Some (date_of day)

  follows : (days : Said) (date day : ℕ) → day_in date ≡ Some day → (o : Option ℕ) → next_from days (day + 1) ≡ o → IsNext days date (date_after o)
  follows days date day is None e = no_date days date day is e
  follows days date day is (Some d) e = next_date days date day d is e

  gone : (id : Text) (row : ScheduleRow) (days : Said) (day : ℕ) → get r.schedules id ≡ Some row → (o : Option ℕ) → next_from days (day + 1) ≡ o
      → with_writes ids r (skip_write id o ∷ []) ≡ record r { schedules = insert r.schedules id (gone_on (date_after o) row) }
  gone id row days day there None e = there_so id row there of.Completed (flag true) refl
  gone id row days day there (Some d) e =
      there_so id row there of.NextDate (Number (pos (date_of d))) refl
      ∙ ap (λ (o : Option ℕ). record r { schedules = insert r.schedules id (record row { next_date = o }) }) (date_read d (occurs_within days d (some_told days (day + 1) d e).occurs))

  skipped : (id : Text) → schedule_skip r id ≡ Ok ws
      → (row : ScheduleRow) × (date : ℕ) × (t : Terms) × (after : Option ℕ) × IsGoing r id row date t × IsNext t.days date after
      × (with_writes ids r ws ≡ record r { schedules = insert r.schedules id (gone_on after row) })
  skipped id h =
      let s = passed (live_schedule r id) _ _ h in
      let n = passed (not_done id s.0) _ _ s.2 in
      let t = passed (or_recur (terms_of r s.0)) _ _ n.2 in
      let d = date_so s.0 n.0 (ok_or_some (next_day s.0) (ScheduleDone id) n.0 n.1) in
      let o = next_from t.0.days (n.0 + 1) in (
        s.0,
        d.date,
        t.0,
        date_after o,
        going_so r id s.0 n.0 t.0 s.1 d t.1,
        follows t.0.days d.date n.0 d.is o refl,
        made ids r ws (skip_write id o ∷ []) _ (inside _ _ t.2) (gone id s.0 t.0.days n.0 (live_so r id s.0 s.1).there o refl),
      )

  deleted : (id : Text) → schedule_delete r id ≡ Ok ws
      → (row : ScheduleRow) × IsThere r id row × (with_writes ids r ws ≡ record r { schedules = insert r.schedules id (record row { tombstone = true }) })
  deleted id h =
      let s = passed (live_schedule r id) _ _ h in
      let is = live_so r id s.0 s.1 in (
        s.0,
        is,
        made ids r ws (into Schedules (Given id) of.Tombstone (Plain (flag true)) ∷ []) _ (inside _ _ s.2) (there_so id s.0 is.there of.Tombstone (flag true) refl),
      )

pub schedules_done : (ids : Ids) (rows : Rows) (ws : List Write) → ScheduleEditsDo ids rows ws
schedules_done ids rows ws = record { added = added ids rows ws; posted = posted ids rows ws; skipped = skipped ids rows ws; deleted = deleted ids rows ws }
