-- A schedule that is added says what was given.
use Rattle.std.proofs.Common.{◌≡◌, ◌^◌, ◌≤◌, true, false, cond, List, [], ◌∷◌, Option, None, Some, Result, Ok, Err, refl, ap, sym, ◌∙◌, arith, lt-ltb}
use Rattle.std.specs.Prelude.{◌&&◌, ◌||◌, nat_le, int_le, ◌≤ℤ◌, neg_ℤ, unsigned_abs, is_some, option_map, option_and_then, unwrap_or, codes, if◌then◌else◌}
use lib.IntN.{ℤ, pos, negsuc}
use Rattle.std.proofs.lemmas.Int.{ints}
use Rattle.std.proofs.lemmas.Bool.{leb-true, and_from}
use Rattle.std.specs.FinMap.{get, insert, get-insert}
use Rattle.serde_json.specs.Data.{Data, null, boolean, number, string, array, object, Items, no_items, Members}
use Rattle.serde_json.specs.Find.{as_i64, as_array}
use Rattle.serde_json.specs.Read.{read}
use Rattle.field_values.specs.Value.{largest_number}
use Rattle.finite_sums.specs.Maps.{Text, Texts}
use Rattle.finite_sums.proofs.Texts.{text_total}
use Rattle.book_rows.specs.declared.rows.Rows.{Rows}
use Rattle.book_rows.specs.declared.rows.RuleRow.{RuleRow}
use Rattle.book_rows.specs.declared.rows.ScheduleRow.{ScheduleRow}
use Rattle.book_rows.specs.declared.write.Write.{Write}
use Rattle.book_rows.specs.declared.fault.EditFault.TheVariants.{BadAmount}
use Rattle.book_rows.specs.declared.fault.RecurPart.{RecurPart}
use Rattle.book_rows.specs.declared.fault.RecurPart.TheVariants.{Rule as RulePart}
use Rattle.book_rows.specs.declared.fault.RulePart.TheVariants.{Conditions, Actions}
use Rattle.book_edits.specs.Faults.{if_there}
use Rattle.book_edits.specs.Checks.{live_account, live_payee, an_amount}
use Rattle.book_edits.proofs.Valid.{inside, passed, was_so}
use Rattle.split_transfer.specs.After.{Ids, with_writes}
use Rattle.split_transfer.proofs.Basics.{same_refl}
use Rattle.rule_engine.specs.declared.rule.Rule.{Rule}
use Rattle.rule_engine.specs.declared.rule.RuleOp.TheVariants.{And}
use Rattle.rule_engine.specs.declared.rule.Stage.TheVariants.{Plain}
use Rattle.rule_engine.specs.declared.rule.Condition.{Condition}
use Rattle.rule_engine.specs.declared.rule.CondField.TheVariants.{Acct, Description, Amount, Date}
use Rattle.rule_engine.specs.declared.rule.CondOp.TheVariants.{Is, IsApprox}
use Rattle.rule_engine.specs.declared.rule.CondValue.TheVariants.{Text as OneText, Number, Recurrence}
use Rattle.rule_engine.specs.Reading.{entries_of, all_read, in_array, or_bad as or_bad_entry, as_held, as_amount, with_value, condition_of, action_of, read_part, read_rule}
use Rattle.rule_engine.proofs.Entries.{all_from, ahead, one_ahead, from_read}
use Rattle.schedules.specs.Months.{date_of}
use Rattle.schedules.specs.Days.{Said}
use Rattle.schedules.specs.Reading.{or_bad, result_then, said_of, said_in, or_recur, recurrence_of}
use Rattle.schedules.specs.Conditions.{exact, amount_at, all_of, is_test, is_condition, is_action}
use Rattle.schedules.specs.Terms.{Terms, entries_by, terms_in, rule_terms, terms_of}
use Rattle.schedules.specs.Edits.{new_schedule, conditions_text}
use Rattle.rule_laws.specs.Making.{own_id}
use Rattle.rule_laws.specs.Scheduling.{IsThere, rule_of_new, new_schedule as new_row}
use Rattle.rule_laws.specs.Saying.{IsPlain, given, conditions_of, IsAdded, SchedulesReadBack}
use Rattle.rule_laws.proofs.JsonBack.{compact_back}
use Rattle.rule_laws.proofs.NewConditions.{whole_number, on_amount, later_ones, new_conditions, conditions_back}
use Rattle.rule_laws.proofs.ScheduleRows.{schedules_done}
use Rattle.rule_laws.proofs.StageLaws.{read_so}

-- ---- an amount that is written is read

integer_back : (z : ℤ) → unsigned_abs z ≤ largest_number → as_i64 (whole_number z) ≡ Some z
integer_back (pos n) h = ap (λ b. if b then Some (pos n) else None) (lt-ltb n (2 ^ 63) (omega (arith, h)))
integer_back (negsuc n) h = refl

int_le_so : (a b : ℤ) → a ≤ℤ b → int_le a b ≡ true
int_le_so a b h = grind (arith, ints, h)

pub exact_back : (z : ℤ) → unsigned_abs z ≤ largest_number → exact z ≡ Some z
exact_back z h =
    ap (λ b. if b then Some z else None)
    (and_from _ _ (int_le_so (neg_ℤ (pos 9_007_199_254_740_991)) z (omega (arith, ints, h))) (int_le_so z (pos 9_007_199_254_740_991) (omega (arith, ints, h))))

amount_back : (z : ℤ) → nat_le (unsigned_abs z) largest_number ≡ true → amount_at (Some (number (whole_number z))) ≡ Some z
amount_back z h = let k = leb-true (unsigned_abs z) largest_number h in ap (option_and_then exact) (integer_back z k) ∙ exact_back z k

held_back : (z : ℤ) → nat_le (unsigned_abs z) largest_number ≡ true → as_amount (number (whole_number z)) ≡ Some z
held_back z h = ap (option_and_then as_held) (integer_back z (leb-true (unsigned_abs z) largest_number h)) ∙ ap (λ b. if b then Some z else None) h

empty_back : read (codes "[]") ≡ Some (array no_items)
empty_back = compact_back (array no_items) tt refl (omega arith)

-- ---- what the schedule says

object_is : (d : Data) (days : Said) → said_of d ≡ Ok days → (ms : Members) × (d ≡ object ms)
unfolding said_of
object_is null days h = cc
object_is (boolean b) days h = cc
object_is (number n) days h = cc
object_is (string s) days h = cc
object_is (array ds) days h = cc
object_is (object ms) days h = (ms, refl)

amount_passes : (amount : ℤ) → nat_le (unsigned_abs amount) largest_number ≡ true → is_condition (on_amount amount) ≡ true
unfolding is_condition is_test
amount_passes amount small = ap (λ o. (is_some o || false) || false) (amount_back amount small)

later_pass : (payee : Option Text) (amount : ℤ) → nat_le (unsigned_abs amount) largest_number ≡ true → all_of is_condition (later_ones payee amount) ≡ true
unfolding is_condition is_test
later_pass None amount small = ap (λ b. b && true) (amount_passes amount small)
later_pass (Some payee) amount small = ap (λ b. b && true) (amount_passes amount small)

all_pass : (account : Text) (payee : Option Text) (amount : ℤ) (ms : Members) → nat_le (unsigned_abs amount) largest_number ≡ true → all_of is_condition (new_conditions account payee amount (object ms)) ≡ true
unfolding is_condition is_test
all_pass account payee amount ms small = later_pass payee amount small

terms_are : (account : Text) (payee : Option Text) (amount : ℤ) (ms : Members) (days : Said) → nat_le (unsigned_abs amount) largest_number ≡ true → said_of (object ms) ≡ Ok days
    → terms_in (new_conditions account payee amount (object ms)) ≡ Ok (given account payee amount days)
unfolding terms_in
terms_are account None amount ms days small h =
    ap (λ r. result_then r (λ s. Ok (given account None (unwrap_or (amount_at (Some (number (whole_number amount)))) (pos 0)) s))) h
    ∙ ap (λ o. Ok (given account None (unwrap_or o (pos 0)) days)) (amount_back amount small)
terms_are account (Some payee) amount ms days small h =
    ap (λ r. result_then r (λ s. Ok (given account (Some payee) (unwrap_or (amount_at (Some (number (whole_number amount)))) (pos 0)) s))) h
    ∙ ap (λ o. Ok (given account (Some payee) (unwrap_or o (pos 0)) days)) (amount_back amount small)

said_back : (rule account : Text) (payee : Option Text) (amount : ℤ) (d : Data) (days : Said) (text : Text) → nat_le (unsigned_abs amount) largest_number ≡ true → said_of d ≡ Ok days
    → read text ≡ Some (array (new_conditions account payee amount d)) → rule_terms (rule_of_new rule text) ≡ Ok (given account payee amount days)
unfolding is_action
said_back rule account payee amount d days text small h back =
    let o = object_is d days h in
    let ds = new_conditions account payee amount (object o.0) in
    let next : Items → Result Terms RecurPart = λ cs. or_bad RulePart (entries_by is_action (option_and_then as_array (read (codes "[]")))) (λ _. terms_in cs) in
    ap (λ x. or_bad RulePart (entries_by is_condition (option_and_then as_array x)) next) (back ∙ ap (λ e. Some (array (new_conditions account payee amount e))) o.1)
    ∙ ap (λ b. or_bad RulePart (if b then Some ds else None) next) (all_pass account payee amount o.0 small)
    ∙ ap (λ x. or_bad RulePart (entries_by is_action (option_and_then as_array x)) (λ _. terms_in ds)) empty_back
    ∙ terms_are account payee amount o.0 days small (sym (ap said_of o.1) ∙ h)

-- ---- what its rule tests

amount_tested : (amount : ℤ) → nat_le (unsigned_abs amount) largest_number ≡ true → condition_of (on_amount amount) ≡ Some (record { field = Amount; op = Is; value = Number amount })
unfolding condition_of
amount_tested amount small = ap (λ o. with_value Amount Is (option_map (λ z. Number z) o)) (held_back amount small)

all_tested : (account : Text) (payee : Option Text) (amount : ℤ) (ms : Members) → nat_le (unsigned_abs amount) largest_number ≡ true
    → all_from condition_of 0 (entries_of (new_conditions account payee amount (object ms))) ≡ Ok (conditions_of account payee amount)
unfolding condition_of all_from
all_tested account None amount ms small =
    let date : Condition = record { field = Date; op = IsApprox; value = Recurrence } in
    let own : Condition = record { field = Acct; op = Is; value = OneText account } in
    ap (λ o. ahead (date ∷ []) (ahead (own ∷ []) (one_ahead 2 o (Ok [])))) (amount_tested amount small)
all_tested account (Some payee) amount ms small =
    let date : Condition = record { field = Date; op = IsApprox; value = Recurrence } in
    let own : Condition = record { field = Acct; op = Is; value = OneText account } in
    let to : Condition = record { field = Description; op = Is; value = OneText payee } in
    ap (λ o. ahead (date ∷ []) (ahead (own ∷ []) (ahead (to ∷ []) (one_ahead 3 o (Ok []))))) (amount_tested amount small)

no_actions : read_part Actions action_of (Some (codes "[]")) ≡ Ok []
unfolding all_read
no_actions = ap (λ x. or_bad_entry Actions (in_array action_of (option_map entries_of (option_and_then as_array x)))) empty_back

tested_back : (rule account : Text) (payee : Option Text) (amount : ℤ) (d : Data) (days : Said) (text : Text) → nat_le (unsigned_abs amount) largest_number ≡ true → said_of d ≡ Ok days
    → read text ≡ Some (array (new_conditions account payee amount d))
    → read_rule rule (rule_of_new rule text) ≡ Ok (record { id = rule; stage = Plain; op = And; conditions = conditions_of account payee amount; actions = [] })
tested_back rule account payee amount d days text small h back =
    let o = object_is d days h in
    let ds = entries_of (new_conditions account payee amount (object o.0)) in
    let r : Rule = record { id = rule; stage = Plain; op = And; conditions = conditions_of account payee amount; actions = [] } in
    read_so rule (rule_of_new rule text) r
    (ap (λ x. or_bad_entry Conditions (in_array condition_of (option_map entries_of (option_and_then as_array x)))) (back ∙ ap (λ e. Some (array (new_conditions account payee amount e))) o.1)
    ∙ ap (or_bad_entry Conditions) (sym (from_read condition_of ds) ∙ all_tested account payee amount o.0 small))
    no_actions refl refl refl

-- ---- the rows after

was_read : {A : Type 0} (r : Result A RecurPart) (a : A) → or_recur r ≡ Ok a → r ≡ Ok a
was_read (Ok b) a h = ap Ok (inside b a h)
was_read (Err part) a h = cc

put_there : {Row : Type 0} (m : Texts Row) (k : Text) (x : Row) → get (insert m k x) k ≡ Some x
put_there m k x = get-insert text_total m k x k ∙ ap (λ b. cond b (Some x) (get m k)) (same_refl k)

module _ (ids : Ids) (rows : Rows) (ws : List Write) (id : Option Text) (account : Text) (payee : Option Text) (amount : ℤ) (recur : Text) (d : Data)
    (a : IsAdded ids rows ws id account payee amount recur) (p : IsPlain recur d) where
  small : nat_le (unsigned_abs amount) largest_number ≡ true
  small =
      let r = passed (new_schedule rows id) _ _ a.accepted in
      let l = passed (live_account rows account) _ _ r.2 in
      let y = passed (if_there (live_payee rows) payee) _ _ l.2 in
      let z = passed (an_amount amount) _ _ y.2 in
      was_so (nat_le (unsigned_abs amount) largest_number) (BadAmount amount) z.0 z.1

  back : read (conditions_text account payee amount recur) ≡ Some (array (new_conditions account payee amount d))
  back = conditions_back account payee amount recur d small p.is p.whole p.flat

  said_is : (days : Said) → recurrence_of recur ≡ Ok days → said_of d ≡ Ok days
  said_is days h = sym (ap said_in p.is) ∙ was_read (said_in (read recur)) days h

  after : (days : Said) (row : ScheduleRow) → row.rule ≡ Some (ids 0) → recurrence_of recur ≡ Ok days → (rs : Rows) → get rs.rules (ids 0) ≡ Some (rule_of_new (ids 0) (conditions_text account payee amount recur))
      → terms_of rs row ≡ Ok (given account payee amount days)
  after days row own h rs there =
      ap (λ o. or_bad RulePart (option_and_then (λ q. option_and_then (λ (r : RuleRow). if r.tombstone then None else Some r) (get rs.rules q)) o) rule_terms) own
      ∙ ap (λ o. or_bad RulePart (option_and_then (λ (r : RuleRow). if r.tombstone then None else Some r) o) rule_terms) there
      ∙ said_back (ids 0) account payee amount d days (conditions_text account payee amount recur) small (said_is days h) back

  says : (row : ScheduleRow) × (days : Said) × IsThere (with_writes ids rows ws) (own_id ids 4 id) row × (recurrence_of recur ≡ Ok days) × (terms_of (with_writes ids rows ws) row ≡ Ok (given account payee amount days))
  says =
      let done = (schedules_done ids rows ws).added id a.name account payee amount recur a.accepted a.new_rule a.new in
      let own = own_id ids 4 id in
      let row : ScheduleRow = new_row own (ids 0) a.name (date_of done.1) in (
        row,
        done.0,
        record { there = ap (λ (r : Rows). get r.schedules own) done.4 ∙ put_there rows.schedules own row; kept = refl },
        done.2,
        after done.0 row refl done.2 (with_writes ids rows ws) (ap (λ (r : Rows). get r.rules (ids 0)) done.4 ∙ put_there rows.rules (ids 0) _),
      )

  tests : (row : RuleRow) × (get (with_writes ids rows ws).rules (ids 0) ≡ Some row) × (read_rule (ids 0) row ≡ Ok (record { id = ids 0; stage = Plain; op = And; conditions = conditions_of account payee amount; actions = [] }))
  tests =
      let done = (schedules_done ids rows ws).added id a.name account payee amount recur a.accepted a.new_rule a.new in (
        rule_of_new (ids 0) (conditions_text account payee amount recur),
        ap (λ (r : Rows). get r.rules (ids 0)) done.4 ∙ put_there rows.rules (ids 0) _,
        tested_back (ids 0) account payee amount d done.0 (conditions_text account payee amount recur) small (said_is done.0 done.2) back,
      )

pub read_back : (ids : Ids) (rows : Rows) (ws : List Write) → SchedulesReadBack ids rows ws
read_back ids rows ws = record { says = says ids rows ws; tests = tests ids rows ws }
