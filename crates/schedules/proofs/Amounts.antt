-- The amount that conditions mean is one that a value holds.
use Rattle.std.proofs.Common.{◌≡◌, ◌/◌, Bool, true, false, Option, None, Some, Result, Ok, Err, refl, ap, subst, arith}
use lib.IntN.{ℤ, pos, negsuc, ◌+ℤ◌}
use Rattle.std.specs.Prelude.{int_le, neg_ℤ, ◌&&◌, if◌then◌else◌, option_and_then, option_map, unwrap_or, codes}
use Rattle.std.proofs.lemmas.Int.{ints}
use Rattle.std.proofs.lemmas.Bool.{and_parts}
use Rattle.serde_json.specs.Data.{Data, Items}
use Rattle.serde_json.specs.Find.{get, as_number, as_i64}
use Rattle.field_values.specs.Value.{HoldsNumber}
use Rattle.book_rows.specs.declared.rows.Rows.{Rows}
use Rattle.book_rows.specs.declared.rows.ScheduleRow.{ScheduleRow}
use Rattle.book_edits.proofs.Passing.{held}
use Rattle.book_rows.specs.declared.fault.RecurPart.{RecurPart}
use Rattle.book_rows.specs.declared.fault.RecurPart.TheVariants.{Rule}
use Rattle.schedules.specs.Reading.{or_bad, result_then}
use Rattle.schedules.specs.Conditions.{says, exact, amount_at, is_near_op, is_condition, is_action}
use Rattle.schedules.specs.declared.terms.About.TheVariants.{Date, Account, Amount}
use Rattle.schedules.specs.Terms.{Terms, op_of, value_of, words_of, half, middle, between, amount_meant, amount_in, days_meant, first_where, fits, terms_in, entries_of, rule_terms, live_rule, terms_of}

zero_holds : HoldsNumber (pos 0)
zero_holds = held (pos 0) (omega arith)

-- a number, where one is told, is one that a value holds
abbrev Holds : Option ℤ → Type 0
Holds None = Unit {0}
Holds (Some z) = HoldsNumber z

exact_holds : (z : ℤ) → Holds (exact z)
exact_holds z = by (int_le (neg_ℤ (pos 9_007_199_254_740_991)) z && int_le z (pos 9_007_199_254_740_991)) refl
  where
    by : (b : Bool) → (int_le (neg_ℤ (pos 9_007_199_254_740_991)) z && int_le z (pos 9_007_199_254_740_991)) ≡ b → Holds (if b then Some z else None)
    by false e = tt
    by true e = let a = and_parts (int_le (neg_ℤ (pos 9_007_199_254_740_991)) z) (int_le z (pos 9_007_199_254_740_991)) e in record { low = grind (arith, ints, a.0); high = grind (arith, ints, a.1) }

some_holds : (o : Option ℤ) → Holds (option_and_then exact o)
some_holds None = tt
some_holds (Some z) = exact_holds z

at_holds : (v : Option Data) → Holds (amount_at v)
at_holds v = some_holds (option_and_then as_i64 (option_and_then as_number v))

or_zero : (o : Option ℤ) → Holds o → HoldsNumber (unwrap_or o (pos 0))
or_zero None h = zero_holds
or_zero (Some z) h = h

half_holds : (a b : ℤ) → HoldsNumber a → HoldsNumber b → HoldsNumber (half (a +ℤ b +ℤ pos 1))
half_holds a b h k = by (a +ℤ b +ℤ pos 1) refl
  where
    by : (z : ℤ) → a +ℤ b +ℤ pos 1 ≡ z → HoldsNumber (half z)
    by (pos n) e = let p = h.high in let q = k.high in held (pos (n / 2)) (omega (arith, ints, e, p, q))
    by (negsuc n) e = let p = h.low in let q = k.low in held (negsuc (n / 2)) (omega (arith, ints, e, p, q))

middle_holds : (a b : Option ℤ) → Holds a → Holds b → HoldsNumber (middle a b)
middle_holds None None h k = zero_holds
middle_holds None (Some b) h k = zero_holds
middle_holds (Some a) None h k = zero_holds
middle_holds (Some a) (Some b) h k = half_holds a b h k

meant_holds : (d : Data) → HoldsNumber (amount_meant d)
meant_holds d = by (is_near_op (op_of d)) (says (op_of d) (codes "isbetween"))
  where
    by : (n b : Bool) → HoldsNumber (if n then unwrap_or (amount_at (value_of d)) (pos 0) else (if b then between (value_of d) else pos 0))
    by true b = or_zero (amount_at (value_of d)) (at_holds (value_of d))
    by false true = middle_holds (amount_at (option_and_then (get (codes "num1")) (value_of d))) (amount_at (option_and_then (get (codes "num2")) (value_of d))) (at_holds (option_and_then (get (codes "num1")) (value_of d))) (at_holds (option_and_then (get (codes "num2")) (value_of d)))
    by false false = zero_holds

pub amount_holds : (ds : Items) → HoldsNumber (amount_in ds)
amount_holds ds = by (first_where (fits Amount) ds)
  where
    by : (o : Option Data) → HoldsNumber (unwrap_or (option_map amount_meant o) (pos 0))
    by None = zero_holds
    by (Some d) = meant_holds d

-- ---- what a chain of readings that succeeds tells

bad_passed : {A B : Type 0} (part : RecurPart) (o : Option A) (next : A → Result B RecurPart) (b : B) → or_bad part o next ≡ Ok b → (a : A) × (next a ≡ Ok b)
bad_passed part None next b h = cc
bad_passed part (Some a) next b h = (a, h)

then_passed : {A B : Type 0} (r : Result A RecurPart) (next : A → Result B RecurPart) (b : B) → result_then r next ≡ Ok b → (a : A) × (next a ≡ Ok b)
then_passed (Ok a) next b h = (a, h)
then_passed (Err part) next b h = cc

abbrev amount_or : Result Terms RecurPart → ℤ → ℤ
amount_or (Ok t) z = t.amount
amount_or (Err part) z = z

in_holds : (ds : Items) (t : Terms) → terms_in ds ≡ Ok t → HoldsNumber t.amount
unfolding terms_in
in_holds ds t h =
    let date = bad_passed Rule (first_where (fits Date) ds) _ t h in
    let account = bad_passed Rule (option_and_then words_of (first_where (fits Account) ds)) _ t date.1 in
    let days = then_passed (days_meant (value_of date.0)) _ t account.1 in
    subst HoldsNumber (ap (λ r. amount_or r (pos 0)) days.1) (amount_holds ds)

pub terms_hold : (rows : Rows) (t : Terms) (row : ScheduleRow) → terms_of rows row ≡ Ok t → HoldsNumber t.amount
terms_hold rows t row h =
    let rule = bad_passed Rule (option_and_then (live_rule rows) row.rule) rule_terms t h in
    let ds = bad_passed Rule (entries_of is_condition rule.0.conditions) _ t rule.1 in
    let actions = bad_passed Rule (entries_of is_action rule.0.actions) _ t ds.1 in
    in_holds ds.0 t actions.1
