-- The days and the amounts of a statement are numbers that values hold.
use Rattle.std.proofs.Common.{◌≡◌, ℕ, zero, suc, ◌+◌, ◌-◌, ◌*◌, ◌^◌, ◌<◌, ◌≤◌, ℤ, pos, Bool, true, false, cond, List, [], ◌∷◌, Option, Some, None, Result, Ok, Err, refl, sym, subst, arith}
use Rattle.std.specs.Prelude.{◌&&◌, ◌==◌, nat_lt, neg_ℤ, unsigned_abs, length, unwrap_or, codes}
use Rattle.std.specs.Option.{option_map}
use Rattle.std.specs.List.{AllByRecursion}
use Rattle.std.proofs.lemmas.Bool.{and_parts, ltb-true, leb-true}
use Rattle.std.proofs.Math.Nat.{pow-suc}
use Rattle.field_values.specs.Value.{HoldsNumber}
use Rattle.finite_sums.specs.Maps.{Text}
use Rattle.book_rows.specs.Kinds.{is_day}
use Rattle.book_rows.specs.declared.fault.EditFault.{EditFault}
use Rattle.book_edits.proofs.Passing.{held}
use Rattle.book_edits.proofs.Valid.{day_is, inside, passed}
use Rattle.rule_engine.specs.Days.{is_digit, has_form, digits_number, day_of_text}
use Rattle.bank_import.specs.declared.entry.Entry.{Entry}
use Rattle.bank_import.specs.declared.entry.Columns.{Columns}
use Rattle.bank_import.specs.Statement.{fraction, cents_from, amount_of_text, column_of, columns_of, bad_from, bad_place, field, entry_of, entry_unless, read_record, read_records, read_under, read_rows, rows_in, statement, HasNumbers}
use Rattle.bank_import.proofs.Powers.{small_at}

none_some : {X P : Type 0} (x : X) → None ≡ Some x → P
none_some x h = absurd (clash h)
  where
    clash : None ≡ Some x → ⊥
    clash h = cc

some_is : {X : Type 0} (x y : X) → Some x ≡ Some y → x ≡ y
some_is x y h = cc

chosen : {X : Type 0} (b : Bool) (x : Option X) (n : X) → cond b x None ≡ Some n → (b ≡ true) × (x ≡ Some n)
chosen true x n h = (refl, h)
chosen false x n h = none_some n h

-- ---- amounts

digit_small : (b : ℕ) → is_digit b ≡ true → b - 48 ≤ 9
digit_small b h = let p = and_parts _ _ h in omega (arith, leb-true b 57 p.1)

fraction_small : (whole : ℕ) (bs : Text) (n : ℕ) → whole < 10_000_000_000_000 → fraction whole bs ≡ Some n → n < 1_000_000_000_000_000
fraction_small whole [] n small h = none_some n h
fraction_small whole (p ∷ []) n small h = none_some n h
fraction_small whole (p ∷ a ∷ []) n small h =
    let c = chosen ((p == 46) && is_digit a) (Some (whole * 100 + (a - 48) * 10)) n h in
    let d = digit_small a (and_parts _ _ c.0).1 in
    let e = some_is _ _ c.1 in
    omega (arith, d, e, small)
fraction_small whole (p ∷ a ∷ b ∷ []) n small h =
    let c = chosen ((p == 46) && is_digit a && is_digit b) (Some (whole * 100 + (a - 48) * 10 + (b - 48))) n h in
    let q = and_parts _ _ c.0 in
    let r = and_parts _ _ q.0 in
    let d = digit_small a r.1 in
    let f = digit_small b q.1 in
    let e = some_is _ _ c.1 in
    omega (arith, d, f, e, small)
fraction_small whole (p ∷ a ∷ b ∷ c ∷ cs) n small h = none_some n h

-- with one digit more
longer : (whole digits b : ℕ) → whole < 10 ^ digits → b ≤ 9 → whole * 10 + b < 10 ^ (digits + 1)
longer whole digits b small d =
    let one : digits + 1 ≡ suc digits = omega arith in
    let p : 10 ^ suc digits ≡ 10 ^ digits * 10 = pow-suc 10 digits in
    subst (λ (k : ℕ). whole * 10 + b < 10 ^ k) (sym one) (omega (arith, p, small, d))

cents_small : (bs : Text) (whole digits n : ℕ) → whole < 10 ^ digits → digits ≤ 13 → cents_from whole digits bs ≡ Some n → n < 1_000_000_000_000_000
cents_small [] whole digits n small few h = by (digits == 0) h
  where
    by : (b : Bool) → cond b None (Some (whole * 100)) ≡ Some n → n < 1_000_000_000_000_000
    by true k = none_some n k
    by false k = let e = some_is _ _ k in omega (arith, e, small_at digits whole few small)
cents_small (b ∷ bs) whole digits n small few h = by (λ less most k. cents_small bs (whole * 10 + (b - 48)) (digits + 1) n less most k) (is_digit b) refl h
  where
    behind : (z : Bool) → cond z None (fraction whole (b ∷ bs)) ≡ Some n → n < 1_000_000_000_000_000
    behind true k = none_some n k
    behind false k = fraction_small whole (b ∷ bs) n (small_at digits whole few small) k

    by : (whole * 10 + (b - 48) < 10 ^ (digits + 1) → digits + 1 ≤ 13 → cents_from (whole * 10 + (b - 48)) (digits + 1) bs ≡ Some n → n < 1_000_000_000_000_000)
        → (d : Bool) → is_digit b ≡ d → cond d (cond (nat_lt digits 13) (cents_from (whole * 10 + (b - 48)) (digits + 1) bs) None) (cond (digits == 0) None (fraction whole (b ∷ bs))) ≡ Some n → n < 1_000_000_000_000_000
    by again true d k =
        let c = chosen (nat_lt digits 13) (cents_from (whole * 10 + (b - 48)) (digits + 1) bs) n k in
        let more = ltb-true digits 13 c.0 in
        again (longer whole digits (b - 48) small (digit_small b d)) (omega (arith, more)) c.1
    by again false d k = behind (digits == 0) k

abs_neg : (n : ℕ) → unsigned_abs (neg_ℤ (pos n)) ≡ n
abs_neg zero = refl
abs_neg (suc n) = refl

one_small : 0 < 10 ^ 0
one_small = omega arith

-- the amount of a text, if it has one
amount_held : (t : Text) (z : ℤ) → amount_of_text t ≡ Some z → HoldsNumber z
unfolding amount_of_text
amount_held [] z h = none_some z h
amount_held (b ∷ bs) z h = by (b == 45) h
  where
    negative : (o : Option ℕ) → ((n : ℕ) → o ≡ Some n → n < 1_000_000_000_000_000) → option_map (λ n. neg_ℤ (pos n)) o ≡ Some z → HoldsNumber z
    negative None small k = none_some z k
    negative (Some n) small k = subst HoldsNumber (some_is _ _ k) (held (neg_ℤ (pos n)) (omega (arith, abs_neg n, small n refl)))

    positive : (o : Option ℕ) → ((n : ℕ) → o ≡ Some n → n < 1_000_000_000_000_000) → option_map (λ n. pos n) o ≡ Some z → HoldsNumber z
    positive None small k = none_some z k
    positive (Some n) small k =
        let small_one = small n refl in
        let same : unsigned_abs (pos n) ≡ n = refl in
        subst HoldsNumber (some_is _ _ k) (held (pos n) (omega (arith, same, small_one)))

    by : (c : Bool) → cond c (option_map (λ n. neg_ℤ (pos n)) (cents_from 0 0 bs)) (option_map (λ n. pos n) (cents_from 0 0 (b ∷ bs))) ≡ Some z → HoldsNumber z
    by true k = negative (cents_from 0 0 bs) (λ n e. cents_small bs 0 0 n one_small (omega arith) e) k
    by false k = positive (cents_from 0 0 (b ∷ bs)) (λ n e. cents_small (b ∷ bs) 0 0 n one_small (omega arith) e) k

-- ---- days

day_held : (t : Text) (d : ℕ) → day_of_text t ≡ Some d → HoldsNumber (pos d)
unfolding day_of_text
day_held t d h =
    let c = chosen (has_form t && is_day (digits_number t)) (Some (digits_number t)) d h in
    subst (λ (n : ℕ). HoldsNumber (pos n)) (some_is _ _ c.1) (day_is (digits_number t) (and_parts _ _ c.0).1)

-- ---- records

or_zero : (o : Option ℕ) → ((d : ℕ) → o ≡ Some d → HoldsNumber (pos d)) → HoldsNumber (pos (unwrap_or o 0))
or_zero None h = held (pos 0) (omega arith)
or_zero (Some d) h = h d refl

or_nothing : (o : Option ℤ) → ((z : ℤ) → o ≡ Some z → HoldsNumber z) → HoldsNumber (unwrap_or o (pos 0))
or_nothing None h = held (pos 0) (omega arith)
or_nothing (Some z) h = h z refl

entry_numbers : (c : Columns) (fs : List Text) → HasNumbers (entry_of c fs)
entry_numbers c fs = record {
  date = or_zero (day_of_text (field fs c.date)) (day_held (field fs c.date));
  amount = or_nothing (amount_of_text (field fs c.amount)) (amount_held (field fs c.amount));
}

fault_ok : {A P : Type 0} (f : EditFault) (a : A) → ◌≡◌ {A = Result A EditFault} (Err f) (Ok a) → P
fault_ok {A = A} f a h = absurd (clash h)
  where
    clash : ◌≡◌ {A = Result A EditFault} (Err f) (Ok a) → ⊥
    clash h = cc

record_numbers : (c : Columns) (width row : ℕ) (fs : List Text) (e : Entry) → read_record c width row fs ≡ Ok e → HasNumbers e
record_numbers c width row fs e h = by (length fs == width) h
  where
    unless : (o : Option ℕ) → entry_unless c row fs o ≡ Ok e → HasNumbers e
    unless None k = subst HasNumbers (inside _ _ k) (entry_numbers c fs)
    unless (Some at) k = fault_ok (bad_place row at) e k

    by : (b : Bool) → cond b (entry_unless c row fs (bad_from c 0 fs)) (Err (bad_place row (length fs))) ≡ Ok e → HasNumbers e
    by true k = unless (bad_from c 0 fs) k
    by false k = fault_ok (bad_place row (length fs)) e k

records_numbers : (rows : List (List Text)) (c : Columns) (width row : ℕ) (es : List Entry) → read_records c width row rows ≡ Ok es → AllByRecursion HasNumbers es
records_numbers [] c width row es h = subst (AllByRecursion HasNumbers) (inside _ _ h) tt
records_numbers (fs ∷ rows) c width row es h =
    let p = passed (read_record c width row fs) _ _ h in
    let q = passed (read_records c width (row + 1) rows) _ _ p.2 in
    subst (AllByRecursion HasNumbers) (inside _ _ q.2) (record_numbers c width row fs p.0 p.1, records_numbers rows c width (row + 1) q.0 q.1)

under_numbers : (header : List Text) (date amount : Option ℕ) (rows : List (List Text)) (es : List Entry) → read_under header date amount rows ≡ Ok es → AllByRecursion HasNumbers es
under_numbers header None amount rows es h = fault_ok (bad_place 0 (length header)) es h
under_numbers header (Some date) None rows es h = fault_ok (bad_place 0 (length header)) es h
under_numbers header (Some date) (Some amount) rows es h = records_numbers rows (columns_of header date amount) (length header) 1 es h

rows_numbers : (rows : List (List Text)) (es : List Entry) → read_rows rows ≡ Ok es → AllByRecursion HasNumbers es
rows_numbers [] es h = fault_ok (bad_place 0 0) es h
rows_numbers (header ∷ rows) es h = under_numbers header (column_of (codes "date") header) (column_of (codes "amount") header) rows es h

-- whatever the text says
pub statement_numbers : (text : Text) (es : List Entry) → statement text ≡ Ok es → AllByRecursion HasNumbers es
unfolding statement
statement_numbers text es h = rows_numbers (rows_in text) es h
