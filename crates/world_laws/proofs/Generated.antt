-- The generated messages, worked out.
use Rattle.std.proofs.Common.{◌≡◌, ◌⊎◌, inl, inr, ℕ, ◌+◌, ◌-◌, ◌*◌, ◌%◌, ◌<◌, ◌≤◌, ◌==◌, Bool, true, false, pos, neg_ℤ, List, ◌++◌, Some, slice_get, codes, refl, sym, ap, ◌∙◌, arith}
use Rattle.std.specs.Prelude.{if◌then◌else◌}
use Rattle.std.specs.Fmt.{digits, decimal}
use Rattle.std.proofs.lemmas.Fmt.{decimal_digit}
use Rattle.std.proofs.lemmas.Bool.Decides.{nat_tests}
use Rattle.hybrid_clock.specs.Calendar.{day_from_month, day_from_year}
use Rattle.hybrid_clock.specs.Stamp.{head_text, stamp_text}
use Rattle.field_merge.specs.declared.message.Message.{Message}
use Rattle.generated_books.specs.Draws.{next, number_drawn, draw}
use Rattle.generated_books.specs.Generated.{row, day, amount, category, category_of, transaction, generated}
use Rattle.generated_books.specs.Numbers.{message_at, messages_at, count_of}
use Rattle.world_laws.specs.Generated.{written_out, IsDayOf2024, IsPay, IsExpense, second_of_2024, GeneratedAreWorkedOut}
use Rattle.world_laws.proofs.Rows.{in_row}

-- ---- transactions that were worked out

second_is : transaction 1 ≡ written_out (codes "t2") 20_241_201 (neg_ℤ (pos 9439)) (codes "c0")
unfolding next number_drawn draw transaction digits
second_is = refl

third_is : transaction 2 ≡ written_out (codes "t3") 20_240_910 (neg_ℤ (pos 8597)) (codes "c3")
unfolding next number_drawn draw transaction digits
third_is = refl

fourth_is : transaction 3 ≡ written_out (codes "t4") 20_241_113 (pos 91_244) (codes "pay")
unfolding next number_drawn draw transaction digits
fourth_is = refl

eleventh_is : transaction 10 ≡ written_out (codes "t11") 20_240_628 (neg_ℤ (pos 626)) (codes "c4")
unfolding next number_drawn draw transaction digits
eleventh_is = refl

-- ---- what each transaction is

dated_by : (a b : ℕ) → IsDayOf2024 (day a b)
dated_by a b = record { month = 1 + a % 12; place = 1 + b % 28; months = (omega arith, omega arith); places = (omega arith, omega arith); is = refl }

of_draws : (k a b c d : ℕ) → transaction k ≡ written_out (row (k + 1)) (day a b) (amount c d) (category_of c) → IsPay k ⊎ IsExpense k
of_draws k a b c d e = by (c % 11 == 10) refl
  where
    path : (t : Bool) → (c % 11 == 10) ≡ t → transaction k ≡ written_out (row (k + 1)) (day a b) (if t then pos (1 + d % 100_000) else neg_ℤ (pos (1 + d % 10_000))) (if t then codes "pay" else category (c % 11))
    path t is = e ∙ ap (λ (x : Bool). written_out (row (k + 1)) (day a b) (if x then pos (1 + d % 100_000) else neg_ℤ (pos (1 + d % 10_000))) (if x then codes "pay" else category (c % 11))) is

    by : (t : Bool) → (c % 11 == 10) ≡ t → IsPay k ⊎ IsExpense k
    by true is = inl (record { date = day a b; cents = 1 + d % 100_000; dated = dated_by a b; range = (omega arith, omega arith); is = path true is })
    by false is =
        let low : c % 11 < 10 = grind (arith, nat_tests) in
        let written : category (c % 11) ≡ codes "c" ++ decimal (c % 11) = ap (λ (t : List ℕ). codes "c" ++ t) (sym (decimal_digit (c % 11) low)) in
        inr (record {
          date = day a b;
          cents = 1 + d % 10_000;
          digit = c % 11;
          dated = dated_by a b;
          range = (omega arith, omega arith);
          digits = low;
          is = path false is ∙ ap (λ (t : List ℕ). written_out (row (k + 1)) (day a b) (neg_ℤ (pos (1 + d % 10_000))) t) written;
        })

each_is : (k : ℕ) → IsPay k ⊎ IsExpense k
unfolding transaction
each_is k = of_draws k (draw (4 * k + 1)) (draw (4 * k + 2)) (draw (4 * k + 3)) (draw (4 * k + 4)) refl

-- ---- what can be drawn

day_drawn : (date : ℕ) → IsDayOf2024 date → (a : ℕ) × (b : ℕ) × (a < 12) × (b < 28) × (day a b ≡ date)
day_drawn date h =
    let m = h.months in
    let p = h.places in
    let is = h.is in
    (h.month - 1, h.place - 1, omega (arith, m.0, m.1), omega (arith, p.0, p.1), omega (arith, m.0, m.1, p.0, p.1, is))

pay_drawn : (cents : ℕ) → 1 ≤ cents → cents ≤ 100_000 → (c : ℕ) × (d : ℕ) × (c < 11) × (d < 100_000) × (amount c d ≡ pos cents)
pay_drawn cents some few =
    let is : 1 + (cents - 1) % 100_000 ≡ cents = omega arith in
    (10, cents - 1, omega arith, omega arith, ap (λ (n : ℕ). pos n) is)

expense_drawn : (cents : ℕ) → 1 ≤ cents → cents ≤ 10_000 → (c : ℕ) × (d : ℕ) × (c < 11) × (d < 10_000) × (amount c d ≡ neg_ℤ (pos cents))
expense_drawn cents some few =
    let is : 1 + (cents - 1) % 10_000 ≡ cents = omega arith in
    (0, cents - 1, omega arith, omega arith, ap (λ (n : ℕ). neg_ℤ (pos n)) is)

-- ---- timestamps

stamp_is : (j : ℕ) (m : Message) → m ≡ message_at j → m.stamp ≡ second_of_2024 j
unfolding message_at
stamp_is j m is = ap (λ (x : Message). x.stamp) is

timed_is : ((n : ℕ) → generated n ≡ messages_at 0 (count_of n)) → (n j : ℕ) (m : Message) → slice_get (generated n) j ≡ Some m → m.stamp ≡ second_of_2024 j
timed_is numbered n j m is =
    let there : slice_get (messages_at 0 (count_of n)) j ≡ Some m = ap (λ (ms : List Message). slice_get ms j) (sym (numbered n)) ∙ is in
    let place : 0 + j ≡ j = omega arith in
    stamp_is j m (in_row message_at 0 (count_of n) j m there ∙ ap message_at place)

first_is : stamp_text (second_of_2024 0) ≡ codes "2024-01-01T00:00:00.000Z-0000-0000000000000gen"
unfolding day_from_month day_from_year head_text stamp_text
first_is = refl

pub worked_out : ((n : ℕ) → generated n ≡ messages_at 0 (count_of n)) → GeneratedAreWorkedOut
worked_out numbered = record {
  second = second_is;
  third = third_is;
  fourth = fourth_is;
  eleventh = eleventh_is;
  either = each_is;
  days = day_drawn;
  pays = pay_drawn;
  expenses = expense_drawn;
  timed = timed_is numbered;
  first = first_is;
}
