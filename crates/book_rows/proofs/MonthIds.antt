-- The ids of rows that speak of a month name it.
use Rattle.std.proofs.Common.{◌≡◌, ℕ, ◌+◌, ◌-◌, ◌*◌, ◌/◌, ◌%◌, ◌<◌, ◌≤◌, true, false, cond, Some, None, suc, length, ap, ◌∙◌, arith, ltb}
use Rattle.std.proofs.lemmas.Bool.Decides.{nat_tests}
use Rattle.std.specs.Char.{is_ascii_digit}
use Rattle.finite_sums.specs.Maps.{Text}
use Rattle.book_rows.specs.Ids.{budget_id, month_id}
use Rattle.book_rows.specs.Months.{is_month, digit_of, two_at, four_at, behind, month_in, budget_month, month_row_month}

is_digit : (d : ℕ) → d < 10 → is_ascii_digit (48 + d) ≡ true
is_digit d h = grind (arith, nat_tests)

back : (d : ℕ) → 48 + d - 48 ≡ d
back d = omega arith

digit_back : (d : ℕ) → d < 10 → digit_of (48 + d) ≡ Some d
digit_back d h = ap (λ b. cond b (Some (48 + d - 48)) None) (is_digit d h) ∙ ap Some (back d)

both : (k a b : ℕ) → a < 10 → b < 10 → behind k (digit_of (48 + a)) (digit_of (48 + b)) ≡ Some (k * a + b)
both k a b h l = ap (λ o. behind k o (digit_of (48 + b))) (digit_back a h) ∙ ap (behind k (Some a)) (digit_back b l)

long : (n : ℕ) → ltb (suc (suc (suc (suc (suc (suc (suc n))))))) 7 ≡ false
long n = grind (arith, nat_tests)

abbrev high : ℕ → ℕ
high m = 10 * (m / 100 / 100 / 10 % 10) + m / 100 / 100 % 10

abbrev low : ℕ → ℕ
low m = 10 * (m / 100 / 10 % 10) + m / 100 % 10

abbrev last : ℕ → ℕ
last m = 10 * (m / 10 % 10) + m % 10

whole_number : (m : ℕ) → m < 1000000 → 100 * (100 * high m + low m) + last m ≡ m
whole_number m h = omega arith

-- the year of a month has four digits
year_small : (m : ℕ) → is_month m ≡ true → m / 100 ≤ 2199
year_small m h = grind (arith, nat_tests)

month_small : (m : ℕ) → is_month m ≡ true → m < 1000000
month_small m h = omega (arith, year_small m h)

-- the digits of a month, read
read_back : (m : ℕ) → is_month m ≡ true → month_in (Some (100 * (100 * high m + low m) + last m)) ≡ Some m
read_back m h = ap (λ n. cond (is_month n) (Some n) None) (whole_number m (month_small m h)) ∙ ap (λ b. cond b (Some m) None) h

pub budget_month_back : (c : Text) (m : ℕ) → is_month m ≡ true → budget_month (budget_id c m) ≡ Some m
unfolding budget_month
budget_month_back c m h =
    let years : four_at (budget_id c m) 0 ≡ Some (100 * high m + low m) =
    ap (λ o. behind 100 o (two_at (budget_id c m) 2)) (both 10 (m / 100 / 100 / 10 % 10) (m / 100 / 100 % 10) (omega arith) (omega arith))
    ∙ ap (behind 100 (Some (high m))) (both 10 (m / 100 / 10 % 10) (m / 100 % 10) (omega arith) (omega arith)) in
    let months : two_at (budget_id c m) 4 ≡ Some (last m) = both 10 (m / 10 % 10) (m % 10) (omega arith) (omega arith) in
    ap (λ b. cond b None (month_in (behind 100 (four_at (budget_id c m) 0) (two_at (budget_id c m) 4)))) (long (length c))
    ∙ ap (λ o. month_in (behind 100 o (two_at (budget_id c m) 4))) years
    ∙ ap (λ o. month_in (behind 100 (Some (100 * high m + low m)) o)) months
    ∙ read_back m h

pub month_row_month_back : (m : ℕ) → is_month m ≡ true → month_row_month (month_id m) ≡ Some m
unfolding month_row_month
month_row_month_back m h =
    let years : four_at (month_id m) 0 ≡ Some (100 * high m + low m) =
    ap (λ o. behind 100 o (two_at (month_id m) 2)) (both 10 (m / 100 / 100 / 10 % 10) (m / 100 / 100 % 10) (omega arith) (omega arith))
    ∙ ap (behind 100 (Some (high m))) (both 10 (m / 100 / 10 % 10) (m / 100 % 10) (omega arith) (omega arith)) in
    let months : two_at (month_id m) 5 ≡ Some (last m) = both 10 (m / 10 % 10) (m % 10) (omega arith) (omega arith) in
    ap (λ o. month_in (behind 100 o (two_at (month_id m) 5))) years
    ∙ ap (λ o. month_in (behind 100 (Some (100 * high m + low m)) o)) months
    ∙ read_back m h
