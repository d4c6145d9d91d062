-- Which texts write a day.
use Rattle.std.proofs.Common.{◌≡◌, ℕ, ◌+◌, ◌-◌, ◌*◌, ◌/◌, ◌%◌, ◌<◌, ◌≤◌, ◌==◌, pos, Bool, true, false, [], ◌∷◌, length, Option, Some, None, option_and_then, refl, sym, ap, ◌∙◌, subst, arith}
use Rattle.std.specs.Prelude.{◌&&◌, nat_le, slice_index, if◌then◌else◌}
use Rattle.std.proofs.lemmas.Bool.{and_parts, and_from, eqb-true, eq-eqb, leb-true, le-leb}
use Rattle.finite_sums.specs.Maps.{Text}
use Rattle.book_rows.specs.Kinds.{is_day}
use Rattle.book_rows.specs.Months.{digit_of, behind, two_at, four_at}
use Rattle.book_laws.specs.Books.{WritesDay}
use Rattle.book_laws.proofs.Reading.{writes_day, day_written, most_days}
use Rattle.rule_engine.specs.Days.{is_digit, has_form, digit as figure, digits_number, day_of_text}
use Rattle.schedules.specs.Months.{day_in}
use Rattle.schedules.specs.Reading.{digits_of_date, day_of_text as scheduled_day}
use Rattle.rule_laws.specs.DayTexts.{digit, date_text, DaysAreWritten}
use Rattle.rule_laws.proofs.Choices.{some_is, none_is, only, then_some}

-- ---- a text of the form

-- the form by its parts: ten characters, eight digits and two dashes
formed : (t : Text) → has_form t ≡ true → (length t ≡ 10) × (is_digit (slice_index t 0) ≡ true) × (is_digit (slice_index t 1) ≡ true) × (is_digit (slice_index t 2) ≡ true)
    × (is_digit (slice_index t 3) ≡ true) × (slice_index t 4 ≡ 45) × (is_digit (slice_index t 5) ≡ true) × (is_digit (slice_index t 6) ≡ true) × (slice_index t 7 ≡ 45)
    × (is_digit (slice_index t 8) ≡ true) × (is_digit (slice_index t 9) ≡ true)
unfolding has_form
formed t h =
    let j = and_parts _ (is_digit (slice_index t 9)) h in
    let i = and_parts _ (is_digit (slice_index t 8)) j.0 in
    let d = and_parts _ (slice_index t 7 == 45) i.0 in
    let g = and_parts _ (is_digit (slice_index t 6)) d.0 in
    let f = and_parts _ (is_digit (slice_index t 5)) g.0 in
    let e = and_parts _ (slice_index t 4 == 45) f.0 in
    let c = and_parts _ (is_digit (slice_index t 3)) e.0 in
    let b = and_parts _ (is_digit (slice_index t 2)) c.0 in
    let a = and_parts _ (is_digit (slice_index t 1)) b.0 in
    let z = and_parts (length t == 10) (is_digit (slice_index t 0)) a.0 in
    (eqb-true (length t) 10 z.0, z.1, a.1, b.1, c.1, eqb-true (slice_index t 4) 45 e.1, f.1, g.1, eqb-true (slice_index t 7) 45 d.1, i.1, j.1)

form_of : (t : Text) → length t ≡ 10 → is_digit (slice_index t 0) ≡ true → is_digit (slice_index t 1) ≡ true → is_digit (slice_index t 2) ≡ true → is_digit (slice_index t 3) ≡ true
    → slice_index t 4 ≡ 45 → is_digit (slice_index t 5) ≡ true → is_digit (slice_index t 6) ≡ true → slice_index t 7 ≡ 45 → is_digit (slice_index t 8) ≡ true → is_digit (slice_index t 9) ≡ true
    → has_form t ≡ true
unfolding has_form
form_of t l a b c d e f g h i j =
    and_from _ _ (and_from _ _ (and_from _ _ (and_from _ _ (and_from _ _ (and_from _ _ (and_from _ _ (and_from _ _ (and_from _ _ (and_from _ _
    (eq-eqb (length t) 10 l) a) b) c) d) (eq-eqb (slice_index t 4) 45 e)) f) g) (eq-eqb (slice_index t 7) 45 h)) i) j

-- a digit and its number
digit_within : (b : ℕ) → is_digit b ≡ true → (48 ≤ b) × (b ≤ 57)
digit_within b h = let p = and_parts (nat_le 48 b) (nat_le b 57) h in (leb-true 48 b p.0, leb-true b 57 p.1)

is_a_digit : (n : ℕ) → is_digit (digit n) ≡ true
is_a_digit n = and_from (nat_le 48 (digit n)) (nat_le (digit n) 57) (le-leb 48 (digit n) (omega arith)) (le-leb (digit n) 57 (omega arith))

-- the text of ten characters that are these
ten : (t : Text) → length t ≡ 10 → t ≡ slice_index t 0 ∷ slice_index t 1 ∷ slice_index t 2 ∷ slice_index t 3 ∷ slice_index t 4 ∷ slice_index t 5 ∷ slice_index t 6 ∷ slice_index t 7 ∷ slice_index t 8 ∷ slice_index t 9 ∷ []
ten (a ∷ b ∷ c ∷ d ∷ e ∷ f ∷ g ∷ h ∷ i ∷ j ∷ []) l = refl
ten [] l = cc
ten (a ∷ []) l = cc
ten (a ∷ b ∷ []) l = cc
ten (a ∷ b ∷ c ∷ []) l = cc
ten (a ∷ b ∷ c ∷ d ∷ []) l = cc
ten (a ∷ b ∷ c ∷ d ∷ e ∷ []) l = cc
ten (a ∷ b ∷ c ∷ d ∷ e ∷ f ∷ []) l = cc
ten (a ∷ b ∷ c ∷ d ∷ e ∷ f ∷ g ∷ []) l = cc
ten (a ∷ b ∷ c ∷ d ∷ e ∷ f ∷ g ∷ h ∷ []) l = cc
ten (a ∷ b ∷ c ∷ d ∷ e ∷ f ∷ g ∷ h ∷ i ∷ []) l = cc
ten (a ∷ b ∷ c ∷ d ∷ e ∷ f ∷ g ∷ h ∷ i ∷ j ∷ k ∷ more) l = absurd (omega (arith, l))

-- the characters of a year, and of a month or a place
year_figures : (a b c d y : ℕ) → 48 ≤ a → a ≤ 57 → 48 ≤ b → b ≤ 57 → 48 ≤ c → c ≤ 57 → 48 ≤ d → d ≤ 57 → y ≡ (a - 48) * 1000 + (b - 48) * 100 + (c - 48) * 10 + (d - 48)
    → (a ≡ digit (y / 1000)) × (b ≡ digit (y / 100)) × (c ≡ digit (y / 10)) × (d ≡ digit y)
year_figures a b c d y al ah bl bh cl ch dl dh e = (omega arith, omega arith, omega arith, omega arith)

two_figures : (a b n : ℕ) → 48 ≤ a → a ≤ 57 → 48 ≤ b → b ≤ 57 → n ≡ (a - 48) * 10 + (b - 48) → (a ≡ digit (n / 10)) × (b ≡ digit n)
two_figures a b n al ah bl bh e = (omega arith, omega arith)

-- the parts of a number YYYYMMDD
parts_are : (y m p z n o : ℕ) → m < 100 → p < 100 → n < 100 → o < 100 → y * 10_000 + m * 100 + p ≡ z * 10_000 + n * 100 + o → (y ≡ z) × (m ≡ n) × (p ≡ o)
parts_are y m p z n o a b c d e = (omega arith, omega arith, omega arith)

-- a number of two digits
two_below : {a b : ℕ} → 48 ≤ a → a ≤ 57 → 48 ≤ b → b ≤ 57 → (a - 48) * 10 + (b - 48) < 100
two_below al ah bl bh = omega arith

month_below : {n : ℕ} (w : WritesDay n) → w.month < 100
month_below w = let last = w.civil.1.1 in omega (arith, last)

place_below : {n : ℕ} (w : WritesDay n) → w.place < 100
place_below w = omega (arith, w.civil.2.1, most_days (pos w.year) w.month)

regrouped : (t : Text) → (figure t 0 * 1000 + figure t 1 * 100 + figure t 2 * 10 + figure t 3) * 10_000 + (figure t 5 * 10 + figure t 6) * 100 + (figure t 8 * 10 + figure t 9) ≡ digits_number t
unfolding digits_number
regrouped t = omega arith

all_ten : {a b c d e f g h i j p q r s u v w x y z : ℕ} → a ≡ p → b ≡ q → c ≡ r → d ≡ s → e ≡ u → f ≡ v → g ≡ w → h ≡ x → i ≡ y → j ≡ z
    → ◌≡◌ {A = Text} (a ∷ b ∷ c ∷ d ∷ e ∷ f ∷ g ∷ h ∷ i ∷ j ∷ []) (p ∷ q ∷ r ∷ s ∷ u ∷ v ∷ w ∷ x ∷ y ∷ z ∷ [])
all_ten a b c d e f g h i j = cc

day_so : (t : Text) (n : ℕ) → day_of_text t ≡ Some n → (w : WritesDay n) × (t ≡ date_text w.year w.month w.place)
unfolding day_of_text digits_number
day_so t n h =
    let c = only (has_form t && is_day (digits_number t)) (Some (digits_number t)) n h in
    let both = and_parts (has_form t) (is_day (digits_number t)) c.0 in
    let f = formed t both.0 in
    let is : digits_number t ≡ n = some_is (digits_number t) n c.1 in
    let w = writes_day n (subst (λ k. is_day k ≡ true) is both.1) in
    let a = digit_within (slice_index t 0) f.1 in
    let b = digit_within (slice_index t 1) f.2 in
    let d = digit_within (slice_index t 2) f.3 in
    let e = digit_within (slice_index t 3) f.4 in
    let g = digit_within (slice_index t 5) f.6 in
    let i = digit_within (slice_index t 6) f.7 in
    let j = digit_within (slice_index t 8) f.9 in
    let k = digit_within (slice_index t 9) f.10 in
    let y = figure t 0 * 1000 + figure t 1 * 100 + figure t 2 * 10 + figure t 3 in
    let m = figure t 5 * 10 + figure t 6 in
    let p = figure t 8 * 10 + figure t 9 in
    let same : y * 10_000 + m * 100 + p ≡ w.year * 10_000 + w.month * 100 + w.place = regrouped t ∙ is ∙ w.written in
    let ps = parts_are y m p w.year w.month w.place (two_below g.0 g.1 i.0 i.1) (two_below j.0 j.1 k.0 k.1) (month_below w) (place_below w) same in
    let ys = year_figures (slice_index t 0) (slice_index t 1) (slice_index t 2) (slice_index t 3) w.year a.0 a.1 b.0 b.1 d.0 d.1 e.0 e.1 (sym ps.0) in
    let ms = two_figures (slice_index t 5) (slice_index t 6) w.month g.0 g.1 i.0 i.1 (sym ps.1) in
    let qs = two_figures (slice_index t 8) (slice_index t 9) w.place j.0 j.1 k.0 k.1 (sym ps.2) in
    (w, ten t f.0 ∙ all_ten ys.0 ys.1 ys.2 ys.3 f.5 ms.0 ms.1 f.8 qs.0 qs.1)

figure_is : (n : ℕ) → digit n - 48 ≡ n % 10
figure_is n = omega arith

two : (n : ℕ) → n < 100 → n / 10 % 10 * 10 + n % 10 ≡ n
two n h = omega arith

four : (n : ℕ) → n ≤ 2199 → n / 1000 % 10 * 1000 + n / 100 % 10 * 100 + n / 10 % 10 * 10 + n % 10 ≡ n
four n h = omega arith

grouped : (a b c d e f g h y m p : ℕ) → a * 1000 + b * 100 + c * 10 + d ≡ y → e * 10 + f ≡ m → g * 10 + h ≡ p
    → a * 10_000_000 + b * 1_000_000 + c * 100_000 + d * 10_000 + e * 1_000 + f * 100 + g * 10 + h ≡ y * 10_000 + m * 100 + p
grouped a b c d e f g h y m p i j k = omega arith

number_of : (y m p : ℕ) → y ≤ 2199 → m < 100 → p < 100 → digits_number (date_text y m p) ≡ y * 10_000 + m * 100 + p
unfolding digits_number
number_of y m p a b c =
    rw (figure_is (y / 1000), figure_is (y / 100), figure_is (y / 10), figure_is y, figure_is (m / 10), figure_is m, figure_is (p / 10), figure_is p)
    (grouped (y / 1000 % 10) (y / 100 % 10) (y / 10 % 10) (y % 10) (m / 10 % 10) (m % 10) (p / 10 % 10) (p % 10) y m p (four y a) (two m b) (two p c))

so_day : (t : Text) (n : ℕ) (w : WritesDay n) → t ≡ date_text w.year w.month w.place → day_of_text t ≡ Some n
unfolding day_of_text
so_day t n w e =
    let y = w.year in
    let m = w.month in
    let p = w.place in
    let own = date_text y m p in
    let form : has_form own ≡ true =
    form_of own refl (is_a_digit (y / 1000)) (is_a_digit (y / 100)) (is_a_digit (y / 10)) (is_a_digit y) refl (is_a_digit (m / 10)) (is_a_digit m) refl (is_a_digit (p / 10)) (is_a_digit p) in
    let is : digits_number own ≡ n = number_of y m p w.to (month_below w) (place_below w) ∙ sym w.written in
    let day : is_day (digits_number own) ≡ true = ap is_day is ∙ day_written n w in
    ap day_of_text e ∙ ap (λ b. if b then Some (digits_number own) else None) (and_from (has_form own) (is_day (digits_number own)) form day) ∙ ap (λ k. Some k) is

-- ---- for schedules

-- the numbers of digits that are there, or aren't
two_so : (t : Text) (i n : ℕ) → two_at t i ≡ Some n → (is_digit (slice_index t i) ≡ true) × (is_digit (slice_index t (i + 1)) ≡ true) × (n ≡ 10 * (slice_index t i - 48) + (slice_index t (i + 1) - 48))
two_so t i n h = by (is_digit (slice_index t i)) (is_digit (slice_index t (i + 1))) refl refl h
  where
    by : (a b : Bool) → is_digit (slice_index t i) ≡ a → is_digit (slice_index t (i + 1)) ≡ b
        → behind 10 (if a then Some (slice_index t i - 48) else None) (if b then Some (slice_index t (i + 1) - 48) else None) ≡ Some n
        → (is_digit (slice_index t i) ≡ true) × (is_digit (slice_index t (i + 1)) ≡ true) × (n ≡ 10 * (slice_index t i - 48) + (slice_index t (i + 1) - 48))
    by true true e f h = (e, f, sym (some_is _ n h))
    by true false e f h = none_is n h
    by false b e f h = none_is n h

so_two : (t : Text) (i : ℕ) → is_digit (slice_index t i) ≡ true → is_digit (slice_index t (i + 1)) ≡ true → two_at t i ≡ Some (10 * (slice_index t i - 48) + (slice_index t (i + 1) - 48))
so_two t i e f =
    ap (λ b. behind 10 (if b then Some (slice_index t i - 48) else None) (digit_of (slice_index t (i + 1)))) e
    ∙ ap (λ b. behind 10 (Some (slice_index t i - 48)) (if b then Some (slice_index t (i + 1) - 48) else None)) f

behind_so : (k n : ℕ) (a b : Option ℕ) → behind k a b ≡ Some n → (x : ℕ) × (y : ℕ) × (a ≡ Some x) × (b ≡ Some y) × (n ≡ k * x + y)
behind_so k n None b h = none_is n h
behind_so k n (Some x) None h = none_is n h
behind_so k n (Some x) (Some y) h = (x, y, refl, refl, sym (some_is (k * x + y) n h))

date_so : (t : Text) (n : ℕ) → length t ≡ 10 → slice_index t 4 ≡ 45 → slice_index t 7 ≡ 45 → digits_of_date t ≡ Some n → (has_form t ≡ true) × (n ≡ digits_number t)
unfolding digits_number
date_so t n l d g h =
    let all = behind_so 100 n (behind 100 (four_at t 0) (two_at t 5)) (two_at t 8) h in
    let front = behind_so 100 all.0 (four_at t 0) (two_at t 5) all.2 in
    let year = behind_so 100 front.0 (two_at t 0) (two_at t 2) front.2 in
    let a = two_so t 0 year.0 year.2 in
    let b = two_so t 2 year.1 year.3 in
    let m = two_so t 5 front.1 front.3 in
    let p = two_so t 8 all.1 all.3 in
    let is : n ≡ figure t 0 * 10_000_000 + figure t 1 * 1_000_000 + figure t 2 * 100_000 + figure t 3 * 10_000 + figure t 5 * 1_000 + figure t 6 * 100 + figure t 8 * 10 + figure t 9 =
    omega (arith, all.4, front.4, year.4, a.2, b.2, m.2, p.2) in
    (form_of t l a.0 a.1 b.0 b.1 d m.0 m.1 g p.0 p.1, is)

so_date : (t : Text) → has_form t ≡ true → digits_of_date t ≡ Some (digits_number t)
unfolding digits_number
so_date t h =
    let f = formed t h in
    let y = so_two t 0 f.1 f.2 in
    let z = so_two t 2 f.3 f.4 in
    let m = so_two t 5 f.6 f.7 in
    let p = so_two t 8 f.9 f.10 in
    let same : 100 * (100 * (100 * (10 * figure t 0 + figure t 1) + (10 * figure t 2 + figure t 3)) + (10 * figure t 5 + figure t 6)) + (10 * figure t 8 + figure t 9)
    ≡ figure t 0 * 10_000_000 + figure t 1 * 1_000_000 + figure t 2 * 100_000 + figure t 3 * 10_000 + figure t 5 * 1_000 + figure t 6 * 100 + figure t 8 * 10 + figure t 9 = omega arith in
    ap (λ o. behind 100 (behind 100 (behind 100 o (two_at t 2)) (two_at t 5)) (two_at t 8)) y
    ∙ ap (λ o. behind 100 (behind 100 (behind 100 (Some (10 * figure t 0 + figure t 1)) o) (two_at t 5)) (two_at t 8)) z
    ∙ ap (λ o. behind 100 (behind 100 (Some (100 * (10 * figure t 0 + figure t 1) + (10 * figure t 2 + figure t 3))) o) (two_at t 8)) m
    ∙ ap (λ o. behind 100 (Some (100 * (100 * (10 * figure t 0 + figure t 1) + (10 * figure t 2 + figure t 3)) + (10 * figure t 5 + figure t 6))) o) p
    ∙ ap (λ k. Some k) same

scheduled_so : (t : Text) (d : ℕ) → scheduled_day t ≡ Some d → (n : ℕ) × (day_of_text t ≡ Some n) × (day_in n ≡ Some d)
unfolding scheduled_day day_of_text day_in
scheduled_so t d h =
    let a = only (length t == 10) _ d h in
    let b = only (slice_index t 4 == 45 && (slice_index t 7 == 45)) (option_and_then day_in (digits_of_date t)) d a.1 in
    let dashes = and_parts (slice_index t 4 == 45) (slice_index t 7 == 45) b.0 in
    let c = then_some day_in (digits_of_date t) d b.1 in
    let f = date_so t c.0 (eqb-true (length t) 10 a.0) (eqb-true (slice_index t 4) 45 dashes.0) (eqb-true (slice_index t 7) 45 dashes.1) c.1 in
    let e = only (is_day c.0) _ d c.2 in
    (c.0, ap (λ v. if v then Some (digits_number t) else None) (and_from (has_form t) (is_day (digits_number t)) f.0 (ap is_day (sym f.1) ∙ e.0)) ∙ ap (λ k. Some k) (sym f.1), c.2)

so_scheduled : (t : Text) (d n : ℕ) → day_of_text t ≡ Some n → day_in n ≡ Some d → scheduled_day t ≡ Some d
unfolding scheduled_day day_of_text
so_scheduled t d n h k =
    let c = only (has_form t && is_day (digits_number t)) (Some (digits_number t)) n h in
    let both = and_parts (has_form t) (is_day (digits_number t)) c.0 in
    let f = formed t both.0 in
    ap (λ v. if v then (if slice_index t 4 == 45 && (slice_index t 7 == 45) then option_and_then day_in (digits_of_date t) else None) else None) (eq-eqb (length t) 10 f.0)
    ∙ ap (λ v. if v then option_and_then day_in (digits_of_date t) else None) (and_from (slice_index t 4 == 45) (slice_index t 7 == 45) (eq-eqb (slice_index t 4) 45 f.5) (eq-eqb (slice_index t 7) 45 f.8))
    ∙ ap (option_and_then day_in) (so_date t both.0 ∙ c.1)
    ∙ k

pub days_written : DaysAreWritten
days_written = record {
  day = λ t n. (day_so t n, λ h. so_day t n h.0 h.1);
  scheduled = λ t d. (scheduled_so t d, λ h. so_scheduled t d h.0 h.1 h.2);
}
