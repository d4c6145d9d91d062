-- The byte order of texts is the order of timestamps.
use Rattle.std.proofs.Common.{◌≡◌, ℕ, ◌+◌, ◌*◌, ◌/◌, ◌%◌, ◌<◌, ◌≤◌, ◌==◌, nat_lt, cond, List, ◌∷◌, arith, refl, sym, ◌∙◌, ap, subst, ◌⊎◌, inl, inr, pos}
use Rattle.std.proofs.Math.Nat.{mul-le-mul_left}
use Rattle.std.proofs.lemmas.Bool.{cases_order, lt-ltb, le-ltb, eq-eqb, ne_eqb, cond-true, cond-false}
use Rattle.std.proofs.lemmas.Bool.Decides.{nat_tests}
use Rattle.std.proofs.lemmas.Int.{ints}
use Rattle.std.specs.Ordering.{nat_cmp, ordering_then}
use Rattle.std.specs.Cmp.Lexicographic.{slice_cmp}
use Rattle.std.specs.declared.cmp.Ordering.{Ordering}
use Rattle.std.specs.declared.cmp.Ordering.TheVariants.{Less, Equal, Greater}
use Rattle.jiff_core.specs.Calendar.{day_count, IsCivilDate}
use Rattle.jiff_core.proofs.CalendarLemmas.{day_count-day, day_count-lt_year, day_count-lt_month}
use Rattle.hybrid_clock.specs.declared.stamp.Stamp.{Stamp}
use Rattle.hybrid_clock.specs.Calendar.{Day, day_of}
use Rattle.hybrid_clock.specs.Stamp.{IsStamp, stamp_text, head_text, window, two, three, four, hex, hex_digit}
use Rattle.hybrid_clock.specs.Order.{stamp_cmp}
use Rattle.hybrid_clock.proofs.Days.{IsAt, day_is, civil_date}

-- ---- comparisons of numbers

pub nat_cmp-lt : (x y : ℕ) → x < y → nat_cmp x y ≡ Less
nat_cmp-lt x y h = cond-true (nat_lt x y) Less (cond (x == y) Equal Greater) (lt-ltb x y h)

nat_cmp-same : (x : ℕ) → nat_cmp x x ≡ Equal
nat_cmp-same x = cond-false (nat_lt x x) Less (cond (x == x) Equal Greater) (le-ltb x x (omega arith)) ∙ cond-true (x == x) Equal Greater (eq-eqb x x refl)

pub nat_cmp-gt : (x y : ℕ) → y < x → nat_cmp x y ≡ Greater
nat_cmp-gt x y h = cond-false (nat_lt x y) Less (cond (x == y) Equal Greater) (le-ltb x y (omega arith)) ∙ cond-false (x == y) Equal Greater (ne_eqb x y (λ e. omega (arith, e)))

-- a function that keeps the order of some numbers keeps their comparison
kept : (f : ℕ → ℕ) (a b : ℕ) → (a < b → f a < f b) → (b < a → f b < f a) → nat_cmp (f a) (f b) ≡ nat_cmp a b
kept f a b up down = elim (cases_order a b) [
  | inl e ↦ (let P : ℕ → Type 0 = λ x. nat_cmp (f a) (f x) ≡ nat_cmp a x in subst P e (nat_cmp-same (f a) ∙ sym (nat_cmp-same a)))
  | inr o ↦ elim o [
    | inl h ↦ nat_cmp-lt (f a) (f b) (up h) ∙ sym (nat_cmp-lt a b h)
    | inr h ↦ nat_cmp-gt (f a) (f b) (down h) ∙ sym (nat_cmp-gt a b h)
  ]
]

digit_cmp : (a b : ℕ) → nat_cmp (48 + a) (48 + b) ≡ nat_cmp a b
digit_cmp a b = kept (λ x. 48 + x) a b (λ h. omega (arith, h)) (λ h. omega (arith, h))

hex_up : (a b : ℕ) → a < b → hex_digit a < hex_digit b
hex_up a b h = grind (arith, nat_tests)

hex_digit_cmp : (a b : ℕ) → nat_cmp (hex_digit a) (hex_digit b) ≡ nat_cmp a b
hex_digit_cmp a b = kept hex_digit a b (hex_up a b) (hex_up b a)

then_assoc : (a b c : Ordering) → ordering_then a (ordering_then b c) ≡ ordering_then (ordering_then a b) c
then_assoc Less b c = refl
then_assoc Equal b c = refl
then_assoc Greater b c = refl

under : (o : Ordering) {a b : Ordering} → a ≡ b → ordering_then o a ≡ ordering_then o b
under o e = ap (ordering_then o) e

-- a quotient and a remainder compare as the number does
parts_cmp : (k a r b s n m : ℕ) → r < k → s < k → n ≡ k * a + r → m ≡ k * b + s → ordering_then (nat_cmp a b) (nat_cmp r s) ≡ nat_cmp n m
parts_cmp k a r b s n m hr hs en em = elim (cases_order a b) [
  | inl e ↦ (let first : nat_cmp a b ≡ Equal = (let P : ℕ → Type 0 = λ x. nat_cmp a x ≡ Equal in subst P e (nat_cmp-same a)) in
      let same : k * a ≡ k * b = ap (λ x. k * x) e in
      rw first (elim (cases_order r s) [
        | inl f ↦ (let g : n ≡ m = omega (arith, same, f) in let P : ℕ → Type 0 = λ x. nat_cmp r s ≡ nat_cmp n x in
            subst P g ((let Q : ℕ → Type 0 = λ x. nat_cmp r x ≡ Equal in subst Q f (nat_cmp-same r)) ∙ sym (nat_cmp-same n)))
        | inr o ↦ elim o [
          | inl h ↦ nat_cmp-lt r s h ∙ sym (nat_cmp-lt n m (omega (arith, same, h)))
          | inr h ↦ nat_cmp-gt r s h ∙ sym (nat_cmp-gt n m (omega (arith, same, h)))
        ]
      ]))
  | inr o ↦ elim o [
    | inl h ↦ (let below : a + 1 ≤ b = omega (arith, h) in
        let first = nat_cmp-lt a b h in
        let far = mul-le-mul_left k below in
        rw first (sym (nat_cmp-lt n m (omega (arith, far)))))
    | inr h ↦ (let below : b + 1 ≤ a = omega (arith, h) in
        let first = nat_cmp-gt a b h in
        let far = mul-le-mul_left k below in
        rw first (sym (nat_cmp-gt n m (omega (arith, far)))))
  ]
]

step : (k a r b s n m : ℕ) (rest : Ordering) → r < k → s < k → n ≡ k * a + r → m ≡ k * b + s → ordering_then (nat_cmp a b) (ordering_then (nat_cmp r s) rest) ≡ ordering_then (nat_cmp n m) rest
step k a r b s n m rest hr hs en em = then_assoc (nat_cmp a b) (nat_cmp r s) rest ∙ ap (λ o. ordering_then o rest) (parts_cmp k a r b s n m hr hs en em)

-- ---- numbers and their digits

first : (a b : ℕ) (rest : Ordering) → ordering_then (nat_cmp (48 + a) (48 + b)) rest ≡ ordering_then (nat_cmp a b) rest
first a b rest = ap (λ o. ordering_then o rest) (digit_cmp a b)

next : (a r b s n m : ℕ) (rest : Ordering) → r < 10 → s < 10 → n ≡ 10 * a + r → m ≡ 10 * b + s → ordering_then (nat_cmp a b) (ordering_then (nat_cmp (48 + r) (48 + s)) rest) ≡ ordering_then (nat_cmp n m) rest
next a r b s n m rest hr hs en em = under (nat_cmp a b) (first r s rest) ∙ step 10 a r b s n m rest hr hs en em

two_cmp : (n m : ℕ) (xs ys : List ℕ) → slice_cmp nat_cmp (two n xs) (two m ys) ≡ ordering_then (nat_cmp n m) (slice_cmp nat_cmp xs ys)
two_cmp n m xs ys =
    first (n / 10) (m / 10) (ordering_then (nat_cmp (48 + n % 10) (48 + m % 10)) (slice_cmp nat_cmp xs ys))
    ∙ next (n / 10) (n % 10) (m / 10) (m % 10) n m (slice_cmp nat_cmp xs ys) (omega arith) (omega arith) (omega arith) (omega arith)

three_cmp : (n m : ℕ) (xs ys : List ℕ) → slice_cmp nat_cmp (three n xs) (three m ys) ≡ ordering_then (nat_cmp n m) (slice_cmp nat_cmp xs ys)
three_cmp n m xs ys =
    let last : Ordering = ordering_then (nat_cmp (48 + n % 10) (48 + m % 10)) (slice_cmp nat_cmp xs ys) in
    first (n / 100) (m / 100) (ordering_then (nat_cmp (48 + n / 10 % 10) (48 + m / 10 % 10)) last)
    ∙ next (n / 100) (n / 10 % 10) (m / 100) (m / 10 % 10) (n / 10) (m / 10) last (omega arith) (omega arith) (omega arith) (omega arith)
    ∙ next (n / 10) (n % 10) (m / 10) (m % 10) n m (slice_cmp nat_cmp xs ys) (omega arith) (omega arith) (omega arith) (omega arith)

four_cmp : (n m : ℕ) (xs ys : List ℕ) → slice_cmp nat_cmp (four n xs) (four m ys) ≡ ordering_then (nat_cmp n m) (slice_cmp nat_cmp xs ys)
four_cmp n m xs ys =
    let last : Ordering = ordering_then (nat_cmp (48 + n % 10) (48 + m % 10)) (slice_cmp nat_cmp xs ys) in
    let third : Ordering = ordering_then (nat_cmp (48 + n / 10 % 10) (48 + m / 10 % 10)) last in
    first (n / 1000) (m / 1000) (ordering_then (nat_cmp (48 + n / 100 % 10) (48 + m / 100 % 10)) third)
    ∙ next (n / 1000) (n / 100 % 10) (m / 1000) (m / 100 % 10) (n / 100) (m / 100) third (omega arith) (omega arith) (omega arith) (omega arith)
    ∙ next (n / 100) (n / 10 % 10) (m / 100) (m / 10 % 10) (n / 10) (m / 10) last (omega arith) (omega arith) (omega arith) (omega arith)
    ∙ next (n / 10) (n % 10) (m / 10) (m % 10) n m (slice_cmp nat_cmp xs ys) (omega arith) (omega arith) (omega arith) (omega arith)

first_hex : (a b : ℕ) (rest : Ordering) → ordering_then (nat_cmp (hex_digit a) (hex_digit b)) rest ≡ ordering_then (nat_cmp a b) rest
first_hex a b rest = ap (λ o. ordering_then o rest) (hex_digit_cmp a b)

next_hex : (a r b s n m : ℕ) (rest : Ordering) → r < 16 → s < 16 → n ≡ 16 * a + r → m ≡ 16 * b + s → ordering_then (nat_cmp a b) (ordering_then (nat_cmp (hex_digit r) (hex_digit s)) rest) ≡ ordering_then (nat_cmp n m) rest
next_hex a r b s n m rest hr hs en em = under (nat_cmp a b) (first_hex r s rest) ∙ step 16 a r b s n m rest hr hs en em

hex_cmp : (n m : ℕ) (xs ys : List ℕ) → slice_cmp nat_cmp (hex n xs) (hex m ys) ≡ ordering_then (nat_cmp n m) (slice_cmp nat_cmp xs ys)
hex_cmp n m xs ys =
    let last : Ordering = ordering_then (nat_cmp (hex_digit (n % 16)) (hex_digit (m % 16))) (slice_cmp nat_cmp xs ys) in
    let third : Ordering = ordering_then (nat_cmp (hex_digit (n / 16 % 16)) (hex_digit (m / 16 % 16))) last in
    first_hex (n / 4096) (m / 4096) (ordering_then (nat_cmp (hex_digit (n / 256 % 16)) (hex_digit (m / 256 % 16))) third)
    ∙ next_hex (n / 4096) (n / 256 % 16) (m / 4096) (m / 256 % 16) (n / 256) (m / 256) third (omega arith) (omega arith) (omega arith) (omega arith)
    ∙ next_hex (n / 256) (n / 16 % 16) (m / 256) (m / 16 % 16) (n / 16) (m / 16) last (omega arith) (omega arith) (omega arith) (omega arith)
    ∙ next_hex (n / 16) (n % 16) (m / 16) (m % 16) n m (slice_cmp nat_cmp xs ys) (omega arith) (omega arith) (omega arith) (omega arith)

-- ---- the parts of a text

record Parts : Type 0 where
  year : ℕ
  month : ℕ
  day : ℕ
  hour : ℕ
  minute : ℕ
  second : ℕ
  milli : ℕ
  counter : ℕ
  node : List ℕ

abbrev from_counter : Parts → List ℕ
from_counter p = hex p.counter (45 ∷ p.node)

abbrev from_milli : Parts → List ℕ
from_milli p = three p.milli (90 ∷ 45 ∷ from_counter p)

abbrev from_second : Parts → List ℕ
from_second p = two p.second (46 ∷ from_milli p)

abbrev from_minute : Parts → List ℕ
from_minute p = two p.minute (58 ∷ from_second p)

abbrev from_hour : Parts → List ℕ
from_hour p = two p.hour (58 ∷ from_minute p)

abbrev from_day : Parts → List ℕ
from_day p = two p.day (84 ∷ from_hour p)

abbrev from_month : Parts → List ℕ
from_month p = two p.month (45 ∷ from_day p)

abbrev from_year : Parts → List ℕ
from_year p = four p.year (45 ∷ from_month p)

abbrev cmp_counter : Parts → Parts → Ordering
cmp_counter p q = ordering_then (nat_cmp p.counter q.counter) (slice_cmp nat_cmp p.node q.node)

abbrev cmp_time : Parts → Parts → Ordering
cmp_time p q = ordering_then (nat_cmp p.hour q.hour) (ordering_then (nat_cmp p.minute q.minute) (ordering_then (nat_cmp p.second q.second) (ordering_then (nat_cmp p.milli q.milli) (cmp_counter p q))))

abbrev cmp_date : Parts → Parts → Ordering
cmp_date p q = ordering_then (nat_cmp p.year q.year) (ordering_then (nat_cmp p.month q.month) (ordering_then (nat_cmp p.day q.day) (cmp_time p q)))

counters : (p q : Parts) → slice_cmp nat_cmp (from_counter p) (from_counter q) ≡ cmp_counter p q
counters p q = hex_cmp p.counter q.counter (45 ∷ p.node) (45 ∷ q.node)

times : (p q : Parts) → slice_cmp nat_cmp (from_hour p) (from_hour q) ≡ cmp_time p q
times p q =
    two_cmp p.hour q.hour (58 ∷ from_minute p) (58 ∷ from_minute q)
    ∙ under (nat_cmp p.hour q.hour) (two_cmp p.minute q.minute (58 ∷ from_second p) (58 ∷ from_second q)
    ∙ under (nat_cmp p.minute q.minute) (two_cmp p.second q.second (46 ∷ from_milli p) (46 ∷ from_milli q)
    ∙ under (nat_cmp p.second q.second) (three_cmp p.milli q.milli (90 ∷ 45 ∷ from_counter p) (90 ∷ 45 ∷ from_counter q)
    ∙ under (nat_cmp p.milli q.milli) (counters p q))))

dates : (p q : Parts) → slice_cmp nat_cmp (from_year p) (from_year q) ≡ cmp_date p q
dates p q =
    four_cmp p.year q.year (45 ∷ from_month p) (45 ∷ from_month q)
    ∙ under (nat_cmp p.year q.year) (two_cmp p.month q.month (45 ∷ from_day p) (45 ∷ from_day q)
    ∙ under (nat_cmp p.month q.month) (two_cmp p.day q.day (84 ∷ from_hour p) (84 ∷ from_hour q)
    ∙ under (nat_cmp p.day q.day) (times p q)))

-- ---- days

abbrev IsEarlier : Day → Day → Type 0
IsEarlier a b = (a.year < b.year) ⊎ (((a.year ≡ b.year) × (a.month < b.month)) ⊎ ((a.year ≡ b.year) × (a.month ≡ b.month) × (a.day < b.day)))

abbrev day_cmp : Day → Day → Ordering → Ordering
day_cmp a b rest = ordering_then (nat_cmp a.year b.year) (ordering_then (nat_cmp a.month b.month) (ordering_then (nat_cmp a.day b.day) rest))

pub equal_cmp : (x y : ℕ) → x ≡ y → nat_cmp x y ≡ Equal
equal_cmp x y e = let P : ℕ → Type 0 = λ z. nat_cmp x z ≡ Equal in subst P e (nat_cmp-same x)

earlier_less : (a b : Day) (rest : Ordering) → IsEarlier a b → day_cmp a b rest ≡ Less
earlier_less a b rest h = elim h [
  | inl y ↦ (let e = nat_cmp-lt a.year b.year y in rw e refl)
  | inr o ↦ elim o [
    | inl p ↦ (let e = equal_cmp a.year b.year p.0 in let f = nat_cmp-lt a.month b.month p.1 in rw (e, f) refl)
    | inr p ↦ (let e = equal_cmp a.year b.year p.0 in let f = equal_cmp a.month b.month p.1 in let g = nat_cmp-lt a.day b.day p.2 in rw (e, f, g) refl)
  ]
]

later_greater : (a b : Day) (rest : Ordering) → IsEarlier b a → day_cmp a b rest ≡ Greater
later_greater a b rest h = elim h [
  | inl y ↦ (let e = nat_cmp-gt a.year b.year y in rw e refl)
  | inr o ↦ elim o [
    | inl p ↦ (let e = equal_cmp a.year b.year (sym p.0) in let f = nat_cmp-gt a.month b.month p.1 in rw (e, f) refl)
    | inr p ↦ (let e = equal_cmp a.year b.year (sym p.0) in let f = equal_cmp a.month b.month (sym p.1) in let g = nat_cmp-gt a.day b.day p.2 in rw (e, f, g) refl)
  ]
]

same_equal : (a : Day) (rest : Ordering) → day_cmp a a rest ≡ rest
same_equal a rest = let e = nat_cmp-same a.year in let f = nat_cmp-same a.month in let g = nat_cmp-same a.day in rw (e, f, g) refl

-- the day of a smaller number is earlier
earlier : (n m : ℕ) → n < 73_000 → m < 73_000 → n < m → IsEarlier (day_of n) (day_of m)
earlier n m hn hm h =
    let a = day_of n in
    let b = day_of m in
    let first = (day_is n hn).at in
    let second = (day_is m hm).at in
    let civil_a = civil_date n hn in
    let civil_b = civil_date m hm in
    elim (cases_order (day_of n).year (day_of m).year) [
      | inl y ↦ elim (cases_order (day_of n).month (day_of m).month) [
        | inl k ↦ inr (inr (y, k, same_month n m y k first second h))
        | inr o ↦ elim o [
          | inl lt ↦ inr (inl (y, lt))
          | inr gt ↦ absurd (months_back n m y civil_b first second gt h)
        ]
      ]
      | inr o ↦ elim o [
        | inl lt ↦ inl lt
        | inr gt ↦ absurd (omega (arith, first.count, second.count, h, day_count-lt_year (pos (day_of m).year) (day_of m).month (day_of m).day (pos (day_of n).year) (day_of n).month (day_of n).day civil_b first.first_day (omega (arith, ints, gt))))
      ]
    ]
  where
    same_month : (n m : ℕ) → (day_of n).year ≡ (day_of m).year → (day_of n).month ≡ (day_of m).month → IsAt (4_371_953 + n) (day_of n) → IsAt (4_371_953 + m) (day_of m) → n < m → (day_of n).day < (day_of m).day
    same_month n m y k p q h =
        let P : ℕ → ℕ → Type 0 = λ a b. day_count (pos a) b (day_of n).day ≡ 4_371_953 + n in
        let moved : day_count (pos (day_of m).year) (day_of m).month (day_of n).day ≡ 4_371_953 + n = subst (λ (b : ℕ). P (day_of m).year b) k (subst (λ (a : ℕ). P a (day_of n).month) y p.count) in
        let day = day_count-day (pos (day_of m).year) (day_of m).month (day_of n).day (day_of m).day p.first_day q.first_day in
        let there = q.count in
        omega (arith, moved, there, day)

    months_back : (n m : ℕ) → (day_of n).year ≡ (day_of m).year → IsCivilDate (pos (day_of m).year) (day_of m).month (day_of m).day → IsAt (4_371_953 + n) (day_of n) → IsAt (4_371_953 + m) (day_of m) → (day_of m).month < (day_of n).month → n < m → ⊥
    months_back n m y civil p q gt h =
        let P : ℕ → Type 0 = λ a. day_count (pos a) (day_of n).month (day_of n).day ≡ 4_371_953 + n in
        let moved : day_count (pos (day_of m).year) (day_of n).month (day_of n).day ≡ 4_371_953 + n = subst P y p.count in
        let there = q.count in
        let after = day_count-lt_month (pos (day_of m).year) (day_of m).month (day_of m).day (day_of n).month (day_of n).day civil p.first_day gt in
        omega (arith, moved, there, after)

days_cmp : (n m : ℕ) (rest : Ordering) → n < 73_000 → m < 73_000 → day_cmp (day_of n) (day_of m) rest ≡ ordering_then (nat_cmp n m) rest
days_cmp n m rest hn hm = elim (cases_order n m) [
  | inl e ↦ (let P : ℕ → Type 0 = λ k. day_cmp (day_of n) (day_of k) rest ≡ ordering_then (nat_cmp n k) rest in
      subst P e (same_equal (day_of n) rest ∙ (let s = nat_cmp-same n in rw s refl)))
  | inr o ↦ elim o [
    | inl h ↦ earlier_less (day_of n) (day_of m) rest (earlier n m hn hm h) ∙ (let s = nat_cmp-lt n m h in rw s refl)
    | inr h ↦ later_greater (day_of n) (day_of m) rest (earlier m n hm hn h) ∙ (let s = nat_cmp-gt n m h in rw s refl)
  ]
]

-- ---- timestamps

abbrev parts : Stamp → Parts
parts s = record {
  year = (day_of (s.millis / 86_400_000)).year;
  month = (day_of (s.millis / 86_400_000)).month;
  day = (day_of (s.millis / 86_400_000)).day;
  hour = s.millis % 86_400_000 / 3_600_000;
  minute = s.millis % 86_400_000 / 60_000 % 60;
  second = s.millis % 86_400_000 / 1000 % 60;
  milli = s.millis % 86_400_000 % 1000;
  counter = s.counter;
  node = s.node;
}

text_parts : (s : Stamp) → stamp_text s ≡ from_year (parts s)
unfolding stamp_text head_text
text_parts s = refl

clock_cmp : (n m : ℕ) (rest : Ordering) → ordering_then (nat_cmp (n / 3_600_000) (m / 3_600_000)) (ordering_then (nat_cmp (n / 60_000 % 60) (m / 60_000 % 60)) (ordering_then (nat_cmp (n / 1000 % 60) (m / 1000 % 60)) (ordering_then (nat_cmp (n % 1000) (m % 1000)) rest))) ≡ ordering_then (nat_cmp n m) rest
clock_cmp n m rest =
    let last : Ordering = ordering_then (nat_cmp (n % 1000) (m % 1000)) rest in
    let third : Ordering = ordering_then (nat_cmp (n / 1000 % 60) (m / 1000 % 60)) last in
    step 60 (n / 3_600_000) (n / 60_000 % 60) (m / 3_600_000) (m / 60_000 % 60) (n / 60_000) (m / 60_000) third (omega arith) (omega arith) (omega arith) (omega arith)
    ∙ step 60 (n / 60_000) (n / 1000 % 60) (m / 60_000) (m / 1000 % 60) (n / 1000) (m / 1000) last (omega arith) (omega arith) (omega arith) (omega arith)
    ∙ step 1000 (n / 1000) (n % 1000) (m / 1000) (m % 1000) n m rest (omega arith) (omega arith) (omega arith) (omega arith)

millis_cmp : (n m : ℕ) (rest : Ordering) → ordering_then (nat_cmp (n / 86_400_000) (m / 86_400_000)) (ordering_then (nat_cmp (n % 86_400_000) (m % 86_400_000)) rest) ≡ ordering_then (nat_cmp n m) rest
millis_cmp n m rest = step 86_400_000 (n / 86_400_000) (n % 86_400_000) (m / 86_400_000) (m % 86_400_000) n m rest (omega arith) (omega arith) (omega arith) (omega arith)

-- of any two in the window, whatever their nodes
pub order_within : (a b : Stamp) → a.millis < 60_000 * window → b.millis < 60_000 * window → slice_cmp nat_cmp (stamp_text a) (stamp_text b) ≡ stamp_cmp a b
order_within a b within_a within_b =
    let rest : Ordering = cmp_counter (parts a) (parts b) in
    (let e = text_parts a in let f = text_parts b in rw (e, f) (dates (parts a) (parts b)))
    ∙ days_cmp (a.millis / 86_400_000) (b.millis / 86_400_000) (cmp_time (parts a) (parts b)) (omega (arith, within_a)) (omega (arith, within_b))
    ∙ under (nat_cmp (a.millis / 86_400_000) (b.millis / 86_400_000)) (clock_cmp (a.millis % 86_400_000) (b.millis % 86_400_000) rest)
    ∙ millis_cmp a.millis b.millis rest

pub text_order : (a b : Stamp) → IsStamp a → IsStamp b → slice_cmp nat_cmp (stamp_text a) (stamp_text b) ≡ stamp_cmp a b
text_order a b ha hb = order_within a b ha.within hb.within
