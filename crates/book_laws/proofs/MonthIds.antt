-- Which months rows have.
use Rattle.std.proofs.Common.{◌≡◌, ℕ, ◌+◌, ◌-◌, ◌*◌, ◌/◌, ◌%◌, ◌<◌, Bool, true, false, cond, [], ◌∷◌, ◌++◌, length, Option, Some, None, refl, sym, ap, ◌∙◌, arith}
use Rattle.std.specs.Prelude.{◌==◌, nat_lt, nat_le}
use Rattle.std.specs.Char.{is_ascii_digit}
use Rattle.std.specs.Option.{option_map}
use Rattle.std.proofs.lemmas.Bool.{and_parts, and_from, leb-true, le-leb, eqb-true, le-ltb}
use Rattle.finite_sums.specs.Maps.{Text}
use Rattle.book_rows.specs.Ids.{two_digits, four_digits, budget_id, month_id}
use Rattle.book_rows.specs.Months.{is_month, digit_of, behind, month_in, budget_month, month_row_month}
use Rattle.book_laws.specs.Books.{MonthsAreNamed}
use Rattle.book_laws.proofs.Reading.{writes_month, month_written}

-- ---- by the day

month_is : (o : Option ℕ) (m : ℕ) → option_map (λ day. day / 100) o ≡ Some m → (place : ℕ) × (place < 100) × (o ≡ Some (m * 100 + place))
month_is None m h = cc
month_is (Some d) m h =
    let e : d / 100 ≡ m = cc in
    let whole : d ≡ m * 100 + d % 100 = omega (arith, e) in
    (d % 100, omega arith, ap Some whole)

is_its_month : (o : Option ℕ) (m place : ℕ) → place < 100 → o ≡ Some (m * 100 + place) → option_map (λ day. day / 100) o ≡ Some m
is_its_month o m place h e = let f : (m * 100 + place) / 100 ≡ m = omega arith in ap (option_map (λ day. day / 100)) e ∙ ap Some f

-- ---- digits

-- a byte writes a number below ten
pub record IsDigit (b n : ℕ) : Type 0 where
  pub byte : b ≡ 48 + n
  pub small : n < 10

digit_by : (b n : ℕ) (t : Bool) → is_ascii_digit b ≡ t → cond t (Some (b - 48)) None ≡ Some n → IsDigit b n
digit_by b n true e h =
    let p = and_parts (nat_le 48 b) (nat_le b 57) e in
    let low = leb-true 48 b p.0 in
    let high = leb-true b 57 p.1 in
    let is : b - 48 ≡ n = cc in
    record { byte = omega arith; small = omega arith }
digit_by b n false e h = cc

digit_so : (b n : ℕ) → digit_of b ≡ Some n → IsDigit b n
digit_so b n h = digit_by b n (is_ascii_digit b) refl h

so_digit : (n : ℕ) → n < 10 → digit_of (48 + n) ≡ Some n
so_digit n h =
    let t : is_ascii_digit (48 + n) ≡ true = and_from _ _ (le-leb 48 (48 + n) (omega arith)) (le-leb (48 + n) 57 (omega arith)) in
    let back : 48 + n - 48 ≡ n = omega arith in
    ap (λ b. cond b (Some (48 + n - 48)) None) t ∙ ap Some back

-- the parts of a number that stands behind another
behind_so : (k : ℕ) (a b : Option ℕ) (n : ℕ) → behind k a b ≡ Some n → (x : ℕ) × (y : ℕ) × (a ≡ Some x) × (b ≡ Some y) × (k * x + y ≡ n)
behind_so k None b n h = cc
behind_so k (Some x) None n h = cc
behind_so k (Some x) (Some y) n h = (x, y, refl, refl, (let e : k * x + y ≡ n = cc in e))

-- two bytes write a number
pub record AreTwo (a b n : ℕ) : Type 0 where
  pub first : a ≡ 48 + n / 10 % 10
  pub second : b ≡ 48 + n % 10
  pub small : n < 100

two_so : (a b n : ℕ) → behind 10 (digit_of a) (digit_of b) ≡ Some n → AreTwo a b n
two_so a b n h =
    let p = behind_so 10 (digit_of a) (digit_of b) n h in
    let x = digit_so a p.0 p.2 in
    let y = digit_so b p.1 p.3 in
    let whole = p.4 in
    record { first = omega (arith, x.byte, x.small, y.small, whole); second = omega (arith, y.byte, x.small, y.small, whole); small = omega (arith, x.small, y.small, whole) }

so_two : (n : ℕ) → n < 100 → behind 10 (digit_of (48 + n / 10 % 10)) (digit_of (48 + n % 10)) ≡ Some n
so_two n h =
    let a = so_digit (n / 10 % 10) (omega arith) in
    let b = so_digit (n % 10) (omega arith) in
    let whole : 10 * (n / 10 % 10) + n % 10 ≡ n = omega arith in
    ap (λ o. behind 10 o (digit_of (48 + n % 10))) a ∙ ap (behind 10 (Some (n / 10 % 10))) b ∙ ap Some whole

-- a month, of its six digits
month_by : (n m : ℕ) (b : Bool) → is_month n ≡ b → cond b (Some n) None ≡ Some m → (n ≡ m) × (is_month m ≡ true)
month_by n m true e h = let s : n ≡ m = cc in (s, sym (ap is_month s) ∙ e)
month_by n m false e h = cc

-- six bytes write a month
pub record AreSix (a b c d e f m : ℕ) : Type 0 where
  pub month : is_month m ≡ true
  pub year : a ∷ b ∷ c ∷ d ∷ [] ≡ four_digits (m / 100)
  pub last : e ∷ f ∷ [] ≡ two_digits m

abbrev six : ℕ → ℕ → ℕ → ℕ → ℕ → ℕ → Option ℕ
six a b c d e f = month_in (behind 100 (behind 100 (behind 10 (digit_of a) (digit_of b)) (behind 10 (digit_of c) (digit_of d))) (behind 10 (digit_of e) (digit_of f)))

in_so : (o : Option ℕ) (m : ℕ) → month_in o ≡ Some m → (n : ℕ) × (o ≡ Some n) × (n ≡ m) × (is_month m ≡ true)
in_so None m h = cc
in_so (Some n) m h = let p = month_by n m (is_month n) refl h in (n, refl, p.0, p.1)

pair_is : (a b c d : ℕ) → a ≡ c → b ≡ d → a ∷ b ∷ [] ≡ c ∷ d ∷ []
pair_is a b c d p q = cc

four_are : (a b c d e f g h : ℕ) → a ≡ e → b ≡ f → c ≡ g → d ≡ h → a ∷ b ∷ c ∷ d ∷ [] ≡ e ∷ f ∷ g ∷ h ∷ []
four_are a b c d e f g h p q r s = cc

low_tens : (u v y : ℕ) → 100 * u + v ≡ y → v < 100 → v / 10 % 10 ≡ y / 10 % 10
low_tens u v y e h = omega arith

low_ones : (u v y : ℕ) → 100 * u + v ≡ y → v < 100 → v % 10 ≡ y % 10
low_ones u v y e h = omega arith

high_part : (u v y : ℕ) → 100 * u + v ≡ y → v < 100 → u ≡ y / 100
high_part u v y e h = omega arith

six_so : (a b c d e f m : ℕ) → six a b c d e f ≡ Some m → AreSix a b c d e f m
six_so a b c d e f m h =
    let i = in_so _ m h in
    let top = behind_so 100 (behind 100 (behind 10 (digit_of a) (digit_of b)) (behind 10 (digit_of c) (digit_of d))) (behind 10 (digit_of e) (digit_of f)) i.0 i.1 in
    let years = behind_so 100 (behind 10 (digit_of a) (digit_of b)) (behind 10 (digit_of c) (digit_of d)) top.0 top.2 in
    let u = two_so a b years.0 years.2 in
    let v = two_so c d years.1 years.3 in
    let w = two_so e f top.1 top.3 in
    let whole : 100 * top.0 + top.1 ≡ m = top.4 ∙ i.2 in
    let year : top.0 ≡ m / 100 = high_part top.0 top.1 m whole w.small in
    let within : 100 * years.0 + years.1 ≡ m / 100 = years.4 ∙ year in
    let century : years.0 ≡ m / 100 / 100 = high_part years.0 years.1 (m / 100) within v.small in
    record {
      month = i.3;
      year = four_are a b c d _ _ _ _
          (u.first ∙ ap (λ n. 48 + n / 10 % 10) century) (u.second ∙ ap (λ n. 48 + n % 10) century)
          (v.first ∙ ap (λ n. 48 + n) (low_tens years.0 years.1 (m / 100) within v.small)) (v.second ∙ ap (λ n. 48 + n) (low_ones years.0 years.1 (m / 100) within v.small));
      last = pair_is e f _ _ (w.first ∙ ap (λ n. 48 + n) (low_tens top.0 top.1 m whole w.small)) (w.second ∙ ap (λ n. 48 + n) (low_ones top.0 top.1 m whole w.small));
    }

-- the two last digits of a number write what is left of it by a hundred
last_two : (n : ℕ) → behind 10 (digit_of (48 + n / 10 % 10)) (digit_of (48 + n % 10)) ≡ Some (n % 100)
last_two n =
    let a = so_digit (n / 10 % 10) (omega arith) in
    let b = so_digit (n % 10) (omega arith) in
    let whole : 10 * (n / 10 % 10) + n % 10 ≡ n % 100 = omega arith in
    ap (λ o. behind 10 o (digit_of (48 + n % 10))) a ∙ ap (behind 10 (Some (n / 10 % 10))) b ∙ ap Some whole

so_six : (m : ℕ) → is_month m ≡ true
    → six (48 + m / 100 / 100 / 10 % 10) (48 + m / 100 / 100 % 10) (48 + m / 100 / 10 % 10) (48 + m / 100 % 10) (48 + m / 10 % 10) (48 + m % 10) ≡ Some m
so_six m h =
    let w = writes_month m h in
    let year : 100 * (m / 100 / 100 % 100) + m / 100 % 100 ≡ m / 100 = omega (arith, w.written, w.to, w.last) in
    let whole : 100 * (m / 100) + m % 100 ≡ m = omega arith in
    let years : behind 100 (behind 10 (digit_of (48 + m / 100 / 100 / 10 % 10)) (digit_of (48 + m / 100 / 100 % 10))) (behind 10 (digit_of (48 + m / 100 / 10 % 10)) (digit_of (48 + m / 100 % 10))) ≡ Some (m / 100) =
    ap (λ o. behind 100 o (behind 10 (digit_of (48 + m / 100 / 10 % 10)) (digit_of (48 + m / 100 % 10)))) (last_two (m / 100 / 100))
    ∙ ap (behind 100 (Some (m / 100 / 100 % 100))) (last_two (m / 100)) ∙ ap Some year in
    ap (λ o. month_in (behind 100 o (behind 10 (digit_of (48 + m / 10 % 10)) (digit_of (48 + m % 10))))) years
    ∙ ap (λ o. month_in (behind 100 (Some (m / 100)) o)) (last_two m)
    ∙ ap (λ n. month_in (Some n)) whole
    ∙ ap (λ b. cond b (Some m) None) h

-- ---- the ids of budget rows

-- at least seven bytes
budget_parts : (a b c d e f g m : ℕ) (rest : Text) (t : Bool) → (g == 45) ≡ t → cond t (six a b c d e f) None ≡ Some m → (is_month m ≡ true) × (a ∷ b ∷ c ∷ d ∷ e ∷ f ∷ g ∷ rest ≡ budget_id rest m)
budget_parts a b c d e f g m rest true k h =
    let s = six_so a b c d e f m h in
    let dash : g ≡ 45 = eqb-true g 45 k in
    (s.month, ap (λ n. a ∷ b ∷ c ∷ d ∷ e ∷ f ∷ n ∷ rest) dash ∙ ap (λ (xs : Text). a ∷ b ∷ c ∷ d ∷ (xs ++ 45 ∷ rest)) s.last ∙ ap (λ (xs : Text). xs ++ two_digits m ++ 45 ∷ rest) s.year)
budget_parts a b c d e f g m rest false k h = cc

budget_long : (a b c d e f g m : ℕ) (rest : Text) (t : Bool) → cond t None (cond (g == 45) (six a b c d e f) None) ≡ Some m → (is_month m ≡ true) × (a ∷ b ∷ c ∷ d ∷ e ∷ f ∷ g ∷ rest ≡ budget_id rest m)
budget_long a b c d e f g m rest true h = cc
budget_long a b c d e f g m rest false h = budget_parts a b c d e f g m rest (g == 45) refl h

budget_so : (id : Text) (m : ℕ) → budget_month id ≡ Some m → (is_month m ≡ true) × ((category : Text) × (id ≡ budget_id category m))
unfolding budget_month
budget_so [] m h = cc
budget_so (a ∷ []) m h = cc
budget_so (a ∷ b ∷ []) m h = cc
budget_so (a ∷ b ∷ c ∷ []) m h = cc
budget_so (a ∷ b ∷ c ∷ d ∷ []) m h = cc
budget_so (a ∷ b ∷ c ∷ d ∷ e ∷ []) m h = cc
budget_so (a ∷ b ∷ c ∷ d ∷ e ∷ f ∷ []) m h = cc
budget_so (a ∷ b ∷ c ∷ d ∷ e ∷ f ∷ g ∷ rest) m h =
    let p = budget_long a b c d e f g m rest (nat_lt (length (a ∷ b ∷ c ∷ d ∷ e ∷ f ∷ g ∷ rest)) 7) h in
    (p.0, (rest, p.1))

so_budget : (category : Text) (m : ℕ) → is_month m ≡ true → budget_month (budget_id category m) ≡ Some m
unfolding budget_month
so_budget category m h =
    let long : nat_lt (length (budget_id category m)) 7 ≡ false = le-ltb (length (budget_id category m)) 7 (omega arith) in
    ap (λ b. cond b None (six (48 + m / 100 / 100 / 10 % 10) (48 + m / 100 / 100 % 10) (48 + m / 100 / 10 % 10) (48 + m / 100 % 10) (48 + m / 10 % 10) (48 + m % 10))) long ∙ so_six m h

-- ---- the ids of month rows

held_parts : (a b c d e f g m : ℕ) (t : Bool) → (e == 45) ≡ t → cond t (six a b c d f g) None ≡ Some m → (is_month m ≡ true) × (a ∷ b ∷ c ∷ d ∷ e ∷ f ∷ g ∷ [] ≡ month_id m)
held_parts a b c d e f g m true k h =
    let s = six_so a b c d f g m h in
    let dash : e ≡ 45 = eqb-true e 45 k in
    (s.month, ap (λ n. a ∷ b ∷ c ∷ d ∷ n ∷ f ∷ g ∷ []) dash ∙ ap (λ (xs : Text). a ∷ b ∷ c ∷ d ∷ 45 ∷ xs) s.last ∙ ap (λ (xs : Text). xs ++ 45 ∷ two_digits m) s.year)
held_parts a b c d e f g m false k h = cc

held_so : (id : Text) (m : ℕ) → month_row_month id ≡ Some m → (is_month m ≡ true) × (id ≡ month_id m)
unfolding month_row_month
held_so [] m h = cc
held_so (a ∷ []) m h = cc
held_so (a ∷ b ∷ []) m h = cc
held_so (a ∷ b ∷ c ∷ []) m h = cc
held_so (a ∷ b ∷ c ∷ d ∷ []) m h = cc
held_so (a ∷ b ∷ c ∷ d ∷ e ∷ []) m h = cc
held_so (a ∷ b ∷ c ∷ d ∷ e ∷ f ∷ []) m h = cc
held_so (a ∷ b ∷ c ∷ d ∷ e ∷ f ∷ g ∷ []) m h = held_parts a b c d e f g m (e == 45) refl h
held_so (a ∷ b ∷ c ∷ d ∷ e ∷ f ∷ g ∷ i ∷ rest) m h = longer (length (a ∷ b ∷ c ∷ d ∷ e ∷ f ∷ g ∷ i ∷ rest) == 7) refl h
  where
    longer : (t : Bool) → (length (a ∷ b ∷ c ∷ d ∷ e ∷ f ∷ g ∷ i ∷ rest) == 7) ≡ t → cond t (cond (e == 45) (six a b c d f g) None) None ≡ Some m → (is_month m ≡ true) × (a ∷ b ∷ c ∷ d ∷ e ∷ f ∷ g ∷ i ∷ rest ≡ month_id m)
    longer true k x = let l : length (a ∷ b ∷ c ∷ d ∷ e ∷ f ∷ g ∷ i ∷ rest) ≡ 7 = eqb-true _ 7 k in absurd (omega (arith, l))
    longer false k x = cc

so_held : (m : ℕ) → is_month m ≡ true → month_row_month (month_id m) ≡ Some m
unfolding month_row_month
so_held m h = so_six m h

pub months_named : MonthsAreNamed
months_named = record {
  month = λ n. (writes_month n, month_written n);
  day = λ x m. (month_is x.date m, λ h. is_its_month x.date m h.0 h.1 h.2);
  budget = λ id m. (budget_so id m, λ h. ap budget_month h.1.1 ∙ so_budget h.1.0 m h.0);
  held = λ id m. (held_so id m, λ h. ap month_row_month h.1 ∙ so_held m h.0);
  budget_march = λ category. refl;
  held_march = refl;
}
