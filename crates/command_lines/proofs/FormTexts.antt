-- Flags, dates, months, stages of rules and how many conditions have to hold, and their texts.
use Rattle.std.proofs.Common.{◌≡◌, ◌∙◌, ℕ, ◌+◌, ◌-◌, ◌*◌, ◌/◌, ◌%◌, ◌<◌, ◌==◌, Bool, true, false, cond, List, [], ◌∷◌, ◌++◌, length, Option, Some, None, refl, ap, sym, arith}
use Rattle.std.specs.Prelude.{codes, if◌then◌else◌, slice_index}
use Rattle.std.specs.Str.{bytes_eq}
use Rattle.std.specs.Char.{is_ascii_digit}
use Rattle.std.proofs.lemmas.Slice.Eq.{bytes_eq-Decides}
use Rattle.std.proofs.lemmas.Bool.Decides.{nat_tests}
use Rattle.book_rows.specs.Months.{digit_of, two_at, four_at, behind}
use Rattle.book_rows.specs.Ids.{two_digits, four_digits}
use Rattle.rule_engine.specs.declared.rule.Stage.{Stage}
use Rattle.rule_engine.specs.declared.rule.Stage.TheVariants.{Pre, Plain, Post}
use Rattle.rule_engine.specs.declared.rule.RuleOp.{RuleOp}
use Rattle.rule_engine.specs.declared.rule.RuleOp.TheVariants.{And, Or}
use Rattle.rule_engine.specs.Edits.{op_text}
use Rattle.command_lines.specs.Forms.{flag_of, date_of, month_of, stage_of, op_of}
use Rattle.command_lines.specs.Written.{flag_text, date_text, month_text, stage_text}

-- ---- flags

pub flag_back : (b : Bool) → flag_of (flag_text b) ≡ Some b
flag_back true = refl
flag_back false = refl

pub flag_written : (text : List ℕ) (b : Bool) → flag_of text ≡ Some b → flag_text b ≡ text
flag_written text b e = by (bytes_eq text (codes "1")) (bytes_eq text (codes "0")) refl refl e
  where
    by : (one zero : Bool) → bytes_eq text (codes "1") ≡ one → bytes_eq text (codes "0") ≡ zero → (if one then Some true else (if zero then Some false else None)) ≡ Some b → flag_text b ≡ text
    by true z p q found = let same : true ≡ b = cc in ap flag_text (sym same) ∙ sym ((bytes_eq-Decides text (codes "1")).0 p)
    by false true p q found = let same : false ≡ b = cc in ap flag_text (sym same) ∙ sym ((bytes_eq-Decides text (codes "0")).0 q)
    by false false p q found = absurd (cc)

-- ---- stages, and how many conditions have to hold

pub stage_back : (stage : Stage) → stage_of (stage_text stage) ≡ Some stage
stage_back Pre = refl
stage_back Plain = refl
stage_back Post = refl

pub stage_written : (text : List ℕ) (stage : Stage) → stage_of text ≡ Some stage → stage_text stage ≡ text
stage_written text stage e = by (bytes_eq text (codes "pre")) (bytes_eq text (codes "none")) (bytes_eq text (codes "post")) refl refl refl e
  where
    by : (pre none post : Bool) → bytes_eq text (codes "pre") ≡ pre → bytes_eq text (codes "none") ≡ none → bytes_eq text (codes "post") ≡ post
        → (if pre then Some Pre else (if none then Some Plain else (if post then Some Post else None))) ≡ Some stage → stage_text stage ≡ text
    by true none post p q r found = let same : Pre ≡ stage = cc in ap stage_text (sym same) ∙ sym ((bytes_eq-Decides text (codes "pre")).0 p)
    by false true post p q r found = let same : Plain ≡ stage = cc in ap stage_text (sym same) ∙ sym ((bytes_eq-Decides text (codes "none")).0 q)
    by false false true p q r found = let same : Post ≡ stage = cc in ap stage_text (sym same) ∙ sym ((bytes_eq-Decides text (codes "post")).0 r)
    by false false false p q r found = absurd (cc)

pub op_back : (op : RuleOp) → op_of (op_text op) ≡ Some op
op_back And = refl
op_back Or = refl

pub op_written : (text : List ℕ) (op : RuleOp) → op_of text ≡ Some op → op_text op ≡ text
op_written text op e = by (bytes_eq text (codes "and")) (bytes_eq text (codes "or")) refl refl e
  where
    by : (all one : Bool) → bytes_eq text (codes "and") ≡ all → bytes_eq text (codes "or") ≡ one → (if all then Some And else (if one then Some Or else None)) ≡ Some op → op_text op ≡ text
    by true one p q found = let same : And ≡ op = cc in ap op_text (sym same) ∙ sym ((bytes_eq-Decides text (codes "and")).0 p)
    by false true p q found = let same : Or ≡ op = cc in ap op_text (sym same) ∙ sym ((bytes_eq-Decides text (codes "or")).0 q)
    by false false p q found = absurd (cc)

-- ---- numbers are read back from their digits

is_digit : (d : ℕ) → d < 10 → is_ascii_digit (48 + d) ≡ true
is_digit d h = grind (arith, nat_tests)

back : (d : ℕ) → 48 + d - 48 ≡ d
back d = omega arith

digit_back : (d : ℕ) → d < 10 → digit_of (48 + d) ≡ Some d
digit_back d h = ap (λ b. cond b (Some (48 + d - 48)) None) (is_digit d h) ∙ ap Some (back d)

two_number : (n : ℕ) → 10 * (n / 10 % 10) + n % 10 ≡ n % 100
two_number n = omega arith

two_back : (n : ℕ) → behind 10 (digit_of (48 + n / 10 % 10)) (digit_of (48 + n % 10)) ≡ Some (n % 100)
two_back n =
    ap (λ o. behind 10 o (digit_of (48 + n % 10))) (digit_back (n / 10 % 10) (omega arith))
    ∙ ap (behind 10 (Some (n / 10 % 10))) (digit_back (n % 10) (omega arith))
    ∙ ap Some (two_number n)

abbrev four_of : ℕ → Option ℕ
four_of n = behind 100 (behind 10 (digit_of (48 + n / 100 / 10 % 10)) (digit_of (48 + n / 100 % 10))) (behind 10 (digit_of (48 + n / 10 % 10)) (digit_of (48 + n % 10)))

four_number : (n : ℕ) → 100 * (n / 100 % 100) + n % 100 ≡ n % 10000
four_number n = omega arith

four_back : (n : ℕ) → four_of n ≡ Some (n % 10000)
four_back n =
    ap (λ o. behind 100 o (behind 10 (digit_of (48 + n / 10 % 10)) (digit_of (48 + n % 10)))) (two_back (n / 100))
    ∙ ap (behind 100 (Some (n / 100 % 100))) (two_back n)
    ∙ ap Some (four_number n)

date_number : (n : ℕ) → n < 100_000_000 → 10000 * (n / 10000 % 10000) + n % 10000 ≡ n
date_number n h = omega arith

pub date_back : (n : ℕ) → n < 100_000_000 → date_of (date_text n) ≡ Some n
unfolding date_of
date_back n h =
    ap (λ o. behind 10000 o (four_of n)) (four_back (n / 10000))
    ∙ ap (behind 10000 (Some (n / 10000 % 10000))) (four_back n)
    ∙ ap Some (date_number n h)

month_number : (n : ℕ) → n < 1_000_000 → 100 * (n / 100 % 10000) + n % 100 ≡ n
month_number n h = omega arith

pub month_back : (n : ℕ) → n < 1_000_000 → month_of (month_text n) ≡ Some n
unfolding month_of
month_back n h =
    ap (λ o. behind 100 o (behind 10 (digit_of (48 + n / 10 % 10)) (digit_of (48 + n % 10)))) (four_back (n / 100))
    ∙ ap (behind 100 (Some (n / 100 % 10000))) (two_back n)
    ∙ ap Some (month_number n h)

-- ---- and digits that are read are those of the number

record IsDigit (byte n : ℕ) : Type 0 where
  is : byte ≡ 48 + n
  small : n < 10

digit_written : (byte n : ℕ) → digit_of byte ≡ Some n → IsDigit byte n
digit_written byte n e = by (is_ascii_digit byte) refl e
  where
    by : (t : Bool) → is_ascii_digit byte ≡ t → cond t (Some (byte - 48)) None ≡ Some n → IsDigit byte n
    by true p found = let same : byte - 48 ≡ n = cc in record { is = grind (arith, nat_tests); small = grind (arith, nat_tests) }
    by false p found = absurd (cc)

record IsBehind (k : ℕ) (a b : Option ℕ) (n : ℕ) : Type 0 where
  high : ℕ
  low : ℕ
  above : a ≡ Some high
  below : b ≡ Some low
  is : n ≡ k * high + low

behind_some : (k n : ℕ) (a b : Option ℕ) → behind k a b ≡ Some n → IsBehind k a b n
behind_some k n None b e = absurd (cc)
behind_some k n (Some x) None e = absurd (cc)
behind_some k n (Some x) (Some y) e = let same : k * x + y ≡ n = cc in record { high = x; low = y; above = refl; below = refl; is = sym same }

two_written : (p q n : ℕ) → behind 10 (digit_of p) (digit_of q) ≡ Some n → (two_digits n ≡ p ∷ q ∷ []) × (n < 100)
two_written p q n e =
    let h = behind_some 10 n (digit_of p) (digit_of q) e in
    let a = digit_written p h.high h.above in
    let b = digit_written q h.low h.below in
    let first : 48 + n / 10 % 10 ≡ p = omega (arith, a.is, a.small, b.small, h.is) in
    let second : 48 + n % 10 ≡ q = omega (arith, b.is, a.small, b.small, h.is) in
    (λ i. first i ∷ second i ∷ [], omega (arith, a.small, b.small, h.is))

two_below : (x y : ℕ) → two_digits (100 * x + y) ≡ two_digits y
two_below x y =
    let first : (100 * x + y) / 10 % 10 ≡ y / 10 % 10 = omega arith in
    let second : (100 * x + y) % 10 ≡ y % 10 = omega arith in
    λ i. (48 + first i) ∷ (48 + second i) ∷ []

four_written : (p q r s n : ℕ) → behind 100 (behind 10 (digit_of p) (digit_of q)) (behind 10 (digit_of r) (digit_of s)) ≡ Some n
    → (four_digits n ≡ p ∷ q ∷ r ∷ s ∷ []) × (n < 10000)
four_written p q r s n e =
    let h = behind_some 100 n (behind 10 (digit_of p) (digit_of q)) (behind 10 (digit_of r) (digit_of s)) e in
    let a = two_written p q h.high h.above in
    let b = two_written r s h.low h.below in
    let high : n / 100 ≡ h.high = omega (arith, h.is, b.1) in
    let low : two_digits n ≡ r ∷ s ∷ [] = ap two_digits h.is ∙ two_below h.high h.low ∙ b.0 in
    let front : two_digits (n / 100) ≡ p ∷ q ∷ [] = ap two_digits high ∙ a.0 in
    (λ i. front i ++ low i, omega (arith, h.is, a.1, b.1))

four_below : (x y : ℕ) → four_digits (10000 * x + y) ≡ four_digits y
four_below x y =
    let high : two_digits ((10000 * x + y) / 100) ≡ two_digits (y / 100) =
    let split : (10000 * x + y) / 100 ≡ 100 * x + y / 100 = omega arith in ap two_digits split ∙ two_below x (y / 100) in
    let low : two_digits (10000 * x + y) ≡ two_digits y =
    let split : 10000 * x + y ≡ 100 * (100 * x) + y = omega arith in ap two_digits split ∙ two_below (100 * x) y in
    λ i. high i ++ low i

same_number : (m n : ℕ) → (m == n) ≡ true → m ≡ n
same_number m n h = grind (arith, nat_tests)

eight : (P : List ℕ → Type 0) (text : List ℕ) → length text ≡ 8 → ((a b c d e f g h : ℕ) → P (a ∷ b ∷ c ∷ d ∷ e ∷ f ∷ g ∷ h ∷ [])) → P text
eight P [] l k = absurd (omega (arith, l))
eight P (a ∷ []) l k = absurd (omega (arith, l))
eight P (a ∷ b ∷ []) l k = absurd (omega (arith, l))
eight P (a ∷ b ∷ c ∷ []) l k = absurd (omega (arith, l))
eight P (a ∷ b ∷ c ∷ d ∷ []) l k = absurd (omega (arith, l))
eight P (a ∷ b ∷ c ∷ d ∷ e ∷ []) l k = absurd (omega (arith, l))
eight P (a ∷ b ∷ c ∷ d ∷ e ∷ f ∷ []) l k = absurd (omega (arith, l))
eight P (a ∷ b ∷ c ∷ d ∷ e ∷ f ∷ g ∷ []) l k = absurd (omega (arith, l))
eight P (a ∷ b ∷ c ∷ d ∷ e ∷ f ∷ g ∷ h ∷ []) l k = k a b c d e f g h
eight P (a ∷ b ∷ c ∷ d ∷ e ∷ f ∷ g ∷ h ∷ x ∷ xs) l k = absurd (omega (arith, l))

seven : (P : List ℕ → Type 0) (text : List ℕ) → length text ≡ 7 → ((a b c d e f g : ℕ) → P (a ∷ b ∷ c ∷ d ∷ e ∷ f ∷ g ∷ [])) → P text
seven P [] l k = absurd (omega (arith, l))
seven P (a ∷ []) l k = absurd (omega (arith, l))
seven P (a ∷ b ∷ []) l k = absurd (omega (arith, l))
seven P (a ∷ b ∷ c ∷ []) l k = absurd (omega (arith, l))
seven P (a ∷ b ∷ c ∷ d ∷ []) l k = absurd (omega (arith, l))
seven P (a ∷ b ∷ c ∷ d ∷ e ∷ []) l k = absurd (omega (arith, l))
seven P (a ∷ b ∷ c ∷ d ∷ e ∷ f ∷ []) l k = absurd (omega (arith, l))
seven P (a ∷ b ∷ c ∷ d ∷ e ∷ f ∷ g ∷ []) l k = k a b c d e f g
seven P (a ∷ b ∷ c ∷ d ∷ e ∷ f ∷ g ∷ x ∷ xs) l k = absurd (omega (arith, l))

abbrev IsDateOf : ℕ → List ℕ → Type 0
IsDateOf n text = (date_text n ≡ text) × (n < 100_000_000)

eight_written : (n a b c d e f g h : ℕ) → behind 10000 (four_at (a ∷ b ∷ c ∷ d ∷ e ∷ f ∷ g ∷ h ∷ []) 0) (four_at (a ∷ b ∷ c ∷ d ∷ e ∷ f ∷ g ∷ h ∷ []) 4) ≡ Some n → IsDateOf n (a ∷ b ∷ c ∷ d ∷ e ∷ f ∷ g ∷ h ∷ [])
eight_written n a b c d e f g h found =
    let k = behind_some 10000 n (four_at (a ∷ b ∷ c ∷ d ∷ e ∷ f ∷ g ∷ h ∷ []) 0) (four_at (a ∷ b ∷ c ∷ d ∷ e ∷ f ∷ g ∷ h ∷ []) 4) found in
    let year = four_written a b c d k.high k.above in
    let day = four_written e f g h k.low k.below in
    let high : n / 10000 ≡ k.high = omega (arith, k.is, day.1) in
    let front : four_digits (n / 10000) ≡ a ∷ b ∷ c ∷ d ∷ [] = ap four_digits high ∙ year.0 in
    let low : four_digits n ≡ e ∷ f ∷ g ∷ h ∷ [] = ap four_digits k.is ∙ four_below k.high k.low ∙ day.0 in
    (λ i. front i ++ low i, omega (arith, k.is, year.1, day.1))

pub date_written : (text : List ℕ) (n : ℕ) → date_of text ≡ Some n → (date_text n ≡ text) × (n < 100_000_000)
unfolding date_of
date_written text n found = by (length text == 8) refl found
  where
    by : (t : Bool) → (length text == 8) ≡ t → (if t then behind 10000 (four_at text 0) (four_at text 4) else None) ≡ Some n → IsDateOf n text
    by false is e = absurd (cc)
    by true is e = eight (λ x. behind 10000 (four_at x 0) (four_at x 4) ≡ Some n → IsDateOf n x) text (same_number (length text) 8 is) (eight_written n) e

abbrev IsMonthOf : ℕ → List ℕ → Type 0
IsMonthOf n text = (month_text n ≡ text) × (n < 1_000_000)

seven_written : (n a b c d e f g : ℕ) → (if e == 45 then behind 100 (four_at (a ∷ b ∷ c ∷ d ∷ e ∷ f ∷ g ∷ []) 0) (two_at (a ∷ b ∷ c ∷ d ∷ e ∷ f ∷ g ∷ []) 5) else None) ≡ Some n → IsMonthOf n (a ∷ b ∷ c ∷ d ∷ e ∷ f ∷ g ∷ [])
seven_written n a b c d e f g found = by (e == 45) refl found
  where
    by : (t : Bool) → (e == 45) ≡ t → (if t then behind 100 (four_at (a ∷ b ∷ c ∷ d ∷ e ∷ f ∷ g ∷ []) 0) (two_at (a ∷ b ∷ c ∷ d ∷ e ∷ f ∷ g ∷ []) 5) else None) ≡ Some n → IsMonthOf n (a ∷ b ∷ c ∷ d ∷ e ∷ f ∷ g ∷ [])
    by false is none = absurd (cc)
    by true is some =
        let k = behind_some 100 n (four_at (a ∷ b ∷ c ∷ d ∷ e ∷ f ∷ g ∷ []) 0) (two_at (a ∷ b ∷ c ∷ d ∷ e ∷ f ∷ g ∷ []) 5) some in
        let year = four_written a b c d k.high k.above in
        let month = two_written f g k.low k.below in
        let high : n / 100 ≡ k.high = omega (arith, k.is, month.1) in
        let front : four_digits (n / 100) ≡ a ∷ b ∷ c ∷ d ∷ [] = ap four_digits high ∙ year.0 in
        let hyphen : 45 ≡ e = sym (same_number e 45 is) in
        let low : two_digits n ≡ f ∷ g ∷ [] = ap two_digits k.is ∙ two_below k.high k.low ∙ month.0 in
        (λ i. front i ++ hyphen i ∷ low i, omega (arith, k.is, year.1, month.1))

pub month_written : (text : List ℕ) (n : ℕ) → month_of text ≡ Some n → (month_text n ≡ text) × (n < 1_000_000)
unfolding month_of
month_written text n found = by (length text == 7) refl found
  where
    by : (t : Bool) → (length text == 7) ≡ t → (if t then (if slice_index text 4 == 45 then behind 100 (four_at text 0) (two_at text 5) else None) else None) ≡ Some n → IsMonthOf n text
    by false is e = absurd (cc)
    by true is e =
        seven (λ x. (if slice_index x 4 == 45 then behind 100 (four_at x 0) (two_at x 5) else None) ≡ Some n → IsMonthOf n x) text (same_number (length text) 7 is) (seven_written n) e
