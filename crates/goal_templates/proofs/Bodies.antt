-- Bodies and their texts.
use Rattle.std.proofs.Common.{◌≡◌, ℕ, zero, suc, ◌+◌, ◌-◌, ◌*◌, ◌^◌, ◌<◌, ◌≤◌, Bool, true, false, cond, [], ◌∷◌, ◌++◌, length, ◌⊎◌, inl, inr, Option, Some, None, refl, sym, subst, ap, ◌∙◌, append_assoc, arith}
use lib.IntN.{ℤ, pos}
use Rattle.std.specs.Prelude.{nat_le, codes}
use Rattle.std.specs.Option.{option_map}
use Rattle.std.specs.Fmt.{decimal}
use Rattle.std.specs.Str.{bytes_eq}
use Rattle.std.proofs.lemmas.Fmt.{decimal_is_IsNumeral}
use Rattle.std.proofs.lemmas.Slice.Eq.{bytes_eq-Decides}
use Rattle.std.proofs.lemmas.Bool.{and_parts, leb-true}
use Rattle.std.proofs.Math.Nat.{pow-suc}
use Rattle.std.proofs.lemmas.List.{append-nil}
use Rattle.finite_sums.specs.Maps.{Text}
use Rattle.book_rows.specs.Ids.{month_id}
use Rattle.book_rows.specs.Months.{month_row_month}
use Rattle.std.specs.Char.{is_ascii_digit}
use Rattle.goal_templates.specs.Amounts.{AreDigits, cents_of, behind_point, number, hundredths, IsAmount, amount_text}
use Rattle.goal_templates.specs.Reading.{behind, cut, count_of, where_found, in_cents, months_before, counted, behind_amount, amount_first, body_of}
use Rattle.goal_templates.specs.Grammar.{IsBody, IsCents, IsBodyInRange, body_text}
use Rattle.goal_templates.specs.declared.template.TemplateBody.{TemplateBody}
use Rattle.goal_templates.specs.declared.template.TemplateBody.TheVariants.{Amount, UpTo, AmountUpTo, By, Average, CopyFrom}
use Rattle.goal_templates.proofs.MonthTexts.{held_so, so_held}
use Rattle.goal_templates.proofs.AmountTexts.{amount_is, value_of, amount_read, amount_value}
use Rattle.goal_templates.proofs.Decimals.{are_digits, written_amount, count_found, count_back}
use Rattle.goal_templates.proofs.Blanks.{behind_is, NoBlank, cut_at, cut_none, cut_is, digits_no_blank, point_no_blank, no_blank-append, other_than_digit}

-- ---- what was read is of the grammar

pub found : {A : Type 0} (o : Option Text) (read : Text → Option A) (other : Option A) (x : A) → where_found o read other ≡ Some x
    → ((r : Text) × (o ≡ Some r) × (read r ≡ Some x)) ⊎ ((o ≡ None) × (other ≡ Some x))
found None read other x h = inr (refl, h)
found (Some r) read other x h = inl (r, refl, h)

mapped : {A B : Type 0} (f : A → B) (o : Option A) (x : B) → option_map f o ≡ Some x → (a : A) × (o ≡ Some a) × (f a ≡ x)
mapped f None x h = absurd (cc)
mapped f (Some a) x h = (a, refl, (let e : f a ≡ x = cc in e))

cents_are : (made : ℤ → TemplateBody) (t : Text) (x : TemplateBody) → in_cents made t ≡ Some x → (z : ℤ) × IsAmount t z × (made z ≡ x)
cents_are made t x h = let m = mapped (λ n. made (pos n)) (cents_of t) x h in (pos m.0, amount_is t m.0 m.1, m.2)

-- a count with a text behind its blank
record IsCounted (made : ℕ → TemplateBody) (last t : Text) (x : TemplateBody) : Type 0 where
  n : ℕ
  spelled : t ≡ decimal n ++ 32 ∷ last
  least : 1 ≤ n
  most : n ≤ 120
  made_of : made n ≡ x

counts_are : (made : ℕ → TemplateBody) (last t : Text) (x : TemplateBody) → counted made last (cut t) ≡ Some x → IsCounted made last t x
counts_are made last t x h = let m = mapped made (months_before last (cut t)) x h in by m.0 m.2 (cut t) refl m.1
  where
    same : (n : ℕ) → made n ≡ x → (p : Text × Text) → cut t ≡ Some p → (b : Bool) → bytes_eq p.1 last ≡ b → cond b (count_of 1 120 p.0) None ≡ Some n → IsCounted made last t x
    same n is p e true k l =
        let f = count_found 1 120 p.0 n l in
        let end = (bytes_eq-Decides p.1 last).0 k in
        record {
          n = n;
          spelled = cut_is t p.0 p.1 e ∙ ap (λ s. s ++ 32 ∷ p.1) f.text ∙ ap (λ s. decimal n ++ 32 ∷ s) end;
          least = f.least;
          most = f.most;
          made_of = is;
        }
    same n is p e false k l = absurd (cc)

    by : (n : ℕ) → made n ≡ x → (o : Option (Text × Text)) → cut t ≡ o → months_before last o ≡ Some n → IsCounted made last t x
    by n is None e k = absurd (cc)
    by n is (Some p) e k = same n is p e (bytes_eq p.1 last) refl k

amounts_are : (t : Text) (x : TemplateBody) → amount_first t (cut t) ≡ Some x → IsBody t x
amounts_are t x h = by (cut t) refl h
  where
    last : (a rest : Text) (n : ℕ) → t ≡ a ++ 32 ∷ rest → cents_of a ≡ Some n
        → (((r : Text) × (behind (codes "by ") rest ≡ Some r) × (option_map (By (pos n)) (month_row_month r) ≡ Some x)) ⊎ ((behind (codes "by ") rest ≡ None) × (None ≡ Some x))) → IsBody t x
    last a rest n e c (inl w) =
        let m = mapped (By (pos n)) (month_row_month w.0) x w.2 in
        let held = held_so w.0 m.0 m.1 in
        subst (IsBody t) m.2 (a, e ∙ ap (λ r. a ++ 32 ∷ r) (behind_is (codes "by ") rest w.0 w.1 ∙ ap (λ r. codes "by " ++ r) held.1), amount_is a n c, held.0)
    last a rest n e c (inr w) = absurd (let bad = w.1 in cc)

    next : (a rest : Text) (n : ℕ) → t ≡ a ++ 32 ∷ rest → cents_of a ≡ Some n
        → (((r : Text) × (behind (codes "up to ") rest ≡ Some r) × (in_cents (AmountUpTo (pos n)) r ≡ Some x))
        ⊎ ((behind (codes "up to ") rest ≡ None) × (where_found (behind (codes "by ") rest) (λ r. option_map (By (pos n)) (month_row_month r)) None ≡ Some x))) → IsBody t x
    next a rest n e c (inl w) =
        let m = cents_are (AmountUpTo (pos n)) w.0 x w.2 in
        subst (IsBody t) m.2 (a, w.0, e ∙ ap (λ r. a ++ 32 ∷ r) (behind_is (codes "up to ") rest w.0 w.1), amount_is a n c, m.1)
    next a rest n e c (inr w) = last a rest n e c (found (behind (codes "by ") rest) (λ r. option_map (By (pos n)) (month_row_month r)) None x w.1)

    two : (a rest : Text) → t ≡ a ++ 32 ∷ rest → (o : Option ℕ) → cents_of a ≡ o → behind_amount o rest ≡ Some x → IsBody t x
    two a rest e None c k = absurd (cc)
    two a rest e (Some n) c k =
        next a rest n e c (found (behind (codes "up to ") rest) (in_cents (AmountUpTo (pos n))) (where_found (behind (codes "by ") rest) (λ r. option_map (By (pos n)) (month_row_month r)) None) x k)

    by : (o : Option (Text × Text)) → cut t ≡ o → amount_first t o ≡ Some x → IsBody t x
    by None e k = let m = cents_are Amount t x k in subst (IsBody t) m.2 m.1
    by (Some p) e k = two p.0 p.1 (cut_is t p.0 p.1 e) (cents_of p.0) refl k

pub body_is : (t : Text) (x : TemplateBody) → body_of t ≡ Some x → IsBody t x
unfolding body_of
body_is t x h = one (found (behind (codes "up to ") t) (in_cents UpTo) rest_one x h)
  where
    rest_three : Option TemplateBody
    rest_three = amount_first t (cut t)

    rest_two : Option TemplateBody
    rest_two = where_found (behind (codes "copy from ") t) (λ r. counted CopyFrom (codes "months ago") (cut r)) (amount_first t (cut t))

    rest_one : Option TemplateBody
    rest_one = where_found (behind (codes "average ") t) (λ r. counted Average (codes "months") (cut r)) (where_found (behind (codes "copy from ") t) (λ r. counted CopyFrom (codes "months ago") (cut r)) (amount_first t (cut t)))

    three : (((r : Text) × (behind (codes "copy from ") t ≡ Some r) × (counted CopyFrom (codes "months ago") (cut r) ≡ Some x))
        ⊎ ((behind (codes "copy from ") t ≡ None) × (amount_first t (cut t) ≡ Some x))) → IsBody t x
    three (inl w) =
        let c = counts_are CopyFrom (codes "months ago") w.0 x w.2 in
        subst (IsBody t) c.made_of (behind_is (codes "copy from ") t w.0 w.1 ∙ ap (λ r. codes "copy from " ++ r) c.spelled, c.least, c.most)
    three (inr w) = amounts_are t x w.1

    two : (((r : Text) × (behind (codes "average ") t ≡ Some r) × (counted Average (codes "months") (cut r) ≡ Some x))
        ⊎ ((behind (codes "average ") t ≡ None) × (where_found (behind (codes "copy from ") t) (λ r. counted CopyFrom (codes "months ago") (cut r)) (amount_first t (cut t)) ≡ Some x))) → IsBody t x
    two (inl w) =
        let c = counts_are Average (codes "months") w.0 x w.2 in
        subst (IsBody t) c.made_of (behind_is (codes "average ") t w.0 w.1 ∙ ap (λ r. codes "average " ++ r) c.spelled, c.least, c.most)
    two (inr w) = three (found (behind (codes "copy from ") t) (λ r. counted CopyFrom (codes "months ago") (cut r)) (amount_first t (cut t)) x w.1)

    one : (((r : Text) × (behind (codes "up to ") t ≡ Some r) × (in_cents UpTo r ≡ Some x))
        ⊎ ((behind (codes "up to ") t ≡ None) × (where_found (behind (codes "average ") t) (λ r. counted Average (codes "months") (cut r)) (where_found (behind (codes "copy from ") t) (λ r. counted CopyFrom (codes "months ago") (cut r)) (amount_first t (cut t))) ≡ Some x))) → IsBody t x
    one (inl w) =
        let m = cents_are UpTo w.0 x w.2 in
        subst (IsBody t) m.2 (w.0, behind_is (codes "up to ") t w.0 w.1, m.1)
    one (inr w) = two (found (behind (codes "average ") t) (λ r. counted Average (codes "months") (cut r)) (where_found (behind (codes "copy from ") t) (λ r. counted CopyFrom (codes "months ago") (cut r)) (amount_first t (cut t))) x w.1)

-- ---- what is of the grammar is read

read_cents : (made : ℤ → TemplateBody) (t : Text) (z : ℤ) → IsAmount t z → in_cents made t ≡ Some (made z)
read_cents made t z w = ap (option_map (λ n. made (pos n))) (amount_read t z w) ∙ ap (λ y. Some (made y)) (sym (amount_value t z w))

amount_no_blank : (t : Text) (z : ℤ) → IsAmount t z → NoBlank t
amount_no_blank t z w = subst NoBlank (sym w.spelled) (no_blank-append w.whole (behind_point w.cents) (digits_no_blank w.whole w.digits.0) (point_no_blank w.cents w.digits.1))

read_count : (made : ℕ → TemplateBody) (last : Text) (n : ℕ) → 1 ≤ n → n ≤ 120 → counted made last (cut (decimal n ++ 32 ∷ last)) ≡ Some (made n)
read_count made last n least most =
    let small : n < 2 ^ 64 = omega arith in
    ap (counted made last) (cut_at (decimal n) last (digits_no_blank (decimal n) (are_digits (decimal n) (decimal_is_IsNumeral n small).0.1)))
    ∙ ap (λ b. option_map made (cond b (count_of 1 120 (decimal n)) None)) ((bytes_eq-Decides last last).1 refl)
    ∙ ap (option_map made) (count_back 1 120 n least most small)

-- a text that begins with a digit is no other body
no_up_to : (b : ℕ) (bs : Text) → is_ascii_digit b ≡ true → behind (codes "up to ") (b ∷ bs) ≡ None
no_up_to b bs h = other_than_digit 117 b (codes "p to ") bs h refl

no_average : (b : ℕ) (bs : Text) → is_ascii_digit b ≡ true → behind (codes "average ") (b ∷ bs) ≡ None
no_average b bs h = other_than_digit 97 b (codes "verage ") bs h refl

no_copy : (b : ℕ) (bs : Text) → is_ascii_digit b ≡ true → behind (codes "copy from ") (b ∷ bs) ≡ None
no_copy b bs h = other_than_digit 99 b (codes "opy from ") bs h refl

begins_digit : (b : ℕ) (bs : Text) → is_ascii_digit b ≡ true → body_of (b ∷ bs) ≡ amount_first (b ∷ bs) (cut (b ∷ bs))
unfolding body_of
begins_digit b bs h =
    ap (λ o. where_found o (in_cents UpTo) (where_found (behind (codes "average ") (b ∷ bs)) (λ r. counted Average (codes "months") (cut r)) (where_found (behind (codes "copy from ") (b ∷ bs)) (λ r. counted CopyFrom (codes "months ago") (cut r)) (amount_first (b ∷ bs) (cut (b ∷ bs)))))) (no_up_to b bs h)
    ∙ ap (λ o. where_found o (λ r. counted Average (codes "months") (cut r)) (where_found (behind (codes "copy from ") (b ∷ bs)) (λ r. counted CopyFrom (codes "months ago") (cut r)) (amount_first (b ∷ bs) (cut (b ∷ bs))))) (no_average b bs h)
    ∙ ap (λ o. where_found o (λ r. counted CopyFrom (codes "months ago") (cut r)) (amount_first (b ∷ bs) (cut (b ∷ bs)))) (no_copy b bs h)

by_digit : (whole rest : Text) → AreDigits whole → 1 ≤ length whole → body_of (whole ++ rest) ≡ amount_first (whole ++ rest) (cut (whole ++ rest))
by_digit [] rest h some = absurd (omega arith)
by_digit (b ∷ whole) rest h some = begins_digit b (whole ++ rest) h.0

by_amount : (a : Text) (z : ℤ) (rest : Text) → IsAmount a z → body_of (a ++ rest) ≡ amount_first (a ++ rest) (cut (a ++ rest))
by_amount a z rest w =
    let whole : a ++ rest ≡ w.whole ++ (behind_point w.cents ++ rest) = ap (λ t. t ++ rest) w.spelled ∙ append_assoc w.whole (behind_point w.cents) rest in
    ap body_of whole ∙ by_digit w.whole (behind_point w.cents ++ rest) w.digits.0 w.some ∙ ap (λ t. amount_first t (cut t)) (sym whole)

by_blank : (a : Text) (z : ℤ) (rest : Text) (w : IsAmount a z) → body_of (a ++ 32 ∷ rest) ≡ behind_amount (Some (value_of a z w)) rest
by_blank a z rest w =
    by_amount a z (32 ∷ rest) w ∙ ap (amount_first (a ++ 32 ∷ rest)) (cut_at a rest (amount_no_blank a z w)) ∙ ap (λ o. behind_amount o rest) (amount_read a z w)

pub body_read : (t : Text) (x : TemplateBody) → IsBody t x → body_of t ≡ Some x
unfolding body_of
body_read t (Amount z) w =
    let all : t ++ [] ≡ t = append-nil t in
    ap body_of (sym all) ∙ by_amount t z [] w ∙ ap (λ s. amount_first s (cut s)) all ∙ ap (amount_first t) (cut_none t (amount_no_blank t z w)) ∙ read_cents Amount t z w
body_read t (UpTo z) w = ap body_of w.1 ∙ read_cents UpTo w.0 z w.2
body_read t (AmountUpTo z y) w =
    ap body_of w.2 ∙ by_blank w.0 z (codes "up to " ++ w.1) w.3 ∙ read_cents (AmountUpTo (pos (value_of w.0 z w.3))) w.1 y w.4
    ∙ ap (λ v. Some (AmountUpTo v y)) (sym (amount_value w.0 z w.3))
body_read t (By z m) w =
    ap body_of w.1 ∙ by_blank w.0 z (codes "by " ++ month_id m) w.2 ∙ ap (option_map (By (pos (value_of w.0 z w.2)))) (so_held m w.3)
    ∙ ap (λ v. Some (By v m)) (sym (amount_value w.0 z w.2))
body_read t (Average n) w = ap body_of w.0 ∙ read_count Average (codes "months") n w.1 w.2
body_read t (CopyFrom n) w = ap body_of w.0 ∙ read_count CopyFrom (codes "months ago") n w.1 w.2

-- ---- what is written is of the grammar, and what is of the grammar is in range

written_cents : (z : ℤ) → IsCents z → IsAmount (amount_text z) z
written_cents z c = subst (λ y. IsAmount (amount_text y) y) (sym c.1) (written_amount c.0 c.2)

pub body_written : (x : TemplateBody) → IsBodyInRange x → IsBody (body_text x) x
body_written (Amount z) r = written_cents z r
body_written (UpTo z) r = (amount_text z, refl, written_cents z r)
body_written (AmountUpTo z y) r = (amount_text z, amount_text y, refl, written_cents z r.0, written_cents y r.1)
body_written (By z m) r = (amount_text z, refl, written_cents z r.0, r.1)
body_written (Average n) r = (refl, r.0, r.1)
body_written (CopyFrom n) r = (refl, r.0, r.1)

-- an amount is small: thirteen digits, and two
digit_small : (b : ℕ) → is_ascii_digit b ≡ true → b - 48 ≤ 9
digit_small b h = let p = and_parts (nat_le 48 b) (nat_le b 57) h in omega (arith, leb-true b 57 p.1)

number_small : (ds : Text) (n k : ℕ) → AreDigits ds → n < 10 ^ k → number n ds < 10 ^ (k + length ds)
number_small [] n k h small = (let e : k + 0 ≡ k = omega arith in subst (λ (j : ℕ). n < 10 ^ j) (sym e) small)
number_small (d ∷ ds) n k h small =
    let p : 10 ^ suc k ≡ 10 ^ k * 10 = pow-suc 10 k in
    let e : suc k + length ds ≡ k + suc (length ds) = omega arith in
    let more = number_small ds (n * 10 + (d - 48)) (suc k) h.1 (omega (arith, p, small, digit_small d h.0)) in
    subst (λ (j : ℕ). number n (d ∷ ds) < 10 ^ j) e more

grows : (i k : ℕ) → 10 ^ i ≤ 10 ^ (k + i)
grows i zero = subst (λ (n : ℕ). 10 ^ i ≤ 10 ^ n) (let e : i ≡ 0 + i = omega arith in e) (omega arith)
grows i (suc k) =
    let e : suc k + i ≡ suc (k + i) = omega arith in
    let h = grows i k in
    subst (λ (n : ℕ). 10 ^ i ≤ 10 ^ n) (sym e) (let p : 10 ^ suc (k + i) ≡ 10 ^ (k + i) * 10 = pow-suc 10 (k + i) in omega arith)

hundredths_small : (t : Text) → AreDigits t → length t ≤ 2 → hundredths t < 100
hundredths_small [] h s = omega arith
hundredths_small (a ∷ []) h s = omega (arith, digit_small a h.0)
hundredths_small (a ∷ b ∷ []) h s = omega (arith, digit_small a h.0, digit_small b h.1.0)
hundredths_small (a ∷ b ∷ c ∷ cs) h s = absurd (omega arith)

cents_in_range : (t : Text) (z : ℤ) → IsAmount t z → IsCents z
cents_in_range t z w =
    let few = w.few in
    let e : (13 - length w.whole) + length w.whole ≡ 13 = omega (arith, few) in
    let below : number 0 w.whole < 10 ^ (0 + length w.whole) = number_small w.whole 0 0 w.digits.0 (omega arith) in
    let same : 0 + length w.whole ≡ length w.whole = omega arith in
    let under : number 0 w.whole < 10 ^ length w.whole = subst (λ (j : ℕ). number 0 w.whole < 10 ^ j) same below in
    let g : 10 ^ length w.whole ≤ 10 ^ 13 = subst (λ (k : ℕ). 10 ^ length w.whole ≤ 10 ^ k) e (grows (length w.whole) (13 - length w.whole)) in
    (number 0 w.whole * 100 + hundredths w.cents, w.value, omega (arith, under, g, hundredths_small w.cents w.digits.1 w.short))

pub body_ranges : (t : Text) (x : TemplateBody) → IsBody t x → IsBodyInRange x
body_ranges t (Amount z) w = cents_in_range t z w
body_ranges t (UpTo z) w = cents_in_range w.0 z w.2
body_ranges t (AmountUpTo z y) w = (cents_in_range w.0 z w.3, cents_in_range w.1 y w.4)
body_ranges t (By z m) w = (cents_in_range w.0 z w.2, w.3)
body_ranges t (Average n) w = (w.1, w.2)
body_ranges t (CopyFrom n) w = (w.1, w.2)
