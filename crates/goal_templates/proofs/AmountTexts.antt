-- Which texts are amounts.
use Rattle.std.proofs.Common.{◌≡◌, ℕ, ◌+◌, ◌-◌, ◌*◌, ◌≤◌, Bool, true, false, cond, [], ◌∷◌, ◌++◌, Option, Some, None, refl, sym, ap, ◌∙◌, arith}
use lib.IntN.{ℤ, pos}
use Rattle.std.specs.Prelude.{◌&&◌, ◌==◌, nat_lt, length}
use Rattle.std.proofs.lemmas.Bool.{and_parts, eqb-true, eqb-false, ne_eqb, ltb-true, lt-ltb}
use Rattle.finite_sums.specs.Maps.{Text}
use Rattle.std.specs.Char.{is_ascii_digit}
use Rattle.book_rows.specs.Amounts.{fraction, cents_from}
use Rattle.goal_templates.specs.Amounts.{cents_of, AreDigits, number, hundredths, behind_point, IsAmount}

no_some : {X P : Type 0} (x : X) → None ≡ Some x → P
no_some x h = absurd (clash h)
  where
    clash : None ≡ Some x → ⊥
    clash h = cc

some_is : {X : Type 0} (x y : X) → Some x ≡ Some y → x ≡ y
some_is x y h = cc

chosen : {X : Type 0} (b : Bool) (x : Option X) (n : X) → cond b x None ≡ Some n → (b ≡ true) × (x ≡ Some n)
chosen true x n h = (refl, h)
chosen false x n h = no_some n h

other : {X : Type 0} (b : Bool) (x : Option X) (n : X) → cond b None x ≡ Some n → (b ≡ false) × (x ≡ Some n)
other true x n h = no_some n h
other false x n h = (refl, h)

-- what follows so many digits, which write this number
record IsRest (before digits : ℕ) (bs : Text) (n : ℕ) : Type 0 where
  whole : Text
  cents : Text
  spelled : bs ≡ whole ++ behind_point cents
  are : AreDigits whole × AreDigits cents
  some : 1 ≤ digits + length whole
  few : digits + length whole ≤ 13
  short : length cents ≤ 2
  value : n ≡ number before whole * 100 + hundredths cents

fraction_is : (before digits : ℕ) (bs : Text) (n : ℕ) → 1 ≤ digits → digits ≤ 13 → fraction before bs ≡ Some n → IsRest before digits bs n
fraction_is before digits [] n some few h = no_some n h
fraction_is before digits (p ∷ []) n some few h = no_some n h
fraction_is before digits (p ∷ a ∷ []) n some few h =
    let c = chosen ((p == 46) && is_ascii_digit a) (Some (before * 100 + (a - 48) * 10)) n h in
    let q = and_parts (p == 46) (is_ascii_digit a) c.0 in
    record {
      whole = [];
      cents = a ∷ [];
      spelled = ap (λ x. x ∷ a ∷ []) (eqb-true p 46 q.0);
      are = (tt, (q.1, tt));
      some = omega arith;
      few = omega arith;
      short = omega arith;
      value = sym (some_is _ _ c.1);
    }
fraction_is before digits (p ∷ a ∷ b ∷ []) n some few h =
    let c = chosen ((p == 46) && is_ascii_digit a && is_ascii_digit b) (Some (before * 100 + (a - 48) * 10 + (b - 48))) n h in
    let q = and_parts ((p == 46) && is_ascii_digit a) (is_ascii_digit b) c.0 in
    let r = and_parts (p == 46) (is_ascii_digit a) q.0 in
    record {
      whole = [];
      cents = a ∷ b ∷ [];
      spelled = ap (λ x. x ∷ a ∷ b ∷ []) (eqb-true p 46 r.0);
      are = (tt, (r.1, (q.1, tt)));
      some = omega arith;
      few = omega arith;
      short = omega arith;
      value = (let e = some_is _ _ c.1 in omega (arith, e));
    }
fraction_is before digits (p ∷ a ∷ b ∷ c ∷ cs) n some few h = no_some n h

rest_is : (bs : Text) (before digits n : ℕ) → digits ≤ 13 → cents_from before digits bs ≡ Some n → IsRest before digits bs n
rest_is [] before digits n few h =
    let c = other (digits == 0) (Some (before * 100)) n h in
    let some : 1 ≤ digits = (let e = eqb-false digits 0 c.0 in omega (arith, e)) in
    record {
      whole = [];
      cents = [];
      spelled = refl;
      are = (tt, tt);
      some = omega arith;
      few = omega arith;
      short = omega arith;
      value = (let e = some_is _ _ c.1 in omega (arith, e));
    }
rest_is (b ∷ bs) before digits n few h = by (is_ascii_digit b) refl (rest_is bs (before * 10 + (b - 48)) (digits + 1) n) h
  where
    by : (d : Bool) → is_ascii_digit b ≡ d → (digits + 1 ≤ 13 → cents_from (before * 10 + (b - 48)) (digits + 1) bs ≡ Some n → IsRest (before * 10 + (b - 48)) (digits + 1) bs n)
        → cond d (cond (nat_lt digits 13) (cents_from (before * 10 + (b - 48)) (digits + 1) bs) None) (cond (digits == 0) None (fraction before (b ∷ bs))) ≡ Some n → IsRest before digits (b ∷ bs) n
    by true d rest k =
        let c = chosen (nat_lt digits 13) (cents_from (before * 10 + (b - 48)) (digits + 1) bs) n k in
        let less = ltb-true digits 13 c.0 in
        let w = rest (omega (arith, less)) c.1 in
        let some = w.some in
        let most = w.few in
        record {
          whole = b ∷ w.whole;
          cents = w.cents;
          spelled = ap (λ t. b ∷ t) w.spelled;
          are = ((d, w.are.0), w.are.1);
          some = omega arith;
          few = omega (arith, most);
          short = w.short;
          value = w.value;
        }
    by false d rest k =
        let c = other (digits == 0) (fraction before (b ∷ bs)) n k in
        fraction_is before digits (b ∷ bs) n (let e = eqb-false digits 0 c.0 in omega (arith, e)) few c.1

-- and the other way
abbrev Few : ℕ → Text → Type 0
Few digits whole = digits + length whole ≤ 13

point_read : (before digits : ℕ) (cents : Text) → 1 ≤ digits → AreDigits cents → length cents ≤ 2 → cents_from before digits (behind_point cents) ≡ Some (before * 100 + hundredths cents)
point_read before digits [] some are short =
    ap (λ b. cond b None (Some (before * 100))) (ne_eqb digits 0 (λ e. omega (arith, e))) ∙ ap Some (let e : before * 100 ≡ before * 100 + 0 = omega arith in e)
point_read before digits (a ∷ []) some are short =
    ap (λ x. cond x None (fraction before (46 ∷ a ∷ []))) (ne_eqb digits 0 (λ e. omega (arith, e)))
    ∙ ap (λ x. cond x (Some (before * 100 + (a - 48) * 10)) None) are.0
point_read before digits (a ∷ b ∷ []) some are short =
    ap (λ x. cond x None (fraction before (46 ∷ a ∷ b ∷ []))) (ne_eqb digits 0 (λ e. omega (arith, e)))
    ∙ ap (λ x. cond (x && is_ascii_digit b) (Some (before * 100 + (a - 48) * 10 + (b - 48))) None) are.0
    ∙ ap (λ x. cond x (Some (before * 100 + (a - 48) * 10 + (b - 48))) None) are.1.0
    ∙ ap Some (let e : before * 100 + (a - 48) * 10 + (b - 48) ≡ before * 100 + ((a - 48) * 10 + (b - 48)) = omega arith in e)
point_read before digits (a ∷ b ∷ c ∷ cs) some are short = absurd (omega arith)

rest_read : (whole cents : Text) (before digits : ℕ) → AreDigits whole → AreDigits cents → 1 ≤ digits + length whole → Few digits whole → length cents ≤ 2
    → cents_from before digits (whole ++ behind_point cents) ≡ Some (number before whole * 100 + hundredths cents)
rest_read [] cents before digits are cs some few short = point_read before digits cents (omega arith) cs short
rest_read (b ∷ whole) cents before digits are cs some few short =
    ap (λ d. cond d (cond (nat_lt digits 13) (cents_from (before * 10 + (b - 48)) (digits + 1) (whole ++ behind_point cents)) None) (cond (digits == 0) None (fraction before (b ∷ whole ++ behind_point cents)))) are.0
    ∙ ap (λ d. cond d (cents_from (before * 10 + (b - 48)) (digits + 1) (whole ++ behind_point cents)) None) (lt-ltb digits 13 (omega (arith, few)))
    ∙ rest_read whole cents (before * 10 + (b - 48)) (digits + 1) are.1 cs (omega arith) (omega (arith, few)) short

pub amount_is : (t : Text) (n : ℕ) → cents_of t ≡ Some n → IsAmount t (pos n)
unfolding cents_of
amount_is t n h =
    let w = rest_is t 0 0 n (omega arith) h in
    let some = w.some in
    let few = w.few in
    record { whole = w.whole; cents = w.cents; spelled = w.spelled; digits = w.are; some = omega (arith, some); few = omega (arith, few); short = w.short; value = ap pos w.value }

-- and such a text is read as its cents
abbrev pub value_of : (t : Text) (z : ℤ) → IsAmount t z → ℕ
value_of t z w = number 0 w.whole * 100 + hundredths w.cents

pub amount_read : (t : Text) (z : ℤ) (w : IsAmount t z) → cents_of t ≡ Some (value_of t z w)
unfolding cents_of
amount_read t z w = ap (cents_from 0 0) w.spelled ∙ rest_read w.whole w.cents 0 0 w.digits.0 w.digits.1 (let s = w.some in omega (arith, s)) (let f = w.few in omega (arith, f)) w.short

pub amount_value : (t : Text) (z : ℤ) (w : IsAmount t z) → z ≡ pos (value_of t z w)
amount_value t z w = w.value
