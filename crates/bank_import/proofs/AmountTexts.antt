-- Which texts are amounts.
use Rattle.std.proofs.Common.{◌≡◌, ℕ, ◌+◌, ◌-◌, ◌*◌, ◌≤◌, Bool, true, false, cond, [], ◌∷◌, ◌++◌, Option, Some, None, refl, sym, ap, ◌∙◌, arith}
use lib.IntN.{ℤ, pos}
use Rattle.std.specs.Prelude.{◌&&◌, ◌==◌, nat_lt, neg_ℤ, length}
use Rattle.std.specs.Option.{option_map}
use Rattle.std.proofs.lemmas.Bool.{and_parts, eqb-true, eqb-false, ne_eqb, ltb-true, lt-ltb}
use Rattle.finite_sums.specs.Maps.{Text}
use Rattle.rule_engine.specs.Days.{is_digit}
use Rattle.bank_import.specs.Statement.{fraction, cents_from, amount_of_text}
use Rattle.bank_import.specs.Amounts.{AreDigits, number, hundredths, behind_point, with_sign, signed, IsAmount, LawOfAmounts}

no_some : {X P : Type 0} (x : X) → None ≡ Some x → P
no_some x h = absurd (clash h)
  where
    clash : None ≡ Some x → ⊥
    clash h = cc

some_is : {X : Type 0} (x y : X) → Some x ≡ Some y → x ≡ y
some_is x y h = cc

chosen : {X : Type 0} (b : Bool) (x : Option X) (n : X) → cond b x None ≡ Some n → (b ≡ true) × (x ≡ Some n)
chosen true x n h = (refl, h)
chosen false x n h = no_some n h

other : {X : Type 0} (b : Bool) (x : Option X) (n : X) → cond b None x ≡ Some n → (b ≡ false) × (x ≡ Some n)
other true x n h = no_some n h
other false x n h = (refl, h)

-- what follows so many digits, which write this number
record IsRest (before digits : ℕ) (bs : Text) (n : ℕ) : Type 0 where
  whole : Text
  cents : Text
  spelled : bs ≡ whole ++ behind_point cents
  are : AreDigits whole × AreDigits cents
  some : 1 ≤ digits + length whole
  few : digits + length whole ≤ 13
  short : length cents ≤ 2
  value : n ≡ number before whole * 100 + hundredths cents

fraction_is : (before digits : ℕ) (bs : Text) (n : ℕ) → 1 ≤ digits → digits ≤ 13 → fraction before bs ≡ Some n → IsRest before digits bs n
fraction_is before digits [] n some few h = no_some n h
fraction_is before digits (p ∷ []) n some few h = no_some n h
fraction_is before digits (p ∷ a ∷ []) n some few h =
    let c = chosen ((p == 46) && is_digit a) (Some (before * 100 + (a - 48) * 10)) n h in
    let q = and_parts (p == 46) (is_digit a) c.0 in
    record {
      whole = [];
      cents = a ∷ [];
      spelled = ap (λ x. x ∷ a ∷ []) (eqb-true p 46 q.0);
      are = (tt, (q.1, tt));
      some = omega arith;
      few = omega arith;
      short = omega arith;
      value = sym (some_is _ _ c.1);
    }
fraction_is before digits (p ∷ a ∷ b ∷ []) n some few h =
    let c = chosen ((p == 46) && is_digit a && is_digit b) (Some (before * 100 + (a - 48) * 10 + (b - 48))) n h in
    let q = and_parts ((p == 46) && is_digit a) (is_digit b) c.0 in
    let r = and_parts (p == 46) (is_digit a) q.0 in
    record {
      whole = [];
      cents = a ∷ b ∷ [];
      spelled = ap (λ x. x ∷ a ∷ b ∷ []) (eqb-true p 46 r.0);
      are = (tt, (r.1, (q.1, tt)));
      some = omega arith;
      few = omega arith;
      short = omega arith;
      value = (let e = some_is _ _ c.1 in omega (arith, e));
    }
fraction_is before digits (p ∷ a ∷ b ∷ c ∷ cs) n some few h = no_some n h

rest_is : (bs : Text) (before digits n : ℕ) → digits ≤ 13 → cents_from before digits bs ≡ Some n → IsRest before digits bs n
rest_is [] before digits n few h =
    let c = other (digits == 0) (Some (before * 100)) n h in
    let some : 1 ≤ digits = (let e = eqb-false digits 0 c.0 in omega (arith, e)) in
    record {
      whole = [];
      cents = [];
      spelled = refl;
      are = (tt, tt);
      some = omega arith;
      few = omega arith;
      short = omega arith;
      value = (let e = some_is _ _ c.1 in omega (arith, e));
    }
rest_is (b ∷ bs) before digits n few h = by (is_digit b) refl (rest_is bs (before * 10 + (b - 48)) (digits + 1) n) h
  where
    by : (d : Bool) → is_digit b ≡ d → (digits + 1 ≤ 13 → cents_from (before * 10 + (b - 48)) (digits + 1) bs ≡ Some n → IsRest (before * 10 + (b - 48)) (digits + 1) bs n)
        → cond d (cond (nat_lt digits 13) (cents_from (before * 10 + (b - 48)) (digits + 1) bs) None) (cond (digits == 0) None (fraction before (b ∷ bs))) ≡ Some n → IsRest before digits (b ∷ bs) n
    by true d rest k =
        let c = chosen (nat_lt digits 13) (cents_from (before * 10 + (b - 48)) (digits + 1) bs) n k in
        let less = ltb-true digits 13 c.0 in
        let w = rest (omega (arith, less)) c.1 in
        let some = w.some in
        let most = w.few in
        record {
          whole = b ∷ w.whole;
          cents = w.cents;
          spelled = ap (λ t. b ∷ t) w.spelled;
          are = ((d, w.are.0), w.are.1);
          some = omega arith;
          few = omega (arith, most);
          short = w.short;
          value = w.value;
        }
    by false d rest k =
        let c = other (digits == 0) (fraction before (b ∷ bs)) n k in
        fraction_is before digits (b ∷ bs) n (let e = eqb-false digits 0 c.0 in omega (arith, e)) few c.1

-- and the other way
abbrev Few : ℕ → Text → Type 0
Few digits whole = digits + length whole ≤ 13

point_read : (before digits : ℕ) (cents : Text) → 1 ≤ digits → AreDigits cents → length cents ≤ 2 → cents_from before digits (behind_point cents) ≡ Some (before * 100 + hundredths cents)
point_read before digits [] some are short =
    ap (λ b. cond b None (Some (before * 100))) (ne_eqb digits 0 (λ e. omega (arith, e))) ∙ ap Some (let e : before * 100 ≡ before * 100 + 0 = omega arith in e)
point_read before digits (a ∷ []) some are short =
    ap (λ x. cond x None (fraction before (46 ∷ a ∷ []))) (ne_eqb digits 0 (λ e. omega (arith, e)))
    ∙ ap (λ x. cond x (Some (before * 100 + (a - 48) * 10)) None) are.0
point_read before digits (a ∷ b ∷ []) some are short =
    ap (λ x. cond x None (fraction before (46 ∷ a ∷ b ∷ []))) (ne_eqb digits 0 (λ e. omega (arith, e)))
    ∙ ap (λ x. cond (x && is_digit b) (Some (before * 100 + (a - 48) * 10 + (b - 48))) None) are.0
    ∙ ap (λ x. cond x (Some (before * 100 + (a - 48) * 10 + (b - 48))) None) are.1.0
    ∙ ap Some (let e : before * 100 + (a - 48) * 10 + (b - 48) ≡ before * 100 + ((a - 48) * 10 + (b - 48)) = omega arith in e)
point_read before digits (a ∷ b ∷ c ∷ cs) some are short = absurd (omega arith)

rest_read : (whole cents : Text) (before digits : ℕ) → AreDigits whole → AreDigits cents → 1 ≤ digits + length whole → Few digits whole → length cents ≤ 2
    → cents_from before digits (whole ++ behind_point cents) ≡ Some (number before whole * 100 + hundredths cents)
rest_read [] cents before digits are cs some few short = point_read before digits cents (omega arith) cs short
rest_read (b ∷ whole) cents before digits are cs some few short =
    ap (λ d. cond d (cond (nat_lt digits 13) (cents_from (before * 10 + (b - 48)) (digits + 1) (whole ++ behind_point cents)) None) (cond (digits == 0) None (fraction before (b ∷ whole ++ behind_point cents)))) are.0
    ∙ ap (λ d. cond d (cents_from (before * 10 + (b - 48)) (digits + 1) (whole ++ behind_point cents)) None) (lt-ltb digits 13 (omega (arith, few)))
    ∙ rest_read whole cents (before * 10 + (b - 48)) (digits + 1) are.1 cs (omega arith) (omega (arith, few)) short

of_some : {A B : Type 0} (f : A → B) (o : Option A) (z : B) → option_map f o ≡ Some z → (n : A) × (o ≡ Some n) × (f n ≡ z)
of_some f None z h = no_some z h
of_some f (Some n) z h = (n, refl, some_is (f n) z h)

amount_is : (t : Text) (z : ℤ) → amount_of_text t ≡ Some z → IsAmount t z
unfolding amount_of_text
amount_is [] z h = no_some z h
amount_is (b ∷ bs) z h = by (b == 45) refl h
  where
    by : (m : Bool) → (b == 45) ≡ m → cond m (option_map (λ n. neg_ℤ (pos n)) (cents_from 0 0 bs)) (option_map (λ n. pos n) (cents_from 0 0 (b ∷ bs))) ≡ Some z → IsAmount (b ∷ bs) z
    by true e k =
        let n = of_some (λ n. neg_ℤ (pos n)) (cents_from 0 0 bs) z k in
        let w = rest_is bs 0 0 n.0 (omega arith) n.1 in
        let some = w.some in
        let few = w.few in
        record {
          minus = true;
          whole = w.whole;
          cents = w.cents;
          spelled = ap (λ x. x ∷ bs) (eqb-true b 45 e) ∙ ap (λ t. 45 ∷ t) w.spelled;
          digits = w.are;
          some = omega (arith, some);
          few = omega (arith, few);
          short = w.short;
          value = sym n.2 ∙ ap (λ n. neg_ℤ (pos n)) w.value;
        }
    by false e k =
        let n = of_some (λ n. pos n) (cents_from 0 0 (b ∷ bs)) z k in
        let w = rest_is (b ∷ bs) 0 0 n.0 (omega arith) n.1 in
        let some = w.some in
        let few = w.few in
        record {
          minus = false;
          whole = w.whole;
          cents = w.cents;
          spelled = w.spelled;
          digits = w.are;
          some = omega (arith, some);
          few = omega (arith, few);
          short = w.short;
          value = sym n.2 ∙ ap (λ n. pos n) w.value;
        }

no_digit : (b : ℕ) → is_digit b ≡ true → (b == 45) ≡ false
no_digit b h = ne_eqb b 45 (λ e. absurd (let bad : false ≡ true = ap is_digit (sym e) ∙ h in cc))

amount_read : (minus : Bool) (whole cents : Text) → AreDigits whole → AreDigits cents → 1 ≤ length whole → length whole ≤ 13 → length cents ≤ 2
    → amount_of_text (with_sign minus (whole ++ behind_point cents)) ≡ Some (signed minus (number 0 whole * 100 + hundredths cents))
unfolding amount_of_text
amount_read true whole cents are cs some few short = ap (option_map (λ n. neg_ℤ (pos n))) (rest_read whole cents 0 0 are cs (omega arith) (omega arith) short)
amount_read false [] cents are cs some few short = absurd (omega arith)
amount_read false (b ∷ whole) cents are cs some few short =
    ap (λ m. cond m (option_map (λ n. neg_ℤ (pos n)) (cents_from 0 0 (whole ++ behind_point cents))) (option_map (λ n. pos n) (cents_from 0 0 (b ∷ whole ++ behind_point cents)))) (no_digit b are.0)
    ∙ ap (option_map (λ n. pos n)) (rest_read (b ∷ whole) cents 0 0 are cs (omega arith) (omega arith) short)

pub law_of_amounts : LawOfAmounts
law_of_amounts t z = (amount_is t z, λ h. ap amount_of_text h.spelled ∙ amount_read h.minus h.whole h.cents h.digits.0 h.digits.1 h.some h.few h.short ∙ ap Some (sym h.value))
