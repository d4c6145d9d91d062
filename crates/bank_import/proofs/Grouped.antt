-- A group has all that a turn may take.
use Rattle.std.proofs.Common.{◌≡◌, Bool, true, false, cond, List, [], ◌∷◌, Option, Some, None, ℤ, refl, sym, ap, ◌∙◌}
use Rattle.std.specs.Prelude.{◌&&◌, not, nat_le, is_some}
use Rattle.std.specs.List.{filter}
use Rattle.std.specs.Ordering.{int_eq}
use Rattle.std.specs.Cmp.{eq_by_cmp_equiv}
use Rattle.std.proofs.lemmas.Cmp.{int_cmp_total}
use Rattle.std.proofs.lemmas.Bool.{and_from, leb-true, false_from_ne_true}
use Rattle.std.specs.Cmp.Lexicographic.{nat_list_cmp_total}
use Rattle.finite_sums.specs.Maps.{Text}
use Rattle.bank_import.specs.Matching.{are_same, nearest, is_nearer, is_open, turn, id_of, meets, is_near, distance, days_apart}
use Rattle.bank_import.specs.Groups.{with_id, near_in}
use Rattle.bank_import.specs.Spans.{span, reaches}
use Rattle.bank_import.proofs.Nearest.{and_true}
use Rattle.bank_import.proofs.Spanned.{near_reaches}
use Rattle.bank_import.specs.declared.facts.Facts.{Facts}
use Rattle.bank_import.specs.declared.facts.Candidate.{Candidate}
use Rattle.bank_import.specs.declared.facts.Pass.{Pass}
use Rattle.bank_import.specs.declared.facts.Pass.TheVariants.{ById, ByPayee, ByAmount}

false_of : (a b : Bool) → (a ≡ true → b ≡ true) → b ≡ false → a ≡ false
false_of true b h e = sym (h refl) ∙ e
false_of false b h e = refl

module _ (r : Facts) (can : Candidate → Bool) where
  pub none_can : ((c : Candidate) → can c ≡ false) → (best : Option Candidate) (cs : List Candidate) → nearest r can best cs ≡ best
  none_can h best [] = refl
  none_can h best (c ∷ cs) = ap (λ b. nearest r can (cond (b && is_nearer r best c) (Some c) best) cs) (h c) ∙ none_can h best cs

  by : (key : Candidate → Bool) → ((c : Candidate) → can c ≡ true → key c ≡ true) → (best : Option Candidate) (c : Candidate) (cs : List Candidate)
      → (b : Bool) → key c ≡ b
      → nearest r can (cond (can c && is_nearer r best c) (Some c) best) (filter key cs) ≡ nearest r can (cond (can c && is_nearer r best c) (Some c) best) cs
      → nearest r can best (filter key cs) ≡ nearest r can best cs
      → nearest r can best (cond b (c ∷ filter key cs) (filter key cs)) ≡ nearest r can (cond (can c && is_nearer r best c) (Some c) best) cs
  by key h best c cs true e i j = i
  by key h best c cs false e i j = j ∙ sym (ap (λ b. nearest r can (cond (b && is_nearer r best c) (Some c) best) cs) (false_of (can c) (key c) (h c) e))

  pub enough : (key : Candidate → Bool) → ((c : Candidate) → can c ≡ true → key c ≡ true) → (best : Option Candidate) (cs : List Candidate)
      → nearest r can best (filter key cs) ≡ nearest r can best cs
  enough key h best [] = refl
  enough key h best (c ∷ cs) = by key h best c cs (key c) refl (enough key h (cond (can c && is_nearer r best c) (Some c) best) cs) (enough key h best cs)

same_back : (k : Text) (o : Option Text) → are_same (Some k) o ≡ true → are_same o (Some k) ≡ true
same_back k None h = h
same_back k (Some x) h = (eq_by_cmp_equiv nat_list_cmp_total).symm x k ∙ h

pub turn_none_id : (r : Facts) (taken : Text → Bool) (cs : List Candidate) → r.financial_id ≡ None → id_of (turn ById r taken cs) ≡ None
turn_none_id r taken cs e = ap id_of (none_can r (is_open ById r taken) (λ c. ap (λ o. are_same o c.financial_id && not (taken c.id)) e) None cs)

pub turn_with_id : (r : Facts) (taken : Text → Bool) (cs : List Candidate) (k : Text) → r.financial_id ≡ Some k → turn ById r taken (with_id k cs) ≡ turn ById r taken cs
turn_with_id r taken cs k e = enough r (is_open ById r taken) (λ c. are_same c.financial_id (Some k))
    (λ c h. same_back k c.financial_id (ap (λ o. are_same o c.financial_id) (sym e) ∙ (and_true (are_same r.financial_id c.financial_id) (not (taken c.id)) h).0)) None cs

pub near_amount : (r : Facts) (c : Candidate) → is_near r c ≡ true → int_eq r.amount c.amount ≡ true
near_amount r c h =
    (and_true (int_eq r.amount c.amount) (nat_le (distance r c) 7) (and_true (int_eq r.amount c.amount && nat_le (distance r c) 7) (not (is_some r.financial_id && is_some c.financial_id)) h).0).0

-- what is near a record is of its amount, and in reach of the span of its day
near_key : (r : Facts) (day : ℤ) (c : Candidate) → r.day ≡ Some day → is_near r c ≡ true → (int_eq c.amount r.amount && reaches c.day (span day)) ≡ true
near_key r day c e h =
    let near : nat_le (distance r c) 7 ≡ true = (and_true (int_eq r.amount c.amount) (nat_le (distance r c) 7) (and_true (int_eq r.amount c.amount && nat_le (distance r c) 7) (not (is_some r.financial_id && is_some c.financial_id)) h).0).1 in
    let close : nat_le (days_apart (Some day) c.day) 7 ≡ true = ap (λ o. nat_le (days_apart o c.day) 7) (sym e) ∙ near in
    and_from _ _ ((eq_by_cmp_equiv int_cmp_total).symm c.amount r.amount ∙ near_amount r c h) (near_reaches day c.day (leb-true _ 7 close))

-- one without a day has none near it
far_key : (r : Facts) (c : Candidate) → r.day ≡ None → is_near r c ≡ false
far_key r c e = false_from_ne_true (is_near r c) (λ h.
    let near : nat_le (distance r c) 7 ≡ true = (and_true (int_eq r.amount c.amount) (nat_le (distance r c) 7) (and_true (int_eq r.amount c.amount && nat_le (distance r c) 7) (not (is_some r.financial_id && is_some c.financial_id)) h).0).1 in
    let bad : false ≡ true = ap (λ o. nat_le (days_apart o c.day) 7) (sym e) ∙ near in
    cc)

module _ (p : Pass) (r : Facts) (asks : (c : Candidate) → meets p r c ≡ true → is_near r c ≡ true) (taken : Text → Bool) (cs : List Candidate) where
  by_day : (o : Option ℤ) → r.day ≡ o → turn p r taken (near_in r.amount o cs) ≡ turn p r taken cs
  by_day None e = sym (none_can r (is_open p r taken) (λ c. ap (λ b. b && not (taken c.id)) (false_of (meets p r c) (is_near r c) (asks c) (far_key r c e))) None cs)
  by_day (Some day) e = enough r (is_open p r taken) (λ c. int_eq c.amount r.amount && reaches c.day (span day))
      (λ c h. near_key r day c e (asks c (and_true (meets p r c) (not (taken c.id)) h).0)) None cs

  turn_near : turn p r taken (near_in r.amount r.day cs) ≡ turn p r taken cs
  turn_near = by_day r.day refl

pub turn_of_payee : (r : Facts) (taken : Text → Bool) (cs : List Candidate) → turn ByPayee r taken (near_in r.amount r.day cs) ≡ turn ByPayee r taken cs
turn_of_payee r taken cs = turn_near ByPayee r (λ c h. (and_true (is_near r c) (are_same r.payee c.payee) h).0) taken cs

pub turn_of_amount : (r : Facts) (taken : Text → Bool) (cs : List Candidate) → turn ByAmount r taken (near_in r.amount r.day cs) ≡ turn ByAmount r taken cs
turn_of_amount r taken cs = turn_near ByAmount r (λ c h. h) taken cs
