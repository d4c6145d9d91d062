-- When a record of a statement and a transaction agree.
use Rattle.std.proofs.Common.{◌≡◌, ℕ, ◌+◌, ◌-◌, ◌*◌, ◌/◌, ◌%◌, ◌≤◌, ◌<◌, Bool, true, false, [], ◌∷◌, Option, Some, None, inl, inr, refl, sym, ap, ap₂, ◌∙◌, arith}
use lib.IntN.{ℤ, pos, ◌-ℤ◌}
use Rattle.std.specs.Prelude.{◌&&◌, not, is_some, nat_le, nat_lt, unsigned_abs, if◌then◌else◌}
use Rattle.std.specs.Option.{option_and_then}
use Rattle.std.specs.Ordering.{int_eq}
use Rattle.std.proofs.lemmas.Int.{ints}
use Rattle.std.proofs.lemmas.Bool.{and_parts, and_from, leb-true, le-leb, lt-ltb, le-ltb}
use Rattle.std.proofs.lemmas.Bool.Decides.{Decides-int_eq}
use Rattle.finite_sums.specs.Maps.{Text}
use Rattle.book_rows.specs.declared.rows.Rows.{Rows}
use Rattle.book_rows.specs.declared.rows.TxRow.{TxRow}
use Rattle.book_rows.specs.Kinds.{is_day}
use Rattle.book_rows.specs.Live.{payee_of}
use Rattle.jiff_core.specs.Calendar.{days_from_civil}
use Rattle.jiff_core.proofs.CalendarLemmas.{days_in_month_bounds}
use Rattle.rule_engine.specs.Days.{day_number, numbered}
use Rattle.schedules.specs.Months.{month_start, month_day, month_in, day_in}
use Rattle.schedules.proofs.Promises.{dates}
use Rattle.bank_import.specs.Matching.{day_of, facts_of, are_same, days_apart, distance, is_near, meets, candidate_of, no_match, next_pass}
use Rattle.bank_import.proofs.Nearest.{id_same, id_itself}
use Rattle.kept_pairs.specs.Near.{AreSame, AreApart, AreNear, Agree, taken_of, taken_of_two, NearnessIsTold}

pub some_is : {A : Type 0} (x y : A) → Some x ≡ Some y → x ≡ y
some_is x y h = cc

pub none_some : {A P : Type 0} (x : A) → None ≡ Some x → P
none_some x h = absurd (clash h)
  where
    clash : None ≡ Some x → ⊥
    clash h = cc

-- ---- days

day_so : (o : Option ℕ) (d : ℤ) → option_and_then numbered o ≡ Some d → (n : ℕ) × (o ≡ Some n) × (is_day n ≡ true) × (d ≡ day_number n)
day_so None d h = none_some d h
day_so (Some n) d h = by (is_day n) refl h
  where
    by : (b : Bool) → is_day n ≡ b → (if b then Some (day_number n) else None) ≡ Some d → (m : ℕ) × (Some n ≡ Some m) × (is_day m ≡ true) × (d ≡ day_number m)
    by true e h = (n, refl, e, sym (some_is (day_number n) d h))
    by false e h = none_some d h

so_day : (x : TxRow) (n : ℕ) → x.date ≡ Some n → is_day n ≡ true → day_of x ≡ Some (day_number n)
so_day x n e day = ap (option_and_then numbered) e ∙ ap (λ b. if b then Some (day_number n) else None) day

-- ---- ids and payees

same_so : (a b : Option Text) → are_same a b ≡ true → AreSame a b
same_so None b h = cc
same_so (Some a) None h = cc
same_so (Some a) (Some b) h = (a, refl, ap Some (sym (id_same a b h)))

so_same : (a b : Option Text) → AreSame a b → are_same a b ≡ true
so_same a b s = ap (λ o. are_same o b) s.1 ∙ ap (are_same (Some s.0)) s.2 ∙ id_itself s.0

both_so : (a b : Option Text) → not (is_some a && is_some b) ≡ true → (s t : Text) → a ≡ Some s → b ≡ Some t → ⊥
both_so None b h s t e f = none_some s e
both_so (Some a) None h s t e f = none_some t f
both_so (Some a) (Some b) h s t e f = cc

so_both : (a b : Option Text) → ((s t : Text) → a ≡ Some s → b ≡ Some t → ⊥) → not (is_some a && is_some b) ≡ true
so_both None b h = refl
so_both (Some a) None h = refl
so_both (Some a) (Some b) h = absurd (h a b refl refl)

-- ---- nearness

week_so : (x y : TxRow) → nat_le (days_apart (day_of x) (day_of y)) 7 ≡ true → (n : ℕ) × AreApart x y n × (n ≤ 7)
week_so x y h = by (day_of x) (day_of y) refl refl h
  where
    by : (a b : Option ℤ) → day_of x ≡ a → day_of y ≡ b → nat_le (days_apart a b) 7 ≡ true → (n : ℕ) × AreApart x y n × (n ≤ 7)
    by None b e f h = let far = leb-true 4_294_967_296 7 h in absurd (omega (arith, far))
    by (Some d) None e f h = let far = leb-true 4_294_967_296 7 h in absurd (omega (arith, far))
    by (Some d) (Some g) e f h =
        let m = day_so x.date d e in
        let n = day_so y.date g f in (
          unsigned_abs (d -ℤ g),
          record { first = m.0; second = n.0; one = m.1; other = n.1; is_first = m.2; is_second = n.2; apart = ap (λ z. unsigned_abs (z -ℤ g)) m.3 ∙ ap (λ z. unsigned_abs (day_number m.0 -ℤ z)) n.3 },
          leb-true (unsigned_abs (d -ℤ g)) 7 h,
        )

apart_is : (x y : TxRow) (n : ℕ) → AreApart x y n → days_apart (day_of x) (day_of y) ≡ n
apart_is x y n w = ap (λ o. days_apart o (day_of y)) (so_day x w.first w.one w.is_first) ∙ ap (days_apart (Some (day_number w.first))) (so_day y w.second w.other w.is_second) ∙ sym w.apart

so_week : (x y : TxRow) (n : ℕ) → AreApart x y n → n ≤ 7 → nat_le (days_apart (day_of x) (day_of y)) 7 ≡ true
so_week x y n w h = ap (λ k. nat_le k 7) (apart_is x y n w) ∙ le-leb n 7 h

near_so : (rows : Rows) (x y : TxRow) (id : Text) → is_near (facts_of rows x) (candidate_of rows id y) ≡ true → AreNear x y
near_so rows x y id h =
    let a = and_parts (int_eq x.amount y.amount && nat_le (days_apart (day_of x) (day_of y)) 7) (not (is_some x.financial_id && is_some y.financial_id)) h in
    let b = and_parts (int_eq x.amount y.amount) (nat_le (days_apart (day_of x) (day_of y)) 7) a.0 in
    record { amounts = (Decides-int_eq x.amount y.amount).0 b.0; days = week_so x y b.1; ids = both_so x.financial_id y.financial_id a.1 }

so_near : (rows : Rows) (x y : TxRow) (id : Text) → AreNear x y → is_near (facts_of rows x) (candidate_of rows id y) ≡ true
so_near rows x y id n =
    and_from (int_eq x.amount y.amount && nat_le (days_apart (day_of x) (day_of y)) 7) (not (is_some x.financial_id && is_some y.financial_id))
    (and_from (int_eq x.amount y.amount) (nat_le (days_apart (day_of x) (day_of y)) 7) ((Decides-int_eq x.amount y.amount).1 n.amounts) (so_week x y n.days.0 n.days.1 n.days.2))
    (so_both x.financial_id y.financial_id n.ids)

-- ---- days that are not there

undated : (a : Option ℤ) → days_apart a None ≡ 4_294_967_296
undated None = refl
undated (Some x) = refl

-- the number of a day of the calendar
number_is : (year month place n : ℕ) → month < 100 → place < 100 → year * 10_000 + month * 100 + place ≡ n → day_number n ≡ days_from_civil (pos year) month place
unfolding day_number
number_is year month place n h k e =
    let y : n / 10_000 ≡ year = omega arith in
    let m : n / 100 % 100 ≡ month = omega arith in
    let p : n % 100 ≡ place = omega arith in
    rw (y, m, p) refl

counted : (n : ℕ) → is_day n ≡ true → (k : ℕ) × (k < 84_006) × (day_number n ≡ pos k)
unfolding day_in
counted n h =
    let k = month_start (month_in n) + n % 100 - 1 in
    let is : day_in n ≡ Some k = ap (λ b. if b then Some k else None) h in
    let date = dates.day n k is in
    let civil = dates.civil k date.1 in
    let m = month_day k in
    let place : m.place < 100 = omega (arith, civil.civil.2.1, (days_in_month_bounds (pos (1970 + m.month / 12)) (m.month % 12 + 1)).0) in
    (k, date.1, number_is (1970 + m.month / 12) (m.month % 12 + 1) m.place n (omega arith) place date.0 ∙ civil.number)

-- a day that is there is nearer than one that isn't
far : (x y : TxRow) (n : ℕ) → AreApart x y n → n < 4_294_967_296
far x y n w =
    let a = counted w.first w.is_first in
    let b = counted w.second w.is_second in
    let near : unsigned_abs (pos a.0 -ℤ pos b.0) < 84_006 = omega (arith, ints, a.1, b.1) in
    let same : n ≡ unsigned_abs (pos a.0 -ℤ pos b.0) = w.apart ∙ ap (λ z. unsigned_abs (z -ℤ day_number w.second)) a.2 ∙ ap (λ z. unsigned_abs (pos a.0 -ℤ z)) b.2 in
    omega (arith, near, same)

-- ---- what is taken

is_false : (b : Bool) → (b ≡ true → ⊥) → b ≡ false
is_false true never = absurd (never refl)
is_false false never = refl

not_same : (a b : Option Text) → (AreSame a b → ⊥) → are_same a b ≡ false
not_same a b never = is_false (are_same a b) (λ h. never (same_so a b h))

not_near : (rows : Rows) (x y : TxRow) (id : Text) → (AreNear x y → ⊥) → is_near (facts_of rows x) (candidate_of rows id y) ≡ false
not_near rows x y id never = is_false (is_near (facts_of rows x) (candidate_of rows id y)) (λ h. never (near_so rows x y id h))

-- one record and one candidate: the first pass in which they agree decides
module _ (a b d : _) (r : _) (c : _) where
  in_first : meets a r c ≡ true → next_pass d (c ∷ []) (r ∷ []) (next_pass b (c ∷ []) (r ∷ []) (next_pass a (c ∷ []) (r ∷ []) (no_match (r ∷ [])))) ≡ Some c.id ∷ []
  in_first e = rw e refl

  in_second : meets a r c ≡ false → meets b r c ≡ true → next_pass d (c ∷ []) (r ∷ []) (next_pass b (c ∷ []) (r ∷ []) (next_pass a (c ∷ []) (r ∷ []) (no_match (r ∷ [])))) ≡ Some c.id ∷ []
  in_second e f = rw (e, f) refl

  in_third : meets a r c ≡ false → meets b r c ≡ false → meets d r c ≡ true → next_pass d (c ∷ []) (r ∷ []) (next_pass b (c ∷ []) (r ∷ []) (next_pass a (c ∷ []) (r ∷ []) (no_match (r ∷ [])))) ≡ Some c.id ∷ []
  in_third e f g = rw (e, f, g) refl

  in_none : meets a r c ≡ false → meets b r c ≡ false → meets d r c ≡ false → next_pass d (c ∷ []) (r ∷ []) (next_pass b (c ∷ []) (r ∷ []) (next_pass a (c ∷ []) (r ∷ []) (no_match (r ∷ [])))) ≡ None ∷ []
  in_none e f g = rw (e, f, g) refl

-- one record and two candidates: the first pass in which one agrees decides, and there the nearer one
module _ (a b d : _) (r : _) (c e : _) where
  first_pass : meets a r c ≡ true → meets a r e ≡ false → next_pass d (c ∷ e ∷ []) (r ∷ []) (next_pass b (c ∷ e ∷ []) (r ∷ []) (next_pass a (c ∷ e ∷ []) (r ∷ []) (no_match (r ∷ [])))) ≡ Some c.id ∷ []
  first_pass f g = rw (f, g) refl

  first_pass_back : meets a r c ≡ false → meets a r e ≡ true → next_pass d (c ∷ e ∷ []) (r ∷ []) (next_pass b (c ∷ e ∷ []) (r ∷ []) (next_pass a (c ∷ e ∷ []) (r ∷ []) (no_match (r ∷ [])))) ≡ Some e.id ∷ []
  first_pass_back f g = rw (f, g) refl

  first_nearer : meets a r c ≡ true → meets a r e ≡ true → nat_lt (distance r e) (distance r c) ≡ false
      → next_pass d (c ∷ e ∷ []) (r ∷ []) (next_pass b (c ∷ e ∷ []) (r ∷ []) (next_pass a (c ∷ e ∷ []) (r ∷ []) (no_match (r ∷ [])))) ≡ Some c.id ∷ []
  first_nearer f g h = rw (f, g, h) refl

  first_nearer_back : meets a r c ≡ true → meets a r e ≡ true → nat_lt (distance r e) (distance r c) ≡ true
      → next_pass d (c ∷ e ∷ []) (r ∷ []) (next_pass b (c ∷ e ∷ []) (r ∷ []) (next_pass a (c ∷ e ∷ []) (r ∷ []) (no_match (r ∷ [])))) ≡ Some e.id ∷ []
  first_nearer_back f g h = rw (f, g, h) refl

  second_pass : meets a r c ≡ false → meets a r e ≡ false → meets b r c ≡ true → meets b r e ≡ false
      → next_pass d (c ∷ e ∷ []) (r ∷ []) (next_pass b (c ∷ e ∷ []) (r ∷ []) (next_pass a (c ∷ e ∷ []) (r ∷ []) (no_match (r ∷ [])))) ≡ Some c.id ∷ []
  second_pass f g h i = rw (f, g, h, i) refl

  second_pass_back : meets a r c ≡ false → meets a r e ≡ false → meets b r c ≡ false → meets b r e ≡ true
      → next_pass d (c ∷ e ∷ []) (r ∷ []) (next_pass b (c ∷ e ∷ []) (r ∷ []) (next_pass a (c ∷ e ∷ []) (r ∷ []) (no_match (r ∷ [])))) ≡ Some e.id ∷ []
  second_pass_back f g h i = rw (f, g, h, i) refl

  third_nearer : meets a r c ≡ false → meets a r e ≡ false → meets b r c ≡ false → meets b r e ≡ false → meets d r c ≡ true → meets d r e ≡ true → nat_lt (distance r e) (distance r c) ≡ false
      → next_pass d (c ∷ e ∷ []) (r ∷ []) (next_pass b (c ∷ e ∷ []) (r ∷ []) (next_pass a (c ∷ e ∷ []) (r ∷ []) (no_match (r ∷ [])))) ≡ Some c.id ∷ []
  third_nearer f g h i j k l = rw (f, g, h, i, j, k, l) refl

  third_nearer_back : meets a r c ≡ false → meets a r e ≡ false → meets b r c ≡ false → meets b r e ≡ false → meets d r c ≡ true → meets d r e ≡ true → nat_lt (distance r e) (distance r c) ≡ true
      → next_pass d (c ∷ e ∷ []) (r ∷ []) (next_pass b (c ∷ e ∷ []) (r ∷ []) (next_pass a (c ∷ e ∷ []) (r ∷ []) (no_match (r ∷ [])))) ≡ Some e.id ∷ []
  third_nearer_back f g h i j k l = rw (f, g, h, i, j, k, l) refl

unlike : (n p : Bool) → p ≡ false → (n && p) ≡ false
unlike true p h = h
unlike false p h = refl

module _ (rows : Rows) (x y : TxRow) (id : Text) where
  one_first : are_same x.financial_id y.financial_id ≡ true → taken_of rows id y x ≡ Some id ∷ []
  one_first e = search in_first

  one_second : are_same x.financial_id y.financial_id ≡ false → (is_near (facts_of rows x) (candidate_of rows id y) && are_same (payee_of rows x) (payee_of rows y)) ≡ true → taken_of rows id y x ≡ Some id ∷ []
  one_second e f = search in_second

  one_third : are_same x.financial_id y.financial_id ≡ false → (is_near (facts_of rows x) (candidate_of rows id y) && are_same (payee_of rows x) (payee_of rows y)) ≡ false → is_near (facts_of rows x) (candidate_of rows id y) ≡ true → taken_of rows id y x ≡ Some id ∷ []
  one_third e f g = search in_third

  one_none : are_same x.financial_id y.financial_id ≡ false → (is_near (facts_of rows x) (candidate_of rows id y) && are_same (payee_of rows x) (payee_of rows y)) ≡ false → is_near (facts_of rows x) (candidate_of rows id y) ≡ false → taken_of rows id y x ≡ None ∷ []
  one_none e f g = search in_none

  agrees : Agree x y → taken_of rows id y x ≡ Some id ∷ []
  agrees a = elim a [ inl s ↦ one_first (so_same x.financial_id y.financial_id s) | inr n ↦ by (are_same x.financial_id y.financial_id) (are_same (payee_of rows x) (payee_of rows y)) refl refl (so_near rows x y id n) ]
    where
      by : (i p : Bool) → are_same x.financial_id y.financial_id ≡ i → are_same (payee_of rows x) (payee_of rows y) ≡ p → is_near (facts_of rows x) (candidate_of rows id y) ≡ true → taken_of rows id y x ≡ Some id ∷ []
      by true p e f g = one_first e
      by false true e f g = one_second e (and_from (is_near (facts_of rows x) (candidate_of rows id y)) (are_same (payee_of rows x) (payee_of rows y)) g f)
      by false false e f g = one_third e (unlike (is_near (facts_of rows x) (candidate_of rows id y)) (are_same (payee_of rows x) (payee_of rows y)) f) g

  differs : (Agree x y → ⊥) → taken_of rows id y x ≡ None ∷ []
  differs never =
      let n = not_near rows x y id (λ w. never (inr w)) in
      one_none (not_same x.financial_id y.financial_id (λ s. never (inl s))) (ap (λ b. b && are_same (payee_of rows x) (payee_of rows y)) n) n

module _ (rows : Rows) (x y z : TxRow) (a b : Text) where
  by_id : AreSame x.financial_id y.financial_id → (AreSame x.financial_id z.financial_id → ⊥) → (taken_of_two rows a y b z x ≡ Some a ∷ []) × (taken_of_two rows b z a y x ≡ Some a ∷ [])
  by_id s never =
      let e : are_same x.financial_id y.financial_id ≡ true = so_same x.financial_id y.financial_id s in
      let f : are_same x.financial_id z.financial_id ≡ false = not_same x.financial_id z.financial_id never in
      (search first_pass, search first_pass_back)

  by_payee : (AreSame x.financial_id y.financial_id → ⊥) → (AreSame x.financial_id z.financial_id → ⊥) → AreNear x y → AreSame (payee_of rows x) (payee_of rows y) → (AreSame (payee_of rows x) (payee_of rows z) → ⊥)
      → (taken_of_two rows a y b z x ≡ Some a ∷ []) × (taken_of_two rows b z a y x ≡ Some a ∷ [])
  by_payee first second near payee other =
      let e : are_same x.financial_id y.financial_id ≡ false = not_same x.financial_id y.financial_id first in
      let f : are_same x.financial_id z.financial_id ≡ false = not_same x.financial_id z.financial_id second in
      let g : (is_near (facts_of rows x) (candidate_of rows a y) && are_same (payee_of rows x) (payee_of rows y)) ≡ true = and_from (is_near (facts_of rows x) (candidate_of rows a y)) (are_same (payee_of rows x) (payee_of rows y)) (so_near rows x y a near) (so_same (payee_of rows x) (payee_of rows y) payee) in
      let h : (is_near (facts_of rows x) (candidate_of rows b z) && are_same (payee_of rows x) (payee_of rows z)) ≡ false = unlike (is_near (facts_of rows x) (candidate_of rows b z)) (are_same (payee_of rows x) (payee_of rows z)) (not_same (payee_of rows x) (payee_of rows z) other) in
      (search second_pass, search second_pass_back)

  nearest : (m n : ℕ) → (AreSame x.financial_id y.financial_id → ⊥) → (AreSame x.financial_id z.financial_id → ⊥) → AreNear x y → AreNear x z → (AreSame (payee_of rows x) (payee_of rows y) → ⊥) → (AreSame (payee_of rows x) (payee_of rows z) → ⊥)
      → AreApart x y m → AreApart x z n → m < n → (taken_of_two rows a y b z x ≡ Some a ∷ []) × (taken_of_two rows b z a y x ≡ Some a ∷ [])
  nearest m n first second near further one other s t less =
      let e : are_same x.financial_id y.financial_id ≡ false = not_same x.financial_id y.financial_id first in
      let f : are_same x.financial_id z.financial_id ≡ false = not_same x.financial_id z.financial_id second in
      let p : (is_near (facts_of rows x) (candidate_of rows a y) && are_same (payee_of rows x) (payee_of rows y)) ≡ false = unlike (is_near (facts_of rows x) (candidate_of rows a y)) (are_same (payee_of rows x) (payee_of rows y)) (not_same (payee_of rows x) (payee_of rows y) one) in
      let q : (is_near (facts_of rows x) (candidate_of rows b z) && are_same (payee_of rows x) (payee_of rows z)) ≡ false = unlike (is_near (facts_of rows x) (candidate_of rows b z)) (are_same (payee_of rows x) (payee_of rows z)) (not_same (payee_of rows x) (payee_of rows z) other) in
      let g : is_near (facts_of rows x) (candidate_of rows a y) ≡ true = so_near rows x y a near in
      let h : is_near (facts_of rows x) (candidate_of rows b z) ≡ true = so_near rows x z b further in
      let down : nat_lt (days_apart (day_of x) (day_of z)) (days_apart (day_of x) (day_of y)) ≡ false = ap₂ nat_lt (apart_is x z n t) (apart_is x y m s) ∙ le-ltb n m (omega (arith, less)) in
      let up : nat_lt (days_apart (day_of x) (day_of y)) (days_apart (day_of x) (day_of z)) ≡ true = ap₂ nat_lt (apart_is x y m s) (apart_is x z n t) ∙ lt-ltb m n less in
      (search third_nearer, search third_nearer_back)

  dated : (m : ℕ) → AreSame x.financial_id y.financial_id → AreSame x.financial_id z.financial_id → AreApart x y m → z.date ≡ None → (taken_of_two rows a y b z x ≡ Some a ∷ []) × (taken_of_two rows b z a y x ≡ Some a ∷ [])
  dated m s t w none =
      let e : are_same x.financial_id y.financial_id ≡ true = so_same x.financial_id y.financial_id s in
      let f : are_same x.financial_id z.financial_id ≡ true = so_same x.financial_id z.financial_id t in
      let v : days_apart (day_of x) (day_of z) ≡ 4_294_967_296 = ap (λ o. days_apart (day_of x) (option_and_then numbered o)) none ∙ undated (day_of x) in
      let k = far x y m w in
      let down : nat_lt (days_apart (day_of x) (day_of z)) (days_apart (day_of x) (day_of y)) ≡ false = ap₂ nat_lt v (apart_is x y m w) ∙ le-ltb 4_294_967_296 m (omega (arith, k)) in
      let up : nat_lt (days_apart (day_of x) (day_of y)) (days_apart (day_of x) (day_of z)) ≡ true = ap₂ nat_lt (apart_is x y m w) v ∙ lt-ltb m 4_294_967_296 k in
      (search first_nearer, search first_nearer_back)

pub near_told : (rows : Rows) → NearnessIsTold rows
near_told rows = record {
  agrees = agrees rows;
  differs = differs rows;
  by_id = by_id rows;
  by_payee = by_payee rows;
  nearest = nearest rows;
  dated = dated rows;
}
