-- Which raw days an end keeps, where days move, and the middle of two amounts.
use Rattle.std.proofs.Common.{◌≡◌, ℕ, zero, suc, ◌+◌, ◌-◌, ◌/◌, ◌%◌, ◌<◌, ◌≤◌, ◌==◌, if◌then◌else◌, Bool, true, false, inl, inr, refl, sym, ap, ◌∙◌, arith}
use lib.IntN.{ℤ, pos, negsuc, ◌+ℤ◌}
use Rattle.std.specs.Prelude.{◌⊎◌, Some}
use Rattle.std.proofs.lemmas.Int.{ints}
use Rattle.std.proofs.lemmas.Bool.{lt-ltb, le-leb, ltb-true, leb-true, eqb-true, eqb-false, false_from_ne_true, cond_both, cond-true, cond-false}
use Rattle.schedules.specs.declared.recurrence.Frequency.{Frequency}
use Rattle.schedules.specs.declared.recurrence.Frequency.TheVariants.{Daily, Weekly, Monthly, Yearly}
use Rattle.schedules.specs.declared.recurrence.Ending.{Ending}
use Rattle.schedules.specs.declared.recurrence.Ending.TheVariants.{Times, Until}
use Rattle.schedules.specs.declared.recurrence.Weekends.TheVariants.{Before, After}
use Rattle.schedules.specs.Months.{weekday}
use Rattle.schedules.specs.Days.{Said, is_raw, is_raw_by, is_kept, is_within, count_below, moved, NoneFrom}
use Rattle.schedules.specs.Terms.{half, middle}
use Rattle.rule_laws.specs.Recurring.{EndsCut, IsWorkingBefore, IsWorkingFrom, DaysMove, MiddlesAreRounded}
use Rattle.schedules.proofs.Calendar.{by_lt}
use Rattle.schedules.proofs.Moving.{weekday_is}
use Rattle.schedules.proofs.Occurring.{kept_raw, is_kept_raw}
use Rattle.schedules.proofs.Promises.{never_within}

-- ---- ends

count_pass : (test : ℕ → Bool) (n : ℕ) → test n ≡ true → count_below test (n + 1) ≡ count_below test n + 1
unfolding count_below
count_pass test n t = let one : n + 1 ≡ suc n = omega arith in rw one (ap (λ x. count_below test n + x) (cond-true (test n) 1 0 t))

count_skip : (test : ℕ → Bool) (n : ℕ) → test n ≡ false → count_below test (n + 1) ≡ count_below test n
unfolding count_below
count_skip test n f = let one : n + 1 ≡ suc n = omega arith in rw one (ap (λ x. count_below test n + x) (cond-false (test n) 1 0 f) ∙ omega arith)

count_same : (test : ℕ → Bool) (a b : ℕ) → a ≤ b → NoneFrom test a b → count_below test b ≡ count_below test a
count_same test a zero h none = ap (count_below test) (omega arith)
count_same test a (suc b) h none =
    by_lt b a
    (λ lt. ap (count_below test) (omega arith))
    (λ ge.
    let one : suc b ≡ b + 1 = omega arith in
    rw one (count_skip test b (none b ge (omega arith)) ∙ count_same test a b ge (λ d from below. none d from (omega arith))))

within_is : (r : Said) (e : Ending) (d : ℕ) → r.ending ≡ e → is_kept r d ≡ true → is_within e (count_below (is_raw r) d) d ≡ true
within_is r e d is h = ap (λ x. is_within x (count_below (is_raw r) d) d) (sym is) ∙ (kept_raw r d h).1

is_within_so : (r : Said) (e : Ending) (d : ℕ) → r.ending ≡ e → is_raw r d ≡ true → is_within e (count_below (is_raw r) d) d ≡ true → is_kept r d ≡ true
is_within_so r e d is t h = is_kept_raw r d t (ap (λ x. is_within x (count_below (is_raw r) d) d) is ∙ h)

none_counted : (test : ℕ → Bool) (d : ℕ) → ((e : ℕ) → e < d → test e ≡ false) → count_below test d ≡ 0
unfolding count_below
none_counted test d none = count_same test 0 d (omega arith) (λ e from below. none e below)

-- one more lies below the raw day that follows
one_counted : (test : ℕ → Bool) (d e : ℕ) → test d ≡ true → d < e → ((k : ℕ) → d < k → k < e → test k ≡ false) → count_below test e ≡ count_below test d + 1
one_counted test d e t below none = count_same test (d + 1) e (omega arith) (λ k from to. none k (omega arith) to) ∙ count_pass test d t

-- another end changes no raw day
raw_stays : (r : Said) (n d : ℕ) → is_raw (record r { ending = Times n }) d ≡ is_raw r d
unfolding is_raw
raw_stays r n d = by r.frequency
  where
    by : (f : Frequency) → is_raw_by f (record r { ending = Times n }) d ≡ is_raw_by f r d
    by Daily = refl
    by Weekly = refl
    by Monthly = refl
    by Yearly = refl

count_stays : (r : Said) (n d : ℕ) → count_below (is_raw (record r { ending = Times n })) d ≡ count_below (is_raw r) d
unfolding count_below
count_stays r n zero = refl
count_stays r n (suc d) =
    ap (λ c. c + (if is_raw (record r { ending = Times n }) d then 1 else 0)) (count_stays r n d)
    ∙ ap (λ b. count_below (is_raw r) d + (if b then 1 else 0)) (raw_stays r n d)

times_so : (r : Said) (n d : ℕ) → is_kept (record r { ending = Times n }) d ≡ true → count_below (is_raw r) d < n
times_so r n d h =
    let within = within_is (record r { ending = Times n }) (Times n) d refl h in
    let few = ltb-true (count_below (is_raw (record r { ending = Times n })) d) n within in
    omega (arith, few, count_stays r n d)

so_times : (r : Said) (n d : ℕ) → is_raw r d ≡ true → count_below (is_raw r) d < n → is_kept (record r { ending = Times n }) d ≡ true
so_times r n d t h =
    is_within_so (record r { ending = Times n }) (Times n) d refl (raw_stays r n d ∙ t)
    (lt-ltb (count_below (is_raw (record r { ending = Times n })) d) n (omega (arith, h, count_stays r n d)))

pub cuts : (r : Said) → EndsCut r
cuts r = record {
  raw = λ d h. (kept_raw r d h).0;
  never = λ d e t. never_within r d e t;
  until = λ d last e t. (
    λ h. leb-true d last (within_is r (Until last) d e h),
    λ h. is_within_so r (Until last) d e t (le-leb d last h),
  );
  none = λ d e. false_from_ne_true (is_kept r d) (λ h. let few = ltb-true (count_below (is_raw r) d) 0 (within_is r (Times 0) d e h) in omega arith);
  first = λ d n t none. so_times r (n + 1) d t (omega (arith, none_counted (is_raw r) d none));
  next = λ d e n t u below none.
      let more = one_counted (is_raw r) d e t below none in (
        λ h. so_times r n d t (omega (arith, more, times_so r (n + 1) e h)),
        λ h. so_times r (n + 1) e u (omega (arith, more, times_so r n d h)),
      );
}

-- ---- weekends

by_weekday : (P : ℕ → Type 0) (d a b k : ℕ) → ((d + 3) % 7 ≡ 5 → P a) → ((d + 3) % 7 ≡ 6 → P b) → ((d + 3) % 7 < 5 → P k) → P (if weekday d == 5 then a else (if weekday d == 6 then b else k))
by_weekday P d a b k saturday sunday other =
    let is = weekday_is d in
    cond_both (weekday d == 5) a (if weekday d == 6 then b else k) P
    (λ t. let s = eqb-true (weekday d) 5 t in saturday (omega arith))
    (λ f. cond_both (weekday d == 6) b k P
    (λ t. let s = eqb-true (weekday d) 6 t in sunday (omega arith))
    (λ g. let not_five : weekday d ≡ 5 → ⊥ = eqb-false (weekday d) 5 f in let not_six : weekday d ≡ 6 → ⊥ = eqb-false (weekday d) 6 g in other (omega arith)))

before_is : (d : ℕ) → IsWorkingBefore d (moved Before d)
before_is d =
    by_weekday (IsWorkingBefore d) d (d - 1) (d - 2) d
    (λ s. record { working = omega (arith, weekday_is (d - 1)); up_to = omega arith; last = λ e from to. omega (arith, weekday_is e) })
    (λ s. record { working = omega (arith, weekday_is (d - 2)); up_to = omega arith; last = λ e from to. omega (arith, weekday_is e) })
    (λ s. record { working = omega (arith, weekday_is d); up_to = omega arith; last = λ e from to. absurd (omega arith) })

after_is : (d : ℕ) → IsWorkingFrom d (moved After d)
after_is d =
    by_weekday (IsWorkingFrom d) d (d + 2) (d + 1) d
    (λ s. record { working = omega (arith, weekday_is (d + 2)); from = omega arith; first = λ e from to. omega (arith, weekday_is e) })
    (λ s. record { working = omega (arith, weekday_is (d + 1)); from = omega arith; first = λ e from to. omega (arith, weekday_is e) })
    (λ s. record { working = omega (arith, weekday_is d); from = omega arith; first = λ e from to. absurd (omega arith) })

pub moves : (d : ℕ) → DaysMove d
moves d = record { stay = refl; before = before_is d; after = after_is d }

-- ---- the middle of two amounts

half_is : (z : ℤ) → (half z +ℤ half z ≡ z) ⊎ (half z +ℤ half z +ℤ pos 1 ≡ z)
half_is (pos n) = by (n % 2 == 0) refl
  where
    by : (b : Bool) → (n % 2 == 0) ≡ b → (pos (n / 2) +ℤ pos (n / 2) ≡ pos n) ⊎ (pos (n / 2) +ℤ pos (n / 2) +ℤ pos 1 ≡ pos n)
    by true e = let even = eqb-true (n % 2) 0 e in inl (omega (arith, ints, even))
    by false e = let odd = eqb-false (n % 2) 0 e in inr (omega (arith, ints, odd))
half_is (negsuc n) = by (n % 2 == 0) refl
  where
    by : (b : Bool) → (n % 2 == 0) ≡ b → (negsuc (n / 2) +ℤ negsuc (n / 2) ≡ negsuc n) ⊎ (negsuc (n / 2) +ℤ negsuc (n / 2) +ℤ pos 1 ≡ negsuc n)
    by true e = let even = eqb-true (n % 2) 0 e in inr (omega (arith, ints, even))
    by false e = let odd = eqb-false (n % 2) 0 e in inl (omega (arith, ints, odd))

pub rounded : MiddlesAreRounded
rounded a b = by (half_is (a +ℤ b +ℤ pos 1))
  where
    by : (half (a +ℤ b +ℤ pos 1) +ℤ half (a +ℤ b +ℤ pos 1) ≡ a +ℤ b +ℤ pos 1) ⊎ (half (a +ℤ b +ℤ pos 1) +ℤ half (a +ℤ b +ℤ pos 1) +ℤ pos 1 ≡ a +ℤ b +ℤ pos 1)
        → (middle (Some a) (Some b) +ℤ middle (Some a) (Some b) ≡ a +ℤ b) ⊎ (middle (Some a) (Some b) +ℤ middle (Some a) (Some b) ≡ a +ℤ b +ℤ pos 1)
    by (inl e) = inr e
    by (inr e) = inl (omega (arith, ints, e))
