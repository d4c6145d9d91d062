-- Occurrences as days that pass a test, and the least of them.
use Rattle.std.proofs.Common.{◌≡◌, ℕ, zero, suc, ◌+◌, ◌-◌, ◌<◌, ◌≤◌, Bool, true, false, cond, ◌&&◌, ◌==◌, Option, Some, None, refl, sym, ap, ◌∙◌, subst, arith}
use Rattle.std.specs.Prelude.{◌||◌, MatchOption}
use Rattle.std.proofs.lemmas.Bool.{and_parts, and_from, false_from_ne_true, both_ways, eqb-true, eq-eqb, ltb-true}
use Rattle.schedules.specs.declared.recurrence.Frequency.{Frequency}
use Rattle.schedules.specs.declared.recurrence.Frequency.TheVariants.{Daily, Weekly, Monthly, Yearly}
use Rattle.schedules.specs.Days.{Said, is_raw, is_raw_by, is_kept, moved, any_below, is_occurrence, least_of, next_from, is_day_step, is_month_step, is_year_step}
use Rattle.schedules.specs.Laws.{Occurs, IsLeastFrom}
use Rattle.schedules.proofs.Calendar.{by_lt}
use Rattle.schedules.proofs.Moving.{moved_within}
use Rattle.schedules.proofs.Occurring.{kept_raw}

pub bool_cases : (b : Bool) {P : Type 0} → (b ≡ true → P) → (b ≡ false → P) → P
bool_cases true t f = t refl
bool_cases false t f = f refl

-- ---- some day below

some_below : (test : ℕ → Bool) (n : ℕ) → any_below test n ≡ true → (d : ℕ) × (d < n) × (test d ≡ true)
unfolding any_below
some_below test zero h = cc
some_below test (suc n) h =
    bool_cases (test n)
    (λ t. (n, omega arith, t))
    (λ f. let more = some_below test n (sym (ap (λ b. b || any_below test n) f) ∙ h) in (more.0, omega (arith, more.1), more.2))

below_some : (test : ℕ → Bool) (n d : ℕ) → d < n → test d ≡ true → any_below test n ≡ true
unfolding any_below
below_some test zero d h t = absurd (omega arith)
below_some test (suc n) d h t =
    by_lt d n
    (λ lt. or_right (test n) (any_below test n) (below_some test n d lt t))
    (λ ge. let same : d ≡ n = omega arith in or_left (test n) (any_below test n) (ap test (sym same) ∙ t))
  where
    or_right : (a b : Bool) → b ≡ true → (a || b) ≡ true
    or_right true b k = refl
    or_right false b k = k

    or_left : (a b : Bool) → a ≡ true → (a || b) ≡ true
    or_left a b k = rw k refl

-- ---- days of the calendar

raw_within : (r : Said) (d : ℕ) → is_raw r d ≡ true → d < 84_006
unfolding is_raw is_day_step is_month_step is_year_step
raw_within r d h = by r.frequency h
  where
    by : (f : Frequency) → is_raw_by f r d ≡ true → d < 84_006
    by Daily t = ltb-true d 84_006 (and_parts _ _ t).0
    by Weekly t = ltb-true d 84_006 (and_parts _ _ t).0
    by Monthly t = ltb-true d 84_006 (and_parts _ _ t).0
    by Yearly t = ltb-true d 84_006 (and_parts _ _ t).0

pub occurs_within : (r : Said) (e : ℕ) → Occurs r e → e < 84_006
occurs_within r e o = subst (λ x. x < 84_006) o.moves (moved_within r.weekends o.day (raw_within r o.day (kept_raw r o.day o.kept).0))

-- ---- occurrences

pub occurs_so : (r : Said) (e : ℕ) → is_occurrence r e ≡ true → Occurs r e
unfolding is_occurrence
occurs_so r e h =
    let some = some_below (λ d. is_kept r d && (moved r.weekends d == e)) 84_006 h in
    let both = and_parts (is_kept r some.0) (moved r.weekends some.0 == e) some.2 in
    record { day = some.0; kept = both.0; moves = eqb-true (moved r.weekends some.0) e both.1 }

pub so_occurs : (r : Said) (e : ℕ) → Occurs r e → is_occurrence r e ≡ true
unfolding is_occurrence
so_occurs r e o =
    below_some (λ d. is_kept r d && (moved r.weekends d == e)) 84_006 o.day (raw_within r o.day (kept_raw r o.day o.kept).0)
    (and_from (is_kept r o.day) (moved r.weekends o.day == e) o.kept (eq-eqb (moved r.weekends o.day) e o.moves))

-- ---- the least day

least_some : (test : ℕ → Bool) (more from n : ℕ) → from ≤ n → n < from + more → test n ≡ true → ((d : ℕ) → from ≤ d → d < n → test d ≡ false) → least_of test more from ≡ Some n
unfolding least_of
least_some test zero from n reached within t none = absurd (omega arith)
least_some test (suc more) from n reached within t none =
    by_lt from n
    (λ lt. ap (λ b. cond b (Some from) (least_of test more (from + 1))) (none from (omega arith) lt) ∙ least_some test more (from + 1) n (omega arith) (omega arith) t (λ d h. none d (omega arith)))
    (λ ge. let same : from ≡ n = omega arith in ap (λ b. cond b (Some from) (least_of test more (from + 1))) (ap test same ∙ t) ∙ ap Some same)

least_none : (test : ℕ → Bool) (more from : ℕ) → ((d : ℕ) → from ≤ d → d < from + more → test d ≡ false) → least_of test more from ≡ None
unfolding least_of
least_none test zero from none = refl
least_none test (suc more) from none =
    ap (λ b. cond b (Some from) (least_of test more (from + 1))) (none from (omega arith) (omega arith)) ∙ least_none test more (from + 1) (λ d h k. none d (omega arith) (omega arith))

-- what the least day is
abbrev IsLeast : (ℕ → Bool) → ℕ → ℕ → Option ℕ → Type 0
IsLeast test more from o = MatchOption o ((d : ℕ) → from ≤ d → d < from + more → test d ≡ false) (λ n. (from ≤ n) × (test n ≡ true) × ((d : ℕ) → from ≤ d → d < n → test d ≡ false))

least_is : (test : ℕ → Bool) (more from : ℕ) → IsLeast test more from (least_of test more from)
unfolding least_of
least_is test zero from = λ d reached below. absurd (omega arith)
least_is test (suc more) from = bool_cases (test from)
    (λ t. subst (IsLeast test (suc more) from) (sym (ap (λ b. cond b (Some from) (least_of test more (from + 1))) t)) (omega arith, t, λ d reached below. absurd (omega arith)))
    (λ f. subst (IsLeast test (suc more) from) (sym (ap (λ b. cond b (Some from) (least_of test more (from + 1))) f)) (by (least_of test more (from + 1)) f (least_is test more (from + 1))))
  where
    on : (d : ℕ) → test from ≡ false → ((k : ℕ) → from + 1 ≤ k → k < d → test k ≡ false) → (k : ℕ) → from ≤ k → k < d → test k ≡ false
    on d f none k reached below =
        by_lt from k
        (λ lt. none k (omega arith) below)
        (λ ge. let same : k ≡ from = omega arith in ap test same ∙ f)

    by : (o : Option ℕ) → test from ≡ false → IsLeast test more (from + 1) o → IsLeast test (suc more) from o
    by None f h = on (from + suc more) f (λ k reached below. h k reached (omega arith))
    by (Some n) f h = (omega (arith, h.0), h.1, on n f h.2)

pub next_some : (r : Said) (from n : ℕ) → IsLeastFrom r from n → next_from r from ≡ Some n
unfolding next_from
next_some r from n is =
    let within = occurs_within r n is.occurs in
    least_some (is_occurrence r) (84_006 - from) from n is.reached (omega (arith, is.reached)) (so_occurs r n is.occurs)
    (λ d reached below. false_from_ne_true (is_occurrence r d) (λ t. omega (arith, is.least d (occurs_so r d t) reached)))

pub next_none : (r : Said) (from : ℕ) → ((e : ℕ) → Occurs r e → e < from) → next_from r from ≡ None
unfolding next_from
next_none r from none =
    least_none (is_occurrence r) (84_006 - from) from (λ d reached below. false_from_ne_true (is_occurrence r d) (λ t. omega (arith, none d (occurs_so r d t))))

-- the next one is the least, or there is none
pub next_told : (r : Said) (from : ℕ) → MatchOption (next_from r from) ((e : ℕ) → Occurs r e → e < from) (λ n. IsLeastFrom r from n)
unfolding next_from
next_told r from = by (least_of (is_occurrence r) (84_006 - from) from) (least_is (is_occurrence r) (84_006 - from) from)
  where
    by : (o : Option ℕ) → IsLeast (is_occurrence r) (84_006 - from) from o → MatchOption o ((e : ℕ) → Occurs r e → e < from) (λ n. IsLeastFrom r from n)
    by None h = λ e o.
        by_lt e from (λ lt. lt)
        (λ ge. let within = occurs_within r e o in absurd (both_ways (is_occurrence r e) (h e ge (omega arith)) (so_occurs r e o)))
    by (Some n) h = record {
      occurs = occurs_so r n h.1;
      reached = h.0;
      least = λ e o reached.
          by_lt e n
          (λ lt. absurd (both_ways (is_occurrence r e) (h.2 e reached lt) (so_occurs r e o)))
          (λ ge. ge);
    }

pub some_told : (r : Said) (from n : ℕ) → next_from r from ≡ Some n → IsLeastFrom r from n
some_told r from n e = subst (λ o. MatchOption o ((e : ℕ) → Occurs r e → e < from) (λ n. IsLeastFrom r from n)) e (next_told r from)

pub none_told : (r : Said) (from : ℕ) → next_from r from ≡ None → (e : ℕ) → Occurs r e → e < from
none_told r from e = subst (λ o. MatchOption o ((e : ℕ) → Occurs r e → e < from) (λ n. IsLeastFrom r from n)) e (next_told r from)
