-- The occurrences between two days, in order.
use Rattle.std.proofs.Common.{◌≡◌, ℕ, zero, suc, ◌+◌, ◌-◌, ◌<◌, ◌≤◌, Bool, true, false, cond, List, [], ◌∷◌, ◌++◌, map, Some, None, append-nil, refl, sym, ap, ◌∙◌, subst, arith}
use Rattle.std.specs.Prelude.{◌==◌, ◌||◌, if◌then◌else◌}
use Rattle.std.specs.List.{list_any, AllByRecursion}
use Rattle.std.specs.List.Sorted.{IsStrictlySortedBy}
use Rattle.std.specs.Ordering.{nat_cmp}
use Rattle.std.specs.declared.cmp.Ordering.TheVariants.{Less}
use Rattle.std.proofs.lemmas.Bool.{eqb-true, eq-eqb, false_from_ne_true}
use Rattle.hybrid_clock.proofs.TextOrder.{nat_cmp-lt}
use Rattle.schedules.specs.Months.{date_of, day_in}
use Rattle.schedules.specs.Days.{Said, moved, is_occurrence, next_from}
use Rattle.schedules.specs.Upcoming.{IsOccurrence, AreBetween}
use Rattle.schedules.specs.Laws.{Occurs, IsLeastFrom}
use Rattle.schedules.proofs.Calendar.{by_lt}
use Rattle.schedules.proofs.Dating.{date_back, date_rises, date_from}
use Rattle.schedules.proofs.Telling.{bool_cases, occurs_within, occurs_so, so_occurs, some_told, none_told}
use Rattle.schedules.proofs.Following.{with_date, its_day}

-- those of the `more` days from one day on that pass a test, in order
unfoldable pub those_of : (ℕ → Bool) → ℕ → ℕ → List ℕ
those_of test zero from = []
those_of test (suc more) from = if test from then from ∷ those_of test more (from + 1) else those_of test more (from + 1)

-- the occurrences from one day to another, both counted, in order
unfoldable pub occurrences_in : Said → ℕ → ℕ → List ℕ
occurrences_in r first last = those_of (is_occurrence r) (last + 1 - first) first

those_pass : (test : ℕ → Bool) (more from : ℕ) → test from ≡ true → those_of test (suc more) from ≡ from ∷ those_of test more (from + 1)
unfolding those_of
those_pass test more from t = ap (λ b. cond b (from ∷ those_of test more (from + 1)) (those_of test more (from + 1))) t

those_skip : (test : ℕ → Bool) (more from : ℕ) → test from ≡ false → those_of test (suc more) from ≡ those_of test more (from + 1)
unfolding those_of
those_skip test more from f = ap (λ b. cond b (from ∷ those_of test more (from + 1)) (those_of test more (from + 1))) f

those_none : (test : ℕ → Bool) (more from : ℕ) → ((d : ℕ) → from ≤ d → d < from + more → test d ≡ false) → those_of test more from ≡ []
unfolding those_of
those_none test zero from none = refl
those_none test (suc more) from none = those_skip test more from (none from (omega arith) (omega arith)) ∙ those_none test more (from + 1) (λ d h k. none d (omega arith) (omega arith))

those_step : (test : ℕ → Bool) (more from d : ℕ) → from ≤ d → d < from + more → test d ≡ true → ((k : ℕ) → from ≤ k → k < d → test k ≡ false) → those_of test more from ≡ d ∷ those_of test (from + more - (d + 1)) (d + 1)
those_step test zero from d reached within t none = absurd (omega arith)
those_step test (suc more) from d reached within t none =
    by_lt from d
    (λ lt.
    let left : from + 1 + more - (d + 1) ≡ from + suc more - (d + 1) = omega arith in
    those_skip test more from (none from (omega arith) lt) ∙ those_step test more (from + 1) d (omega arith) (omega arith) t (λ k h below. none k (omega arith) below)
    ∙ ap (λ m. d ∷ those_of test m (d + 1)) left)
    (λ ge.
    let same : from ≡ d = omega arith in
    let left : more ≡ from + suc more - (d + 1) = omega arith in
    those_pass test more from (ap test same ∙ t) ∙ ap (λ x. x ∷ those_of test more (x + 1)) same ∙ ap (λ m. d ∷ those_of test m (d + 1)) left)

-- ---- one after the other

pub one_more : (r : Said) (from to d : ℕ) → IsLeastFrom r from d → d ≤ to → occurrences_in r from to ≡ d ∷ occurrences_in r (d + 1) to
unfolding occurrences_in
one_more r from to d least within =
    let reached = least.reached in
    let left : from + (to + 1 - from) - (d + 1) ≡ to + 1 - (d + 1) = omega arith in
    those_step (is_occurrence r) (to + 1 - from) from d reached (omega arith) (so_occurs r d least.occurs)
    (λ k h below. false_from_ne_true (is_occurrence r k) (λ t. omega (arith, least.least k (occurs_so r k t) h)))
    ∙ ap (λ m. d ∷ those_of (is_occurrence r) m (d + 1)) left

pub no_more : (r : Said) (from to : ℕ) → ((e : ℕ) → Occurs r e → from ≤ e → to < e) → occurrences_in r from to ≡ []
unfolding occurrences_in
no_more r from to none =
    those_none (is_occurrence r) (to + 1 - from) from (λ d h below. false_from_ne_true (is_occurrence r d) (λ t. omega (arith, none d (occurs_so r d t) h)))

-- ---- what the list has

among : List ℕ → ℕ → Bool
among dates n = list_any (λ m. m == n) dates

or_true : (a b : Bool) {P : Type 0} → (a || b) ≡ true → (a ≡ true → P) → (b ≡ true → P) → P
or_true true b h p q = p refl
or_true false b h p q = q h

or_right : (a b : Bool) → b ≡ true → (a || b) ≡ true
or_right true b h = refl
or_right false b h = h

or_left : (a b : Bool) → a ≡ true → (a || b) ≡ true
or_left a b h = rw h refl

-- a day of the list, by its date
record HasDay (test : ℕ → Bool) (more from n : ℕ) : Type 0 where
  day : ℕ
  passes : test day ≡ true
  reached : from ≤ day
  below : day < from + more
  writes : date_of day ≡ n

further : (test : ℕ → Bool) (more from n : ℕ) → HasDay test more (from + 1) n → HasDay test (suc more) from n
further test more from n x = record { day = x.day; passes = x.passes; reached = omega (arith, x.reached); below = omega (arith, x.below); writes = x.writes }

has_day : (test : ℕ → Bool) (more from n : ℕ) → list_any (λ m. m == n) (map date_of (those_of test more from)) ≡ true → HasDay test more from n
unfolding those_of
has_day test zero from n h = cc
has_day test (suc more) from n h =
    bool_cases (test from)
    (λ t.
    let k : list_any (λ m. m == n) (map date_of (from ∷ those_of test more (from + 1))) ≡ true = sym (ap (λ ds. list_any (λ m. m == n) (map date_of ds)) (those_pass test more from t)) ∙ h in
    or_true (date_of from == n) (list_any (λ m. m == n) (map date_of (those_of test more (from + 1)))) k
    (λ e. record { day = from; passes = t; reached = omega arith; below = omega arith; writes = eqb-true (date_of from) n e })
    (λ later. further test more from n (has_day test more (from + 1) n later)))
    (λ f. further test more from n (has_day test more (from + 1) n (sym (ap (λ ds. list_any (λ m. m == n) (map date_of ds)) (those_skip test more from f)) ∙ h)))

day_had : (test : ℕ → Bool) (more from n d : ℕ) → test d ≡ true → from ≤ d → d < from + more → date_of d ≡ n → list_any (λ m. m == n) (map date_of (those_of test more from)) ≡ true
day_had test zero from n d t reached below e = absurd (omega arith)
day_had test (suc more) from n d t reached below e =
    by_lt from d
    (λ lt.
    let more_has = day_had test more (from + 1) n d t (omega arith) (omega arith) e in
    bool_cases (test from)
    (λ p. ap (λ ds. list_any (λ m. m == n) (map date_of ds)) (those_pass test more from p) ∙ or_right (date_of from == n) _ more_has)
    (λ f. ap (λ ds. list_any (λ m. m == n) (map date_of ds)) (those_skip test more from f) ∙ more_has))
    (λ ge.
    let same : from ≡ d = omega arith in
    ap (λ ds. list_any (λ m. m == n) (map date_of ds)) (those_pass test more from (ap test same ∙ t)) ∙ or_left (date_of from == n) _ (eq-eqb (date_of from) n (ap date_of same ∙ e)))

-- ---- in which order

all_above : (test : ℕ → Bool) (more from x : ℕ) → x < from → from + more ≤ 84_006 → AllByRecursion (λ y. nat_cmp (date_of x) y ≡ Less) (map date_of (those_of test more from))
unfolding those_of
all_above test zero from x below within = tt
all_above test (suc more) from x below within =
    let rest = all_above test more (from + 1) x (omega arith) (omega arith) in
    bool_cases (test from)
    (λ t. subst (λ ds. AllByRecursion (λ y. nat_cmp (date_of x) y ≡ Less) (map date_of ds)) (sym (those_pass test more from t)) (nat_cmp-lt _ _ (date_rises x from below (omega arith)), rest))
    (λ f. subst (λ ds. AllByRecursion (λ y. nat_cmp (date_of x) y ≡ Less) (map date_of ds)) (sym (those_skip test more from f)) rest)

all_rise : (test : ℕ → Bool) (more from : ℕ) → from + more ≤ 84_006 → IsStrictlySortedBy nat_cmp (map date_of (those_of test more from))
unfolding those_of IsStrictlySortedBy
all_rise test zero from within = tt
all_rise test (suc more) from within =
    let rest = all_rise test more (from + 1) (omega arith) in
    bool_cases (test from)
    (λ t. subst (λ ds. IsStrictlySortedBy nat_cmp (map date_of ds)) (sym (those_pass test more from t)) (all_above test more (from + 1) from (omega arith) (omega arith), rest))
    (λ f. subst (λ ds. IsStrictlySortedBy nat_cmp (map date_of ds)) (sym (those_skip test more from f)) rest)

-- ---- as dates

pub between : (r : Said) (first last a b : ℕ) → day_in first ≡ Some a → day_in last ≡ Some b → AreBetween r first last (map date_of (occurrences_in r a b))
unfolding occurrences_in those_of IsStrictlySortedBy
between r first last a b from to =
    let begin = date_back first a from in
    let end = date_back last b to in
    record {
      rises = by_lt b a (λ lt. none_rise lt) (λ ge. all_rise (is_occurrence r) (b + 1 - a) a (omega (arith, end.1)));
      each = λ n. (
        λ h.
            let x = has_day (is_occurrence r) (b + 1 - a) a n h in
            let o = occurs_so r x.day x.passes in
            let within = occurs_within r x.day o in (
              subst (IsOccurrence r) x.writes (with_date r x.day o),
              omega (arith, date_from a x.day x.reached within, begin.0, x.writes),
              omega (arith, date_from x.day b (omega (arith, x.below, x.reached)) end.1, end.0, x.writes),
            ),
        λ h.
            let o = h.0 in
            let day = moved r.weekends o.day in
            let is = its_day r n o in
            let within = occurs_within r day is in
            let moves = o.moves in
            let reached : a ≤ day = by_lt day a (λ lt. absurd (omega (arith, date_rises day a lt begin.1, begin.0, moves, h.1))) (λ ge. ge) in
            let below : day ≤ b = by_lt b day (λ lt. absurd (omega (arith, date_rises b day lt within, end.0, moves, h.2))) (λ ge. ge) in
            day_had (is_occurrence r) (b + 1 - a) a n day (so_occurs r day is) reached (omega (arith, reached, below)) moves,
      );
    }
  where
    none_rise : b < a → IsStrictlySortedBy nat_cmp (map date_of (those_of (is_occurrence r) (b + 1 - a) a))
    none_rise lt = let none : b + 1 - a ≡ 0 = omega arith in subst (λ m. IsStrictlySortedBy nat_cmp (map date_of (those_of (is_occurrence r) m a))) (sym none) tt

-- ---- for the loop that makes the list

pub goes_on : (r : Said) (from day to : ℕ) → next_from r from ≡ Some day → day ≤ to → occurrences_in r from to ≡ day ∷ occurrences_in r (day + 1) to
goes_on r from day to e within = one_more r from to day (some_told r from day e) within

pub ends_late : (r : Said) (from day to : ℕ) → next_from r from ≡ Some day → to < day → occurrences_in r from to ≡ []
ends_late r from day to e late = let least = some_told r from day e in no_more r from to (λ d o h. omega (arith, least.least d o h))

pub ends_none : (r : Said) (from to : ℕ) → next_from r from ≡ None → occurrences_in r from to ≡ []
ends_none r from to e = no_more r from to (λ d o h. absurd (omega (arith, none_told r from e d o)))

pub listed : (r : Said) (first last a b from : ℕ) (dates : List ℕ) → day_in first ≡ Some a → day_in last ≡ Some b
    → dates ++ map date_of (occurrences_in r from b) ≡ map date_of (occurrences_in r a b) → occurrences_in r from b ≡ [] → AreBetween r first last dates
listed r first last a b from dates begin end all none =
    let same : dates ≡ map date_of (occurrences_in r a b) = sym (append-nil dates) ∙ ap (λ ds. dates ++ map date_of ds) (sym none) ∙ all in
    subst (AreBetween r first last) (sym same) (between r first last a b begin end)
