-- What is known of the days before the one where the search for the next occurrence stands.
use Rattle.std.proofs.Common.{◌≡◌, ℕ, zero, suc, ◌+◌, ◌-◌, ◌<◌, ◌≤◌, Bool, true, false, arith, refl, ap, ◌∙◌}
use Rattle.std.proofs.lemmas.Bool.{and_parts, and_from, lt-ltb, le-leb, ltb-true, leb-true, both_ways, cond-true, cond-false}
use Rattle.schedules.specs.declared.recurrence.Ending.{Ending}
use Rattle.schedules.specs.declared.recurrence.Ending.TheVariants.{Never, Times, Until}
use Rattle.schedules.specs.Days.{Said, is_raw, is_kept, is_within, moved, count_below, IsPast, IsFirstFrom, NoneFrom, asked_from}
use Rattle.schedules.specs.Laws.{Occurs, IsLeastFrom}
use Rattle.schedules.proofs.Calendar.{by_lt}
use Rattle.schedules.proofs.Moving.{moved_near, moved_rises}

count_pass : (test : ℕ → Bool) (n : ℕ) → test n ≡ true → count_below test (n + 1) ≡ count_below test n + 1
unfolding count_below
count_pass test n t = let one : n + 1 ≡ suc n = omega arith in rw one (ap (λ x. count_below test n + x) (cond-true (test n) 1 0 t))

count_skip : (test : ℕ → Bool) (n : ℕ) → test n ≡ false → count_below test (n + 1) ≡ count_below test n
unfolding count_below
count_skip test n f = let one : n + 1 ≡ suc n = omega arith in rw one (ap (λ x. count_below test n + x) (cond-false (test n) 1 0 f) ∙ omega arith)

count_same : (test : ℕ → Bool) (a b : ℕ) → a ≤ b → NoneFrom test a b → count_below test b ≡ count_below test a
count_same test a zero h none = ap (count_below test) (omega arith)
count_same test a (suc b) h none =
    by_lt b a
    (λ lt. ap (count_below test) (omega arith))
    (λ ge.
    let one : suc b ≡ b + 1 = omega arith in
    rw one (count_skip test b (none b ge (omega arith)) ∙ count_same test a b ge (λ d from below. none d from (omega arith))))

count_step : (test : ℕ → Bool) (n : ℕ) → count_below test n ≤ count_below test (n + 1)
unfolding count_below
count_step test n = let one : n + 1 ≡ suc n = omega arith in rw one (omega arith)

count_rises : (test : ℕ → Bool) (a b : ℕ) → a ≤ b → count_below test a ≤ count_below test b
count_rises test a zero h = let same : a ≡ 0 = omega arith in rw same (omega arith)
count_rises test a (suc b) h =
    by_lt b a
    (λ lt. let same : a ≡ suc b = omega arith in rw same (omega arith))
    (λ ge.
    let one : suc b ≡ b + 1 = omega arith in
    rw one (omega (arith, count_rises test a b ge, count_step test b)))

-- the end keeps an earlier day where it keeps a later one
within_back : (e : Ending) (passed count raw d : ℕ) → ((n : ℕ) → e ≡ Times n → passed ≤ count) → raw ≤ d → is_within e count d ≡ true → is_within e passed raw ≡ true
within_back Never passed count raw d le h t = refl
within_back (Times n) passed count raw d le h t = lt-ltb passed n (omega (arith, ltb-true count n t, le n refl))
within_back (Until last) passed count raw d le h t = le-leb raw last (omega (arith, leb-true d last t))

pub kept_raw : (r : Said) (d : ℕ) → is_kept r d ≡ true → (is_raw r d ≡ true) × (is_within r.ending (count_below (is_raw r) d) d ≡ true)
unfolding is_kept
kept_raw r d h = and_parts (is_raw r d) (is_within r.ending (count_below (is_raw r) d) d) h

pub is_kept_raw : (r : Said) (d : ℕ) → is_raw r d ≡ true → is_within r.ending (count_below (is_raw r) d) d ≡ true → is_kept r d ≡ true
unfolding is_kept
is_kept_raw r d a b = and_from (is_raw r d) (is_within r.ending (count_below (is_raw r) d) d) a b

count_zero : (test : ℕ → Bool) → 0 ≡ count_below test 0
unfolding count_below
count_zero test = refl

early : (r : Said) (from : ℕ) → (d : ℕ) → d < from - 2 → is_kept r d ≡ true → moved r.weekends d < from
early r from d below kept = omega (arith, moved_near r.weekends d)

pub past_first : (r : Said) (from at : ℕ) → at ≡ asked_from r.ending from → IsPast r from at 0
past_first r from at e = by_ending r.ending refl
  where
    by_ending : (x : Ending) → r.ending ≡ x → IsPast r from at 0
    by_ending Never is =
        let begin : at ≡ from - 2 = e ∙ ap (λ x. asked_from x from) is in
        record { done = λ d below. early r from d (omega arith); counted = λ n times. absurd (cc); few = omega arith }
    by_ending (Times n) is =
        let begin : at ≡ 0 = e ∙ ap (λ x. asked_from x from) is in
        record { done = λ d below. absurd (omega arith); counted = λ m times. rw begin (count_zero (is_raw r)); few = omega arith }
    by_ending (Until last) is =
        let begin : at ≡ from - 2 = e ∙ ap (λ x. asked_from x from) is in
        record { done = λ d below. early r from d (omega arith); counted = λ n times. absurd (cc); few = omega arith }

-- a kept day is not between
not_between : (r : Said) (at raw d : ℕ) → IsFirstFrom (is_raw r) at raw → is_kept r d ≡ true → at ≤ d → raw ≤ d
not_between r at raw d first kept h =
    by_lt d raw
    (λ lt. absurd (both_ways (is_raw r d) (first.before d h lt) ((kept_raw r d kept).0)))
    (λ ge. ge)

-- the search goes on behind a raw day that moves to one before `later`
pub past_next : (r : Said) (from at passed raw later : ℕ) → IsPast r from at passed → IsFirstFrom (is_raw r) at raw → from ≤ later → moved r.weekends raw < later → IsPast r later (raw + 1) (passed + 1)
past_next r from at passed raw later past first on early =
    let reached = first.reached in
    let few = past.few in
    record {
      done = λ d below kept.
          by_lt d at
          (λ lt. omega (arith, past.done d lt kept))
          (λ ge. let same : d ≡ raw = omega (arith, not_between r at raw d first kept ge) in rw same early);
      counted = λ n times. omega (arith, past.counted n times, count_same (is_raw r) at raw reached first.before, count_pass (is_raw r) raw first.passes);
      few = omega arith;
    }

-- so many raw days lie before the first from here on
counted_at : (r : Said) (from at passed raw : ℕ) → IsPast r from at passed → IsFirstFrom (is_raw r) at raw → (n : ℕ) → r.ending ≡ Times n → passed ≡ count_below (is_raw r) raw
counted_at r from at passed raw past first n times =
    omega (arith, past.counted n times, count_same (is_raw r) at raw first.reached first.before)

pub past_cut : (r : Said) (from at passed raw : ℕ) → IsPast r from at passed → IsFirstFrom (is_raw r) at raw → is_within r.ending passed raw ≡ false → (e : ℕ) → Occurs r e → e < from
past_cut r from at passed raw past first cut e occurs =
    let moves = occurs.moves in
    let d = occurs.day in
    let kept = kept_raw r d occurs.kept in
    by_lt d at
    (λ lt. omega (arith, past.done d lt occurs.kept))
    (λ ge.
    let later = not_between r at raw d first occurs.kept ge in
    let back = within_back r.ending passed (count_below (is_raw r) d) raw d
    (λ n times. omega (arith, counted_at r from at passed raw past first n times, count_rises (is_raw r) raw d later)) later kept.1 in
    absurd (both_ways (is_within r.ending passed raw) cut back))

pub past_found : (r : Said) (from at passed raw : ℕ) → IsPast r from at passed → IsFirstFrom (is_raw r) at raw → is_within r.ending passed raw ≡ true → from ≤ moved r.weekends raw → IsLeastFrom r from (moved r.weekends raw)
past_found r from at passed raw past first keeps above =
    let within = within_back r.ending (count_below (is_raw r) raw) passed raw raw
    (λ n times. omega (arith, counted_at r from at passed raw past first n times)) (omega arith) keeps in
    record {
      occurs = record { day = raw; kept = is_kept_raw r raw first.passes within; moves = refl };
      reached = above;
      least = λ e occurs late.
          let moves = occurs.moves in
          by_lt occurs.day at
          (λ lt. absurd (omega (arith, past.done occurs.day lt occurs.kept)))
          (λ ge. omega (arith, moved_rises r.weekends raw occurs.day (not_between r at raw occurs.day first occurs.kept ge)));
    }

pub past_all : (r : Said) (from at passed : ℕ) → IsPast r from at passed → ((d : ℕ) → at ≤ d → is_raw r d ≡ false) → (e : ℕ) → Occurs r e → e < from
past_all r from at passed past none e occurs =
    let moves = occurs.moves in
    by_lt occurs.day at
    (λ lt. omega (arith, past.done occurs.day lt occurs.kept))
    (λ ge. let kept = kept_raw r occurs.day occurs.kept in absurd (both_ways (is_raw r occurs.day) (none occurs.day ge) kept.0))
