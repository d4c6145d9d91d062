-- The first day of a month that falls on a pattern, and the first by whole steps of months.
use Rattle.std.proofs.Common.{◌≡◌, ℕ, ◌+◌, ◌-◌, ◌*◌, ◌<◌, ◌≤◌, true, false, ◌&&◌, ◌==◌, nat_lt, nat_le, max, arith, refl, ap, sym, ◌∙◌, List, [], ◌∷◌, length}
use Rattle.std.specs.List.{list_any}
use Rattle.std.specs.Int.{div_ceil}
use Rattle.std.proofs.lemmas.Bool.{and_parts, and_from, false_from_ne_true, lt-ltb, le-leb, ltb-true, leb-true, both_ways}
use Rattle.schedules.specs.declared.month.MonthDay.{MonthDay}
use Rattle.schedules.specs.declared.recurrence.Pattern.{Pattern}
use Rattle.schedules.specs.Months.{month_length, month_start, month_day}
use Rattle.schedules.specs.Days.{Places, is_multiple, is_month_step, falls_on, falls_by, is_at, IsFirstFrom, IsFirstFromIn}
use Rattle.schedules.proofs.Calendar.{by_lt, month_day_is, month_within, placed, day_of, month_rises, start_before, start_end}
use Rattle.schedules.proofs.Steps.{ceil_times, not_below, apart, one_more, multiple}

pub falls_by_none : (ps : List Pattern) (first : ℕ) (m : MonthDay) → length ps ≡ 0 → falls_by ps first m ≡ (m.place == first)
falls_by_none [] first m e = refl
falls_by_none (p ∷ ps) first m e = absurd (omega arith)

pub falls_by_some : (ps : List Pattern) (first : ℕ) (m : MonthDay) → 0 < length ps → falls_by ps first m ≡ list_any (is_at m) ps
falls_by_some [] first m h = absurd (omega arith)
falls_by_some (p ∷ ps) first m h = refl

-- of the first n days of a month, none from one day on falls
abbrev pub NoneFalls : Places → ℕ → ℕ → ℕ → Type 0
NoneFalls r month from n =
    (p : ℕ) → p < n → from ≤ month_start month + p → falls_on r (record { month = month; place = p + 1 }) ≡ false

pub at_place : (month before : ℕ) → month < 2_760 → before < month_length month → month_day (month_start month + before) ≡ record { month = month; place = before + 1 }
at_place month before within h =
    month_day_is month (before + 1) (month_start month + before) within (omega arith) (omega arith) (omega arith)

-- a day of the month by its place
place_of : (d month : ℕ) → month < 2_760 → (month_day d).month ≡ month → (month_start month + ((month_day d).place - 1) ≡ d) × ((month_day d).place ≤ month_length month) × (1 ≤ (month_day d).place)
place_of d month within same =
    let inside : (month_day d).month < 2_760 = omega arith in
    let starts : month_start (month_day d).month ≡ month_start month = ap month_start same in
    let lengths : month_length (month_day d).month ≡ month_length month = ap month_length same in
    let at = placed d inside in
    let last = (day_of d).last inside in
    let first = (day_of d).first in
    (omega arith, omega arith, first)

pub none_falls : (r : Places) (month from n : ℕ) → month < 2_760 → NoneFalls r month from n → (d : ℕ) → from ≤ d → d < month_start month + n → (month_day d).month ≡ month → falls_on r (month_day d) ≡ false
none_falls r month from n within none d reached below same =
    let at = place_of d month within same in
    let p = (month_day d).place - 1 in
    let there : month_day d ≡ record { month = month; place = p + 1 } =
    ap month_day (sym at.0) ∙ at_place month p within (omega (arith, at.1, at.2)) in
    ap (falls_on r) there ∙ none p (omega (arith, at.0)) (omega (arith, at.0))

pub none_in_month : (r : Places) (month from : ℕ) → month < 2_760 → NoneFalls r month from (month_length month) → (d : ℕ) → from ≤ d → (month_day d).month ≡ month → falls_on r (month_day d) ≡ false
none_in_month r month from within none d reached same =
    let at = place_of d month within same in
    none_falls r month from (month_length month) within none d reached (omega (arith, at.0, at.1, at.2)) same

pub found : (r : Places) (month from before : ℕ) → month < 2_760 → before < month_length month → NoneFalls r month from before → from ≤ month_start month + before → falls_on r (record { month = month; place = before + 1 }) ≡ true → IsFirstFromIn r month from (month_start month + before)
found r month from before within short none reached falls =
    let there = at_place month before within short in
    record {
      there = ap (λ (m : MonthDay). m.month) there;
      falls = ap (falls_on r) there ∙ falls;
      reached = reached;
      within = end_bound month before within short;
      before = λ d first below same. none_falls r month from before within none d first below same;
    }
  where
    end_bound : (month before : ℕ) → month < 2_760 → before < month_length month → month_start month + before < 84_006
    end_bound month before within short = omega (arith, start_before month 2_760 within, start_end)

-- what a test of whole months says
pub record IsMonthStep (step : ℕ) (r : Places) (d : ℕ) : Type 0 where
  pub within : d < 84_006
  pub from : r.start ≤ d
  pub whole : is_multiple step ((month_day d).month - (month_day r.start).month) ≡ true
  pub falls : falls_on r (month_day d) ≡ true

pub month_step : (step : ℕ) (r : Places) (d : ℕ) → is_month_step step r d ≡ true → IsMonthStep step r d
unfolding is_month_step
month_step step r d h =
    let a = and_parts (nat_lt d 84_006) (nat_le r.start d && (is_multiple step ((month_day d).month - (month_day r.start).month) && falls_on r (month_day d))) h in
    let b = and_parts (nat_le r.start d) (is_multiple step ((month_day d).month - (month_day r.start).month) && falls_on r (month_day d)) a.1 in
    let e = and_parts (is_multiple step ((month_day d).month - (month_day r.start).month)) (falls_on r (month_day d)) b.1 in
    record { within = ltb-true d 84_006 a.0; from = leb-true r.start d b.0; whole = e.0; falls = e.1 }

pub is_step_of : (step : ℕ) (r : Places) (d : ℕ) → IsMonthStep step r d → is_month_step step r d ≡ true
unfolding is_month_step
is_step_of step r d h =
    and_from _ _ (lt-ltb d 84_006 h.within) (and_from _ _ (le-leb r.start d h.from) (and_from _ _ h.whole h.falls))

-- no raw day from `begin` on lies in an earlier month
pub record IsAhead (step : ℕ) (r : Places) (begin month : ℕ) : Type 0 where
  pub whole : is_multiple step (month - (month_day r.start).month) ≡ true
  pub from : (month_day r.start).month ≤ month
  pub below : month < 14_760
  pub least : (d : ℕ) → begin ≤ d → is_month_step step r d ≡ true → month ≤ (month_day d).month

pub ahead_first : (step : ℕ) (r : Places) (begin month : ℕ) → 1 ≤ step → step ≤ 12_000 → r.start ≤ begin → begin < 84_006 → month ≡ (month_day r.start).month + div_ceil ((month_day begin).month - (month_day r.start).month) step * step → IsAhead step r begin month
ahead_first step r begin month one most from within e =
    let first = (month_day r.start).month in
    let x = (month_day begin).month - first in
    let k = div_ceil x step in
    let near = ceil_times x step (omega arith) in
    let rises = month_rises r.start begin from within in
    let inside = month_within begin within in
    let whole : month - first ≡ k * step = omega (arith, e) in
    record {
      whole = ap (is_multiple step) whole ∙ multiple step k one;
      from = omega (arith, e);
      below = omega (arith, e, near.1, rises, inside);
      least = λ d reached t.
          let is = month_step step r d t in
          let later = month_rises begin d reached is.within in
          let least = not_below step ((month_day d).month - first) k x is.whole (omega (arith, later)) near.1 in
          omega (arith, least, e, later, rises);
    }

pub ahead_next : (step : ℕ) (r : Places) (begin month : ℕ) → 1 ≤ step → step ≤ 12_000 → month < 2_760 → IsAhead step r begin month → ((d : ℕ) → begin ≤ d → (month_day d).month ≡ month → falls_on r (month_day d) ≡ false) → IsAhead step r begin (month + step)
ahead_next step r begin month one most within is none =
    let first = (month_day r.start).month in
    let from = is.from in
    let up : month + step - first ≡ month - first + step = omega arith in
    record {
      whole = ap (is_multiple step) up ∙ one_more step (month - first) one is.whole;
      from = omega arith;
      below = omega arith;
      least = λ d reached t.
          let at = month_step step r d t in
          let least = is.least d reached t in
          by_lt month (month_day d).month
          (λ lt.
          let next = apart step (month - first) ((month_day d).month - first) one is.whole at.whole (omega arith) in
          omega (arith, next))
          (λ ge. absurd (both_ways (falls_on r (month_day d)) (none d reached (omega arith)) at.falls));
    }

pub ahead_found : (step : ℕ) (r : Places) (from begin month n : ℕ) → begin ≡ max from r.start → IsAhead step r begin month → IsFirstFromIn r month begin n → IsFirstFrom (is_month_step step r) from n
ahead_found step r from begin month n e is first =
    let same = first.there in
    let reached = first.reached in
    let whole : (month_day n).month - (month_day r.start).month ≡ month - (month_day r.start).month = ap (λ m. m - (month_day r.start).month) same in
    record {
      passes = is_step_of step r n (record { within = first.within; from = omega (arith, e); whole = ap (is_multiple step) whole ∙ is.whole; falls = first.falls });
      reached = omega (arith, e);
      within = first.within;
      before = λ d here below. false_from_ne_true (is_month_step step r d) (λ t.
          let at = month_step step r d t in
          let start = at.from in
          let far : begin ≤ d = omega (arith, e) in
          let least = is.least d far t in
          let rises = month_rises d n (omega arith) first.within in
          both_ways (falls_on r (month_day d)) (first.before d far below (omega arith)) at.falls);
    }

pub ahead_none : (step : ℕ) (r : Places) (from begin month : ℕ) → begin ≡ max from r.start → 2_760 ≤ month → IsAhead step r begin month → (d : ℕ) → from ≤ d → is_month_step step r d ≡ false
ahead_none step r from begin month e end is d reached =
    false_from_ne_true (is_month_step step r d) (λ t.
    let at = month_step step r d t in
    let start = at.from in
    omega (arith, is.least d (omega (arith, e)) t, month_within d at.within))

pub none_late : (step : ℕ) (r : Places) (from begin : ℕ) → begin ≡ max from r.start → 84_006 ≤ begin → (d : ℕ) → from ≤ d → is_month_step step r d ≡ false
none_late step r from begin e end d reached =
    false_from_ne_true (is_month_step step r d) (λ t.
    let at = month_step step r d t in
    let start = at.from in
    omega (arith, at.within, e))

-- the month where the code begins
pub rises_made : (r : Places) (begin : ℕ) (first here : MonthDay) → first ≡ month_day r.start → here ≡ month_day begin → r.start ≤ begin → begin < 84_006 → (first.month ≤ here.month) × (here.month < 2_760)
rises_made r begin first here a b from within = rw (a, b) (month_rises r.start begin from within, month_within begin within)

pub ahead_made : (step : ℕ) (r : Places) (begin k : ℕ) (first here : MonthDay) → 1 ≤ step → step ≤ 12_000 → first ≡ month_day r.start → here ≡ month_day begin → k ≡ div_ceil (here.month - first.month) step → r.start ≤ begin → begin < 84_006 → IsAhead step r begin (first.month + k * step)
ahead_made step r begin k first here one most a b e from within =
    ahead_first step r begin (first.month + k * step) one most from within (rw (e, a, b) refl)
