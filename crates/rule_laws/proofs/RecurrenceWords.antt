-- By which keys, words and values JSON says a recurrence.
use Rattle.std.proofs.Common.{◌≡◌, ℕ, ◌≤◌, ◌^◌, Bool, true, false, List, [], ◌∷◌, Option, Some, None, option_and_then, Result, Ok, Err, inl, inr, refl, sym, ap, ◌∙◌, subst, arith, lt-ltb, le-leb, leb-true}
use lib.IntN.{ℤ, pos, negsuc}
use Rattle.std.specs.Prelude.{◌⊎◌, ◌&&◌, nat_lt, nat_le, int_le, ◌≤ℤ◌, unsigned_abs, is_some, if◌then◌else◌, codes}
use Rattle.std.specs.Ordering.{int_eq}
use Rattle.std.specs.Str.{bytes_eq}
use Rattle.std.proofs.lemmas.Int.{ints}
use Rattle.std.proofs.lemmas.Bool.{and_parts, and_from}
use Rattle.std.proofs.lemmas.Bool.Decides.{Decides-int_eq}
use Rattle.serde_json.specs.Data.{Num, unsigned, negative, float, Data, null, boolean, number, string, array, object, Items, no_items, item, Members}
use Rattle.serde_json.specs.Find.{get, as_number, as_u64, as_str, as_array, as_object, as_i64, as_integer}
use Rattle.finite_sums.specs.Maps.{Text}
use Rattle.book_rows.specs.declared.fault.RecurPart.{RecurPart}
use Rattle.book_rows.specs.declared.fault.RecurPart.TheVariants.{Object, Start, Frequency as FrequencyKey, Interval, Patterns, SkipWeekend, WeekendSolveMode, EndMode, EndOccurrences, EndDate}
use Rattle.schedules.specs.declared.recurrence.Frequency.{Frequency}
use Rattle.schedules.specs.declared.recurrence.Frequency.TheVariants.{Daily, Weekly, Monthly, Yearly}
use Rattle.schedules.specs.declared.recurrence.Pattern.{Pattern}
use Rattle.schedules.specs.declared.recurrence.Pattern.TheVariants.{Place, Last}
use Rattle.schedules.specs.declared.recurrence.Ending.{Ending}
use Rattle.schedules.specs.declared.recurrence.Ending.TheVariants.{Never, Times, Until}
use Rattle.schedules.specs.declared.recurrence.Weekends.{Weekends}
use Rattle.schedules.specs.declared.recurrence.Weekends.TheVariants.{Stay, Before, After}
use Rattle.schedules.specs.Days.{Said}
use Rattle.schedules.specs.Reading.{present, at_key, in_range, whole, needed_whole, day_of_text, day_at, interval_at, frequency_word as word_frequency, frequency_at, skip_at, solve_word, solve_at, place_of, place_at, is_day_word, is_day, pattern_of, before, one_before, patterns_of, patterns_in, listed, may_have, mode_word, mode_at, start_of, frequency_of, interval_of, patterns_for, skip_of, solve_of, times_of, until_of, or_bad, weekends_by, weekends_of, ending_by, ending_of, result_then, said_of}
use Rattle.rule_laws.specs.RecurrenceWords.{Lacks, HasWord, HasCount, HasDay, frequency_word, SaysPlace, IsPattern, ArePatterns, HasPatterns, Skips, Solves, HasWeekends, Ends, HasInterval, IsRecurrence, RecurrencesReadBack}
use Rattle.rule_laws.proofs.Choices.{some_is, none_is, only, chosen, then_some, text_eq}
use Rattle.rule_laws.proofs.Wording.{str_is, bool_is, number_is, array_is}

-- ---- keys

lacks : (key : Text) (d : Data) → at_key key d ≡ None → Lacks key d
lacks key d h = by (get key d) refl h
  where
    by : (o : Option Data) → get key d ≡ o → present o ≡ None → Lacks key d
    by None e h = inl e
    by (Some null) e h = inr e
    by (Some (string t)) e h = cc
    by (Some (boolean b)) e h = cc
    by (Some (number n)) e h = cc
    by (Some (array ds)) e h = cc
    by (Some (object ms)) e h = cc

is_lacking : (key : Text) (d : Data) → Lacks key d → at_key key d ≡ None
is_lacking key d l = elim l [ inl e ↦ ap present e | inr e ↦ ap present e ]

has : (key : Text) (d v : Data) → at_key key d ≡ Some v → get key d ≡ Some v
has key d v h = by (get key d) refl h
  where
    by : (o : Option Data) → get key d ≡ o → present o ≡ Some v → get key d ≡ Some v
    by None e h = none_is v h
    by (Some null) e h = none_is v h
    by (Some (string t)) e h = e ∙ h
    by (Some (boolean b)) e h = e ∙ h
    by (Some (number n)) e h = e ∙ h
    by (Some (array ds)) e h = e ∙ h
    by (Some (object ms)) e h = e ∙ h

word_at : (key word : Text) (d : Data) → HasWord key word d → at_key key d ≡ Some (string word)
word_at key word d h = ap present h

-- ---- single values

unsigned_is : (m : Num) (n : ℕ) → as_u64 m ≡ Some n → m ≡ unsigned n
unsigned_is (unsigned k) n h = ap unsigned (some_is k n h)
unsigned_is (negative z) n h = none_is n h
unsigned_is (float x) n h = none_is n h

within : (least most : ℕ) (o : Option ℕ) (n : ℕ) → in_range least most o ≡ Some n → (o ≡ Some n) × (least ≤ n) × (n ≤ most)
within least most None n h = none_is n h
within least most (Some k) n h =
    let c = only (nat_le least k && nat_le k most) (Some k) n h in
    let b = and_parts (nat_le least k) (nat_le k most) c.0 in
    let same : k ≡ n = some_is k n c.1 in
    (c.1, subst (λ q. least ≤ q) same (leb-true least k b.0), subst (λ q. q ≤ most) same (leb-true k most b.1))

is_within : (least most n : ℕ) → least ≤ n → n ≤ most → in_range least most (Some n) ≡ Some n
is_within least most n l m = ap (λ b. if b then Some n else None) (and_from (nat_le least n) (nat_le n most) (le-leb least n l) (le-leb n most m))

whole_so : (least most : ℕ) (d : Data) (n : ℕ) → whole least most d ≡ Some n → (d ≡ number (unsigned n)) × (least ≤ n) × (n ≤ most)
whole_so least most d n h =
    let w = within least most (option_and_then as_u64 (as_number d)) n h in
    let m = then_some as_u64 (as_number d) n w.0 in
    (number_is d m.0 m.1 ∙ ap number (unsigned_is m.0 n m.2), w.1, w.2)

count_so : (key : Text) (least most : ℕ) (d : Data) (n : ℕ) → needed_whole least most (at_key key d) ≡ Some n → HasCount key least most n d
count_so key least most d n h = by (at_key key d) refl h
  where
    by : (o : Option Data) → at_key key d ≡ o → needed_whole least most o ≡ Some n → HasCount key least most n d
    by None e h = none_is n h
    by (Some v) e h = let w = whole_so least most v n h in (has key d v e ∙ ap Some w.0, w.1, w.2)

so_count : (key : Text) (least most : ℕ) (d : Data) (n : ℕ) → HasCount key least most n d → needed_whole least most (at_key key d) ≡ Some n
so_count key least most d n c = ap (λ o. needed_whole least most (present o)) c.0 ∙ is_within least most n c.1 c.2

dated : (key : Text) (d : Data) (day : ℕ) → day_at (at_key key d) ≡ Some day → HasDay key day d
dated key d day h = by (at_key key d) refl h
  where
    by : (o : Option Data) → at_key key d ≡ o → day_at o ≡ Some day → HasDay key day d
    by None e h = none_is day h
    by (Some v) e h = let t = then_some day_of_text (as_str v) day h in (t.0, has key d v e ∙ ap Some (str_is v t.0 t.1), t.2)

is_dated : (key : Text) (d : Data) (day : ℕ) → HasDay key day d → day_at (at_key key d) ≡ Some day
is_dated key d day c = ap (λ o. day_at (present o)) c.1 ∙ c.2

-- ---- the frequency and the interval

frequency_named : (t : Text) (f : Frequency) → word_frequency (Some t) ≡ Some f → t ≡ frequency_word f
frequency_named t f h = elim (chosen (bytes_eq t (codes "daily")) Daily _ f h) [
  | inl p ↦ text_eq t (codes "daily") p.0 ∙ ap frequency_word p.1
  | inr h ↦ elim (chosen (bytes_eq t (codes "weekly")) Weekly _ f h) [
    | inl p ↦ text_eq t (codes "weekly") p.0 ∙ ap frequency_word p.1
    | inr h ↦ elim (chosen (bytes_eq t (codes "monthly")) Monthly _ f h) [
      | inl p ↦ text_eq t (codes "monthly") p.0 ∙ ap frequency_word p.1
      | inr h ↦ let p = only (bytes_eq t (codes "yearly")) (Some Yearly) f h in text_eq t (codes "yearly") p.0 ∙ ap frequency_word (some_is Yearly f p.1)
    ]
  ]
]

named_frequency : (f : Frequency) → word_frequency (Some (frequency_word f)) ≡ Some f
named_frequency Daily = refl
named_frequency Weekly = refl
named_frequency Monthly = refl
named_frequency Yearly = refl

frequency_so : (d : Data) (f : Frequency) → frequency_of d ≡ Some f → HasWord (codes "frequency") (frequency_word f) d
frequency_so d f h = by (at_key (codes "frequency") d) refl h
  where
    worded : (v : Data) (o : Option Text) → as_str v ≡ o → word_frequency o ≡ Some f → v ≡ string (frequency_word f)
    worded v None e h = none_is f h
    worded v (Some t) e h = str_is v t e ∙ ap string (frequency_named t f h)

    by : (o : Option Data) → at_key (codes "frequency") d ≡ o → frequency_at o ≡ Some f → HasWord (codes "frequency") (frequency_word f) d
    by None e h = none_is f h
    by (Some v) e h = has (codes "frequency") d v e ∙ ap Some (worded v (as_str v) refl h)

so_frequency : (d : Data) (f : Frequency) → HasWord (codes "frequency") (frequency_word f) d → frequency_of d ≡ Some f
so_frequency d f h = ap frequency_at (word_at (codes "frequency") (frequency_word f) d h) ∙ named_frequency f

interval_so : (d : Data) (n : ℕ) → interval_of d ≡ Some n → HasInterval n d
interval_so d n h = by (at_key (codes "interval") d) refl h
  where
    by : (o : Option Data) → at_key (codes "interval") d ≡ o → interval_at o ≡ Some n → HasInterval n d
    by None e h = inl (lacks (codes "interval") d e, sym (some_is 1 n h))
    by (Some v) e h = let w = whole_so 1 1_000 v n h in inr (has (codes "interval") d v e ∙ ap Some w.0, w.1, w.2)

so_interval : (d : Data) (n : ℕ) → HasInterval n d → interval_of d ≡ Some n
so_interval d n h = elim h [
  | inl l ↦ ap interval_at (is_lacking (codes "interval") d l.0) ∙ ap Some (sym l.1)
  | inr c ↦ ap (λ o. interval_at (present o)) c.0 ∙ is_within 1 1_000 n c.1 c.2
]

-- ---- patterns

int_le_so : (a b : ℤ) → int_le a b ≡ true → a ≤ℤ b
int_le_so a b h = grind (arith, ints, h)

int_le_is : (a b : ℤ) → a ≤ℤ b → int_le a b ≡ true
int_le_is a b h = grind (arith, ints, h)

absolute : (z : ℤ) → pos 1 ≤ℤ z → z ≡ pos (unsigned_abs z)
absolute z h = omega (arith, ints, h)

place_so : (z : ℤ) (p : Pattern) → place_of (Some z) ≡ Some p → SaysPlace p z
place_so z p h = elim (chosen (int_eq z (negsuc 0)) Last _ p h) [
  | inl l ↦ subst (λ q. SaysPlace q z) l.1 ((Decides-int_eq z (negsuc 0)).0 l.0)
  | inr h ↦
      let c = only (int_le (pos 1) z && int_le z (pos 31)) (Some (Place (unsigned_abs z))) p h in
      let b = and_parts (int_le (pos 1) z) (int_le z (pos 31)) c.0 in
      let low = int_le_so (pos 1) z b.0 in
      let high = int_le_so z (pos 31) b.1 in
      subst (λ q. SaysPlace q z) (some_is (Place (unsigned_abs z)) p c.1) (absolute z low, omega (arith, ints, low), omega (arith, ints, low, high))
]

so_place : (z : ℤ) (p : Pattern) → SaysPlace p z → place_of (Some z) ≡ Some p
so_place z Last s = ap (λ y. place_of (Some y)) s
so_place z (Place n) s =
    ap (λ y. place_of (Some y)) s.0
    ∙ ap (λ b. if b then Some Last else (if int_le (pos 1) (pos n) && int_le (pos n) (pos 31) then Some (Place n) else None)) (positive n)
    ∙ ap (λ b. if b then Some (Place n) else None) (and_from (int_le (pos 1) (pos n)) (int_le (pos n) (pos 31)) (int_le_is (pos 1) (pos n) (omega (arith, ints, s.1))) (int_le_is (pos n) (pos 31) (omega (arith, ints, s.2))))
  where
    positive : (n : ℕ) → int_eq (pos n) (negsuc 0) ≡ false
    positive n = refl

integer_is : (m : Num) (z : ℤ) → as_i64 m ≡ Some z → as_integer m ≡ Some z
integer_is (unsigned n) z h = (only (nat_lt n (2 ^ 63)) (Some (pos n)) z h).1
integer_is (negative y) z h = h
integer_is (float x) z h = h

-- a place is of at most 64 bits
is_integer : (m : Num) (z : ℤ) (p : Pattern) → as_integer m ≡ Some z → SaysPlace p z → as_i64 m ≡ Some z
is_integer (unsigned n) z (Place k) h s =
    let same : n ≡ k = (let e : pos n ≡ pos k = some_is (pos n) z h ∙ s.0 in cc) in
    ap (λ b. if b then Some (pos n) else None) (lt-ltb n (2 ^ 63) (omega (arith, same, s.2))) ∙ h
is_integer (unsigned n) z Last h s = (let e : pos n ≡ negsuc 0 = some_is (pos n) z h ∙ s in cc)
is_integer (negative y) z p h s = h
is_integer (float x) z p h s = h

pattern_so : (d : Data) (p : Pattern) → pattern_of d ≡ Some p → IsPattern d p
unfolding pattern_of
pattern_so d p h =
    let c = only (is_day (get (codes "type") d)) (place_at (get (codes "value") d)) p h in
    (typed (get (codes "type") d) refl c.0, valued (get (codes "value") d) refl c.1)
  where
    worded : (v : Data) (o : Option Text) → as_str v ≡ o → is_day_word o ≡ true → v ≡ string (codes "day")
    worded v None e h = cc
    worded v (Some t) e h = str_is v t e ∙ ap string (text_eq t (codes "day") h)

    typed : (o : Option Data) → get (codes "type") d ≡ o → is_day o ≡ true → HasWord (codes "type") (codes "day") d
    typed None e h = cc
    typed (Some v) e h = e ∙ ap Some (worded v (as_str v) refl h)

    placed : (v : Data) (o : Option ℤ) → option_and_then as_i64 (as_number v) ≡ o → place_of o ≡ Some p → (m : Num) × (z : ℤ) × (v ≡ number m) × (as_integer m ≡ Some z) × SaysPlace p z
    placed v None e h = none_is p h
    placed v (Some z) e h = let m = then_some as_i64 (as_number v) z e in (m.0, z, number_is v m.0 m.1, integer_is m.0 z m.2, place_so z p h)

    valued : (o : Option Data) → get (codes "value") d ≡ o → place_at o ≡ Some p → (m : Num) × (z : ℤ) × (get (codes "value") d ≡ Some (number m)) × (as_integer m ≡ Some z) × SaysPlace p z
    valued None e h = none_is p h
    valued (Some v) e h = let w = placed v (option_and_then as_i64 (as_number v)) refl h in (w.0, w.1, e ∙ ap Some w.2, w.3, w.4)

so_pattern : (d : Data) (p : Pattern) → IsPattern d p → pattern_of d ≡ Some p
unfolding pattern_of
so_pattern d p i =
    ap (λ o. if is_day o then place_at (get (codes "value") d) else None) i.0
    ∙ ap place_at i.1.2
    ∙ ap place_of (is_integer i.1.0 i.1.1 p i.1.3 i.1.4)
    ∙ so_place i.1.1 p i.1.4

patterns_so : (ds : Items) (ps : List Pattern) → patterns_of ds ≡ Some ps → ArePatterns ds ps
unfolding patterns_of
patterns_so no_items ps h = subst (ArePatterns no_items) (some_is [] ps h) tt
patterns_so (item d ds) ps h = by (patterns_so ds) (pattern_of d) refl (patterns_of ds) refl h
  where
    by : ((qs : List Pattern) → patterns_of ds ≡ Some qs → ArePatterns ds qs) → (o : Option Pattern) → pattern_of d ≡ o → (rest : Option (List Pattern)) → patterns_of ds ≡ rest → one_before o rest ≡ Some ps → ArePatterns (item d ds) ps
    by others None e rest f h = none_is ps h
    by others (Some p) e None f h = none_is ps h
    by others (Some p) e (Some qs) f h = subst (ArePatterns (item d ds)) (some_is (p ∷ qs) ps h) (pattern_so d p e, others qs f)

so_patterns : (ds : Items) (ps : List Pattern) → ArePatterns ds ps → patterns_of ds ≡ Some ps
unfolding patterns_of
so_patterns no_items [] h = refl
so_patterns no_items (p ∷ ps) h = absurd h
so_patterns (item d ds) [] h = absurd h
so_patterns (item d ds) (p ∷ ps) h = ap (λ o. one_before o (patterns_of ds)) (so_pattern d p h.0) ∙ ap (before (p ∷ [])) (so_patterns ds ps h.1)

may_so : (f : Frequency) (qs ps : List Pattern) → may_have f qs ≡ Some ps → (qs ≡ ps) × ((ps ≡ []) ⊎ (f ≡ Monthly))
may_so f [] ps h = let e : [] ≡ ps = some_is [] ps h in (e, inl (sym e))
may_so Monthly (q ∷ qs) ps h = (some_is (q ∷ qs) ps h, inr refl)
may_so Daily (q ∷ qs) ps h = none_is ps h
may_so Weekly (q ∷ qs) ps h = none_is ps h
may_so Yearly (q ∷ qs) ps h = none_is ps h

so_may : (f : Frequency) (ps : List Pattern) → (ps ≡ []) ⊎ (f ≡ Monthly) → may_have f ps ≡ Some ps
so_may f [] m = refl
so_may f (p ∷ ps) m = elim m [ inl e ↦ absurd (clash p ps e) | inr e ↦ ap (λ g. may_have g (p ∷ ps)) e ]
  where
    clash : (p : Pattern) (ps : List Pattern) → p ∷ ps ≡ [] → ⊥
    clash p ps e = cc

listed_so : (d : Data) (ps : List Pattern) → listed (at_key (codes "patterns") d) ≡ Some ps → HasPatterns ps d
listed_so d ps h = by (at_key (codes "patterns") d) refl h
  where
    all_in : (v : Data) (o : Option Items) → as_array v ≡ o → patterns_in o ≡ Some ps → (ds : Items) × (v ≡ array ds) × ArePatterns ds ps
    all_in v None e h = none_is ps h
    all_in v (Some ds) e h = (ds, array_is v ds e, patterns_so ds ps h)

    by : (o : Option Data) → at_key (codes "patterns") d ≡ o → listed o ≡ Some ps → HasPatterns ps d
    by None e h = inl (lacks (codes "patterns") d e, sym (some_is [] ps h))
    by (Some v) e h = let w = all_in v (as_array v) refl h in inr (w.0, has (codes "patterns") d v e ∙ ap Some w.1, w.2)

so_listed : (d : Data) (ps : List Pattern) → HasPatterns ps d → listed (at_key (codes "patterns") d) ≡ Some ps
so_listed d ps h = elim h [
  | inl l ↦ ap listed (is_lacking (codes "patterns") d l.0) ∙ ap Some (sym l.1)
  | inr a ↦ ap (λ o. listed (present o)) a.1 ∙ so_patterns a.0 ps a.2
]

-- ---- weekends

skip_so : (d : Data) (b : Bool) → skip_of d ≡ Some b → Skips b d
skip_so d b h = by (at_key (codes "skipWeekend") d) refl h
  where
    by : (o : Option Data) → at_key (codes "skipWeekend") d ≡ o → skip_at o ≡ Some b → Skips b d
    by None e h = inl (lacks (codes "skipWeekend") d e, sym (some_is false b h))
    by (Some v) e h = inr (has (codes "skipWeekend") d v e ∙ ap Some (bool_is v b h))

so_skip : (d : Data) (b : Bool) → Skips b d → skip_of d ≡ Some b
so_skip d b h = elim h [
  | inl l ↦ ap skip_at (is_lacking (codes "skipWeekend") d l.0) ∙ ap Some (sym l.1)
  | inr e ↦ ap (λ o. skip_at (present o)) e
]

solve_so : (d : Data) (w : Weekends) → solve_of d ≡ Some w → Solves w d
solve_so d w h = by (at_key (codes "weekendSolveMode") d) refl h
  where
    worded : (v : Data) → at_key (codes "weekendSolveMode") d ≡ Some v → (o : Option Text) → as_str v ≡ o → solve_word o ≡ Some w → Solves w d
    worded v a None e h = none_is w h
    worded v a (Some t) e h = elim (chosen (bytes_eq t (codes "before")) Before _ w h) [
      | inl p ↦ subst (λ q. Solves q d) p.1 (has (codes "weekendSolveMode") d v a ∙ ap Some (str_is v t e ∙ ap string (text_eq t (codes "before") p.0)))
      | inr h ↦
          let p = only (bytes_eq t (codes "after")) (Some After) w h in
          subst (λ q. Solves q d) (some_is After w p.1) (inr (has (codes "weekendSolveMode") d v a ∙ ap Some (str_is v t e ∙ ap string (text_eq t (codes "after") p.0))))
    ]

    by : (o : Option Data) → at_key (codes "weekendSolveMode") d ≡ o → solve_at o ≡ Some w → Solves w d
    by None e h = subst (λ q. Solves q d) (some_is After w h) (inl (lacks (codes "weekendSolveMode") d e))
    by (Some v) e h = worded v e (as_str v) refl h

so_solve : (d : Data) (w : Weekends) → Solves w d → solve_of d ≡ Some w
so_solve d Before h = ap (λ o. solve_at (present o)) h
so_solve d After h = elim h [ inl l ↦ ap solve_at (is_lacking (codes "weekendSolveMode") d l) | inr e ↦ ap (λ o. solve_at (present o)) e ]
so_solve d Stay h = absurd h

by_is : (b : Bool) (w : Weekends) → weekends_by b w ≡ (if b then w else Stay)
by_is true w = refl
by_is false w = refl

good : {A B : Type 0} (part : RecurPart) (o : Option A) (next : A → Result B RecurPart) (b : B) → or_bad part o next ≡ Ok b → (a : A) × (o ≡ Some a) × (next a ≡ Ok b)
good part None next b h = cc
good part (Some a) next b h = (a, refl, h)

good_then : {A B : Type 0} (r : Result A RecurPart) (next : A → Result B RecurPart) (b : B) → result_then r next ≡ Ok b → (a : A) × (r ≡ Ok a) × (next a ≡ Ok b)
good_then (Ok a) next b h = (a, refl, h)
good_then (Err p) next b h = cc

ok_is : {A : Type 0} (a b : A) → ◌≡◌ {A = Result A RecurPart} (Ok a) (Ok b) → a ≡ b
ok_is a b h = cc

weekends_so : (d : Data) (w : Weekends) → weekends_of d ≡ Ok w → HasWeekends w d
unfolding weekends_of
weekends_so d w h =
    let skip = good SkipWeekend (skip_of d) _ w h in
    let solve = good WeekendSolveMode (solve_of d) _ w skip.2 in
    (skip.0, solve.0, skip_so d skip.0 skip.1, solve_so d solve.0 solve.1, sym (ok_is _ w solve.2) ∙ by_is skip.0 solve.0)

so_weekends : (d : Data) (w : Weekends) → HasWeekends w d → weekends_of d ≡ Ok w
unfolding weekends_of
so_weekends d w h =
    ap (λ o. or_bad SkipWeekend o (λ skip. or_bad WeekendSolveMode (solve_of d) (λ solve. Ok (weekends_by skip solve)))) (so_skip d h.0 h.2)
    ∙ ap (λ o. or_bad WeekendSolveMode o (λ solve. Ok (weekends_by h.0 solve))) (so_solve d h.1 h.3)
    ∙ ap (λ x. Ok x) (by_is h.0 h.1 ∙ sym h.4)

-- ---- ends

-- what follows the word of an end
abbrev ended_by : Option Text → Data → Result Ending RecurPart
ended_by o d = or_bad EndMode (mode_word o) (λ mode. ending_by mode d)

no_mode : (t : Text) (d : Data) (e : Ending) → bytes_eq t (codes "never") ≡ false → bytes_eq t (codes "after_n_occurrences") ≡ false → bytes_eq t (codes "on_date") ≡ false → ended_by (Some t) d ≡ Ok e → ⊥
no_mode t d e a b c h =
    let none : mode_word (Some t) ≡ None = rw (a, b, c) refl in
    let bad : Err EndMode ≡ Ok e = sym (ap (λ m. or_bad EndMode m (λ mode. ending_by mode d)) none) ∙ h in
    cc

module _ (d : Data) (e : Ending) where
  ended_so : (t : Text) → HasWord (codes "endMode") t d → ended_by (Some t) d ≡ Ok e → Ends e d
  ended_so t at h = by (bytes_eq t (codes "never")) (bytes_eq t (codes "after_n_occurrences")) (bytes_eq t (codes "on_date")) refl refl refl
    where
      never : t ≡ codes "never" → Ends e d
      never w =
          let is : ended_by (Some (codes "never")) d ≡ Ok e = ap (λ q. ended_by (Some q) d) (sym w) ∙ h in
          subst (λ q. Ends q d) (ok_is Never e is) (inr (at ∙ ap (λ q. Some (string q)) w))

      counted : t ≡ codes "after_n_occurrences" → Ends e d
      counted w =
          let is : ended_by (Some (codes "after_n_occurrences")) d ≡ Ok e = ap (λ q. ended_by (Some q) d) (sym w) ∙ h in
          let n = good EndOccurrences (times_of d) _ e is in
          subst (λ q. Ends q d) (ok_is (Times n.0) e n.2) (at ∙ ap (λ q. Some (string q)) w, count_so (codes "endOccurrences") 1 100_000 d n.0 n.1)

      until : t ≡ codes "on_date" → Ends e d
      until w =
          let is : ended_by (Some (codes "on_date")) d ≡ Ok e = ap (λ q. ended_by (Some q) d) (sym w) ∙ h in
          let day = good EndDate (until_of d) _ e is in
          subst (λ q. Ends q d) (ok_is (Until day.0) e day.2) (at ∙ ap (λ q. Some (string q)) w, dated (codes "endDate") d day.0 day.1)

      by : (a b c : Bool) → bytes_eq t (codes "never") ≡ a → bytes_eq t (codes "after_n_occurrences") ≡ b → bytes_eq t (codes "on_date") ≡ c → Ends e d
      by true b c i j k = never (text_eq t (codes "never") i)
      by false true c i j k = counted (text_eq t (codes "after_n_occurrences") j)
      by false false true i j k = until (text_eq t (codes "on_date") k)
      by false false false i j k = absurd (no_mode t d e i j k h)

  ending_so : ending_of d ≡ Ok e → Ends e d
  unfolding ending_of
  ending_so h = by (at_key (codes "endMode") d) refl h
    where
      worded : (v : Data) → at_key (codes "endMode") d ≡ Some v → (o : Option Text) → as_str v ≡ o → ended_by o d ≡ Ok e → Ends e d
      worded v a None k h = cc
      worded v a (Some t) k h = ended_so t (has (codes "endMode") d v a ∙ ap Some (str_is v t k)) h

      by : (o : Option Data) → at_key (codes "endMode") d ≡ o → or_bad EndMode (mode_at o) (λ mode. ending_by mode d) ≡ Ok e → Ends e d
      by None a h = subst (λ q. Ends q d) (ok_is Never e h) (inl (lacks (codes "endMode") d a))
      by (Some v) a h = worded v a (as_str v) refl h

so_ending : (d : Data) (e : Ending) → Ends e d → ending_of d ≡ Ok e
unfolding ending_of
so_ending d Never h = elim h [
  | inl l ↦ ap (λ o. or_bad EndMode (mode_at o) (λ mode. ending_by mode d)) (is_lacking (codes "endMode") d l)
  | inr w ↦ ap (λ o. or_bad EndMode (mode_at (present o)) (λ mode. ending_by mode d)) w
]
so_ending d (Times n) h =
    ap (λ o. or_bad EndMode (mode_at (present o)) (λ mode. ending_by mode d)) h.0
    ∙ ap (λ o. or_bad EndOccurrences o (λ k. Ok (Times k))) (so_count (codes "endOccurrences") 1 100_000 d n h.1)
so_ending d (Until day) h =
    ap (λ o. or_bad EndMode (mode_at (present o)) (λ mode. ending_by mode d)) h.0
    ∙ ap (λ o. or_bad EndDate o (λ k. Ok (Until k))) (is_dated (codes "endDate") d day h.1)

-- ---- the whole

the_object : (d : Data) → is_some (as_object d) ≡ true → (ms : Members) × (d ≡ object ms)
the_object null h = cc
the_object (boolean b) h = cc
the_object (number n) h = cc
the_object (string s) h = cc
the_object (array ds) h = cc
the_object (object ms) h = (ms, refl)

keyed_ok : {A : Type 0} (b : Bool) (r : Result A RecurPart) (part : RecurPart) (a : A) → (if b then r else Err part) ≡ Ok a → (b ≡ true) × (r ≡ Ok a)
keyed_ok true r part a h = (refl, h)
keyed_ok false r part a h = cc

recurrence_so : (d : Data) (r : Said) → said_of d ≡ Ok r → IsRecurrence d r
unfolding said_of
recurrence_so d r h =
    let keyed = keyed_ok (is_some (as_object d)) _ _ r h in
    let start = good Start (start_of d) _ r keyed.1 in
    let frequency = good FrequencyKey (frequency_of d) _ r start.2 in
    let interval = good Interval (interval_of d) _ r frequency.2 in
    let patterns = good Patterns (patterns_for frequency.0 d) _ r interval.2 in
    let weekends = good_then (weekends_of d) _ r patterns.2 in
    let ending = good_then (ending_of d) _ r weekends.2 in
    let all = then_some (may_have frequency.0) (listed (at_key (codes "patterns") d)) patterns.0 patterns.1 in
    let may = may_so frequency.0 all.0 patterns.0 all.2 in
    subst (IsRecurrence d) (ok_is _ r ending.2) (record {
      keyed = the_object d keyed.0;
      start = dated (codes "start") d start.0 start.1;
      frequency = frequency_so d frequency.0 frequency.1;
      interval = interval_so d interval.0 interval.1;
      patterns = subst (λ ps. HasPatterns ps d) may.0 (listed_so d all.0 all.1);
      monthly = may.1;
      weekends = weekends_so d weekends.0 weekends.1;
      ending = ending_so d ending.0 ending.1;
    })

so_recurrence : (d : Data) (r : Said) → IsRecurrence d r → said_of d ≡ Ok r
unfolding said_of
so_recurrence d r i =
    let patterns : patterns_for r.frequency d ≡ Some r.patterns = ap (option_and_then (may_have r.frequency)) (so_listed d r.patterns i.patterns) ∙ so_may r.frequency r.patterns i.monthly in
    let end : List Pattern → Weekends → Result Said RecurPart =
    λ ps w. result_then (ending_of d) (λ e. Ok (record { start = r.start; frequency = r.frequency; interval = r.interval; patterns = ps; weekends = w; ending = e })) in
    ap (λ b. if b then or_bad Start (start_of d) (λ start. or_bad FrequencyKey (frequency_of d) (λ frequency. or_bad Interval (interval_of d) (λ interval. or_bad Patterns (patterns_for frequency d) (λ patterns. result_then (weekends_of d) (λ weekends. result_then (ending_of d) (λ ending. Ok (record { start = start; frequency = frequency; interval = interval; patterns = patterns; weekends = weekends; ending = ending }))))))) else Err Object) (ap (λ e. is_some (as_object e)) i.keyed.1)
    ∙ ap (λ o. or_bad Start o (λ start. or_bad FrequencyKey (frequency_of d) (λ frequency. or_bad Interval (interval_of d) (λ interval. or_bad Patterns (patterns_for frequency d) (λ patterns. result_then (weekends_of d) (λ weekends. result_then (ending_of d) (λ ending. Ok (record { start = start; frequency = frequency; interval = interval; patterns = patterns; weekends = weekends; ending = ending })))))))) (is_dated (codes "start") d r.start i.start)
    ∙ ap (λ o. or_bad FrequencyKey o (λ frequency. or_bad Interval (interval_of d) (λ interval. or_bad Patterns (patterns_for frequency d) (λ patterns. result_then (weekends_of d) (λ weekends. result_then (ending_of d) (λ ending. Ok (record { start = r.start; frequency = frequency; interval = interval; patterns = patterns; weekends = weekends; ending = ending }))))))) (so_frequency d r.frequency i.frequency)
    ∙ ap (λ o. or_bad Interval o (λ interval. or_bad Patterns (patterns_for r.frequency d) (λ patterns. result_then (weekends_of d) (λ weekends. result_then (ending_of d) (λ ending. Ok (record { start = r.start; frequency = r.frequency; interval = interval; patterns = patterns; weekends = weekends; ending = ending })))))) (so_interval d r.interval i.interval)
    ∙ ap (λ o. or_bad Patterns o (λ patterns. result_then (weekends_of d) (λ weekends. end patterns weekends))) patterns
    ∙ ap (λ x. result_then x (λ weekends. end r.patterns weekends)) (so_weekends d r.weekends i.weekends)
    ∙ ap (λ x. result_then x (λ ending. Ok (record { start = r.start; frequency = r.frequency; interval = r.interval; patterns = r.patterns; weekends = r.weekends; ending = ending }))) (so_ending d r.ending i.ending)

pub recurrences_back : RecurrencesReadBack
recurrences_back d r = (recurrence_so d r, so_recurrence d r)
