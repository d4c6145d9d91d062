-- The fault that is told of a text is the first thing that is wrong with it.
use Rattle.std.proofs.Common.{◌≡◌, ℕ, zero, suc, ◌+◌, ◌*◌, ◌/◌, ◌%◌, ◌<◌, Bool, true, false, not, ◌==◌, nat_lt, List, [], ◌∷◌, length, length-drop, get_or, drop, replicate, Option, None, Some, Ok, Err, arith, refl, sym, ◌∙◌, ap, subst, pos, eq-eqb}
use Rattle.std.specs.Prelude.{zip}
use Rattle.std.specs.List.{position_or_len}
use Rattle.std.proofs.lemmas.Bool.{cond_both, both_ways, ltb-true, ltb-false, lt-ltb, le-ltb, le-leb, eqb-true, eqb-false, ne_eqb, and_from, and_parts}
use Rattle.std.proofs.lemmas.List.Sums.{fails_before_first, passes_at_first, position_or_len_is}
use Rattle.std.proofs.lemmas.Slice.Zip.{get_or-zip, length-zip}
use Rattle.jiff_core.proofs.SignedLemmas.{signed_arith}
use Rattle.hybrid_clock.specs.declared.stamp.StampFault.{StampFault}
use Rattle.hybrid_clock.specs.declared.stamp.StampFault.TheVariants.{Length, BadByte, NoSuchMoment, BeyondWindow, ZeroNode}
use Rattle.hybrid_clock.specs.Node.{is_zeros}
use Rattle.hybrid_clock.specs.Stamp.{window}
use Rattle.hybrid_clock.specs.Reading.{form, is_allowed, misfit, two_at, four_at, is_moment, millis_in, stamp_in, read_form, read_moment, read_stamp}
use Rattle.hybrid_clock.specs.Faults.{IsFirstMisfit, HasForm, NamesMoment, IsInMinute, IsMinuteOf, IsFaultOf, StampFaultsAreTold}
use Rattle.hybrid_clock.proofs.Form.{is_misfit, fits, fits_at}
use Rattle.hybrid_clock.proofs.Days.{is_date-true}
use Rattle.hybrid_clock.proofs.Passing.{Shaped}
use Rattle.hybrid_clock.proofs.Texts.{moment_in, split_in, day_in, number_in}

-- ---- the form

from_not : (b : Bool) → not b ≡ false → b ≡ true
from_not true e = refl
from_not false e = absurd (cc)

-- the places of a text beside those of the form
abbrev places : List ℕ → List (ℕ × ℕ)
places t = zip form t

as_many : (t : List ℕ) → length t ≡ 46 → length (places t) ≡ 46
as_many t long = length-zip form t ∙ omega (arith, long)

-- a place is a misfit where the form doesn't allow its byte
misfit_at : (t : List ℕ) (k : ℕ) → length t ≡ 46 → k < 46 → is_misfit (get_or (places t) k (0, 0)) ≡ not (is_allowed (get_or form k 0) (get_or t k 0))
misfit_at t k long within = ap is_misfit (get_or-zip form t k (0, 0) within (omega (arith, long, within)))

first_misfit : (t : List ℕ) (at : ℕ) → length t ≡ 46 → misfit t ≡ Some at → IsFirstMisfit t at
unfolding misfit
first_misfit t at long e =
    let place = position_or_len is_misfit (places t) in
    cond_both (nat_lt place (length (places t))) (Some place) None (λ o. o ≡ Some at → IsFirstMisfit t at)
    (λ found same.
    let is : place ≡ at = cc in
    let within : place < length (places t) = ltb-true _ _ found in
    let inside : at < 46 = omega (arith, is, within, as_many t long) in
    let told : is_misfit (get_or (places t) at (0, 0)) ≡ true = subst (λ (k : ℕ). is_misfit (get_or (places t) k (0, 0)) ≡ true) is (passes_at_first is_misfit (places t) (0, 0) within) in
    record {
      long = long;
      within = inside;
      bad = λ allowed. both_ways (is_misfit (get_or (places t) at (0, 0))) (misfit_at t at long inside ∙ ap not allowed) told;
      first = λ k before. from_not _ (sym (misfit_at t k long (omega (arith, inside, before))) ∙ fails_before_first is_misfit (places t) k (0, 0) (omega (arith, is, before)));
    })
    (λ none same. let no : ⊥ = cc in absurd no)
    e

told_misfit : (t : List ℕ) (at : ℕ) → IsFirstMisfit t at → misfit t ≡ Some at
unfolding misfit
told_misfit t at is =
    let long = is.long in
    let many = as_many t long in
    let here : position_or_len is_misfit (places t) ≡ at =
    position_or_len_is is_misfit (places t) at (0, 0) (omega (arith, many, is.within))
    (λ k before. misfit_at t k long (omega (arith, is.within, before)) ∙ ap not (is.first k before))
    (λ h. misfit_at t at long is.within ∙ not_allowed (is_allowed (get_or form at 0) (get_or t at 0)) is.bad) in
    let found : nat_lt at (length (places t)) ≡ true = lt-ltb _ _ (omega (arith, many, is.within)) in
    rw (here, found) refl
  where
    not_allowed : (b : Bool) → (b ≡ true → ⊥) → not b ≡ true
    not_allowed true is = absurd (is refl)
    not_allowed false is = refl

has_form : (t : List ℕ) → length t ≡ 46 → misfit t ≡ None → HasForm t
has_form t long e = record { long = long; allowed = λ k within. fits_at form t k within (fits t long e) }

no_misfit_in : (t : List ℕ) → HasForm t → misfit t ≡ None
unfolding misfit
no_misfit_in t is =
    let many = as_many t is.long in
    let here : position_or_len is_misfit (places t) ≡ length (places t) =
    position_or_len_is is_misfit (places t) (length (places t)) (0, 0) (omega arith)
    (λ k before. misfit_at t k is.long (omega (arith, many, before)) ∙ ap not (is.allowed k (omega (arith, many, before))))
    (λ h. absurd (omega (arith, h))) in
    let none : nat_lt (position_or_len is_misfit (places t)) (length (places t)) ≡ false = le-ltb _ _ (omega (arith, here)) in
    rw none refl

-- ---- the moment

names_moment : (t : List ℕ) → Shaped t → NamesMoment t
names_moment t p =
    let m = moment_in t p in
    let year = m.year in
    let year_end = m.year_end in
    record {
      from_1970 = m.year;
      date = ((omega (arith, signed_arith, year), omega (arith, signed_arith, year_end)), (m.month, m.month_end), (m.day, m.day_end));
      hour = m.hour;
      minute = m.minute;
      second = m.second;
    }

is_named : (t : List ℕ) → NamesMoment t → is_moment t ≡ true
unfolding is_moment
is_named t m =
    and_from _ _ (is_date-true (four_at t 0) (two_at t 5) (two_at t 8) m.from_1970 m.date.1.0 m.date.1.1 m.date.2.0 m.date.2.1)
    (and_from _ _ (le-leb (two_at t 11) 23 (omega (arith, m.hour)))
    (and_from _ _ (le-leb (two_at t 14) 59 (omega (arith, m.minute))) (le-leb (two_at t 17) 59 (omega (arith, m.second)))))

shape_of : (t : List ℕ) → HasForm t → NamesMoment t → Shaped t
shape_of t formed moment = record { long = formed.long; formed = no_misfit_in t formed; moment = is_named t moment }

minute_of : (n : ℕ) → n / 60_000 ≡ 1440 * (n / 86_400_000) + 60 * (n % 86_400_000 / 3_600_000) + n % 86_400_000 / 60_000 % 60
minute_of n = omega arith

-- the minute that the digits make
minute_in : (t : List ℕ) → Shaped t → millis_in t / 60_000 ≡ 1440 * day_in t + 60 * two_at t 11 + two_at t 14
minute_in t p =
    let s = split_in t p in
    minute_of (millis_in t) ∙ omega (arith, s.day, s.hour, s.minute)

in_minute : (t : List ℕ) → Shaped t → IsMinuteOf t (millis_in t / 60_000)
in_minute t p = record {
  formed = has_form t p.long p.formed;
  moment = names_moment t p;
  minute = (day_in t, number_in t p, minute_in t p);
}

-- it is the only one
same_minute : (t : List ℕ) (n : ℕ) → (p : Shaped t) → IsInMinute t n → n ≡ millis_in t / 60_000
same_minute t n p (day, number, is) =
    let same : pos day ≡ pos (day_in t) = sym number ∙ number_in t p in
    let own : day ≡ day_in t = cc in
    is ∙ ap (λ (d : ℕ). 1440 * d + 60 * two_at t 11 + two_at t 14) own ∙ sym (minute_in t p)

-- ---- the node

zeros_only : (n : ℕ) (xs : List ℕ) → length xs ≡ n → is_zeros xs ≡ true → xs ≡ replicate n 48
zeros_only zero [] l e = refl
zeros_only zero (x ∷ xs) l e = absurd (omega arith)
zeros_only (suc n) [] l e = absurd (omega arith)
zeros_only (suc n) (x ∷ xs) l e =
    let both = and_parts (x == 48) (is_zeros xs) e in
    let first : x ≡ 48 = eqb-true x 48 both.0 in
    let rest = zeros_only n xs (omega arith) both.1 in
    ap (λ (k : ℕ). k ∷ xs) first ∙ ap (λ (ks : List ℕ). 48 ∷ ks) rest

node_of_zeros : (t : List ℕ) → length t ≡ 46 → is_zeros (drop 30 t) ≡ true → drop 30 t ≡ replicate 16 48
node_of_zeros t long e = zeros_only 16 (drop 30 t) (length-drop 30 t ∙ omega (arith, long)) e

-- ---- what is told is so

of_moment : (t : List ℕ) (fault : StampFault) → Shaped t → read_moment t ≡ Err fault → IsFaultOf t fault
of_moment t fault p e =
    let minute = millis_in t / 60_000 in
    cond_both (nat_lt minute window) _ (Err (BeyondWindow minute)) (λ r. r ≡ Err fault → IsFaultOf t fault)
    (λ inside. cond_both (is_zeros (drop 30 t)) (Err ZeroNode) (Ok (stamp_in t)) (λ r. r ≡ Err fault → IsFaultOf t fault)
    (λ zeros same.
    let is : ZeroNode ≡ fault = cc in
    subst (λ (f : StampFault). IsFaultOf t f) is ((minute, in_minute t p, ltb-true _ _ inside), node_of_zeros t p.long zeros))
    (λ other same. let no : ⊥ = cc in absurd no))
    (λ outside same.
    let is : BeyondWindow minute ≡ fault = cc in
    subst (λ (f : StampFault). IsFaultOf t f) is (in_minute t p, ltb-false _ _ outside))
    e

of_form : (t : List ℕ) (fault : StampFault) (o : Option ℕ) → length t ≡ 46 → misfit t ≡ o → read_form t o ≡ Err fault → IsFaultOf t fault
of_form t fault (Some at) long found e =
    let is : BadByte at ≡ fault = cc in
    subst (λ (f : StampFault). IsFaultOf t f) is (first_misfit t at long found)
of_form t fault None long found e =
    cond_both (is_moment t) (read_moment t) (Err NoSuchMoment) (λ r. r ≡ Err fault → IsFaultOf t fault)
    (λ moment same. of_moment t fault (record { long = long; formed = found; moment = moment }) same)
    (λ none same.
    let is : NoSuchMoment ≡ fault = cc in
    subst (λ (f : StampFault). IsFaultOf t f) is (has_form t long found, λ named. both_ways (is_moment t) none (is_named t named)))
    e

told : (t : List ℕ) (fault : StampFault) → read_stamp t ≡ Err fault → IsFaultOf t fault
unfolding read_stamp
told t fault e =
    cond_both (length t == 46) (read_form t (misfit t)) (Err (Length (length t))) (λ r. r ≡ Err fault → IsFaultOf t fault)
    (λ long same. of_form t fault (misfit t) (eqb-true _ _ long) refl same)
    (λ other same.
    let is : Length (length t) ≡ fault = cc in
    subst (λ (f : StampFault). IsFaultOf t f) is (refl, eqb-false _ _ other))
    e

-- ---- and what is so is told

not_true : (b : Bool) → (b ≡ true → ⊥) → b ≡ false
not_true true is = absurd (is refl)
not_true false is = refl

so : (t : List ℕ) (fault : StampFault) → IsFaultOf t fault → read_stamp t ≡ Err fault
unfolding read_stamp
so t (Length n) (is, other) =
    let short : (length t == 46) ≡ false = ne_eqb _ _ (λ e. other (is ∙ e)) in
    rw (short, ← is) refl
so t (BadByte at) is =
    let long : (length t == 46) ≡ true = eq-eqb _ _ is.long in
    let place = told_misfit t at is in
    rw (long, place) refl
so t NoSuchMoment (formed, unnamed) =
    let long : (length t == 46) ≡ true = eq-eqb _ _ formed.long in
    let good = no_misfit_in t formed in
    let none : is_moment t ≡ false = not_true _ (λ moment. unnamed (names_moment t (record { long = formed.long; formed = good; moment = moment }))) in
    rw (long, good, none) refl
so t (BeyondWindow n) (is, past) =
    let p = shape_of t is.formed is.moment in
    let long : (length t == 46) ≡ true = eq-eqb _ _ p.long in
    let good = p.formed in
    let moment = p.moment in
    let minute = same_minute t n p is.minute in
    let outside : nat_lt n window ≡ false = le-ltb _ _ past in
    rw (long, good, moment, ← minute, outside) refl
so t ZeroNode ((n, is, inside), zeros) =
    let p = shape_of t is.formed is.moment in
    let long : (length t == 46) ≡ true = eq-eqb _ _ p.long in
    let good = p.formed in
    let moment = p.moment in
    let minute = same_minute t n p is.minute in
    let within : nat_lt n window ≡ true = lt-ltb _ _ inside in
    rw (long, good, moment, ← minute, within, zeros) refl

pub stamp_faults_are_told_lem : StampFaultsAreTold
stamp_faults_are_told_lem t fault = (told t fault, so t fault)
