-- A text that is read is the one that is written for its timestamp.
use Rattle.std.proofs.Common.{◌≡◌, ℕ, zero, suc, ◌+◌, ◌-◌, ◌*◌, ◌/◌, ◌%◌, ◌<◌, ◌≤◌, ◌&&◌, nat_le, List, [], ◌∷◌, ◌++◌, length, get_or, drop, replicate, arith, refl, sym, ◌∙◌, ap, subst, ℤ, pos, negsuc, ◌≤ℤ◌, unsigned_abs, add-one, drop-cons, IsTrue, length-drop, Ok}
use Rattle.std.proofs.lemmas.Bool.{and_parts, and_from, leb-true, eqb-true}
use Rattle.std.specs.List.{list_all}
use Rattle.std.specs.Int.{is_in_range}
use Rattle.std.specs.Char.{is_ascii_alphanumeric}
use Rattle.jiff_core.specs.Calendar.{days_in_month, days_from_civil, IsCivilDate}
use Rattle.jiff_core.proofs.SignedLemmas.{signed_arith}
use Rattle.hybrid_clock.specs.declared.stamp.Stamp.{Stamp}
use Rattle.hybrid_clock.specs.Calendar.{day_of}
use Rattle.hybrid_clock.specs.Stamp.{IsStamp, stamp_text, head_text}
use Rattle.hybrid_clock.specs.Reading.{form, two_at, three_at, four_at, hex_value, hex_at, is_date, is_time, is_moment, millis_in, stamp_in, read_stamp}
use Rattle.hybrid_clock.proofs.Form.{Fits, fits, allowed_at}
use Rattle.hybrid_clock.proofs.Digits.{IsDigit, digit_from, two_digits, three_digits, four_digits, IsHex, hex_from, hex_digits, IsSplit, split}
use Rattle.hybrid_clock.proofs.Days.{days_from_1970, same_day}
use Rattle.hybrid_clock.proofs.Passing.{Shaped, Passes, passed, shape}

-- what a place of the text has
digit_in : (t : List ℕ) (i : ℕ) → Shaped t → get_or form i 0 ≡ 48 → IsDigit (get_or t i 0)
digit_in t i p e = digit_from (get_or t i 0) (allowed_at t i 47 p.long p.formed e)

hex_in : (t : List ℕ) (i : ℕ) → Shaped t → get_or form i 0 ≡ 88 → IsHex (get_or t i 0)
hex_in t i p e = hex_from (get_or t i 0) (allowed_at t i 87 p.long p.formed e)

dash_in : (t : List ℕ) (i : ℕ) → Shaped t → get_or form i 0 ≡ 45 → 45 ≡ get_or t i 0
dash_in t i p e = sym (eqb-true (get_or t i 0) 45 (allowed_at t i 44 p.long p.formed e))

point_in : (t : List ℕ) (i : ℕ) → Shaped t → get_or form i 0 ≡ 46 → 46 ≡ get_or t i 0
point_in t i p e = sym (eqb-true (get_or t i 0) 46 (allowed_at t i 45 p.long p.formed e))

colon_in : (t : List ℕ) (i : ℕ) → Shaped t → get_or form i 0 ≡ 58 → 58 ≡ get_or t i 0
colon_in t i p e = sym (eqb-true (get_or t i 0) 58 (allowed_at t i 57 p.long p.formed e))

tee_in : (t : List ℕ) → Shaped t → 84 ≡ get_or t 10 0
tee_in t p = sym (eqb-true (get_or t 10 0) 84 (allowed_at t 10 83 p.long p.formed refl))

zed_in : (t : List ℕ) → Shaped t → 90 ≡ get_or t 23 0
zed_in t p = sym (eqb-true (get_or t 23 0) 90 (allowed_at t 23 89 p.long p.formed refl))

-- the date and the time of a text
pub record IsMoment (t : List ℕ) : Type 0 where
  pub year : 1970 ≤ four_at t 0
  pub year_end : four_at t 0 ≤ 9999
  pub month : 1 ≤ two_at t 5
  pub month_end : two_at t 5 ≤ 12
  pub day : 1 ≤ two_at t 8
  pub day_end : two_at t 8 ≤ days_in_month (pos (four_at t 0)) (two_at t 5)
  pub hour : two_at t 11 < 24
  pub minute : two_at t 14 < 60
  pub second : two_at t 17 < 60
  pub milli : three_at t 20 < 1000

four_below : (a b c d : ℕ) → IsDigit a → IsDigit b → IsDigit c → IsDigit d → 10 * (10 * (10 * (a - 48) + (b - 48)) + (c - 48)) + (d - 48) ≤ 9999
four_below a b c d p q r s = omega arith

three_below : (a b c : ℕ) → IsDigit a → IsDigit b → IsDigit c → 10 * (10 * (a - 48) + (b - 48)) + (c - 48) < 1000
three_below a b c p q r = omega arith

pub moment_in : (t : List ℕ) → Shaped t → IsMoment t
unfolding is_moment
moment_in t p =
    let both = and_parts (is_date (four_at t 0) (two_at t 5) (two_at t 8)) (is_time (two_at t 11) (two_at t 14) (two_at t 17)) p.moment in
    let date = and_parts (nat_le 1970 (four_at t 0)) (is_in_range 1 12 (two_at t 5) && is_in_range 1 (days_in_month (pos (four_at t 0)) (two_at t 5)) (two_at t 8)) both.0 in
    let ranges = and_parts (is_in_range 1 12 (two_at t 5)) (is_in_range 1 (days_in_month (pos (four_at t 0)) (two_at t 5)) (two_at t 8)) date.1 in
    let month = and_parts (nat_le 1 (two_at t 5)) (nat_le (two_at t 5) 12) ranges.0 in
    let day = and_parts (nat_le 1 (two_at t 8)) (nat_le (two_at t 8) (days_in_month (pos (four_at t 0)) (two_at t 5))) ranges.1 in
    let time = and_parts (nat_le (two_at t 11) 23) (nat_le (two_at t 14) 59 && nat_le (two_at t 17) 59) both.1 in
    let late = and_parts (nat_le (two_at t 14) 59) (nat_le (two_at t 17) 59) time.1 in
    let hour = leb-true (two_at t 11) 23 time.0 in
    let minute = leb-true (two_at t 14) 59 late.0 in
    let second = leb-true (two_at t 17) 59 late.1 in
    record {
      year = leb-true 1970 (four_at t 0) date.0;
      year_end = four_below (get_or t 0 0) (get_or t 1 0) (get_or t 2 0) (get_or t 3 0) (digit_in t 0 p refl) (digit_in t 1 p refl) (digit_in t 2 p refl) (digit_in t 3 p refl);
      month = leb-true 1 (two_at t 5) month.0;
      month_end = leb-true (two_at t 5) 12 month.1;
      day = leb-true 1 (two_at t 8) day.0;
      day_end = leb-true (two_at t 8) (days_in_month (pos (four_at t 0)) (two_at t 5)) day.1;
      hour = omega (arith, hour);
      minute = omega (arith, minute);
      second = omega (arith, second);
      milli = three_below (get_or t 20 0) (get_or t 21 0) (get_or t 22 0) (digit_in t 20 p refl) (digit_in t 21 p refl) (digit_in t 22 p refl);
    }

-- the number of its day
abbrev pub day_in : List ℕ → ℕ
day_in t = unsigned_abs (days_from_civil (pos (four_at t 0)) (two_at t 5) (two_at t 8))

pub split_in : (t : List ℕ) → Shaped t → IsSplit (day_in t) (two_at t 11) (two_at t 14) (two_at t 17) (three_at t 20) (millis_in t)
unfolding millis_in
split_in t p =
    let m = moment_in t p in
    split (day_in t) (two_at t 11) (two_at t 14) (two_at t 17) (three_at t 20) (millis_in t) m.hour m.minute m.second m.milli refl

natural : (z : ℤ) → pos 0 ≤ℤ z → z ≡ pos (unsigned_abs z)
natural (pos n) h = refl
natural (negsuc n) h = absurd (omega (arith, signed_arith, h))

pub number_in : (t : List ℕ) → Shaped t → days_from_civil (pos (four_at t 0)) (two_at t 5) (two_at t 8) ≡ pos (day_in t)
number_in t p =
    let m = moment_in t p in
    let year = m.year in
    natural (days_from_civil (pos (four_at t 0)) (two_at t 5) (two_at t 8)) (days_from_1970 (pos (four_at t 0)) (two_at t 5) (two_at t 8) m.day (omega (arith, signed_arith, year)))

-- the date of that day is the text's
date_in : (t : List ℕ) → Passes t → ((day_of (day_in t)).year ≡ four_at t 0) × ((day_of (day_in t)).month ≡ two_at t 5) × ((day_of (day_in t)).day ≡ two_at t 8)
date_in t p =
    let m = moment_in t (shape t p) in
    let s = split_in t (shape t p) in
    let early : day_in t < 73_000 = (let within = p.within in let day = s.day in omega (arith, within, day)) in
    let year = m.year in
    let year_end = m.year_end in
    let civil : IsCivilDate (pos (four_at t 0)) (two_at t 5) (two_at t 8) =
    ((omega (arith, signed_arith, year), omega (arith, signed_arith, year_end)), (m.month, m.month_end), (m.day, m.day_end)) in
    let same = same_day (pos (four_at t 0)) (two_at t 5) (two_at t 8) (day_in t) early civil (number_in t (shape t p)) in
    (let e = same.0 in omega (arith, signed_arith, e), sym same.1, sym same.2)

-- the first n elements from place i on, and then the rest
abbrev cells : ℕ → ℕ → List ℕ → List ℕ
cells zero i t = drop i t
cells (suc n) i t = get_or t i 0 ∷ cells n (i + 1) t

unrolled : (n i : ℕ) (t : List ℕ) → i + n ≤ length t → drop i t ≡ cells n i t
unrolled zero i t h = refl
unrolled (suc n) i t h =
    let within : i < length t = omega arith in
    drop-cons t i 0 within ∙ ap (λ (xs : List ℕ). get_or t i 0 ∷ xs) (ap (λ (k : ℕ). drop k t) (sym (add-one i)) ∙ unrolled n (i + 1) t (omega arith))

and : {a b : ℕ} {xs ys : List ℕ} → a ≡ b → xs ≡ ys → a ∷ xs ≡ b ∷ ys
and {a} {b} {xs} {ys} e f = ap (λ (x : ℕ). x ∷ xs) e ∙ ap (λ (zs : List ℕ). b ∷ zs) f

-- a head of these numbers, before the rest, is the text
head_is : (t : List ℕ) (y m d n c : ℕ) → Shaped t → y ≡ four_at t 0 → m ≡ two_at t 5 → d ≡ two_at t 8 → n / 3_600_000 ≡ two_at t 11 → n / 60_000 % 60 ≡ two_at t 14 → n / 1000 % 60 ≡ two_at t 17 → n % 1000 ≡ three_at t 20 → c ≡ hex_at t 25 → head_text y m d n c ++ drop 30 t ≡ cells 30 0 t
unfolding head_text
head_is t y m d n c p year month day hour minute second milli counter =
    let ys = four_digits (get_or t 0 0) (get_or t 1 0) (get_or t 2 0) (get_or t 3 0) y (digit_in t 0 p refl) (digit_in t 1 p refl) (digit_in t 2 p refl) (digit_in t 3 p refl) year in
    let ms = two_digits (get_or t 5 0) (get_or t 6 0) m (digit_in t 5 p refl) (digit_in t 6 p refl) month in
    let ds = two_digits (get_or t 8 0) (get_or t 9 0) d (digit_in t 8 p refl) (digit_in t 9 p refl) day in
    let hs = two_digits (get_or t 11 0) (get_or t 12 0) (n / 3_600_000) (digit_in t 11 p refl) (digit_in t 12 p refl) hour in
    let is = two_digits (get_or t 14 0) (get_or t 15 0) (n / 60_000 % 60) (digit_in t 14 p refl) (digit_in t 15 p refl) minute in
    let ss = two_digits (get_or t 17 0) (get_or t 18 0) (n / 1000 % 60) (digit_in t 17 p refl) (digit_in t 18 p refl) second in
    let zs = three_digits (get_or t 20 0) (get_or t 21 0) (get_or t 22 0) (n % 1000) (digit_in t 20 p refl) (digit_in t 21 p refl) (digit_in t 22 p refl) milli in
    let xs = hex_digits (get_or t 25 0) (get_or t 26 0) (get_or t 27 0) (get_or t 28 0) c (hex_in t 25 p refl) (hex_in t 26 p refl) (hex_in t 27 p refl) (hex_in t 28 p refl) counter in
    and ys.0 (and ys.1 (and ys.2 (and ys.3 (and (dash_in t 4 p refl)
    (and ms.0 (and ms.1 (and (dash_in t 7 p refl)
    (and ds.0 (and ds.1 (and (tee_in t p)
    (and hs.0 (and hs.1 (and (colon_in t 13 p refl)
    (and is.0 (and is.1 (and (colon_in t 16 p refl)
    (and ss.0 (and ss.1 (and (point_in t 19 p refl)
    (and zs.0 (and zs.1 (and zs.2 (and (zed_in t p) (and (dash_in t 24 p refl)
    (and xs.0 (and xs.1 (and xs.2 (and xs.3 (and (dash_in t 29 p refl) refl)))))))))))))))))))))))))))))

text_is : (t : List ℕ) → Passes t → stamp_text (stamp_in t) ≡ t
unfolding stamp_text
text_is t p =
    let s = split_in t (shape t p) in
    let date = date_in t p in
    let same = s.day in
    let P : ℕ → Type 0 = λ k. head_text (day_of k).year (day_of k).month (day_of k).day (millis_in t % 86_400_000) (hex_at t 25) ++ drop 30 t ≡ t in
    subst P (sym same) (head_is t (day_of (day_in t)).year (day_of (day_in t)).month (day_of (day_in t)).day (millis_in t % 86_400_000) (hex_at t 25) (shape t p)
    date.0 date.1 date.2 s.hour s.minute s.second s.milli refl ∙ sym (unrolled 30 0 t (let long = p.long in omega (arith, long))))

fits_drop : (k : ℕ) (ps bs : List ℕ) → Fits ps bs → Fits (drop k ps) (drop k bs)
fits_drop zero ps bs h = h
fits_drop (suc k) [] [] h = tt
fits_drop (suc k) [] (b ∷ bs) h = absurd h
fits_drop (suc k) (p ∷ ps) [] h = absurd h
fits_drop (suc k) (p ∷ ps) (b ∷ bs) h = fits_drop k ps bs h.1

all_fit : (n : ℕ) (bs : List ℕ) → Fits (replicate n 78) bs → IsTrue (list_all is_ascii_alphanumeric bs)
all_fit zero [] h = refl
all_fit zero (b ∷ bs) h = absurd h
all_fit (suc n) [] h = absurd h
all_fit (suc n) (b ∷ bs) h = and_from (is_ascii_alphanumeric b) (list_all is_ascii_alphanumeric bs) h.0 (all_fit n bs h.1)

counter_below : (a b c d : ℕ) → a < 16 → b < 16 → c < 16 → d < 16 → 4096 * a + 256 * b + 16 * c + d ≤ 65_535
counter_below a b c d p q r s = omega arith

stamp_is : (t : List ℕ) → Passes t → IsStamp (stamp_in t)
stamp_is t p = record {
  within = (let within = p.within in omega (arith, within));
  counter = counter_below (hex_value (get_or t 25 0)) (hex_value (get_or t 26 0)) (hex_value (get_or t 27 0)) (hex_value (get_or t 28 0)) (hex_in t 25 (shape t p) refl).bound (hex_in t 26 (shape t p) refl).bound (hex_in t 27 (shape t p) refl).bound (hex_in t 28 (shape t p) refl).bound;
  node = record {
    sixteen = length-drop 30 t ∙ (let long = p.long in omega (arith, long));
    characters = all_fit 16 (drop 30 t) (fits_drop 30 form t (fits t p.long p.formed));
    nonzero = p.nonzero;
  };
}

pub read_valid : (t : List ℕ) (s : Stamp) → read_stamp t ≡ Ok s → IsStamp s
read_valid t s e = let both = passed t s e in
    let P : Stamp → Type 0 = λ x. IsStamp x in subst P both.1 (stamp_is t both.0)

pub read_text : (t : List ℕ) (s : Stamp) → read_stamp t ≡ Ok s → stamp_text s ≡ t
read_text t s e = let both = passed t s e in
    let P : Stamp → Type 0 = λ x. stamp_text x ≡ t in subst P both.1 (text_is t both.0)
