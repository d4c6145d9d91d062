-- The text of a timestamp passes the tests and is read as that timestamp.
use Rattle.std.proofs.Common.{◌≡◌, ℕ, zero, suc, ◌+◌, ◌*◌, ◌/◌, ◌%◌, ◌<◌, ◌≤◌, true, List, [], ◌∷◌, ◌++◌, length, drop, replicate, None, arith, refl, ◌∙◌, ap, ℤ, pos, IsTrue, Ok}
use Rattle.std.proofs.lemmas.Bool.{and_parts, and_from, le-leb}
use Rattle.std.specs.List.{list_all}
use Rattle.std.specs.Char.{is_ascii_alphanumeric}
use Rattle.jiff_core.specs.Calendar.{days_in_month, days_from_civil}
use Rattle.jiff_core.proofs.CalendarLemmas.{days_in_month_bounds}
use Rattle.hybrid_clock.specs.declared.stamp.Stamp.{Stamp}
use Rattle.hybrid_clock.specs.Calendar.{day_of}
use Rattle.hybrid_clock.specs.Stamp.{IsStamp, stamp_text, head_text}
use Rattle.hybrid_clock.specs.Reading.{form, misfit, two_at, three_at, four_at, hex_at, is_date, is_time, is_moment, millis_in, stamp_in, read_stamp}
use Rattle.hybrid_clock.specs.Laws.{ShowsTime, TextsShowTimes}
use Rattle.hybrid_clock.proofs.Form.{Fits, no_misfit}
use Rattle.hybrid_clock.proofs.Digits.{digit_is, two_value, three_value, four_value, hex_is, hex_counter, joined}
use Rattle.hybrid_clock.proofs.Days.{day_is, civil_date, number, is_date-true}
use Rattle.hybrid_clock.proofs.Passing.{Passes, reads}

-- a head whose parts have their digits
record AreParts (y m d n c : ℕ) : Type 0 where
  year : y < 10000
  month : m < 100
  day : d < 100
  time : n < 86_400_000
  counter : c ≤ 65_535

fits_node : (n : ℕ) (node : List ℕ) → length node ≡ n → IsTrue (list_all is_ascii_alphanumeric node) → Fits (replicate n 78) node
fits_node zero [] l h = tt
fits_node zero (b ∷ bs) l h = absurd (omega arith)
fits_node (suc n) [] l h = absurd (omega arith)
fits_node (suc n) (b ∷ bs) l h = let p = and_parts (is_ascii_alphanumeric b) (list_all is_ascii_alphanumeric bs) h in (p.0, fits_node n bs (omega arith) p.1)

fits_head : (y m d n c : ℕ) (node : List ℕ) → AreParts y m d n c → Fits (replicate 16 78) node → Fits form (head_text y m d n c ++ node)
unfolding head_text
fits_head y m d n c node p rest =
    let a = p.year in let b = p.month in let e = p.day in let f = p.time in let g = p.counter in (
      digit_is (y / 1000) (omega arith),
      (
        digit_is (y / 100 % 10) (omega arith),
        (
          digit_is (y / 10 % 10) (omega arith),
          (
            digit_is (y % 10) (omega arith),
            (
              refl,
              (
                digit_is (m / 10) (omega arith),
                (
                  digit_is (m % 10) (omega arith),
                  (
                    refl,
                    (
                      digit_is (d / 10) (omega arith),
                      (
                        digit_is (d % 10) (omega arith),
                        (
                          refl,
                          (
                            digit_is (n / 3_600_000 / 10) (omega arith),
                            (
                              digit_is (n / 3_600_000 % 10) (omega arith),
                              (
                                refl,
                                (
                                  digit_is (n / 60_000 % 60 / 10) (omega arith),
                                  (
                                    digit_is (n / 60_000 % 60 % 10) (omega arith),
                                    (
                                      refl,
                                      (
                                        digit_is (n / 1000 % 60 / 10) (omega arith),
                                        (
                                          digit_is (n / 1000 % 60 % 10) (omega arith),
                                          (
                                            refl,
                                            (
                                              digit_is (n % 1000 / 100) (omega arith),
                                              (
                                                digit_is (n % 1000 / 10 % 10) (omega arith),
                                                (
                                                  digit_is (n % 1000 % 10) (omega arith),
                                                  (
                                                    refl,
                                                    (
                                                      refl,
                                                      (hex_is (c / 4096) (omega arith), (hex_is (c / 256 % 16) (omega arith), (hex_is (c / 16 % 16) (omega arith), (hex_is (c % 16) (omega arith), (refl, rest))))),
                                                    ),
                                                  ),
                                                ),
                                              ),
                                            ),
                                          ),
                                        ),
                                      ),
                                    ),
                                  ),
                                ),
                              ),
                            ),
                          ),
                        ),
                      ),
                    ),
                  ),
                ),
              ),
            ),
          ),
        ),
      ),
    )

-- the numbers that the text of a head has at its places
record HasParts (t : List ℕ) (y m d n c : ℕ) : Type 0 where
  year : four_at t 0 ≡ y
  month : two_at t 5 ≡ m
  day : two_at t 8 ≡ d
  hour : two_at t 11 ≡ n / 3_600_000
  minute : two_at t 14 ≡ n / 60_000 % 60
  second : two_at t 17 ≡ n / 1000 % 60
  milli : three_at t 20 ≡ n % 1000
  counter : hex_at t 25 ≡ c

head_parts : (y m d n c : ℕ) (node : List ℕ) → c ≤ 65_535 → HasParts (head_text y m d n c ++ node) y m d n c
unfolding head_text
head_parts y m d n c node h = record {
  year = four_value y;
  month = two_value m;
  day = two_value d;
  hour = two_value (n / 3_600_000);
  minute = two_value (n / 60_000 % 60);
  second = two_value (n / 1000 % 60);
  milli = three_value (n % 1000);
  counter = hex_counter c h;
}

head_rest : (y m d n c : ℕ) (node : List ℕ) → drop 30 (head_text y m d n c ++ node) ≡ node
unfolding head_text
head_rest y m d n c node = refl

head_length : (y m d n c : ℕ) (node : List ℕ) → length node ≡ 16 → length (head_text y m d n c ++ node) ≡ 46
unfolding head_text
head_length y m d n c node h = omega arith

-- the parts of a timestamp
abbrev day_number : Stamp → ℕ
day_number s = s.millis / 86_400_000

short_day : (s : Stamp) → IsStamp s → day_number s < 73_000
short_day s h = let within = h.within in omega (arith, within)

parts_of : (s : Stamp) → IsStamp s → AreParts (day_of (day_number s)).year (day_of (day_number s)).month (day_of (day_number s)).day (s.millis % 86_400_000) s.counter
parts_of s h =
    let is = day_is (day_number s) (short_day s h) in
    let at = is.at in
    record {
      year = (let to = is.to in omega (arith, to));
      month = (let last = at.last_month in omega (arith, last));
      day = short (pos (day_of (day_number s)).year) (day_of (day_number s)).month (day_of (day_number s)).day at.last_day;
      time = omega arith;
      counter = h.counter;
    }
  where
    short : (y : ℤ) (m d : ℕ) → d ≤ days_in_month y m → d < 100
    short y m d h = let b = days_in_month_bounds y m in omega (arith, h, b.0)

text_parts : (s : Stamp) → IsStamp s → HasParts (stamp_text s) (day_of (day_number s)).year (day_of (day_number s)).month (day_of (day_number s)).day (s.millis % 86_400_000) s.counter
unfolding stamp_text
text_parts s h = head_parts (day_of (day_number s)).year (day_of (day_number s)).month (day_of (day_number s)).day (s.millis % 86_400_000) s.counter s.node h.counter

text_rest : (s : Stamp) → drop 30 (stamp_text s) ≡ s.node
unfolding stamp_text
text_rest s = head_rest (day_of (day_number s)).year (day_of (day_number s)).month (day_of (day_number s)).day (s.millis % 86_400_000) s.counter s.node

text_long : (s : Stamp) → IsStamp s → length (stamp_text s) ≡ 46
unfolding stamp_text
text_long s h = head_length (day_of (day_number s)).year (day_of (day_number s)).month (day_of (day_number s)).day (s.millis % 86_400_000) s.counter s.node h.node.sixteen

text_formed : (s : Stamp) → IsStamp s → misfit (stamp_text s) ≡ None
unfolding stamp_text
text_formed s h =
    no_misfit (stamp_text s) (fits_head (day_of (day_number s)).year (day_of (day_number s)).month (day_of (day_number s)).day (s.millis % 86_400_000) s.counter s.node (parts_of s h) (fits_node 16 s.node h.node.sixteen h.node.characters))

moment_from : (t : List ℕ) (y m d n c : ℕ) → HasParts t y m d n c → is_date y m d ≡ true → n < 86_400_000 → is_moment t ≡ true
unfolding is_moment
moment_from t y m d n c p date within =
    let a = p.year in let b = p.month in let e = p.day in let f = p.hour in let g = p.minute in let k = p.second in
    rw (a, b, e, f, g, k) (and_from (is_date y m d) (is_time (n / 3_600_000) (n / 60_000 % 60) (n / 1000 % 60)) date
    (and_from _ _ (le-leb (n / 3_600_000) 23 (omega arith)) (and_from _ _ (le-leb (n / 60_000 % 60) 59 (omega arith)) (le-leb (n / 1000 % 60) 59 (omega arith)))))

millis_from : (t : List ℕ) (y m d n c k : ℕ) → HasParts t y m d n c → days_from_civil (pos y) m d ≡ pos k → millis_in t ≡ 86_400_000 * k + 3_600_000 * (n / 3_600_000) + 60_000 * (n / 60_000 % 60) + 1000 * (n / 1000 % 60) + n % 1000
unfolding millis_in
millis_from t y m d n c k p e =
    let year = p.year in let month = p.month in let day = p.day in let f = p.hour in let g = p.minute in let h = p.second in let z = p.milli in
    rw (year, month, day, f, g, h, z, e) refl

text_millis : (s : Stamp) → IsStamp s → millis_in (stamp_text s) ≡ s.millis
text_millis s h =
    millis_from (stamp_text s) (day_of (day_number s)).year (day_of (day_number s)).month (day_of (day_number s)).day (s.millis % 86_400_000) s.counter (day_number s) (text_parts s h) (number (day_number s) (short_day s h))
    ∙ joined s.millis

text_moment : (s : Stamp) → IsStamp s → is_moment (stamp_text s) ≡ true
text_moment s h =
    let is = day_is (day_number s) (short_day s h) in
    let at = is.at in
    moment_from (stamp_text s) (day_of (day_number s)).year (day_of (day_number s)).month (day_of (day_number s)).day (s.millis % 86_400_000) s.counter (text_parts s h)
    (is_date-true (day_of (day_number s)).year (day_of (day_number s)).month (day_of (day_number s)).day is.from at.first_month at.last_month at.first_day at.last_day) (omega arith)

pub text_passes : (s : Stamp) → IsStamp s → Passes (stamp_text s)
text_passes s h = record {
  long = text_long s h;
  formed = text_formed s h;
  moment = text_moment s h;
  within = (let same = text_millis s h in let within = h.within in omega (arith, same, within));
  nonzero = (let same = text_rest s in rw same h.node.nonzero);
}

pub text_reads : (s : Stamp) → IsStamp s → read_stamp (stamp_text s) ≡ Ok s
text_reads s h =
    let millis = text_millis s h in
    let counter = (text_parts s h).counter in
    let node = text_rest s in
    let same : stamp_in (stamp_text s) ≡ s = rw (millis, counter, node) refl in
    reads (stamp_text s) (text_passes s h) ∙ ap (λ (x : Stamp). Ok x) same

-- the text of a timestamp shows its time
shows_time : (s : Stamp) → IsStamp s → ShowsTime (stamp_text s) s.millis
shows_time s h =
    let parts = text_parts s h in
    let short = short_day s h in
    let year = parts.year in
    let month = parts.month in
    let day = parts.day in
    record {
      calendar = rw (year, month, day) (civil_date (day_number s) short);
      date = rw (year, month, day) (number (day_number s) short);
      hour = (let e = parts.hour in e ∙ hours s.millis);
      minute = (let e = parts.minute in e ∙ minutes s.millis);
      second = (let e = parts.second in e ∙ seconds s.millis);
      millisecond = (let e = parts.milli in e ∙ milliseconds s.millis);
    }
  where
    hours : (n : ℕ) → n % 86_400_000 / 3_600_000 ≡ n / 3_600_000 % 24
    hours n = omega arith

    minutes : (n : ℕ) → n % 86_400_000 / 60_000 % 60 ≡ n / 60_000 % 60
    minutes n = omega arith

    seconds : (n : ℕ) → n % 86_400_000 / 1000 % 60 ≡ n / 1000 % 60
    seconds n = omega arith

    milliseconds : (n : ℕ) → n % 86_400_000 % 1000 ≡ n % 1000
    milliseconds n = omega arith

pub texts_show_times_lem : TextsShowTimes
texts_show_times_lem s h = (shows_time s h, (text_parts s h).counter, text_rest s)
