-- What a text must pass to be read.
use Rattle.std.proofs.Common.{◌≡◌, ℕ, ◌/◌, ◌<◌, Bool, true, false, ◌==◌, nat_lt, cond, List, length, drop, Option, None, Some, Result, Ok, Err, refl, sym, ◌∙◌, ap, eq-eqb}
use Rattle.std.proofs.lemmas.Bool.{eqb-true, ltb-true, lt-ltb}
use Rattle.hybrid_clock.specs.declared.stamp.Stamp.{Stamp}
use Rattle.hybrid_clock.specs.declared.stamp.StampFault.{StampFault}
use Rattle.hybrid_clock.specs.declared.stamp.StampFault.TheVariants.{Length, NoSuchMoment, BeyondWindow, ZeroNode}
use Rattle.hybrid_clock.specs.Node.{is_zeros}
use Rattle.hybrid_clock.specs.Stamp.{window}
use Rattle.hybrid_clock.specs.Reading.{misfit, is_moment, millis_in, hex_at, stamp_in, read_form, read_moment, read_stamp}

-- a text of the form that names a moment
pub record Shaped (t : List ℕ) : Type 0 where
  pub long : length t ≡ 46
  pub formed : misfit t ≡ None
  pub moment : is_moment t ≡ true

pub record Passes (t : List ℕ) : Type 0 where
  pub long : length t ≡ 46
  pub formed : misfit t ≡ None
  pub moment : is_moment t ≡ true
  pub within : millis_in t / 60_000 < window
  pub nonzero : is_zeros (drop 30 t) ≡ false

pub shape : (t : List ℕ) → Passes t → Shaped t
shape t p = record { long = p.long; formed = p.formed; moment = p.moment }

-- a text that passes is read
pub reads : (t : List ℕ) → Passes t → read_stamp t ≡ Ok (stamp_in t)
unfolding read_stamp
reads t p =
    let long = eq-eqb (length t) 46 p.long in
    let formed = p.formed in
    let moment = p.moment in
    let within = lt-ltb (millis_in t / 60_000) window p.within in
    let nonzero = p.nonzero in
    rw (long, formed, moment, within, nonzero) refl

ok_if : (b : Bool) (x : Result Stamp StampFault) (f : StampFault) (s : Stamp) → cond b x (Err f) ≡ Ok s → (b ≡ true) × (x ≡ Ok s)
ok_if true x f s e = (refl, e)
ok_if false x f s e = absurd (cc)

ok_unless : (b : Bool) (f : StampFault) (r s : Stamp) → cond b (Err f) (Ok r) ≡ Ok s → (b ≡ false) × (r ≡ s)
ok_unless true f r s e = absurd (cc)
ok_unless false f r s e = (refl, cc)

ok_none : (t : List ℕ) (o : Option ℕ) (s : Stamp) → read_form t o ≡ Ok s → (o ≡ None) × (cond (is_moment t) (read_moment t) (Err NoSuchMoment) ≡ Ok s)
ok_none t None s e = (refl, e)
ok_none t (Some at) s e = absurd (cc)

-- and what is read has passed
pub passed : (t : List ℕ) (s : Stamp) → read_stamp t ≡ Ok s → Passes t × (stamp_in t ≡ s)
unfolding read_stamp
passed t s e =
    let long = ok_if (length t == 46) (read_form t (misfit t)) (Length (length t)) s e in
    let formed = ok_none t (misfit t) s long.1 in
    let moment = ok_if (is_moment t) (read_moment t) NoSuchMoment s formed.1 in
    let within = ok_if (nat_lt (millis_in t / 60_000) window) (cond (is_zeros (drop 30 t)) (Err ZeroNode) (Ok (stamp_in t))) (BeyondWindow (millis_in t / 60_000)) s moment.1 in
    let nonzero = ok_unless (is_zeros (drop 30 t)) ZeroNode (stamp_in t) s within.1 in (
      record {
        long = eqb-true (length t) 46 long.0;
        formed = formed.0;
        moment = moment.0;
        within = ltb-true (millis_in t / 60_000) window within.0;
        nonzero = nonzero.0;
      },
      nonzero.1,
    )

some_if : (b : Bool) (x n : ℕ) → Some n ≡ cond b (Some x) None → (b ≡ true) × (n ≡ x)
some_if true x n e = (refl, cc)
some_if false x n e = absurd (cc)

abbrev pub stamp_of : ℕ → ℕ → List ℕ → Stamp
stamp_of millis counter node = record { millis = millis; counter = counter; node = node }

-- what the tests of the code come to
pub read_parts : (t : List ℕ) (millis counter : ℕ) (node : List ℕ) → length t ≡ 46 → misfit t ≡ None → Some millis ≡ cond (is_moment t) (Some (millis_in t)) None → millis / 60_000 < window → is_zeros node ≡ false → counter ≡ hex_at t 25 → node ≡ drop 30 t → Ok (stamp_of millis counter node) ≡ read_stamp t
read_parts t millis counter node long formed some within nonzero hex rest =
    let moment = some_if (is_moment t) (millis_in t) millis some in
    let p : Passes t = record {
      long = long;
      formed = formed;
      moment = moment.0;
      within = rw (← moment.1) within;
      nonzero = rw (← rest) nonzero;
    } in
    let same : stamp_of millis counter node ≡ stamp_in t = (let a = moment.1 in rw (a, hex, rest) refl) in
    ap (λ (s : Stamp). Ok s) same ∙ sym (reads t p)
