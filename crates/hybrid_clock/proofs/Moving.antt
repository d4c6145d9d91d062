-- Where a clock begins, where it goes, and what it refuses.
use Rattle.std.proofs.Common.{◌≡◌, ℕ, ◌+◌, ◌-◌, ◌/◌, ◌<◌, ◌≤◌, true, false, ◌==◌, nat_lt, List, Option, None, Some, Ok, Err, arith, refl, ◌∙◌, ap}
use Rattle.std.specs.Prelude.{max}
use Rattle.std.proofs.lemmas.Bool.{lt-ltb, le-ltb, eq-eqb, ne_eqb}
use Rattle.hybrid_clock.specs.declared.stamp.Stamp.{Stamp}
use Rattle.hybrid_clock.specs.declared.clock.ClockFault.TheVariants.{Drift, Overflow, Beyond}
use Rattle.hybrid_clock.specs.Stamp.{window}
use Rattle.hybrid_clock.specs.Clock.{clock_after, stands_at, moved, first_counter, next_counter, new_time, draw, receive}
use Rattle.hybrid_clock.specs.Laws.{ClocksBegin, ClocksMove, DrawsAreRefused, ReceivesAreRefused}

-- a time that isn't too far ahead, and a counter that there is
moves : (clock : Stamp) (reading time counter : ℕ) → time ≤ reading + 300_000 → counter ≤ 65_535 → moved clock reading time counter ≡ Ok (stands_at clock.node time counter)
moves clock reading time counter near small =
    let first : nat_lt 300_000 (time - reading) ≡ false = le-ltb 300_000 (time - reading) (omega arith) in
    let second : nat_lt 65_535 counter ≡ false = le-ltb 65_535 counter small in
    rw (first, second) refl

-- a draw in the window that goes to this time, where this counter is the first that follows
drawn : (clock : Stamp) (reading n time first : ℕ) → reading / 60_000 < window → max clock.millis reading ≡ time → first_counter clock time ≡ first → time ≤ reading + 300_000 → first + (n - 1) ≤ 65_535 → draw clock reading n ≡ Ok (stands_at clock.node time (first + (n - 1)))
unfolding draw
drawn clock reading n time first within greatest follows near small =
    let inside = lt-ltb (reading / 60_000) window within in
    rw (inside, greatest, follows) (moves clock reading time (first + (n - 1)) near small)

-- a receive in the window of a message that isn't too far ahead, which goes to this time and counter
received : (clock message : Stamp) (reading time counter : ℕ) → reading / 60_000 < window → message.millis ≤ reading + 300_000 → new_time clock reading message ≡ time → next_counter clock message time ≡ counter → time ≤ reading + 300_000 → counter ≤ 65_535 → receive clock reading message ≡ Ok (stands_at clock.node time counter)
unfolding receive
received clock message reading time counter within ahead greatest follows near small =
    let inside = lt-ltb (reading / 60_000) window within in
    let first : nat_lt 300_000 (message.millis - reading) ≡ false = le-ltb 300_000 (message.millis - reading) (omega arith) in
    rw (inside, first, greatest, follows) (moves clock reading time counter near small)

-- the counter that follows at a later time, and at the clock's own
begins : (clock : Stamp) (time : ℕ) → clock.millis < time → first_counter clock time ≡ 0
begins clock time later =
    let other : (clock.millis == time) ≡ false = ne_eqb clock.millis time (λ e. omega (arith, e)) in
    rw other refl

follows_own : (clock : Stamp) → first_counter clock clock.millis ≡ clock.counter + 1
follows_own clock =
    let same : (clock.millis == clock.millis) ≡ true = eq-eqb clock.millis clock.millis refl in
    rw same refl

-- the counter that follows those of a clock and a message, by whose time it is
module _ (clock message : Stamp) (time : ℕ) where
  of_none : clock.millis < time → message.millis < time → next_counter clock message time ≡ 0
  of_none own told =
      let first : (clock.millis == time) ≡ false = ne_eqb clock.millis time (λ e. omega (arith, e)) in
      let second : (message.millis == time) ≡ false = ne_eqb message.millis time (λ e. omega (arith, e)) in
      rw (first, second) refl

  of_message : clock.millis < time → message.millis ≡ time → next_counter clock message time ≡ message.counter + 1
  of_message own told =
      let first : (clock.millis == time) ≡ false = ne_eqb clock.millis time (λ e. omega (arith, e)) in
      let second : (message.millis == time) ≡ true = eq-eqb message.millis time told in
      rw (first, second) refl

  of_clock : clock.millis ≡ time → message.millis < time → next_counter clock message time ≡ clock.counter + 1
  of_clock own told =
      let first : (clock.millis == time) ≡ true = eq-eqb clock.millis time own in
      let second : (message.millis == time) ≡ false = ne_eqb message.millis time (λ e. omega (arith, e)) in
      rw (first, second) refl

  of_both : clock.millis ≡ time → message.millis ≡ time → next_counter clock message time ≡ max clock.counter message.counter + 1
  of_both own told =
      let first : (clock.millis == time) ≡ true = eq-eqb clock.millis time own in
      let second : (message.millis == time) ≡ true = eq-eqb message.millis time told in
      rw (first, second) refl

-- a time that is too far ahead
drifts : (clock : Stamp) (reading time counter : ℕ) → reading + 300_000 < time → moved clock reading time counter ≡ Err (Drift time reading)
drifts clock reading time counter far =
    let first : nat_lt 300_000 (time - reading) ≡ true = lt-ltb 300_000 (time - reading) (omega arith) in
    rw first refl

-- a counter that there isn't
overflows : (clock : Stamp) (reading time counter : ℕ) → time ≤ reading + 300_000 → 65_535 < counter → moved clock reading time counter ≡ Err (Overflow counter)
overflows clock reading time counter near large =
    let first : nat_lt 300_000 (time - reading) ≡ false = le-ltb 300_000 (time - reading) (omega arith) in
    let second : nat_lt 65_535 counter ≡ true = lt-ltb 65_535 counter large in
    rw (first, second) refl

-- a draw in the window goes where `moved` says, at the greatest time
draws_to : (clock : Stamp) (reading n time : ℕ) → reading / 60_000 < window → max clock.millis reading ≡ time → draw clock reading n ≡ moved clock reading time (first_counter clock time + (n - 1))
unfolding draw
draws_to clock reading n time within greatest =
    let inside = lt-ltb (reading / 60_000) window within in
    rw (inside, greatest) refl

-- and so does a receive of a message that isn't too far ahead
receives_to : (clock message : Stamp) (reading time counter : ℕ) → reading / 60_000 < window → message.millis ≤ reading + 300_000 → new_time clock reading message ≡ time → next_counter clock message time ≡ counter → receive clock reading message ≡ moved clock reading time counter
unfolding receive
receives_to clock message reading time counter within ahead greatest follows =
    let inside = lt-ltb (reading / 60_000) window within in
    let first : nat_lt 300_000 (message.millis - reading) ≡ false = le-ltb 300_000 (message.millis - reading) (omega arith) in
    rw (inside, first, greatest, follows) refl

draws_beyond : (clock : Stamp) (reading n : ℕ) → window ≤ reading / 60_000 → draw clock reading n ≡ Err (Beyond reading)
unfolding draw
draws_beyond clock reading n past = let outside = le-ltb (reading / 60_000) window past in rw outside refl

receives_beyond : (clock message : Stamp) (reading : ℕ) → window ≤ reading / 60_000 → receive clock reading message ≡ Err (Beyond reading)
unfolding receive
receives_beyond clock message reading past = let outside = le-ltb (reading / 60_000) window past in rw outside refl

receives_early : (clock message : Stamp) (reading : ℕ) → reading / 60_000 < window → reading + 300_000 < message.millis → receive clock reading message ≡ Err (Drift message.millis reading)
unfolding receive
receives_early clock message reading within far =
    let inside = lt-ltb (reading / 60_000) window within in
    let first : nat_lt 300_000 (message.millis - reading) ≡ true = lt-ltb 300_000 (message.millis - reading) (omega arith) in
    rw (inside, first) refl

pub clocks_begin_lem : ClocksBegin
clocks_begin_lem = record {
  own = begins_own;
  after = λ node s. (refl, refl);
  first = λ node. (refl, refl);
}
  where
    begins_own : (node : List ℕ) (last : Option Stamp) → (clock_after node last).node ≡ node
    begins_own node None = refl
    begins_own node (Some s) = refl

pub draws_are_refused : DrawsAreRefused
draws_are_refused = record {
  beyond = draws_beyond;
  drift = λ clock reading n within far.
      draws_to clock reading n clock.millis within (omega arith) ∙ drifts clock reading clock.millis (first_counter clock clock.millis + (n - 1)) far;
  overflow = λ clock reading n within behind near some full.
      let counter : first_counter clock clock.millis + (n - 1) ≡ clock.counter + n = (let own = follows_own clock in omega (arith, own, some)) in
      draws_to clock reading n clock.millis within (omega arith)
      ∙ ap (λ k. moved clock reading clock.millis k) counter
      ∙ overflows clock reading clock.millis (clock.counter + n) near full;
}

pub receives_are_refused : ReceivesAreRefused
receives_are_refused = record {
  beyond = receives_beyond;
  message_drift = receives_early;
  clock_drift = λ clock message reading within ahead far.
      receives_to clock message reading clock.millis (next_counter clock message clock.millis) within ahead (omega arith) refl
      ∙ drifts clock reading clock.millis (next_counter clock message clock.millis) far;
  behind = λ clock message reading within own later near full.
      receives_to clock message reading message.millis (message.counter + 1) within near (omega arith) (of_message clock message message.millis own refl)
      ∙ overflows clock reading message.millis (message.counter + 1) near (omega arith);
  own = λ clock message reading within told behind near full.
      receives_to clock message reading clock.millis (clock.counter + 1) within (omega arith) (omega arith) (of_clock clock message clock.millis refl told)
      ∙ overflows clock reading clock.millis (clock.counter + 1) near (omega arith);
  both = λ clock message reading within told behind near full.
      receives_to clock message reading clock.millis (max clock.counter message.counter + 1) within (omega arith) (omega arith) (of_both clock message clock.millis refl told)
      ∙ overflows clock reading clock.millis (max clock.counter message.counter + 1) near (omega arith);
}

pub clocks_move_lem : ClocksMove
clocks_move_lem = record {
  draws = λ clock reading n within later some most.
      let counter : 0 + (n - 1) ≡ n - 1 = omega arith in
      drawn clock reading n reading 0 within (omega arith) (begins clock reading later) (omega arith) (omega arith)
      ∙ ap (λ k. Ok (stands_at clock.node reading k)) counter;
  goes_on = λ clock reading n within behind near some room.
      let counter : clock.counter + 1 + (n - 1) ≡ clock.counter + n = omega arith in
      drawn clock reading n clock.millis (clock.counter + 1) within (omega arith) (follows_own clock) near (omega arith)
      ∙ ap (λ k. Ok (stands_at clock.node clock.millis k)) counter;
  receives = λ clock message reading within own told.
      received clock message reading reading 0 within (omega arith) (omega arith) (of_none clock message reading own told) (omega arith) (omega arith);
  goes_behind = λ clock message reading within own behind near room.
      received clock message reading message.millis (message.counter + 1) within near (omega arith) (of_message clock message message.millis own refl) near (omega arith);
  keeps_time = λ clock message reading within told behind near room.
      received clock message reading clock.millis (clock.counter + 1) within (omega arith) (omega arith) (of_clock clock message clock.millis refl told) near (omega arith);
  keeps_both = λ clock message reading within told behind near room.
      received clock message reading clock.millis (max clock.counter message.counter + 1) within (omega arith) (omega arith) (of_both clock message clock.millis refl told) near (omega arith);
}
