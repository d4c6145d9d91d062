-- A clock that draws stays valid.
use Rattle.std.proofs.Common.{◌≡◌, ℕ, ◌+◌, ◌-◌, ◌<◌, ◌≤◌, ◌/◌, ◌*◌, Bool, true, false, cond, Ok, Err, refl, subst, arith}
use Rattle.std.specs.Prelude.{nat_lt, max}
use Rattle.std.proofs.lemmas.Bool.{ltb-true, ltb-false}
use Rattle.hybrid_clock.specs.declared.clock.ClockFault.TheVariants.{Drift, Overflow, Beyond}
use Rattle.hybrid_clock.specs.declared.stamp.Stamp.{Stamp}
use Rattle.hybrid_clock.specs.Clock.{stands_at, moved, first_counter, draw}
use Rattle.hybrid_clock.specs.Node.{IsNode}
use Rattle.hybrid_clock.specs.Stamp.{IsStamp, window}

-- the clock moves to a time within the window
pub moved_valid : (clock s : Stamp) (reading time counter : ℕ) → IsNode clock.node → time < 60_000 * window → moved clock reading time counter ≡ Ok s → IsStamp s × (s.counter ≡ counter)
moved_valid clock s reading time counter node within e = by (nat_lt 300_000 (time - reading)) (nat_lt 65_535 counter) refl e
  where
    by : (far full : Bool) → nat_lt 65_535 counter ≡ full → cond far (Err (Drift time reading)) (cond full (Err (Overflow counter)) (Ok (stands_at clock.node time counter))) ≡ Ok s
        → IsStamp s × (s.counter ≡ counter)
    by true full f e = absurd (cc)
    by false true f e = absurd (cc)
    by false false f e =
        let same : stands_at clock.node time counter ≡ s = cc in
        let few : counter ≤ 65_535 = ltb-false 65_535 counter f in
        subst (λ (x : Stamp). IsStamp x × (x.counter ≡ counter)) same (record { within = within; counter = few; node = node }, refl)

pub greater : (a b n : ℕ) → a < n → b < n → max a b < n
greater a b n h k = omega (arith, h, k)

pub draw_valid : (clock s : Stamp) (reading n : ℕ) → IsStamp clock → draw clock reading n ≡ Ok s → IsStamp s × (n - 1 ≤ s.counter)
unfolding draw
draw_valid clock s reading n is e = by (nat_lt (reading / 60_000) window) refl e
  where
    by : (near : Bool) → nat_lt (reading / 60_000) window ≡ near
        → cond near (moved clock reading (max clock.millis reading) (first_counter clock (max clock.millis reading) + (n - 1))) (Err (Beyond reading)) ≡ Ok s → IsStamp s × (n - 1 ≤ s.counter)
    by false f e = absurd (cc)
    by true f e =
        let below : reading / 60_000 < window = ltb-true (reading / 60_000) window f in
        let within : reading < 60_000 * window = omega (arith, below) in
        let told = moved_valid clock s reading (max clock.millis reading) (first_counter clock (max clock.millis reading) + (n - 1)) is.node (greater clock.millis reading (60_000 * window) is.within within) e in
        (told.0, omega (arith, told.1))
