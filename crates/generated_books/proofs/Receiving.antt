-- A clock that receives a batch at a reading that none of its messages is past, and a device with it.
use Rattle.std.proofs.Common.{◌≡◌, ◌≢◌, ℕ, ◌+◌, ◌-◌, ◌*◌, ◌/◌, ◌<◌, ◌≤◌, Bool, true, false, cond, List, [], ◌∷◌, Some, Result, Ok, Err, length, refl, sym, ap, ◌∙◌, subst, arith}
use Rattle.std.specs.Prelude.{max, nat_lt, ◌==◌, is_ok, IfOk, IfErr, OnOk}
use Rattle.std.proofs.lemmas.Bool.{false≢true}
use Rattle.std.specs.List.{AllByRecursion}
use Rattle.std.specs.Ordering.{is_lt}
use Rattle.std.proofs.lemmas.Bool.Decides.{nat_tests}
use Rattle.hybrid_clock.specs.declared.stamp.Stamp.{Stamp}
use Rattle.hybrid_clock.specs.declared.clock.ClockFault.{ClockFault}
use Rattle.hybrid_clock.specs.Order.{stamp_cmp}
use Rattle.hybrid_clock.specs.Stamp.{window}
use Rattle.hybrid_clock.specs.Clock.{receive, moved, stands_at, new_time, next_counter}
use Rattle.field_merge.specs.declared.message.Message.{Message}
use Rattle.field_merge.specs.Log.{join}
use Rattle.kept_messages.specs.News.{new_in}
use Rattle.device_core.specs.declared.edit.LineRefusal.{LineRefusal}
use Rattle.device_core.specs.declared.edit.LineRefusal.TheVariants.{Edit as OfEdit, Clock as OfClock, NoMemory}
use Rattle.device_core.specs.Device.{State, DeviceState, Accepted, IsAccepted, IsRefused, accepted_as, later_of, greatest, received, taken_in, with_messages}
use Rattle.generated_books.specs.Clocks.{IsWithin, IsBy, AreBy}

-- ---- the clock

later_by : (reading : ℕ) (s t : Stamp) → IsBy reading s → IsBy reading t → IsBy reading (later_of s t)
later_by reading s t p q = elim (is_lt (stamp_cmp s t)) as (λ b. IsBy reading (cond b t s)) [ true ↦ q | false ↦ p ]

greatest_by : (reading : ℕ) (s : Stamp) (ms : List Message) → IsBy reading s → AreBy reading ms → IsBy reading (greatest s ms)
greatest_by reading s [] p all = p
greatest_by reading s (m ∷ ms) p all = greatest_by reading (later_of s m.stamp) ms (later_by reading s m.stamp p all.0) all.1

next_low : (clock g : Stamp) (time n : ℕ) → clock.counter ≤ n → g.counter ≡ 0 → next_counter clock g time ≤ n + 1
next_low clock g time n low none = by (clock.millis == time) (g.millis == time)
  where
    by : (a b : Bool) → cond a (cond b (max clock.counter g.counter + 1) (clock.counter + 1)) (cond b (g.counter + 1) 0) ≤ n + 1
    by true true = omega arith
    by true false = omega arith
    by false true = omega arith
    by false false = omega arith

-- the clock goes to a time that is no later than the reading, and its counter rises by at most one
pub record IsReceived (clock g : Stamp) (reading n : ℕ) : Type 0 where
  pub new : Stamp
  pub is : receive clock reading g ≡ Ok new
  pub within : IsWithin reading (n + 1) new

moves : (clock : Stamp) (reading time counter : ℕ) → time ≤ reading → counter ≤ 65_535 → moved clock reading time counter ≡ Ok (stands_at clock.node time counter)
moves clock reading time counter early low =
    let near : nat_lt 300_000 (time - reading) ≡ false = grind (arith, nat_tests) in
    let fits : nat_lt 65_535 counter ≡ false = grind (arith, nat_tests) in
    go (nat_lt 300_000 (time - reading)) (nat_lt 65_535 counter) near fits
  where
    go : (a b : Bool) → a ≡ false → b ≡ false
        → cond a (Err (ClockFault.Drift time reading)) (cond b (Err (ClockFault.Overflow counter)) (Ok (stands_at clock.node time counter))) ≡ Ok (stands_at clock.node time counter)
    go a b p q = rw (p, q) refl

pub received_by : (clock g : Stamp) (reading n : ℕ) → reading < 60_000 * window → IsBy reading g → IsWithin reading n clock → n ≤ 1000 → IsReceived clock g reading n
unfolding receive
received_by clock g reading n inside by within few =
    let time : ℕ = new_time clock reading g in
    let counter : ℕ = next_counter clock g (new_time clock reading g) in
    let early : new_time clock reading g ≤ reading = (let a = by.time in let b = within.time in omega arith) in
    let low : next_counter clock g (new_time clock reading g) ≤ n + 1 = next_low clock g (new_time clock reading g) n within.counter by.counter in
    let minute : reading / 60_000 < window = omega arith in
    let open_now : nat_lt (reading / 60_000) window ≡ true = grind (arith, nat_tests) in
    let near : nat_lt 300_000 (g.millis - reading) ≡ false = (let a = by.time in grind (arith, nat_tests)) in
    let moves_on = moves clock reading (new_time clock reading g) (next_counter clock g (new_time clock reading g)) early (omega arith) in record {
      new = stands_at clock.node (new_time clock reading g) (next_counter clock g (new_time clock reading g));
      is = go (nat_lt (reading / 60_000) window) (nat_lt 300_000 (g.millis - reading)) open_now near moves_on;
      within = record { time = early; counter = low };
    }
  where
    go : (a b : Bool) → a ≡ true → b ≡ false
        → moved clock reading (new_time clock reading g) (next_counter clock g (new_time clock reading g)) ≡ Ok (stands_at clock.node (new_time clock reading g) (next_counter clock g (new_time clock reading g)))
        → cond a (cond b (Err (ClockFault.Drift g.millis reading)) (moved clock reading (new_time clock reading g) (next_counter clock g (new_time clock reading g)))) (Err (ClockFault.Beyond reading))
        ≡ Ok (stands_at clock.node (new_time clock reading g) (next_counter clock g (new_time clock reading g)))
    go a b p q r = rw (p, q) r

-- ---- the device

-- the batch is accepted
pub record IsTaken (s : State) (ns : List Message) (reading : ℕ) : Type 0 where
  pub accepted : Accepted
  pub is : received s ns reading ≡ Ok accepted
  pub joined : accepted.state.messages ≡ join s.messages ns
  pub within : (n : ℕ) → n ≤ 1000 → IsWithin reading n s.clock → IsWithin reading (n + 1) accepted.state.clock

same_clock : (clock g new other : Stamp) (reading : ℕ) → receive clock reading g ≡ Ok new → receive clock reading g ≡ Ok other → other ≡ new
same_clock clock g new other reading p q = cc

pub is_taken : (s : State) (ns : List Message) (reading : ℕ) → ns ≢ [] → reading < 60_000 * window → AreBy reading ns → IsWithin reading 1000 s.clock → IsTaken s ns reading
is_taken s [] reading some inside by within = absurd (some refl)
is_taken s (m ∷ ms) reading some inside by within =
    let g : Stamp = greatest m.stamp ms in
    let early : IsBy reading (greatest m.stamp ms) = greatest_by reading m.stamp ms by.0 by.1 in
    let r : IsReceived s.clock (greatest m.stamp ms) reading 1000 = received_by s.clock (greatest m.stamp ms) reading 1000 inside early within (omega arith) in record {
      accepted = with_messages s.messages (m ∷ ms) r.new s.history [] (length (new_in s.messages (m ∷ ms)));
      is = ap (taken_in s (m ∷ ms)) r.is;
      joined = refl;
      within = λ n few low.
          let more : IsReceived s.clock (greatest m.stamp ms) reading n = received_by s.clock (greatest m.stamp ms) reading n inside early low few in
          subst (IsWithin reading (n + 1)) (same_clock s.clock (greatest m.stamp ms) r.new more.new reading r.is more.is) more.within;
    }

pub state_is : (meant : Result Accepted LineRefusal) (a : Accepted) (device : DeviceState) (count : ℕ) → meant ≡ Ok a → IsAccepted meant device count → a.state ≡ device.state
state_is meant a device count is accepted = let same : a ≡ accepted_as device count = cc in ap (λ (x : Accepted). x.state) same

-- ---- what the device answers

pub only_memory : (answer : Result ℕ LineRefusal) (meant : Result Accepted LineRefusal) (a : Accepted) (old new : DeviceState)
    → meant ≡ Ok a → IfErr answer (IsRefused meant old new) → IfErr answer (λ refusal. refusal ≡ NoMemory)
only_memory (Ok count) meant a old new is h = tt
only_memory (Err (OfEdit fault)) meant a old new is h = absurd (let no = h.0 in cc)
only_memory (Err (OfClock fault)) meant a old new is h = absurd (let no = h.0 in cc)
only_memory (Err NoMemory) meant a old new is h = refl

pub on_ok : {P : Type 0} (answer : Result ℕ LineRefusal) → is_ok answer ≡ true → OnOk answer P → P
on_ok (Ok count) fine p = p
on_ok (Err refusal) fine p = absurd (false≢true fine)

pub state_of : (answer : Result ℕ LineRefusal) (meant : Result Accepted LineRefusal) (a : Accepted) (device : DeviceState)
    → is_ok answer ≡ true → meant ≡ Ok a → IfOk answer (IsAccepted meant device) → a.state ≡ device.state
state_of (Ok count) meant a device fine is h = state_is meant a device count is h
state_of (Err refusal) meant a device fine is h = absurd (false≢true fine)
