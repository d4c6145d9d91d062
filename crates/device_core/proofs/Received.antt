-- Messages that are accepted are joined, and the clock is not behind them.
use Rattle.std.proofs.Common.{◌≡◌, ◌∙◌, inl, inr, ℕ, ◌+◌, ◌-◌, ◌≤◌, Bool, true, false, cond, List, [], ◌∷◌, Option, None, Some, Result, Ok, Err, length, refl, sym, ap, subst, arith}
use Rattle.std.specs.Prelude.{max, nat_lt, ◌==◌, ◌/◌}
use Rattle.std.proofs.lemmas.Bool.Decides.{nat_tests}
use Rattle.hybrid_clock.specs.declared.stamp.Stamp.{Stamp}
use Rattle.hybrid_clock.specs.declared.clock.ClockFault.{ClockFault}
use Rattle.hybrid_clock.specs.Stamp.{window}
use Rattle.hybrid_clock.specs.Clock.{IsLater, receive, moved, next_counter, new_time, stands_at}
use Rattle.field_merge.specs.declared.message.Message.{Message}
use Rattle.kept_messages.specs.News.{new_in}
use Rattle.kept_messages.specs.Records.{record_of}
use Rattle.edit_history.proofs.Listing.{map_length}
use Rattle.device_core.specs.Device.{State, DeviceState, Accepted, IsAccepted, accepted_as, at_rest, IsUpTo, IsAhead, with_messages, greatest_of, taken_in, receiving, received}
use Rattle.device_core.specs.ReadBack.{AreTakenIn, ReceivedAreJoined}
use Rattle.device_core.proofs.Greatest.{of_ahead, ahead_later}
use Rattle.kept_messages.proofs.Members.{all_join}
use Rattle.kept_messages.proofs.News.{one_each}
use Rattle.device_core.proofs.ReadBack.{moved_to}

-- ---- a clock that receives a timestamp stands after it and after where it stood, with its own node

next_later : (clock s : Stamp) (time : ℕ) → clock.millis ≤ time → s.millis ≤ time
    → IsLater clock (stands_at clock.node time (next_counter clock s time)) × IsLater s (stands_at clock.node time (next_counter clock s time))
next_later clock s time one other = go (clock.millis == time) (s.millis == time) refl refl
  where
    go : (a b : Bool) → (clock.millis == time) ≡ a → (s.millis == time) ≡ b
        → IsLater clock (stands_at clock.node time (cond a (cond b (max clock.counter s.counter + 1) (clock.counter + 1)) (cond b (s.counter + 1) 0)))
        × IsLater s (stands_at clock.node time (cond a (cond b (max clock.counter s.counter + 1) (clock.counter + 1)) (cond b (s.counter + 1) 0)))
    go true true is also = (inr ((grind (arith, nat_tests)), (grind arith)), inr ((grind (arith, nat_tests)), (grind arith)))
    go true false is also = (inr ((grind (arith, nat_tests)), omega arith), inl (grind (arith, nat_tests)))
    go false true is also = (inl (grind (arith, nat_tests)), inr ((grind (arith, nat_tests)), omega arith))
    go false false is also = (inl (grind (arith, nat_tests)), inl (grind (arith, nat_tests)))

record IsAfterBoth (clock s new : Stamp) : Type 0 where
  old : IsLater clock new
  came : IsLater s new
  own : new.node ≡ clock.node

receive_later : (clock s new : Stamp) (reading : ℕ) → receive clock reading s ≡ Ok new → IsAfterBoth clock s new
unfolding receive
receive_later clock s new reading h = go (nat_lt (reading / 60_000) window) (nat_lt 300_000 (s.millis - reading)) h
  where
    go : (within far : Bool) → cond within (cond far (Err (ClockFault.Drift s.millis reading)) (moved clock reading (new_time clock reading s) (next_counter clock s (new_time clock reading s)))) (Err (ClockFault.Beyond reading)) ≡ Ok new → IsAfterBoth clock s new
    go false far h = absurd (cc)
    go true true h = absurd (cc)
    go true false h =
        let at = moved_to clock new reading (new_time clock reading s) (next_counter clock s (new_time clock reading s)) h in
        let one : clock.millis ≤ new_time clock reading s = grind arith in
        let other : s.millis ≤ new_time clock reading s = grind arith in
        let both = next_later clock s (new_time clock reading s) one other in record {
          old = subst (IsLater clock) at both.0;
          came = subst (IsLater s) at both.1;
          own = sym (ap (λ (t : Stamp). t.node) at);
        }

-- ---- what was received

none_came : (ns : List Message) → greatest_of ns ≡ None → ns ≡ []
none_came [] h = refl
none_came (n ∷ ns) h = absurd (cc)

nothing_taken : (s : State) (reading : ℕ) → AreTakenIn s [] reading (accepted_as (at_rest s) 0)
nothing_taken s reading = record {
  joined = refl;
  grown = omega arith;
  pending = refl;
  none_made = refl;
  same_history = refl;
  at_clock = λ t e. absurd (cc);
  at_rest = λ e. refl;
  own = refl;
  up_to = tt;
  ahead = λ h. h;
}

some_taken : (s : State) (ns : List Message) (reading : ℕ) (t clock : Stamp) → greatest_of ns ≡ Some t → receive s.clock reading t ≡ Ok clock
    → AreTakenIn s ns reading (with_messages s.messages ns clock s.history [] (length (new_in s.messages ns)))
some_taken s ns reading t clock is drawn =
    let after = receive_later s.clock t clock reading drawn in
    let up : IsAhead clock ns = ahead_later t clock ns after.came (of_ahead t ns is) in record {
      joined = refl;
      grown = one_each s.messages ns;
      pending = refl;
      none_made = refl;
      same_history = refl;
      at_clock = λ u e. let same : t ≡ u = cc in subst (λ (x : Stamp). receive s.clock reading x ≡ Ok clock) same drawn;
      at_rest = λ none. absurd (let no = ap greatest_of none in cc);
      own = after.own;
      up_to = up;
      ahead = λ h. all_join (λ (m : Message). IsUpTo clock m.stamp) s.messages ns (ahead_later s.clock clock s.messages after.old h) up;
    }

-- a device that the messages left as they should, is as it is when they are received, with as many as are pending
pub all_taken : (s : State) (ns : List Message) (reading : ℕ) (t clock : Stamp) (device : DeviceState) → greatest_of ns ≡ Some t → receive s.clock reading t ≡ Ok clock
    → ((k : ℕ) → accepted_as device k ≡ with_messages s.messages ns clock s.history [] k) → IsAccepted (received s ns reading) device (length device.batch)
all_taken s ns reading t clock device is drawn told =
    let n = length (new_in s.messages ns) in
    let count : n ≡ length device.batch = sym (map_length record_of (new_in s.messages ns)) ∙ sym (ap (λ (a : Accepted). length a.batch) (told n)) in
    ap (receiving s ns reading) is ∙ ap (taken_in s ns) drawn ∙ ap Ok (sym (told n)) ∙ ap (λ (k : ℕ). Ok (accepted_as device k)) count

pub received_joined : ReceivedAreJoined
received_joined s ns reading a h = by (greatest_of ns) refl h
  where
    taken : (t : Stamp) (r : Result Stamp ClockFault) → greatest_of ns ≡ Some t → receive s.clock reading t ≡ r → taken_in s ns r ≡ Ok a → AreTakenIn s ns reading a
    taken t (Err fault) is drawn k = absurd (cc)
    taken t (Ok clock) is drawn k =
        let same : with_messages s.messages ns clock s.history [] (length (new_in s.messages ns)) ≡ a = cc in
        subst (AreTakenIn s ns reading) same (some_taken s ns reading t clock is drawn)

    by : (o : Option Stamp) → greatest_of ns ≡ o → receiving s ns reading o ≡ Ok a → AreTakenIn s ns reading a
    by None is k =
        let same : accepted_as (at_rest s) 0 ≡ a = cc in
        subst (AreTakenIn s ns reading) same (subst (λ l. AreTakenIn s l reading (accepted_as (at_rest s) 0)) (sym (none_came ns is)) (nothing_taken s reading))
    by (Some t) is k = taken t (receive s.clock reading t) is refl k
