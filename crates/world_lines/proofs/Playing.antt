-- A world that is played, one line after the other.
use Rattle.std.proofs.Common.{◌≡◌, ℕ, ◌+◌, ◌≤◌, List, false, Option, None, Some, Result, Ok, Err, length, refl, sym, ap, ap₂, ◌∙◌, subst, arith}
use Rattle.std.specs.Prelude.{IfOk, OnOk}
use Rattle.command_lines.specs.declared.command.CommandFault.{CommandFault}
use Rattle.command_lines.specs.declared.reply.Reply.{Reply}
use Rattle.sync_world.specs.declared.event.Event.{Event}
use Rattle.sync_world.specs.declared.event.Outcome.{Outcome}
use Rattle.sync_world.specs.declared.event.WorldFault.{WorldFault}
use Rattle.sync_world.specs.declared.event.WorldFault.TheVariants as faults
use Rattle.sync_world.specs.Promises.{StepsSendFew}
use Rattle.sync_world.specs.World.{WorldState, start, stepped}
use Rattle.sync_world.specs.Whole.{WorldModel, IsDone, IsNotDone, at_start}
use Rattle.world_lines.specs.declared.command.WorldCommand.{WorldCommand}
use Rattle.world_lines.specs.Replies.{outcome_reply, fault_reply}
use Rattle.world_lines.specs.Session.{IsPlayed, CanGoOn, state_of, settled, reply_or_none, obeyed, obeyed_if_read}

pub on_reply : {A E : Type 0} {P Q : A → Type 0} (r : Result A E) → ((a : A) → P a → Q a) → IfOk r P → IfOk r Q
on_reply (Ok a) f h = f a h
on_reply (Err e) f h = tt

pub on_ok : {A E : Type 0} (r : Result A E) (P : Type 0) → P → OnOk r P
on_ok (Ok a) P p = p
on_ok (Err e) P p = tt

-- ---- how long a world has been played

pub played_more : (n : ℕ) (w : WorldModel) → IsPlayed n w → IsPlayed (n + 1) w
played_more n w h = let a = h.asked in let b = h.sent in record { live = h.live; asked = omega (arith, a); sent = omega (arith, b) }

pub still_played : (n : ℕ) (old new : WorldModel) → IsPlayed n old → new.world ≡ old.world → new.spent ≡ false → IsPlayed (n + 1) new
still_played n old new h same live =
    let a = h.asked in
    let b = h.sent in record {
      live = live;
      asked = subst (λ (w : WorldState). length w.requests ≤ n + 1) (sym same) (omega (arith, a));
      sent = subst (λ (w : WorldState). length w.replies ≤ n + 1) (sym same) (omega (arith, b));
    }

pub goes_on_more : (n m : ℕ) (w : Option WorldModel) → n ≤ m → CanGoOn n w → CanGoOn m w
goes_on_more n m None le h = tt
goes_on_more n m (Some w) le h = let a = h.asked in let b = h.sent in record { live = h.live; asked = omega (arith, a, le); sent = omega (arith, b, le) }

pub done_played : StepsSendFew → (e : Event) (old new : WorldModel) (outcome : Outcome) (n : ℕ) → IsPlayed n old → IsDone e old new outcome → IsPlayed (n + 1) new
done_played few e old new outcome n h is =
    let sent = few old.world new.world e outcome is.steps in
    let a = h.asked in
    let b = h.sent in
    let c = sent.0 in
    let d = sent.1 in
    record { live = is.live; asked = omega (arith, a, c); sent = omega (arith, b, d) }

-- an event that didn't happen, and that has a reply, left the world as it was
left : (e : Event) (old new : WorldModel) (fault : WorldFault) (r : Reply) → IsNotDone e old new fault → fault_reply fault ≡ Some r → (stepped old.world e ≡ Err fault) × (new ≡ old)
left e old new (faults.NoSuchDevice device) r is told = is
left e old new (faults.NoSuchRequest request) r is told = is
left e old new (faults.NoSuchReply reply) r is told = is
left e old new (faults.Line refusal) r is told = is
left e old new faults.NoMemory r is told = absurd (let t : None ≡ Some r = told in cc)

pub refused_played : (e : Event) (old new : WorldModel) (fault : WorldFault) (r : Reply) (n : ℕ) → IsPlayed n old → IsNotDone e old new fault → fault_reply fault ≡ Some r → IsPlayed (n + 1) new
refused_played e old new fault r n h is told = subst (IsPlayed (n + 1)) (sym (left e old new fault r is told).1) (played_more n old h)

-- ---- what is replied

pub done_settled : (e : Event) (old new : WorldModel) (outcome : Outcome) (r : Reply) → IsDone e old new outcome → r ≡ outcome_reply outcome → settled old.world (stepped old.world e) ≡ (new.world, r)
done_settled e old new outcome r is told = ap (settled old.world) is.steps ∙ ap (λ (x : Reply). (new.world, x)) (sym told)

pub refused_settled : (e : Event) (old new : WorldModel) (fault : WorldFault) (r : Reply) → IsNotDone e old new fault → fault_reply fault ≡ Some r → settled old.world (stepped old.world e) ≡ (new.world, r)
refused_settled e old new fault r is told =
    let l = left e old new fault r is told in
    ap (settled old.world) l.0 ∙ ap₂ (λ (w : WorldModel) (o : Option Reply). (w.world, reply_or_none o)) (sym l.1) told

pub same_reply : (w v : WorldState) (r s : Reply) → v ≡ w → s ≡ r → ◌≡◌ {A = WorldState × Reply} (w, r) (v, s)
same_reply w v r s same told = ap₂ (λ (x : WorldState) (y : Reply). (x, y)) (sym same) (sym told)

pub read_obeyed : (w : WorldState) (read : Result WorldCommand CommandFault) (command : WorldCommand) (p : WorldState × Reply) → read ≡ Ok command → obeyed w command ≡ p → obeyed_if_read w read ≡ p
read_obeyed w read command p is told = ap (obeyed_if_read w) is ∙ told

-- ---- a world that begins

pub begun_state : (nodes : List (List ℕ)) (w : WorldModel) → w ≡ at_start nodes → Some (start nodes) ≡ state_of (Some w)
begun_state nodes w is = ap (λ (x : WorldModel). Some x.world) (sym is)

pub begun_played : (nodes : List (List ℕ)) (w : WorldModel) → w ≡ at_start nodes → CanGoOn 0 (Some w)
begun_played nodes w is = subst (IsPlayed 0) (sym is) (record { live = refl; asked = omega arith; sent = omega arith })
