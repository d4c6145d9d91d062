-- What a world may have sent behind one more event, and nodes that differ.
use Rattle.std.proofs.Common.{◌≡◌, ◌≢◌, ℕ, zero, suc, ◌+◌, ◌≤◌, List, [], ◌∷◌, Some, Result, Ok, Err, OnOk, length, false, refl, sym, subst, arith}
use Rattle.std.specs.List.{slice_get}
use Rattle.sync_world.specs.declared.event.Event.{Event}
use Rattle.sync_world.specs.declared.event.Outcome.{Outcome}
use Rattle.sync_world.specs.declared.event.WorldFault.{WorldFault}
use Rattle.sync_world.specs.declared.event.WorldFault.TheVariants.{NoSuchDevice, NoSuchRequest, NoSuchReply, Line, NoMemory}
use Rattle.sync_world.specs.Promises.{StepsSendFew}
use Rattle.sync_world.specs.Right.{AreDifferent}
use Rattle.sync_world.specs.Whole.{WorldModel, IsDone, IsNotDone}
use Rattle.world_examples.specs.Played.{IsPlayed}

pub on_ok : {A E : Type 0} (r : Result A E) (P : Type 0) → P → OnOk r P
on_ok (Ok x) P p = p
on_ok (Err e) P p = tt

pub done : StepsSendFew → (e : Event) (old new : WorldModel) (outcome : Outcome) (n : ℕ) → IsPlayed old n → IsDone e old new outcome → IsPlayed new (n + 1)
done few e old new outcome n h is = let sent = few old.world new.world e outcome is.steps in let a = h.asked in let b = h.sent in let c = sent.0 in let d = sent.1 in record { live = is.live; asked = omega arith; sent = omega arith }

-- what did not happen, but for want of memory, left the world as it was
pub not_done : (e : Event) (old new : WorldModel) (fault : WorldFault) (n : ℕ) → IsPlayed old n → IsNotDone e old new fault → (fault ≡ NoMemory → ⊥) → IsPlayed new (n + 1)
not_done e old new fault n h is other = by fault is other
  where
    same : new ≡ old → IsPlayed new (n + 1)
    same e = let a = h.asked in let b = h.sent in subst (λ (w : WorldModel). IsPlayed w (n + 1)) (sym e) (record { live = h.live; asked = omega arith; sent = omega arith })

    by : (fault : WorldFault) → IsNotDone e old new fault → (fault ≡ NoMemory → ⊥) → IsPlayed new (n + 1)
    by (NoSuchDevice device) is other = same is.1
    by (NoSuchRequest request) is other = same is.1
    by (NoSuchReply reply) is other = same is.1
    by (Line refusal) is other = same is.1
    by NoMemory is other = absurd (other refl)

-- two nodes that differ
pub two_differ : (a b : List ℕ) → a ≢ b → AreDifferent (a ∷ b ∷ [])
two_differ a b h zero zero node x y = refl
two_differ a b h zero (suc zero) node x y = absurd (h (let e : Some a ≡ Some node = x in let f : Some b ≡ Some node = y in cc))
two_differ a b h (suc zero) zero node x y = absurd (h (let e : Some b ≡ Some node = x in let f : Some a ≡ Some node = y in cc))
two_differ a b h (suc zero) (suc zero) node x y = refl
two_differ a b h (suc (suc i)) j node x y = absurd (cc)
two_differ a b h zero (suc (suc j)) node x y = absurd (cc)
two_differ a b h (suc zero) (suc (suc j)) node x y = absurd (cc)
