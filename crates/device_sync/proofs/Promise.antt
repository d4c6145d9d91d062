-- What a sync comes to with an honest server.
use Rattle.std.proofs.Common.{◌≡◌, ℕ, List, [], ◌∷◌, ◌++◌, Option, Some, Result, Ok, Err, map, sym, ap, ◌∙◌, subst, append-nil}
use Rattle.budget_ports.specs.Exchanges.{Exchange, Adds}
use Rattle.field_merge.specs.declared.message.Message.{Message}
use Rattle.field_merge.specs.Messages.{AreMessages}
use Rattle.field_merge.specs.Log.{IsRising}
use Rattle.device_core.specs.Device.{State}
use Rattle.device_sync.specs.declared.fault.SyncFault.{SyncFault}
use Rattle.device_sync.specs.declared.fault.SyncFault.TheVariants.{Link, BadReply, Refused, OutOfSync, Clock, Keeper, NoMemory}
use Rattle.device_sync.specs.declared.fault.Synced.{Synced}
use Rattle.device_sync.specs.declared.target.Target.{Target}
use Rattle.device_sync.specs.Honest.{Honest, AreWithin}
use Rattle.device_sync.specs.Laws.{IsFair, Converges}
use Rattle.device_sync.specs.Talk.{Outcome, agreed, exchange_of}
use Rattle.device_sync.specs.Sync.{Told, IsCounted, HasConversed, HasTalked, AreAdded, MeetsHonest}
use Rattle.device_sync.proofs.Conversation.{converges}

append_cancel : (old xs ys : List Exchange) → old ++ xs ≡ old ++ ys → xs ≡ ys
append_cancel [] xs ys h = h
append_cancel (x ∷ old) xs ys h = append_cancel old xs ys (cc)

same_list : {a b : List Exchange} → Some a ≡ Some b → a ≡ b
same_list e = cc

-- what was added, where nothing stands behind the turns
added_are : (added turns late : List Exchange) (old new : Option (List Exchange)) → AreAdded added old new → Adds old new (turns ++ late) → late ≡ [] → added ≡ turns
added_are added turns late old new (all, (before, after)) adds none =
    let h : Adds (Some all) (Some (all ++ added)) (turns ++ late) = subst (λ (x : Option (List Exchange)). Adds (Some all) x (turns ++ late)) after (subst (λ (x : Option (List Exchange)). Adds x new (turns ++ late)) before adds) in
    append_cancel all added turns (h ∙ ap (λ (l : List Exchange). all ++ l) (ap (λ (l : List Exchange). turns ++ l) none ∙ append-nil turns))

module _ (target : Target) (group : List ℕ) (reading : ℕ) (first : List ℕ) (s : State) (old new : Told) (now : State) (result : Result Synced SyncFault)
    (h : HasConversed target group reading first s old new now (IsCounted s) result) (up : IsRising s.messages) (valid : AreMessages s.messages) where
  all_turns : (added : List Exchange) (r t : List Message) → AreAdded added old.exchanges new.exchanges → IsRising r → AreMessages r → Honest target.token r added t → AreWithin added → h.late ≡ []
      → Converges s.messages r added h.end.messages t h.outcome
  all_turns added r t are down other honest short none =
      let same = added_are added (map exchange_of h.turns) h.late old.exchanges new.exchanges are h.adds none in
      subst (λ (l : List Exchange). Converges s.messages r l h.end.messages t h.outcome) (sym same)
      (converges target reading first s h.end h.turns h.outcome r t up valid down other h.talk (subst (λ (l : List Exchange). Honest target.token r l t) same honest) (subst AreWithin same short))

by_result : (target : Target) (group : List ℕ) (reading : ℕ) (first : List ℕ) (s : State) (old new : Told) (now : State) (result : Result Synced SyncFault)
    → (h : HasConversed target group reading first s old new now (IsCounted s) result)
    → ((added : List Exchange) (r t : List Message) → AreAdded added old.exchanges new.exchanges → IsRising r → AreMessages r → Honest target.token r added t → AreWithin added → h.late ≡ []
    → Converges s.messages r added h.end.messages t h.outcome)
    → MeetsHonest target.token s.messages old.exchanges new.exchanges now.messages result
by_result target group reading first s old new now (Ok synced) h all = λ added r t are down other honest short.
    let a = h.answered in
    subst (λ (n : List Message). Converges s.messages r added n t agreed) (sym (ap (λ (z : State). z.messages) a.1.1.0))
    (subst (λ (o : Outcome). Converges s.messages r added h.end.messages t o) a.0 (all added r t are down other honest short a.1.0))
by_result target group reading first s old new now (Err Link) h all = λ added r t are down other honest short. tt
by_result target group reading first s old new now (Err (BadReply at)) h all = λ added r t are down other honest short.
    let a = h.answered in subst IsFair a.0 (all added r t are down other honest short a.1.0).fair
by_result target group reading first s old new now (Err (Refused status)) h all = λ added r t are down other honest short.
    let a = h.answered in subst IsFair a.0 (all added r t are down other honest short a.1.0).fair
by_result target group reading first s old new now (Err (OutOfSync mine theirs)) h all = λ added r t are down other honest short.
    let a = h.answered in subst IsFair a.0 (all added r t are down other honest short a.1.0).fair
by_result target group reading first s old new now (Err (Clock fault)) h all = λ added r t are down other honest short. tt
by_result target group reading first s old new now (Err Keeper) h all = λ added r t are down other honest short. tt
by_result target group reading first s old new now (Err NoMemory) h all = λ added r t are down other honest short. tt

pub meets_honest : (target : Target) (group : List ℕ) (reading : ℕ) (s : State) (old new : Told) (now : State) (result : Result Synced SyncFault)
    → HasTalked target group reading s old new now result → IsRising s.messages → AreMessages s.messages → MeetsHonest target.token s.messages old.exchanges new.exchanges now.messages result
meets_honest target group reading s old new now result h up valid =
    by_result target group reading _ s old new now result h.conversed (all_turns target group reading _ s old new now result h.conversed up valid)
