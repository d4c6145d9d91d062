-- A sync with an honest server, where nothing fails.
use Rattle.std.proofs.Common.{◌≡◌, ◌∙◌, ◌<◌, ◌≤◌, ◌/◌, ◌⊎◌, inl, inr, ℕ, nat_lt, true, List, [], ◌∷◌, ◌++◌, map, Option, Some, Result, Ok, Err, sym, ap, subst, append-nil, arith}
use Rattle.std.proofs.lemmas.Bool.{cases_Bool, ltb-true, ltb-false}
use Rattle.hybrid_clock.specs.Stamp.{window}
use Rattle.hybrid_clock.specs.declared.clock.ClockFault.{ClockFault}
use Rattle.budget_ports.specs.Exchanges.{Exchange, Adds}
use Rattle.budget_ports.specs.Faults.{count_after, IsUnfailed}
use Rattle.field_merge.specs.Messages.{AreMessages}
use Rattle.device_core.specs.Device.{State}
use Rattle.device_sync.specs.declared.fault.SyncFault.{SyncFault}
use Rattle.device_sync.specs.declared.fault.SyncFault.TheVariants.{Link, BadReply, Refused, OutOfSync, Clock, Keeper, NoMemory}
use Rattle.device_sync.specs.declared.fault.Synced.{Synced}
use Rattle.device_sync.specs.declared.target.Target.{Target}
use Rattle.device_sync.specs.Honest.{Honest}
use Rattle.device_sync.specs.Laws.{TalksAreValid}
use Rattle.device_sync.specs.Requests.{first_since}
use Rattle.device_sync.specs.Sync.{Told, HasTalked, IsMet, MeetsHonest, AreAdded, fails_link, fails_keeper}
use Rattle.device_sync.specs.Talk.{exchange_of, most_requests}
use Rattle.sync_laws.specs.Complete.{AreSmall, NeverDecline, IsComplete, Completes}
use Rattle.sync_laws.proofs.NeverRefused.{never_refused}

append_cancel : (old xs ys : List Exchange) → old ++ xs ≡ old ++ ys → xs ≡ ys
append_cancel [] xs ys h = h
append_cancel (x ∷ old) xs ys h = append_cancel old xs ys (cc)

-- what was added, where nothing stands behind the turns
added_are : (added turns late : List Exchange) (old new : Option (List Exchange)) → AreAdded added old new → Adds old new (turns ++ late) → late ≡ [] → added ≡ turns
added_are added turns late old new (all, (before, after)) adds none =
    let h : Adds (Some all) (Some (all ++ added)) (turns ++ late) = subst (λ (x : Option (List Exchange)). Adds (Some all) x (turns ++ late)) after (subst (λ (x : Option (List Exchange)). Adds x new (turns ++ late)) before adds) in
    append_cancel all added turns (h ∙ ap (λ (l : List Exchange). all ++ l) (ap (λ (l : List Exchange). turns ++ l) none ∙ append-nil turns))

rises : (a c : ℕ) → IsUnfailed a c → c ≡ count_after true a → ⊥
rises a c h e = let same = h.same in omega (arith, h.below, same, e)

never_past : {fault : ClockFault} {status : ℕ} → ◌≡◌ {A = Result Synced SyncFault} (Err (Refused status)) (Err (Clock fault)) → ⊥
never_past e = cc

within_or : (reading : ℕ) → (reading / 60_000 < window) ⊎ (window ≤ reading / 60_000)
within_or reading = elim (cases_Bool (nat_lt (reading / 60_000) window)) [ inl below ↦ inl (ltb-true (reading / 60_000) window below) | inr above ↦ inr (ltb-false (reading / 60_000) window above) ]

pub completes : TalksAreValid → (target : Target) (group : List ℕ) (reading : ℕ) (s : State) (old new : Told) (now : State) (fault : ClockFault) (l nl k nk : ℕ) (result : Result Synced SyncFault) → AreMessages s.messages
    → (window ≤ reading / 60_000 → result ≡ Err (Clock fault)) → (reading / 60_000 < window → HasTalked target group reading s old new now result)
    → (reading / 60_000 < window → MeetsHonest target.token s.messages old.exchanges new.exchanges now.messages result)
    → nl ≡ count_after (fails_link result) l → nk ≡ count_after (fails_keeper result) k
    → Completes target.token s.messages old.exchanges new.exchanges l nl k nk now.messages result
completes law target group reading s old new now fault l nl k nk result valid beyond talked met link_count keeper_count added r t are down other honest short small never link keeper =
    elim (within_or reading) [
      | inl below ↦ by result (talked below) (met below added r t are down other honest short) link_count keeper_count
      | inr above ↦ subst (λ (x : Result Synced SyncFault). IsComplete s.messages r added now.messages t x) (sym (beyond above)) tt
    ]
  where
    by : (x : Result Synced SyncFault) → HasTalked target group reading s old new now x → IsMet s.messages r added now.messages t x → nl ≡ count_after (fails_link x) l → nk ≡ count_after (fails_keeper x) k
        → IsComplete s.messages r added now.messages t x
    by (Ok synced) h m a b = m
    by (Err Link) h m a b = rises l nl link a
    by (Err (BadReply at)) h m a b = m
    by (Err (Refused status)) h m a b =
        let c = h.conversed in
        let first = first_since h.since reading in
        let same = added_are added (map exchange_of c.turns) c.late old.exchanges new.exchanges are c.adds c.answered.1.0 in
        never_refused c.turns target reading most_requests first s c.end c.outcome r t status c.talk c.answered.0 valid
        (law target reading most_requests first s c.end c.turns c.outcome c.talk)
        (subst (λ (z : List Exchange). Honest target.token r z t) same honest) (subst (AreSmall target.token) same small) (subst NeverDecline same never)
    by (Err (OutOfSync mine theirs)) h m a b = m
    by (Err (Clock why)) h m a b = tt
    by (Err Keeper) h m a b = rises k nk keeper b
    by (Err NoMemory) h m a b = tt
