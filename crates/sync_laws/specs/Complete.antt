-- How a sync ends with an honest server, where nothing fails.
use Rattle.std.specs.Prelude.{◌≡◌, ◌≢◌, ℕ, List, Option, Some, Result, Ok, Err}
use Rattle.std.specs.List.{AllByRecursion}
use Rattle.budget_ports.specs.Exchanges.{Exchange}
use Rattle.budget_ports.specs.Faults.{IsUnfailed}
use Rattle.field_merge.specs.declared.message.Message.{Message}
use Rattle.field_merge.specs.Messages.{AreMessages}
use Rattle.field_merge.specs.Log.{IsRising}
use Rattle.sync_wire.specs.declared.request.SyncRequest.{SyncRequest}
use Rattle.device_sync.specs.declared.fault.SyncFault.{SyncFault}
use Rattle.device_sync.specs.declared.fault.SyncFault.TheVariants.{Link, BadReply, Refused, OutOfSync, Clock, Keeper, NoMemory}
use Rattle.device_sync.specs.declared.fault.Synced.{Synced}
use Rattle.device_sync.specs.Honest.{IsTooLarge, Honest, AreWithin}
use Rattle.device_sync.specs.Laws.{Converges}
use Rattle.device_sync.specs.Replies.{IsReply}
use Rattle.device_sync.specs.Requests.{IsAsked}
use Rattle.device_sync.specs.Sync.{AreAdded}
use Rattle.device_sync.specs.Talk.{agreed}

-- no request is too large for a server
abbrev pub AreSmall : List ℕ → List Exchange → Type 0
AreSmall token = AllByRecursion (λ x. (q : SyncRequest) → IsAsked token q x.sent → IsTooLarge token q → ⊥)

-- no reply says that the server's keeper failed or that its memory ran out
abbrev pub NeverDecline : List Exchange → Type 0
NeverDecline = AllByRecursion (λ x. (came body : List ℕ) (status : ℕ) → x.got ≡ Some came → IsReply came status body → (status ≢ 503) × (status ≢ 507))

-- both agreed, or memory ran out, or the clock refused
abbrev pub IsComplete : List Message → List Message → List Exchange → List Message → List Message → Result Synced SyncFault → Type 0
IsComplete m r added n t (Ok synced) = Converges m r added n t agreed
IsComplete m r added n t (Err Link) = ⊥
IsComplete m r added n t (Err (BadReply at)) = ⊥
IsComplete m r added n t (Err (Refused status)) = ⊥
IsComplete m r added n t (Err (OutOfSync mine theirs)) = ⊥
IsComplete m r added n t (Err (Clock fault)) = Unit {0}
IsComplete m r added n t (Err Keeper) = ⊥
IsComplete m r added n t (Err NoMemory) = Unit {0}

abbrev pub Completes : List ℕ → List Message → Option (List Exchange) → Option (List Exchange) → ℕ → ℕ → ℕ → ℕ → List Message → Result Synced SyncFault → Type 0
Completes token m old new link_faults new_link_faults faults new_faults n result = (added : List Exchange) (r t : List Message) → AreAdded added old new → IsRising r → AreMessages r → Honest token r added t
    → AreWithin added → AreSmall token added → NeverDecline added → IsUnfailed link_faults new_link_faults → IsUnfailed faults new_faults → IsComplete m r added n t result
