-- What a connection does to the outside.
use Rattle.std.specs.Prelude.{◌≡◌, ◌≢◌, ◌⊎◌, ℕ, List, [], ◌∷◌, ◌++◌, Option, None, Some, Bool, true, false, ⊤}
use Rattle.budget_ports.specs.Connections.{LetsIn, next_bytes}
use Rattle.budget_ports.specs.Contents.{Contents, Text}
use Rattle.budget_ports.specs.Faults.{count_after}
use Rattle.budget_ports.specs.Keeper.{IsAlone, IsKnown}
use Rattle.field_merge.specs.declared.message.Message.{Message}
use Rattle.sync_wire.specs.declared.request.SyncRequest.{SyncRequest}
use Rattle.sync_server.specs.declared.served.Served.{Served}
use Rattle.sync_server.specs.declared.served.Served.TheVariants as served
use Rattle.sync_server.specs.Written.{WritesTo, WritesFront}
use Rattle.sync_server.specs.Serving.{Found, found_in, Verdict, Accepts, Decides, Visit, IsServed, IsMeant, kept_after, batch_of}

-- these are the bytes of the next connection, as far as it is known who waits
abbrev pub IsNext : Option (List (List ℕ)) → List ℕ → Type 0
IsNext None bytes = ⊤
IsNext (Some waited) bytes = bytes ≡ next_bytes waited

-- these are all bytes that were left, as far as is known what was left
abbrev pub IsAll : Option (List ℕ) → List ℕ → Type 0
IsAll None came = ⊤
IsAll (Some left) came = came ≡ left

-- one more connection was let in, and these bytes were written to it, as far as it is known what was written
abbrev pub Gains : Option (List (List ℕ)) → Option (List (List ℕ)) → List ℕ → Type 0
Gains None new bytes = ⊤
Gains (Some old) None bytes = ⊥
Gains (Some old) (Some new) bytes = new ≡ old ++ bytes ∷ []

-- the door lets in the next connection, reads its bytes, writes and closes
pub record UsesDoor (waiting new_waiting outs new_outs : Option (List (List ℕ))) (faults new_faults : ℕ) (visit : Visit) : Type 0 where
  pub lets_in : LetsIn waiting new_waiting
  pub came : IsNext waiting visit.came
  pub wrote : Gains outs new_outs visit.wrote
  pub count : new_faults ≡ count_after visit.close_failed (count_after visit.door_failed faults)

-- what the keeper has for a request is what these contents have
abbrev pub HasFound : Contents → SyncRequest → Found → Type 0
HasFound k q found = found ≡ found_in k q

-- The keeper keeps what is decided. A stop leaves what it could leave before, or what these bytes make of the contents of a keeper that told.
pub record UsesKeeper (token : Text) (tells new_tells : Type 0) (old new : Contents) (left new_left : Contents → Type 0) (faults new_faults : ℕ) (visit : Visit) : Type 0 where
  pub told : new_tells → tells
  pub keeps : new_tells → new ≡ kept_after visit.verdict old
  pub stops : (k : Contents) → new_left k → left k ⊎ (tells × (v : Verdict) × Decides token (HasFound old) visit.came v × (k ≡ kept_after v old))
  -- after a request was accepted, a keeper of which a stop may leave anything tells, and where it got a record, a stop leaves its contents alone
  pub known : (ms : List Message) (q : SyncRequest) → visit.verdict ≡ Accepts ms q → IsKnown new_tells new_left
  pub alone : (ms : List Message) (q : SyncRequest) → visit.verdict ≡ Accepts ms q → batch_of ms q ≢ [] → IsAlone new_tells new new_left
  pub count : new_faults ≡ count_after visit.keeper_failed faults

-- A connection was served, as what the keeper has decides. Where the keeper still tells, that is what these contents have.
pub record HasServed (token : Text) (visit : Visit) (result : Served) (waiting new_waiting outs new_outs : Option (List (List ℕ))) (door_faults new_door_faults : ℕ)
    (tells new_tells : Type 0) (old new : Contents) (left new_left : Contents → Type 0) (faults new_faults : ℕ) : Type 0 where
  pub served : IsServed token (λ q found. new_tells → HasFound old q found) visit result
  pub found : new_tells → IsServed token (HasFound old) visit result
  pub means : IsMeant visit.verdict
  pub door : UsesDoor waiting new_waiting outs new_outs door_faults new_door_faults visit
  pub keeper : UsesKeeper token tells new_tells old new left new_left faults new_faults visit

-- a reply was written, all of it or a front
abbrev pub IsSent : List ℕ → ℕ → Option (List (List ℕ)) → Option (List (List ℕ)) → Served → Type 0
IsSent reply wanted outs new_outs (served.Answered status) = (status ≡ wanted) × WritesTo outs new_outs reply
IsSent reply wanted outs new_outs served.Cut = WritesFront outs new_outs reply

abbrev pub is_cut : Served → Bool
is_cut (served.Answered status) = false
is_cut served.Cut = true

-- the connection that is open was served
pub record ServesOpen (token : Text) (visit : Visit) (result : Served) (bytes : Option (List ℕ)) (outs new_outs : Option (List (List ℕ))) (door_faults new_door_faults : ℕ)
    (tells new_tells : Type 0) (old new : Contents) (left new_left : Contents → Type 0) (faults new_faults : ℕ) : Type 0 where
  pub open_still : visit.close_failed ≡ false
  pub came : IsAll bytes visit.came
  pub wrote : WritesTo outs new_outs visit.wrote
  pub count : new_door_faults ≡ count_after visit.door_failed door_faults
  pub served : IsServed token (λ q found. new_tells → HasFound old q found) visit result
  pub means : IsMeant visit.verdict
  pub keeper : UsesKeeper token tells new_tells old new left new_left faults new_faults visit
