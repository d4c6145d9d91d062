-- What a request does to what is kept.
use Rattle.std.specs.Prelude.{◌≡◌, ◌≢◌, ◌⊎◌, ℕ, List, [], Bool, true, false, Option, None, Some, Result, Ok, Err}
use Rattle.budget_ports.specs.Contents.{Contents, Text}
use Rattle.budget_ports.specs.Keeper.{LeavesNoMore, IsKnown, IsAlone}
use Rattle.field_merge.specs.declared.message.Message.{Message}
use Rattle.field_merge.specs.Log.{join}
use Rattle.sync_wire.specs.declared.request.SyncRequest.{SyncRequest}
use Rattle.sync_server.specs.declared.refusal.Refusal.{Refusal}
use Rattle.sync_server.specs.declared.refusal.Refusal.TheVariants.{TooLarge, BadRequest, NotFound, MethodNotAllowed, LengthRequired, TokenNotFound, BadMessage, EncryptedMessage, SinceRequired, FileNotFound, FileHasReset, BadRecord, KeeperFault, NoMemory}
use Rattle.sync_server.specs.declared.state.ServerState.{ServerState}
use Rattle.sync_server.specs.declared.keeping.Prepared.{Prepared}
use Rattle.sync_server.specs.Serving.{Found, found_in, Accepts, Refuses, judge_found, kept_after, reply_of, IsMeant, batch_of}
use Rattle.sync_server.specs.State.{read_of}

-- a keeper was read, and what it holds is as it was
pub record OnlyReads (tells new_tells : Type 0) (old new : Contents) (left new_left : Contents → Type 0) : Type 0 where
  pub told : new_tells → tells
  pub same : new_tells → new ≡ old
  pub stops : LeavesNoMore left new_left

-- whether it is the keeper that failed
abbrev pub is_fault : Refusal → Bool
is_fault TooLarge = false
is_fault BadRequest = false
is_fault NotFound = false
is_fault MethodNotAllowed = false
is_fault LengthRequired = false
is_fault TokenNotFound = false
is_fault BadMessage = false
is_fault EncryptedMessage = false
is_fault SinceRequired = false
is_fault FileNotFound = false
is_fault FileHasReset = false
is_fault BadRecord = false
is_fault KeeperFault = true
is_fault NoMemory = false

abbrev pub keeper_failed : {T : Type 0} → Result T Refusal → Bool
keeper_failed (Ok value) = false
keeper_failed (Err refusal) = is_fault refusal

-- the keeper failed, or memory ran out
abbrev pub IsFree : Refusal → Type 0
IsFree refusal = (refusal ≡ KeeperFault) ⊎ (refusal ≡ NoMemory)

-- the file has the group that the request names; or it is refused for that, or the keeper failed, or memory ran out
abbrev pub JudgesGroup : {T : Type 0} → SyncRequest → Option Text → Result T Refusal → Type 0
JudgesGroup q group (Ok value) = group ≡ Some q.group
JudgesGroup q group (Err refusal) = ((set : Result (List Message) ℕ) → judge_found q group set ≡ Refuses refusal) ⊎ IsFree refusal

-- the group reads so; or the keeper failed, or memory ran out
abbrev pub ReadsGroup : Result (List Message) ℕ → Result (Result (List Message) ℕ) Refusal → Type 0
ReadsGroup set (Ok reading) = set ≡ reading
ReadsGroup set (Err refusal) = IsFree refusal

-- nothing is known that was not, unless it is this of the group
abbrev pub Learns : ServerState → ServerState → Text → Result (List Message) ℕ → Type 0
Learns old new group set = (new.token ≡ old.token)
    × ((other : Text) (known : Result (List Message) ℕ) → read_of new other ≡ Some known → (read_of old other ≡ Some known) ⊎ ((other ≡ group) × (known ≡ set)))

-- what is known is as it was
abbrev pub Stands : ServerState → ServerState → Type 0
Stands old new = (new.token ≡ old.token) × ((group : Text) → read_of new group ≡ read_of old group)

-- this is known of the group, and of each other what was known
pub record Puts (old new : ServerState) (group : Text) (set : Option (Result (List Message) ℕ)) : Type 0 where
  pub token : new.token ≡ old.token
  pub here : read_of new group ≡ set
  pub others : (other : Text) → other ≢ group → read_of new other ≡ read_of old other

-- the group reads so, and its messages were taken out; or it has a bad record, which is known then, or the keeper failed, or memory ran out
abbrev pub OpensGroup : ServerState → ServerState → Text → Result (List Message) ℕ → Result (List Message) Refusal → Type 0
OpensGroup old new group set (Ok kept) = (set ≡ Ok kept) × Puts old new group None
OpensGroup old new group set (Err refusal) = (((index : ℕ) × (set ≡ Err index) × (refusal ≡ BadRecord)) ⊎ IsFree refusal) × Learns old new group set

-- the reply to a request over the message set of its group, and the records that it adds; the state keeps the set with the new messages
pub record IsReply (q : SyncRequest) (old new : ServerState) (ms : List Message) (prepared : Prepared) : Type 0 where
  pub reply : prepared.reply ≡ reply_of (Accepts ms q)
  pub means : IsMeant (Accepts ms q)
  pub batch : prepared.batch.items ≡ batch_of ms q
  pub state : Puts old new q.group (Some (Ok (join ms q.messages)))

-- the same, or it is refused, and nothing is known then that was not, but how the group reads
abbrev pub IsPrepared : SyncRequest → ServerState → ServerState → Result (List Message) ℕ → Result Prepared Refusal → Type 0
IsPrepared q old new set (Ok prepared) = (ms : List Message) × (set ≡ Ok ms) × IsReply q old new ms prepared
IsPrepared q old new set (Err refusal) = (((index : ℕ) × (set ≡ Err index) × (refusal ≡ BadRecord)) ⊎ IsFree refusal) × Learns old new q.group set

-- what a request that was accepted has done
pub record HasAccepted (q : SyncRequest) (found : Found) (ms : List Message) (old new : ServerState) (new_tells : Type 0) (contents new_contents : Contents) (new_left : Contents → Type 0) (reply : List ℕ) : Type 0 where
  pub judged : judge_found q found.group found.set ≡ Accepts ms q
  pub reply_is : reply ≡ reply_of (Accepts ms q)
  pub means : IsMeant (Accepts ms q)
  pub state : Puts old new q.group (Some (Ok (join ms q.messages)))
  pub keeps : new_tells → new_contents ≡ kept_after (Accepts ms q) contents
  pub known : IsKnown new_tells new_left
  pub alone : batch_of ms q ≢ [] → IsAlone new_tells new_contents new_left

-- and one that was not: it was refused by what was found, or the keeper failed, or memory ran out
pub record HasRefused (q : SyncRequest) (found : Found) (refusal : Refusal) (old new : ServerState) (new_tells : Type 0) (contents new_contents : Contents) : Type 0 where
  pub why : (judge_found q found.group found.set ≡ Refuses refusal) ⊎ IsFree refusal
  pub token : new.token ≡ old.token
  pub same : new_tells → new_contents ≡ contents

abbrev pub IsKeptAs : SyncRequest → Found → ServerState → ServerState → Type 0 → Contents → Contents → (Contents → Type 0) → Result (List ℕ) Refusal → Type 0
IsKeptAs q found old new new_tells contents new_contents new_left (Ok reply) = (ms : List Message) × HasAccepted q found ms old new new_tells contents new_contents new_left reply
IsKeptAs q found old new new_tells contents new_contents new_left (Err refusal) = HasRefused q found refusal old new new_tells contents new_contents

-- what a request that nothing refuses before has done
pub record HasKept (q : SyncRequest) (found : Found) (old new : ServerState) (tells new_tells : Type 0) (contents new_contents : Contents) (left new_left : Contents → Type 0) (result : Result (List ℕ) Refusal) : Type 0 where
  pub told : new_tells → tells
  pub finds : new_tells → found ≡ found_in contents q
  pub by_result : IsKeptAs q found old new new_tells contents new_contents new_left result
  pub stops : (k : Contents) → new_left k → left k ⊎ (tells × (ms : List Message) × (judge_found q (found_in contents q).group (found_in contents q).set ≡ Accepts ms q) × (k ≡ kept_after (Accepts ms q) contents))
