-- What a round and a whole sync leave.
use Rattle.std.specs.Prelude.{◌≡◌, ◌⊎◌, ℕ, zero, suc, ◌-◌, ◌*◌, ◌<◌, List, [], ◌∷◌, ◌++◌, length, map, Bool, true, false, codes, Option, None, Some, Result, Ok, Err, ℤ}
use Rattle.std.specs.FinMap.{get, insert}
use Rattle.budget_ports.specs.Contents.{Contents}
use Rattle.budget_ports.specs.Exchanges.{Exchange, begun, ended, Adds}
use Rattle.budget_ports.specs.Keeper.{IsAlone}
use Rattle.field_merge.specs.declared.message.Message.{Message}
use Rattle.hybrid_clock.specs.Stamp.{stamp_text, window}
use Rattle.kept_messages.specs.Holding.{Holds}
use Rattle.minute_trie.specs.Held.{Held}
use Rattle.minute_trie.specs.Diff.{difference}
use Rattle.device_core.specs.declared.edit.LineRefusal.TheVariants.{Clock as OfClock}
use Rattle.device_core.specs.Device.{State, received, Accepted}
use Rattle.device_sync.specs.declared.fault.SyncFault.{SyncFault}
use Rattle.device_sync.specs.declared.fault.SyncFault.TheVariants.{Link, BadReply, Refused, OutOfSync, Clock, Keeper, NoMemory}
use Rattle.device_sync.specs.declared.fault.Synced.{Synced}
use Rattle.device_sync.specs.declared.round.Compared.{Compared}
use Rattle.device_sync.specs.declared.round.Compared.TheVariants.{Agreed, Differ}
use Rattle.device_sync.specs.declared.target.Target.{Target}
use Rattle.device_sync.specs.Replies.{Got, answer, IsJudged}
use Rattle.field_merge.specs.Messages.{AreMessages}
use Rattle.field_merge.specs.Log.{IsRising}
use Rattle.device_sync.specs.Honest.{IsFairStatus, Honest, AreWithin}
use Rattle.device_sync.specs.Laws.{Converges}
use Rattle.device_sync.specs.Requests.{request_of, request_text, IsAsked, first_since}
use Rattle.device_sync.specs.Talk.{Outcome, going_on, agreed, out_of_sync, not_taken, refused, bad_reply, root_of, Next, ends, asks, next, Turn, exchange_of, Talk, most_requests}

-- the name of the text that tells of the last sync
abbrev pub synced_name : Target → List ℕ
synced_name target = codes "synced/" ++ (target.file ++ (codes "/" ++ target.group))

-- what the objects tell at a moment: the exchanges of the link, whether the keeper tells, what it keeps, and what a stop may leave of that
pub record Told : Type 1 where
  pub exchanges : Option (List Exchange)
  pub tells : Type 0
  pub contents : Contents
  pub left : Contents → Type 0

abbrev pub told : Option (List Exchange) → Type 0 → Contents → (Contents → Type 0) → Told
told exchanges tells contents left = record { exchanges = exchanges; tells = tells; contents = contents; left = left }

-- a group that kept one message set keeps another, and all else but the texts is as it was
abbrev pub Carries : List ℕ → List Message → List Message → Contents → Contents → Type 0
Carries group old new before now = (entry : Contents) → Holds group entry before old → Holds group (record entry { texts = now.texts }) now new

-- the text that a device sends
abbrev pub text_of : Target → List ℕ → State → List ℕ
text_of target since s = request_text target.token (request_of target since s.messages)

-- a text was sent and nothing came for it, or it was not sent
abbrev pub IsUnanswered : List ℕ → List Exchange → Type 0
IsUnanswered text late = (late ≡ []) ⊎ (late ≡ begun text ∷ [])

-- or something came, and was not judged to its end
abbrev pub IsUnjudged : List ℕ → List Exchange → Type 0
IsUnjudged text late = IsUnanswered text late ⊎ ((came : List ℕ) × (late ≡ ended text came ∷ []))

-- a turn was taken, with what follows, by how many requests are left
pub record TakesTurn (target : Target) (reading : ℕ) (since : List ℕ) (s : State) (old new : Option (List Exchange)) (after : ℕ → Next) : Type 0 where
  pub turn : Turn
  pub sent : IsAsked target.token (request_of target since s.messages) turn.sent
  pub judged : IsJudged turn.came turn.got
  pub adds : Adds old new (exchange_of turn ∷ [])
  pub follows : (left : ℕ) → next reading left s turn.got ≡ after left

-- what follows where the tries differ
abbrev pub further : State → ℕ → ℤ → ℤ → ℕ → Next
further s moment mine theirs zero = ends s (out_of_sync mine theirs)
further s moment mine theirs (suc left) = asks s moment

-- how two tries compare
abbrev pub AreCompared : Held → Held → Compared → Type 0
AreCompared mine theirs Agreed = difference mine theirs ≡ None
AreCompared mine theirs (Differ moment my_root their_root) = (difference mine theirs ≡ Some moment) × ((my_root ≡ root_of mine) × (their_root ≡ root_of theirs))

-- some exchanges were added, or none, of which this holds beside the text that was to be sent
pub record IsLeft (text : List ℕ) (old new : Option (List Exchange)) (IsLate : List ℕ → List Exchange → Type 0) : Type 0 where
  pub late : List Exchange
  pub adds : Adds old new late
  pub is_late : IsLate text late

-- the state that is reached
abbrev pub reached : Next → State
reached (ends p how) = p
reached (asks p moment) = p

-- a reply that was judged was made use of to its end, and its messages are kept: the texts are as they were
pub record IsKept (group : List ℕ) (s : State) (got : Got) (reading : ℕ) (before now : Contents) : Type 0 where
  pub messages : (left : ℕ) → Carries group s.messages (reached (next reading left s got)).messages before now
  pub texts : now.texts ≡ before.texts

-- a stop leaves what was kept before a reply was made use of, or what is kept then
abbrev pub KeepsOrNot : List ℕ → State → Got → ℕ → Contents → Contents → Type 0
KeepsOrNot group s got reading before now = (now ≡ before) ⊎ IsKept group s got reading before now

-- the same of each trie that may stand beside messages
abbrev pub TakesOrNot : List ℕ → State → List Message → ℕ → Contents → Contents → Type 0
TakesOrNot group s ns reading before now = (now ≡ before) ⊎ ((f : Held) → IsKept group s (answer ns f) reading before now)

-- a turn of which this exchange is told, and what is kept then
pub record IsLateTurn (target : Target) (group : List ℕ) (reading : ℕ) (since : List ℕ) (s : State) (late : List Exchange) (before now : Contents) : Type 0 where
  pub turn : Turn
  pub sent : IsAsked target.token (request_of target since s.messages) turn.sent
  pub judged : IsJudged turn.came turn.got
  pub is_late : late ≡ exchange_of turn ∷ []
  pub kept : IsKept group s turn.got reading before now

-- a round was cut off: what was exchanged, and what a stop may leave, where a stop before the round could leave nothing but the contents
pub record IsCut (target : Target) (group : List ℕ) (reading : ℕ) (since : List ℕ) (s : State) (old new : Told) (text : List ℕ) (late : List Exchange) : Type 0 where
  pub unjudged : IsUnjudged text late
  pub stops : IsAlone old.tells old.contents old.left → (c : Contents) → new.left c → old.tells × ((c ≡ old.contents) ⊎ IsLateTurn target group reading since s late old.contents c)

-- a round, by what it answers, with the state that it leaves
abbrev pub IsRound : Target → List ℕ → ℕ → List ℕ → State → Told → Told → State → Result Compared SyncFault → Type 0
IsRound target group reading since s old new now (Ok Agreed) = TakesTurn target reading since s old.exchanges new.exchanges (λ left. ends now agreed)
IsRound target group reading since s old new now (Ok (Differ moment mine theirs)) = TakesTurn target reading since s old.exchanges new.exchanges (further now moment mine theirs)
IsRound target group reading since s old new now (Err Link) = IsLeft (text_of target since s) old.exchanges new.exchanges IsUnanswered × (now ≡ s)
IsRound target group reading since s old new now (Err (BadReply at)) = TakesTurn target reading since s old.exchanges new.exchanges (λ left. ends s (bad_reply at)) × (now ≡ s)
IsRound target group reading since s old new now (Err (Refused status)) = TakesTurn target reading since s old.exchanges new.exchanges (λ left. ends s (refused status)) × (now ≡ s)
IsRound target group reading since s old new now (Err (OutOfSync mine theirs)) = ⊥
IsRound target group reading since s old new now (Err (Clock fault)) = TakesTurn target reading since s old.exchanges new.exchanges (λ left. ends s (not_taken (OfClock fault))) × (now ≡ s)
IsRound target group reading since s old new now (Err Keeper) = IsLeft (text_of target since s) old.exchanges new.exchanges (IsCut target group reading since s old new)
IsRound target group reading since s old new now (Err NoMemory) = IsLeft (text_of target since s) old.exchanges new.exchanges (IsCut target group reading since s old new)

-- what follows what was judged, by what was made of it
abbrev pub IsSettled : State → Got → ℕ → State → Result Compared SyncFault → Type 0
IsSettled s got reading now (Ok Agreed) = (left : ℕ) → next reading left s got ≡ ends now agreed
IsSettled s got reading now (Ok (Differ moment mine theirs)) = (left : ℕ) → next reading left s got ≡ further now moment mine theirs left
IsSettled s got reading now (Err Link) = ⊥
IsSettled s got reading now (Err (BadReply at)) = ((left : ℕ) → next reading left s got ≡ ends s (bad_reply at)) × (now ≡ s)
IsSettled s got reading now (Err (Refused status)) = ((left : ℕ) → next reading left s got ≡ ends s (refused status)) × (now ≡ s)
IsSettled s got reading now (Err (OutOfSync mine theirs)) = ⊥
IsSettled s got reading now (Err (Clock fault)) = ((left : ℕ) → next reading left s got ≡ ends s (not_taken (OfClock fault))) × (now ≡ s)
IsSettled s got reading now (Err Keeper) = Unit {0}
IsSettled s got reading now (Err NoMemory) = Unit {0}

-- the moment of a difference is one of timestamps
abbrev pub HasMoment : Compared → Type 0
HasMoment Agreed = Unit {0}
HasMoment (Differ moment mine theirs) = moment < 60_000 * window

-- messages were received at a reading of the wall clock and kept, or why not
abbrev pub IsTaken : State → List Message → ℕ → State → Result (Unit {0}) SyncFault → Type 0
IsTaken s ns reading now (Ok done) = (accepted : Accepted) × ((received s ns reading ≡ Ok accepted) × (now ≡ accepted.state))
IsTaken s ns reading now (Err Link) = ⊥
IsTaken s ns reading now (Err (BadReply at)) = ⊥
IsTaken s ns reading now (Err (Refused status)) = ⊥
IsTaken s ns reading now (Err (OutOfSync mine theirs)) = ⊥
IsTaken s ns reading now (Err (Clock fault)) = (received s ns reading ≡ Err (OfClock fault)) × (now ≡ s)
IsTaken s ns reading now (Err Keeper) = Unit {0}
IsTaken s ns reading now (Err NoMemory) = Unit {0}

-- whether it is that the link failed
abbrev pub is_link : SyncFault → Bool
is_link Link = true
is_link (BadReply at) = false
is_link (Refused status) = false
is_link (OutOfSync mine theirs) = false
is_link (Clock fault) = false
is_link Keeper = false
is_link NoMemory = false

abbrev pub fails_link : {T : Type 0} → Result T SyncFault → Bool
fails_link (Ok value) = false
fails_link (Err fault) = is_link fault

-- whether it is that the keeper failed
abbrev pub is_keeper : SyncFault → Bool
is_keeper Link = false
is_keeper (BadReply at) = false
is_keeper (Refused status) = false
is_keeper (OutOfSync mine theirs) = false
is_keeper (Clock fault) = false
is_keeper Keeper = true
is_keeper NoMemory = false

abbrev pub fails_keeper : {T : Type 0} → Result T SyncFault → Bool
fails_keeper (Ok value) = false
fails_keeper (Err fault) = is_keeper fault

-- after each fault but these two the device can be used further
abbrev pub UnlessSpoilt : SyncFault → Type 0 → Type 0
UnlessSpoilt Link P = P
UnlessSpoilt (BadReply at) P = P
UnlessSpoilt (Refused status) P = P
UnlessSpoilt (OutOfSync mine theirs) P = P
UnlessSpoilt (Clock fault) P = P
UnlessSpoilt Keeper P = Unit {0}
UnlessSpoilt NoMemory P = Unit {0}

abbrev pub IfUsable : {T : Type 0} → Result T SyncFault → Type 0 → Type 0
IfUsable (Ok value) P = P
IfUsable (Err fault) P = UnlessSpoilt fault P

-- the messages that are kept after messages were received: with them, where they were kept, and else those of before
abbrev pub kept_of : {T : Type 0} → List Message → List Message → Result T SyncFault → List Message
kept_of old new (Ok value) = new
kept_of old new (Err fault) = old

-- the conversation was cut off: the keeper failed or memory ran out, while it was going on or after it ended with an agreement
abbrev pub IsCutOff : Target → State → Outcome → List Exchange → Type 0
IsCutOff target end o late = ((since : List ℕ) × ((o ≡ going_on since) × IsUnjudged (text_of target since end) late)) ⊎ ((o ≡ agreed) × (late ≡ []))

-- what is answered after a conversation that left the device in this state with this outcome, where these exchanges stand behind its turns,
-- the device is in that state then, and of what is answered at an agreement P holds
abbrev pub IsAnswered : {T : Type 0} → Target → State → Outcome → List Exchange → State → (T → Type 0) → Result T SyncFault → Type 0
IsAnswered target end o late now P (Ok value) = (o ≡ agreed) × ((late ≡ []) × ((now ≡ end) × P value))
IsAnswered target end o late now P (Err Link) = (since : List ℕ) × ((o ≡ going_on since) × (IsUnanswered (text_of target since end) late × (now ≡ end)))
IsAnswered target end o late now P (Err (BadReply at)) = (o ≡ bad_reply at) × ((late ≡ []) × (now ≡ end))
IsAnswered target end o late now P (Err (Refused status)) = (o ≡ refused status) × ((late ≡ []) × (now ≡ end))
IsAnswered target end o late now P (Err (OutOfSync mine theirs)) = (o ≡ out_of_sync mine theirs) × ((late ≡ []) × (now ≡ end))
IsAnswered target end o late now P (Err (Clock fault)) = (o ≡ not_taken (OfClock fault)) × ((late ≡ []) × (now ≡ end))
IsAnswered target end o late now P (Err Keeper) = IsCutOff target end o late
IsAnswered target end o late now P (Err NoMemory) = IsCutOff target end o late

-- the number of the turns
abbrev pub IsNumber : List Turn → State → ℕ → Type 0
IsNumber turns end number = number ≡ length turns

-- the number of the turns, and by how many messages the device has more than it had
abbrev pub IsCounted : State → List Turn → State → Synced → Type 0
IsCounted s turns end synced = (synced.requests ≡ length turns) × (synced.received ≡ length end.messages - length s.messages)

-- What a stop may leave of a conversation whose exchanges are these: the group keeps the messages that some of the first of them left, each of which
-- was taken as a whole, and the texts are as they were; or where they end with an agreement, the text of the last sync may be that of the clock's timestamp
pub record MayBeLeft (target : Target) (group : List ℕ) (reading : ℕ) (first : List ℕ) (s : State) (all : List Exchange) (before now : Contents) : Type 0 where
  pub turns : List Turn
  pub later : List Exchange
  pub are_first : map exchange_of turns ++ later ≡ all
  pub end : State
  pub outcome : Outcome
  pub talk : Talk target reading most_requests first s turns end outcome
  pub kept : Carries group s.messages end.messages before now
  pub texts : (now.texts ≡ before.texts) ⊎ ((outcome ≡ agreed) × (now.texts ≡ insert before.texts (synced_name target) (stamp_text end.clock)))

-- A device has talked from a text on, and answers so. What stands behind the turns is the rest of an exchange that was not judged. The keeper's
-- group keeps the messages that the turns left, whatever is answered; a stop may leave those after fewer turns, or one turn more, which the rest is of.
pub record HasConversed {T : Type 0} (target : Target) (group : List ℕ) (reading : ℕ) (first : List ℕ) (s : State) (old new : Told) (now : State) (P : List Turn → State → T → Type 0) (result : Result T SyncFault) : Type 0 where
  pub turns : List Turn
  pub late : List Exchange
  pub end : State
  pub outcome : Outcome
  pub adds : Adds old.exchanges new.exchanges (map exchange_of turns ++ late)
  pub talk : Talk target reading most_requests first s turns end outcome
  pub answered : IsAnswered target end outcome late now (P turns end) result
  pub kept : new.tells → Carries group s.messages end.messages old.contents new.contents
  pub stops : IsAlone old.tells old.contents old.left → (c : Contents) → new.left c → MayBeLeft target group reading first s (map exchange_of turns ++ late) old.contents c

-- the same of a whole sync, which begins at the text of the last sync, where there is one: that which is kept, where the keeper tells,
-- and also where a stop may leave anything
pub record HasTalked (target : Target) (group : List ℕ) (reading : ℕ) (s : State) (old new : Told) (now : State) (result : Result Synced SyncFault) : Type 0 where
  pub since : Option (List ℕ)
  pub found : new.tells → since ≡ get old.contents.texts (synced_name target)
  pub sought : IsAlone old.tells old.contents old.left → (c : Contents) → new.left c → since ≡ get old.contents.texts (synced_name target)
  pub conversed : HasConversed target group reading (first_since since reading) s old new now (IsCounted s) result

-- these exchanges were added to those that are known
abbrev pub AreAdded : List Exchange → Option (List Exchange) → Option (List Exchange) → Type 0
AreAdded added old new = (all : List Exchange) × ((old ≡ Some all) × (new ≡ Some (all ++ added)))

-- what a sync comes to with an honest server whose group had the messages r and has the messages t now, where the device had the messages m and has n now
abbrev pub IsMet : List Message → List Message → List Exchange → List Message → List Message → Result Synced SyncFault → Type 0
IsMet m r added n t (Ok synced) = Converges m r added n t agreed
IsMet m r added n t (Err Link) = Unit {0}
IsMet m r added n t (Err (BadReply at)) = ⊥
IsMet m r added n t (Err (Refused status)) = IsFairStatus status
IsMet m r added n t (Err (OutOfSync mine theirs)) = ⊥
IsMet m r added n t (Err (Clock fault)) = Unit {0}
IsMet m r added n t (Err Keeper) = Unit {0}
IsMet m r added n t (Err NoMemory) = Unit {0}

-- so it is with each server that is honest in the exchanges that were added, and whose replies are not too long
abbrev pub MeetsHonest : List ℕ → List Message → Option (List Exchange) → Option (List Exchange) → List Message → Result Synced SyncFault → Type 0
MeetsHonest token m old new n result = (added : List Exchange) (r t : List Message) → AreAdded added old new → IsRising r → AreMessages r → Honest token r added t → AreWithin added → IsMet m r added n t result
