-- What a line does, by its command: one that talks to a server, and any other.
use Rattle.std.specs.Prelude.{◌≡◌, ◌≢◌, ◌⊎◌, ℕ, ◌-◌, ◌/◌, ◌<◌, ◌≤◌, nat_lt, List, [], ◌++◌, length, map, Bool, true, false, ◌&&◌, if◌then◌else◌, Option, None, Some, Result, Ok}
use Rattle.hybrid_clock.specs.Stamp.{stamp_text, window}
use Rattle.hybrid_clock.specs.declared.clock.ClockFault.TheVariants.{Beyond}
use Rattle.budget_ports.specs.Contents.{Text}
use Rattle.budget_ports.specs.Exchanges.{Exchange}
use Rattle.budget_ports.specs.Faults.{count_after}
use Rattle.device_core.specs.declared.edit.LineRefusal.TheVariants.{Clock as OfClock}
use Rattle.device_core.specs.Device.{State}
use Rattle.device_sync.specs.declared.target.Target.{Target}
use Rattle.device_sync.specs.Requests.{first_since}
use Rattle.device_sync.specs.Talk.{Outcome, going_on, agreed, out_of_sync, not_taken, refused, bad_reply, Turn, exchange_of, Talk, talked, most_requests}
use Rattle.device_sync.specs.Sync.{text_of, IsUnanswered, IsCutOff}
use Rattle.command_lines.specs.declared.command.Command.{Command}
use Rattle.command_lines.specs.declared.command.Command.TheVariants.{Sync}
use Rattle.command_lines.specs.declared.reply.Reply.{Reply}
use Rattle.command_lines.specs.Replies.{synced, lost_link, bad_answer, bad_status, out_of_sync as differs, refused as refusal_of}
use Rattle.budget_top.specs.Session.{obeyed, reply_to_refusal}

-- what a line takes from outside: a reading of the wall clock; and where it syncs, the text that it finds of the last sync, the turns of its
-- talk with the server, and what was exchanged behind them and not judged
pub record Given : Type 0 where
  pub reading : ℕ
  pub since : Option Text
  pub turns : List Turn
  pub late : List Exchange

-- where a run stands: the state of its device, and the text that tells of the last sync
pub record Running : Type 0 where
  pub state : State
  pub synced : Option Text

-- whether a command talks to a server
abbrev pub syncs : Result Command ℕ → Bool
syncs (Ok Sync) = true
syncs command = false

-- a command that doesn't
abbrev pub IsPlain : Result Command ℕ → Type 0
IsPlain command = syncs command ≡ false

-- ---- a sync

-- its exchanges with the server
abbrev pub said : Given → List Exchange
said given = map exchange_of given.turns ++ given.late

-- a sync begins at a reading within the window of timestamps
abbrev pub IsWithin : Given → Type 0
IsWithin given = given.reading / 60_000 < window

-- it talks so, from the text of the last sync on
abbrev pub TalksTo : Target → Given → State → List Turn → State → Outcome → Type 0
TalksTo target given s turns end outcome = Talk target given.reading most_requests (first_since given.since given.reading) s turns end outcome

-- what it leaves, and how it ended: at a later reading it is refused for that, and there is no talk
abbrev pub conversed : State → Given → State × Outcome
conversed s given =
    if nat_lt (given.reading / 60_000) window then talked given.reading most_requests (first_since given.since given.reading) s (map (λ x. x.got) given.turns)
    else (s, not_taken (OfClock (Beyond given.reading)))

-- the reply to it, by how it ended, after so many requests that brought so many messages: a talk that goes on has lost its link
abbrev pub sync_reply : ℕ → ℕ → Outcome → Reply
sync_reply requests received (going_on since) = lost_link
sync_reply requests received agreed = synced requests received
sync_reply requests received (out_of_sync mine theirs) = differs mine theirs
sync_reply requests received (not_taken fault) = reply_to_refusal (refusal_of fault)
sync_reply requests received (refused status) = bad_status status
sync_reply requests received (bad_reply at) = bad_answer at

-- the text that tells of the last sync: where the talk ended with an agreement, that of the clock's timestamp
abbrev pub last_synced : State → Outcome → Option Text → Option Text
last_synced end (going_on since) text = text
last_synced end agreed text = Some (stamp_text end.clock)
last_synced end (out_of_sync mine theirs) text = text
last_synced end (not_taken fault) text = text
last_synced end (refused status) text = text
last_synced end (bad_reply at) text = text

-- whether the link failed in it
abbrev pub goes_on : Outcome → Bool
goes_on (going_on since) = true
goes_on agreed = false
goes_on (out_of_sync mine theirs) = false
goes_on (not_taken fault) = false
goes_on (refused status) = false
goes_on (bad_reply at) = false

-- what is exchanged behind the turns: where the link failed, what was sent last and has no answer, if anything was; and else nothing
abbrev pub IsRest : Target → State → Outcome → List Exchange → Type 0
IsRest target end (going_on since) late = IsUnanswered (text_of target since end) late
IsRest target end agreed late = late ≡ []
IsRest target end (out_of_sync mine theirs) late = late ≡ []
IsRest target end (not_taken fault) late = late ≡ []
IsRest target end (refused status) late = late ≡ []
IsRest target end (bad_reply at) late = late ≡ []

-- what it makes of the state, and its reply
abbrev pub synced_by : State → Given → State × Reply
synced_by s given = ((conversed s given).0, sync_reply (length given.turns) (length (conversed s given).0.messages - length s.messages) (conversed s given).1)

-- ---- what is said of a line

-- what a command makes of the state, and its reply
abbrev pub made : Target → State → Given → Result Command ℕ → State × Reply
made target s given command = if syncs command then synced_by s given else obeyed s given.reading command

-- the text that tells of the last sync after it
abbrev pub synced_after : Target → State → Given → Result Command ℕ → Option Text → Option Text
synced_after target s given command text = if syncs command then last_synced (conversed s given).0 (conversed s given).1 text else text

-- both, and the reply
abbrev pub done : Target → Running → Given → Result Command ℕ → Running × Reply
done target r given command =
    (record { state = (made target r.state given command).0; synced = synced_after target r.state given command r.synced }, (made target r.state given command).1)

-- it takes nothing but a reading
pub record IsSilent (given : Given) : Type 0 where
  pub unsought : given.since ≡ None
  pub unturned : given.turns ≡ []
  pub unsaid : given.late ≡ []

-- the talk of a sync is whole: each turn is as it should be, and so is what stands behind the last
pub record IsWholeTalk (target : Target) (s : State) (given : Given) : Type 0 where
  pub beyond : window ≤ given.reading / 60_000 → IsSilent given
  pub talk : IsWithin given → TalksTo target given s given.turns (conversed s given).0 (conversed s given).1
  pub rest : IsWithin given → IsRest target (conversed s given).0 (conversed s given).1 given.late

abbrev pub IsWholeIf : Bool → Target → State → Given → Type 0
IsWholeIf true target s given = IsWholeTalk target s given
IsWholeIf false target s given = IsSilent given

-- the exchanges are the whole talk of the command: one that doesn't sync has none, and looks for no text
abbrev pub IsWhole : Target → State → Given → Result Command ℕ → Type 0
IsWhole target s given command = IsWholeIf (syncs command) target s given

abbrev pub FindsIf : Bool → Given → Option Text → Type 0
FindsIf true given text = IsWithin given → given.since ≡ text
FindsIf false given text = Unit {0}

-- the text that it found is the one that is kept
abbrev pub Finds : Given → Result Command ℕ → Option Text → Type 0
Finds given command text = FindsIf (syncs command) given text

-- whether the link failed in its talk
abbrev pub fails_link : State → Given → Result Command ℕ → Bool
fails_link s given command = syncs command && goes_on (conversed s given).1

-- ---- a line that got no reply

-- nothing of it is kept, and the link has not failed at it
pub record KeepsNothing (r : Running) (given : Given) (kept : Running) (faults new_faults : ℕ) : Type 0 where
  pub silent : IsSilent given
  pub same : kept ≡ r
  pub unfailed : new_faults ≡ faults

-- a sync was cut off: what its turns brought is kept, and the text of the last sync is as it was
pub record IsCutOffSync (target : Target) (r : Running) (given : Given) (kept : Running) (faults new_faults : ℕ) : Type 0 where
  pub outcome : Outcome
  pub talk : TalksTo target given r.state given.turns kept.state outcome
  pub cut : IsCutOff target kept.state outcome given.late
  pub same : kept.synced ≡ r.synced
  pub unfailed : new_faults ≡ faults

-- a sync came to its end, and its reply was not made
pub record IsUntold (target : Target) (r : Running) (given : Given) (kept : Running) (faults new_faults : ℕ) : Type 0 where
  pub whole : IsWholeTalk target r.state given
  pub state : kept.state ≡ (conversed r.state given).0
  pub synced : kept.synced ≡ last_synced (conversed r.state given).0 (conversed r.state given).1 r.synced
  pub failed : new_faults ≡ count_after (goes_on (conversed r.state given).1) faults

abbrev pub HasStayedIf : Bool → Target → Running → Given → Running → ℕ → ℕ → Type 0
HasStayedIf true target r given kept faults new_faults = IsCutOffSync target r given kept faults new_faults ⊎ IsUntold target r given kept faults new_faults
HasStayedIf false target r given kept faults new_faults = KeepsNothing r given kept faults new_faults

-- what it has said and what is kept of it then, and how often the link had failed before it, and has failed after it
abbrev pub HasStayed : Target → Running → Given → Result Command ℕ → Running → ℕ → ℕ → Type 0
HasStayed target r given command kept faults new_faults = HasStayedIf (syncs command) target r given kept faults new_faults

-- A stop in a sync leaves what some of the first exchanges brought, each as a whole. The text of the last sync is as it was; or where they end with an
-- agreement, it may be that of the clock's timestamp
pub record MayLeaveTurns (target : Target) (r : Running) (given : Given) (left : Running) : Type 0 where
  pub found : IsWithin given → given.since ≡ r.synced
  pub turns : List Turn
  pub later : List Exchange
  pub are_first : map exchange_of turns ++ later ≡ said given
  pub outcome : Outcome
  pub talk : TalksTo target given r.state turns left.state outcome
  pub texts : (left.synced ≡ r.synced) ⊎ (outcome ≡ agreed) × (left.synced ≡ Some (stamp_text left.state.clock))

abbrev pub MayLeaveIf : Bool → Target → Running → Given → Result Command ℕ → Running → Type 0
MayLeaveIf true target r given command left = MayLeaveTurns target r given left
MayLeaveIf false target r given command left = (left ≡ r) ⊎ (left ≡ (done target r given command).0)

-- what a stop in it may leave: where it doesn't sync, nothing of it or all of it
abbrev pub MayLeave : Target → Running → Given → Result Command ℕ → Running → Type 0
MayLeave target r given command left = MayLeaveIf (syncs command) target r given command left

abbrev pub HasMadeNewIf : Bool → Target → Running → Given → Result Command ℕ → Type 0
HasMadeNewIf true target r given command = Unit {0}
HasMadeNewIf false target r given command = (made target r.state given command).0.messages ≢ r.state.messages

-- the keeper failed at it: where it doesn't sync, it has made something new
abbrev pub HasMadeNew : Target → Running → Given → Result Command ℕ → Type 0
HasMadeNew target r given command = HasMadeNewIf (syncs command) target r given command
