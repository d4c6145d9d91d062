-- What the laws say.
use Rattle.std.specs.Prelude.{◌≡◌, ℕ, ◌≤◌, List, [], map, length, Some}
use Rattle.std.specs.List.{AllByRecursion}
use Rattle.hybrid_clock.specs.declared.stamp.Stamp.{Stamp}
use Rattle.budget_ports.specs.Exchanges.{Exchange}
use Rattle.field_merge.specs.declared.message.Message.{Message}
use Rattle.field_merge.specs.Messages.{AreMessages}
use Rattle.field_merge.specs.Log.{IsRising, at_stamp, join}
use Rattle.minute_trie.specs.Trie.{trie_of}
use Rattle.kept_messages.specs.Pairs.{pairs_of}
use Rattle.device_core.specs.Device.{State}
use Rattle.device_sync.specs.declared.target.Target.{Target}
use Rattle.device_sync.specs.Replies.{Got, messages_of, IsJudged}
use Rattle.device_sync.specs.Talk.{Outcome, going_on, agreed, out_of_sync, not_taken, refused, bad_reply, Turn, exchange_of, Talk, talked, most_requests}
use Rattle.device_sync.specs.Honest.{IsFairStatus, Honest, AreWithin}

-- a reply is judged as one thing
abbrev pub RepliesHaveOneMeaning : Type 0
RepliesHaveOneMeaning = (bytes : List ℕ) (one other : Got) → IsJudged bytes one → IsJudged bytes other → one ≡ other

-- a conversation leaves what `talked` says of its replies
abbrev pub TalksAreTold : Type 0
TalksAreTold = (target : Target) (reading left : ℕ) (since : List ℕ) (p now : State) (turns : List Turn) (o : Outcome)
    → Talk target reading left since p turns now o → talked reading left since p (map (λ x. x.got) turns) ≡ (now, o)

-- a server is heard to say valid messages alone
abbrev pub TalksAreValid : Type 0
TalksAreValid = (target : Target) (reading left : ℕ) (since : List ℕ) (p now : State) (turns : List Turn) (o : Outcome)
    → Talk target reading left since p turns now o → AllByRecursion (λ x. AreMessages (messages_of x.got)) turns

-- an outcome to which an honest server may lead
abbrev pub IsFair : Outcome → Type 0
IsFair (going_on since) = Unit {0}
IsFair agreed = Unit {0}
IsFair (out_of_sync mine theirs) = ⊥
IsFair (not_taken fault) = Unit {0}
IsFair (refused status) = IsFairStatus status
IsFair (bad_reply at) = ⊥

-- equal timestamps in the two sets mean equal messages
abbrev pub HaveOneEach : List Message → List Message → Type 0
HaveOneEach ms ns = (s : Stamp) (m n : Message) → at_stamp ms s ≡ Some m → at_stamp ns s ≡ Some n → m ≡ n

-- the two sets have the same timestamps
abbrev pub HaveSameStamps : List Message → List Message → Type 0
HaveSameStamps ms ns = map (λ m. m.stamp) ms ≡ map (λ n. n.stamp) ns

-- a device with the messages m and a server with the messages r have talked, and have the messages n and s then
pub record Converges (m r : List Message) (turns : List Exchange) (n s : List Message) (o : Outcome) : Type 0 where
  -- with at most eighteen requests
  pub few : length turns ≤ 18
  pub fair : IsFair o
  -- where both agreed, the tries have one hash at the root
  pub roots : o ≡ agreed → trie_of (pairs_of n) [] ≡ trie_of (pairs_of s) []
  -- where that means that the timestamps are the same, and equal timestamps mean equal messages, both have joined both sets
  pub sets : o ≡ agreed → (trie_of (pairs_of n) [] ≡ trie_of (pairs_of s) [] → HaveSameStamps n s) → HaveOneEach m r
      → (n ≡ join m r) × (s ≡ join m r)

-- so it is with each honest server whose replies are not too long
abbrev pub TalksConverge : Type 0
TalksConverge = (target : Target) (reading : ℕ) (since : List ℕ) (p now : State) (turns : List Turn) (o : Outcome) (r s : List Message)
    → IsRising p.messages → AreMessages p.messages → IsRising r → AreMessages r
    → Talk target reading most_requests since p turns now o → Honest target.token r (map exchange_of turns) s → AreWithin (map exchange_of turns)
    → Converges p.messages r (map exchange_of turns) now.messages s o
