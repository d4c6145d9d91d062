-- How a conversation begins, and how its last turn ends it.
use Rattle.std.specs.Prelude.{◌≡◌, ◌≢◌, ℕ, ℤ, ◌+◌, ◌<◌, ◌/◌, List, [], ◌∷◌, ◌++◌, length, nat_le, Option, None, Some, Ok, Err}
use Rattle.std.specs.Ordering.{nat_cmp, is_gt}
use Rattle.std.specs.Cmp.Lexicographic.{slice_cmp}
use Rattle.hybrid_clock.specs.declared.stamp.Stamp.{Stamp}
use Rattle.hybrid_clock.specs.Stamp.{IsStamp, stamp_text, window}
use Rattle.hybrid_clock.specs.Moments.{moment_text}
use Rattle.field_merge.specs.declared.message.Message.{Message}
use Rattle.minute_trie.specs.Held.{Held}
use Rattle.minute_trie.specs.Diff.{difference}
use Rattle.device_core.specs.Device.{State, Accepted, received}
use Rattle.device_sync.specs.declared.target.Target.{Target}
use Rattle.device_sync.specs.Replies.{Got, answer, refusal, bad, IsJudged}
use Rattle.device_sync.specs.Requests.{request_of, first_since, IsAsked}
use Rattle.device_sync.specs.Talk.{Outcome, going_on, agreed, out_of_sync, not_taken, refused, bad_reply, trie_in, root_of, Turn, Talk}

-- from where a device asks first
pub record TalksBegin : Type 0 where
  -- from the text of the last sync on, where that is a timestamp's
  pub synced : (s : Stamp) (reading : ℕ) → IsStamp s → first_since (Some (stamp_text s)) reading ≡ stamp_text s
  -- where there is none: what is later than the text asked from is what is at most five minutes older than the reading, which lies in the window of
  -- timestamps
  pub fresh : (reading : ℕ) (s : Stamp) → reading / 60_000 < window → IsStamp s → is_gt (slice_cmp nat_cmp (stamp_text s) (first_since None reading)) ≡ nat_le reading (s.millis + 300_000)
  -- and so it is where it is no timestamp's
  pub no_stamp : (text : List ℕ) (reading : ℕ) → ((s : Stamp) → IsStamp s → stamp_text s ≢ text) → first_since (Some text) reading ≡ first_since None reading

-- an answer was received, after which the tries compare so
pub record HasReceived (reading : ℕ) (before : State) (got : Got) (now : State) (differ : Option ℕ) : Type 0 where
  pub messages : List Message
  pub trie : Held
  pub accepted : Accepted
  pub said : got ≡ answer messages trie
  pub took : received before messages reading ≡ Ok accepted
  pub state : now ≡ accepted.state
  pub compared : difference (trie_in now) trie ≡ differ

-- what the last reply was judged as, by the outcome: the device goes on from the moment of the difference, or ends
abbrev pub IsEndOf : ℕ → State → Got → State → Outcome → Type 0
IsEndOf reading before got now (going_on since) = (moment : ℕ) × (since ≡ moment_text moment) × HasReceived reading before got now (Some moment)
IsEndOf reading before got now agreed = HasReceived reading before got now None
IsEndOf reading before got now (out_of_sync mine theirs) =
    (moment : ℕ) × (r : HasReceived reading before got now (Some moment)) × (mine ≡ root_of (trie_in now)) × (theirs ≡ root_of r.trie)
IsEndOf reading before got now (not_taken fault) =
    (messages : List Message) × (trie : Held) × (got ≡ answer messages trie) × (received before messages reading ≡ Err fault) × (now ≡ before)
IsEndOf reading before got now (refused status) = (got ≡ refusal status) × (now ≡ before)
IsEndOf reading before got now (bad_reply at) = (got ≡ bad at) × (now ≡ before)

-- the last turn of a conversation that may have so many requests
pub record IsLastTurn (target : Target) (reading left : ℕ) (since : List ℕ) (p : State) (front : List Turn) (last : Turn) (now : State) (o : Outcome) : Type 0 where
  -- before it the conversation went on, and it asks from there
  pub before : State
  pub from : List ℕ
  pub talk : Talk target reading left since p front before (going_on from)
  pub sent : IsAsked target.token (request_of target from before.messages) last.sent
  -- its reply decides
  pub judged : IsJudged last.came last.got
  pub ended : IsEndOf reading before last.got now o
  -- that the tries differ is told where no more requests may be made, and the conversation goes on only where some may
  pub some_left : (since : List ℕ) → o ≡ going_on since → length front + 1 < left
  pub all_made : (mine theirs : ℤ) → o ≡ out_of_sync mine theirs → length front + 1 ≡ left

-- how conversations end
pub record TalksEnd : Type 0 where
  pub by_last : (target : Target) (reading left : ℕ) (since : List ℕ) (p : State) (front : List Turn) (last : Turn) (now : State) (o : Outcome)
      → Talk target reading left since p (front ++ last ∷ []) now o → IsLastTurn target reading left since p front last now o
  -- one without turns has not begun
  pub unbegun : (target : Target) (reading left : ℕ) (since : List ℕ) (p now : State) (o : Outcome) → Talk target reading left since p [] now o → (now ≡ p) × (o ≡ going_on since)
