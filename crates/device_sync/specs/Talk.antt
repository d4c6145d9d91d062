-- The conversation of a device with a server.
use Rattle.std.specs.Prelude.{◌≡◌, ℕ, zero, suc, ℤ, List, [], ◌∷◌, Option, None, Some, Result, Ok, Err}
use Rattle.std.specs.Int.{w32, cast_signed}
use Rattle.budget_ports.specs.Exchanges.{Exchange, ended}
use Rattle.hybrid_clock.specs.Moments.{moment_text}
use Rattle.minute_trie.specs.Held.{Held, or_zero}
use Rattle.minute_trie.specs.Trie.{trie_of}
use Rattle.minute_trie.specs.Diff.{difference}
use Rattle.kept_messages.specs.Pairs.{pairs_of}
use Rattle.device_core.specs.declared.edit.LineRefusal.{LineRefusal}
use Rattle.device_core.specs.Device.{State, Accepted, received}
use Rattle.device_sync.specs.declared.target.Target.{Target}
use Rattle.device_sync.specs.Replies.{Got, answer, refusal, bad, IsJudged}
use Rattle.device_sync.specs.Requests.{request_of, IsAsked}

-- how a conversation ended, or that it goes on, and from where it asks then: both tries have one hash at the root; or they have two, which are told, and no more
-- may be asked; or the clock refused the messages that came; or the server refused; or its reply was bad
pub data Outcome : Type 0 where
  going_on : List ℕ → Outcome
  agreed : Outcome
  out_of_sync : ℤ → ℤ → Outcome
  not_taken : LineRefusal → Outcome
  refused : ℕ → Outcome
  bad_reply : ℕ → Outcome

-- the trie of a device's messages
abbrev pub trie_in : State → Held
trie_in s = trie_of (pairs_of s.messages)

-- the hash at the root
abbrev pub root_of : Held → ℤ
root_of f = cast_signed w32 (or_zero (f []))

-- what comes after a reply: the end, or a further request from a moment on
pub data Next : Type 0 where
  ends : State → Outcome → Next
  asks : State → ℕ → Next

-- by the difference of the tries, where so many requests may follow
abbrev pub compared : ℕ → State → Held → Option ℕ → Next
compared left p f None = ends p agreed
compared zero p f (Some moment) = ends p (out_of_sync (root_of (trie_in p)) (root_of f))
compared (suc left) p f (Some moment) = asks p moment

-- by what the device makes of the messages of an answer with a trie
abbrev pub taken : ℕ → State → Held → Result Accepted LineRefusal → Next
taken left p f (Err fault) = ends p (not_taken fault)
taken left p f (Ok accepted) = compared left accepted.state f (difference (trie_in accepted.state) f)

-- by what the reply is judged as, at a reading of the wall clock
abbrev pub next : ℕ → ℕ → State → Got → Next
next reading left p (answer ms f) = taken left p f (received p ms reading)
next reading left p (refusal status) = ends p (refused status)
next reading left p (bad at) = ends p (bad_reply at)

-- what was sent, what came for it, and what that was judged as
pub record Turn : Type 0 where
  pub sent : List ℕ
  pub came : List ℕ
  pub got : Got

-- its exchange
abbrev pub exchange_of : Turn → Exchange
exchange_of x = ended x.sent x.came

-- the end of a conversation, and what it leaves
pub record Ends (here : State) (how : Outcome) (rest : List Turn) (now : State) (o : Outcome) : Type 0 where
  pub last : rest ≡ []
  pub stays : now ≡ here
  pub outcome : o ≡ how

-- what follows
abbrev pub Follows : Next → List Turn → State → Outcome → (State → ℕ → Type 0) → Type 0
Follows (ends p how) rest now o on = Ends p how rest now o
Follows (asks p moment) rest now o on = on p moment

-- So a device talks that may send so many requests, from the first `since` on: each is the text of its request at that time, the reply
-- is judged, and by that the conversation ends, or the next request asks from a moment on. No turn follows the end. It leaves the
-- device so, with this outcome.
abbrev pub Talk : Target → ℕ → ℕ → List ℕ → State → List Turn → State → Outcome → Type 0
Talk target reading left since p [] now o = Ends p (going_on since) [] now o
Talk target reading zero since p (x ∷ xs) now o = ⊥
Talk target reading (suc left) since p (x ∷ xs) now o =
    IsAsked target.token (request_of target since p.messages) x.sent × IsJudged x.came x.got
    × Follows (next reading left p x.got) xs now o (λ q moment. Talk target reading left (moment_text moment) q xs now o)

-- a conversation may have so many requests
abbrev pub most_requests : ℕ
most_requests = 100

-- what follows, where only what the replies are judged as is known
abbrev pub followed : Next → (State → ℕ → State × Outcome) → State × Outcome
followed (ends p how) on = (p, how)
followed (asks p moment) on = on p moment

-- what a conversation leaves, by what the replies are judged as
abbrev pub talked : ℕ → ℕ → List ℕ → State → List Got → State × Outcome
talked reading left since p [] = (p, going_on since)
talked reading zero since p (g ∷ gs) = (p, going_on since)
talked reading (suc left) since p (g ∷ gs) = followed (next reading left p g) (λ q moment. talked reading left (moment_text moment) q gs)
