-- A link in memory, whose replies are written before.
use Rattle.std.specs.Prelude.{ℕ, zero, suc, List, [], ◌∷◌, ◌++◌, Option, None, Some, Bool, true, false}
use Rattle.budget_ports.specs.Exchanges.{Exchange, begun}
use Rattle.budget_ports.specs.Calls.{CallState}

-- the exchanges but the open one, the bytes that were sent in the open one, if there is one, the replies to come, the last of which comes again and again,
-- and the calls
pub record LinkState : Type 0 where
  pub ended : List Exchange
  pub asked : Option (List ℕ)
  pub to_come : List (List ℕ)
  pub calls : CallState

-- the exchange that is open, if there is one
abbrev pub open_one : Option (List ℕ) → List Exchange
open_one None = []
open_one (Some sent) = begun sent ∷ []

-- all exchanges, the open one last
abbrev pub exchanges : LinkState → List Exchange
exchanges link = link.ended ++ open_one link.asked

-- what is to come once a reply was given: the replies behind it, or the same one again where it is the last
abbrev pub after_one : List (List ℕ) → List (List ℕ)
after_one [] = []
after_one (reply ∷ []) = reply ∷ []
after_one (reply ∷ next ∷ replies) = next ∷ replies

-- what is to come once so many replies were given
abbrev pub after_replies : ℕ → List (List ℕ) → List (List ℕ)
after_replies zero replies = replies
after_replies (suc n) replies = after_replies n (after_one replies)

-- whether a reply can be given: bytes were sent, and there is a reply
abbrev pub has_reply : LinkState → Bool
has_reply link = by link.asked link.to_come
  where
    by : Option (List ℕ) → List (List ℕ) → Bool
    by None replies = false
    by (Some sent) [] = false
    by (Some sent) (reply ∷ replies) = true
