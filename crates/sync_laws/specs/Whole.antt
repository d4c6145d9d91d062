-- Replies that are not cut.
use Rattle.std.specs.Prelude.{◌≡◌, ℕ, List, [], ◌++◌, map, codes, true}
use Rattle.std.specs.List.{list_any}
use Rattle.httparse.specs.Grammar.{ResponseHead}
use Rattle.httparse.specs.Spans.{name_and_value}
use Rattle.sync_server.specs.Heads.{has_name}
use Rattle.device_sync.specs.Replies.{IsReply}

-- the head has a field Content-Length, in letters of any case
abbrev pub TellsLength : ResponseHead → Type 0
TellsLength head = list_any (has_name (codes "Content-Length")) (map name_and_value head.fields) ≡ true

-- of a reply that tells its length no part in front is a reply, so one that breaks off is never taken for an answer
abbrev pub RepliesAreWhole : Type 0
RepliesAreWhole = (front rest : List ℕ) (status other : ℕ) (body part : List ℕ) → (whole : IsReply (front ++ rest) status body) → TellsLength whole.head → IsReply front other part → rest ≡ []
