-- What the laws on the server say: paths, the names of files, which bytes decide, the status that is written, the trie that is told.
use Rattle.std.specs.Prelude.{◌≡◌, ◌≢◌, ◌↔◌, ◌<◌, ℕ, List, ◌∷◌, ◌++◌, length, take, map, Ok, codes, decimal}
use Rattle.std.specs.List.{AllByRecursion}
use Rattle.httparse.specs.Grammar.{RequestHead}
use Rattle.budget_ports.specs.Contents.{Contents, Text}
use Rattle.field_merge.specs.declared.message.Message.{Message}
use Rattle.field_merge.specs.Log.{join}
use Rattle.minute_trie.specs.declared.trie.Trie.{Trie}
use Rattle.minute_trie.specs.Trie.{held, stamp_pair, IsTrieOf}
use Rattle.minute_trie.specs.Json.{trie_text}
use Rattle.sync_wire.specs.declared.fault.WireFault.{WireFault}
use Rattle.sync_wire.specs.declared.request.SyncRequest.{SyncRequest}
use Rattle.sync_wire.specs.Wire.{IsRequest, IsRequestFault}
use Rattle.sync_server.specs.declared.refusal.Refusal.TheVariants.{BadMessage}
use Rattle.sync_server.specs.declared.served.Served.TheVariants as served
use Rattle.sync_server.specs.Answer.{answer_of}
use Rattle.sync_server.specs.Heads.{path_of, judge_head, HasHead}
use Rattle.sync_server.specs.Outside.{HasFound}
use Rattle.sync_server.specs.Serving.{file_name, found_in, judge_request, Verdict, Ends, Refuses, Decides, Visit, IsServed}

-- the path is what stands before the first question mark, or all of the target
pub record PathsAreCut : Type 0 where
  pub cut : (path query : List ℕ) → AllByRecursion (λ b. b ≢ 63) path → path_of (path ++ 63 ∷ query) ≡ path
  pub whole : (path : List ℕ) → AllByRecursion (λ b. b ≢ 63) path → path_of path ≡ path

-- two files never have their groups under one name
abbrev pub FilesAreApart : Type 0
FilesAreApart = (file other : Text) → file_name file ≡ file_name other → file ≡ other

-- which bytes behind a head decide
pub record BodiesDecide : Type 0 where
  -- where fewer come than the head tells, the connection ends, whatever the keeper has
  pub ends : (token : Text) (k : Contents) (came : List ℕ) (head : RequestHead) (more rest : List ℕ) (n : ℕ) (v : Verdict) → HasHead (take 65536 came) head more → HasHead came head rest
      → judge_head token head ≡ Ok n → length rest < n → Decides token (HasFound k) came v ↔ (v ≡ Ends)
  -- where those that it tells come, and mean a request, this decides, over what the keeper has, whatever follows
  pub requests : (token : Text) (k : Contents) (came : List ℕ) (head : RequestHead) (more body after : List ℕ) (q : SyncRequest) (v : Verdict) → HasHead (take 65536 came) head more → HasHead came head (body ++ after)
      → judge_head token head ≡ Ok (length body) → IsRequest body q → Decides token (HasFound k) came v ↔ (v ≡ judge_request q (found_in k q))
  -- and where they mean none, it is refused for that
  pub faults : (token : Text) (k : Contents) (came : List ℕ) (head : RequestHead) (more body after : List ℕ) (f : WireFault) (v : Verdict) → HasHead (take 65536 came) head more → HasHead came head (body ++ after)
      → judge_head token head ≡ Ok (length body) → IsRequestFault body f → Decides token (HasFound k) came v ↔ (v ≡ Refuses BadMessage)

-- the status that is told of a connection is that of the reply that was written
abbrev pub StatusesAreWritten : Type 0
StatusesAreWritten = (token : Text) (k : Contents) (visit : Visit) (status : ℕ) → IsServed token (HasFound k) visit (served.Answered status)
    → (rest : List ℕ) × (visit.wrote ≡ codes "HTTP/1.1 " ++ (decimal status ++ 32 ∷ rest))

-- the text of an answer's trie is that of any trie of the timestamps of all messages that the group has then
abbrev pub TriesAreOfTimestamps : Type 0
TriesAreOfTimestamps = (ms : List Message) (q : SyncRequest) (t : Trie) → IsTrieOf (map (λ m. stamp_pair m.stamp) (join ms q.messages)) t → (answer_of ms q).merkle ≡ trie_text (held t)
