-- What a device asks of a server, and under which name it keeps the text of the last sync.
use Rattle.std.specs.Prelude.{◌≡◌, ◌≢◌, ◌↔◌, List, true, false, ℕ}
use Rattle.std.specs.List.{Contains, AllByRecursion}
use Rattle.std.specs.Ordering.{nat_cmp, is_gt}
use Rattle.std.specs.Cmp.Lexicographic.{slice_cmp}
use Rattle.hybrid_clock.specs.Stamp.{stamp_text}
use Rattle.field_merge.specs.declared.message.Message.{Message}
use Rattle.field_merge.specs.Log.{IsRising}
use Rattle.sync_wire.specs.declared.request.SyncRequest.{SyncRequest}
use Rattle.device_sync.specs.declared.target.Target.{Target}
use Rattle.device_sync.specs.Requests.{request_of}
use Rattle.device_sync.specs.Sync.{synced_name}

-- the request of a device that has the messages, and asks from a text on
pub record IsAskedFrom (target : Target) (since : List ℕ) (ms : List Message) (q : SyncRequest) : Type 0 where
  -- it hands in those whose timestamp's text is greater, whoever made them, and no others, from the oldest on
  pub exactly : (m : Message) → Contains q.messages m ↔ (Contains ms m × (is_gt (slice_cmp nat_cmp (stamp_text m.stamp) since) ≡ true))
  pub in_order : IsRising ms → IsRising q.messages
  -- it asks for what is later than that text, of the file and the group of the target, in the open
  pub from : q.since ≡ since
  pub file : q.file ≡ target.file
  pub group : q.group ≡ target.group
  pub plain : q.encrypted ≡ false

abbrev pub RequestsAsk : Type 0
RequestsAsk = (target : Target) (since : List ℕ) (ms : List Message) → IsAskedFrom target since ms (request_of target since ms)

-- two targets whose files have no slash, which no file of a command line has, share the name of the text of the last sync only where they
-- have one file and one group
abbrev pub LastSyncsAreApart : Type 0
LastSyncsAreApart = (target other : Target) → AllByRecursion (λ b. b ≢ 47) target.file → AllByRecursion (λ b. b ≢ 47) other.file → synced_name target ≡ synced_name other
    → (target.file ≡ other.file) × (target.group ≡ other.group)
