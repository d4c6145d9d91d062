-- What a link takes, in other words.
use Rattle.std.specs.Prelude.{◌≡◌, ◌≢◌, ℕ, List, [], codes}
use Rattle.field_merge.specs.declared.message.Message.{Message}
use Rattle.field_merge.specs.Messages.{AreMessages}
use Rattle.device_sync.specs.declared.target.Target.{Target}
use Rattle.device_sync.specs.Requests.{request_of, IsAsked}
use Rattle.peer_link.specs.Peer.{AsksGroup}

-- the text of a device's request is one for the group, whatever valid messages the device has, and from whatever text on it asks that isn't empty
abbrev pub DevicesAsk : Type 0
DevicesAsk = (target : Target) (since : List ℕ) (ms : List Message) (sent : List ℕ)
    → target.token ≡ codes "local" → target.file ≡ codes "home" → target.group ≡ codes "home" → AreMessages ms → since ≢ []
    → IsAsked target.token (request_of target since ms) sent → AsksGroup sent
