-- What a device sends is a request for the group.
use Rattle.std.proofs.Common.{ℕ, List, refl, subst}
use Rattle.field_merge.proofs.LastOnes.{later_valid}
use Rattle.device_sync.specs.Requests.{request_of, IsAsked}
use Rattle.peer_link.specs.Laws.{DevicesAsk}

pub devices_ask : DevicesAsk
devices_ask target since ms sent named filed grouped valid some asked = record {
  request = request_of target since ms;
  fits = record {
    device = record { plain = refl; since = some; valid = later_valid since ms valid };
    file_is = filed;
    group_is = grouped;
  };
  asked = subst (λ (t : List ℕ). IsAsked t (request_of target since ms) sent) named asked;
}
