use Rattle.minute_trie.proofs.WayDown.{leads_down}
use Rattle.minute_trie.proofs.FirstMinute.{none_told, moment_told}
use Rattle.minute_trie.proofs.laws.differences_are_found.Goals as goal

pub returns : goal.returns
returns c = record { none = none_told; down = leads_down; moment = moment_told }
