use Rattle.minute_trie.proofs.FirstFault.{faults_first}
use Rattle.minute_trie.proofs.laws.faults_are_first.Goals as goal

pub returns : goal.returns
returns c = faults_first
