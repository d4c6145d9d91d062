use Rattle.minute_trie.proofs.ByMinute.{by_round, within, few}
use Rattle.minute_trie.proofs.laws.rounds_by_minute.Goals as goal

pub returns : goal.returns
returns c = record {
  nearer = by_round;
  within = within;
  few = few;
}
