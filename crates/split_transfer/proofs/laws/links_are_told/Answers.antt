use Rattle.split_transfer.proofs.Linked as lemma
use Rattle.split_transfer.proofs.laws.links_are_told.Goals as goal

pub returns : goal.returns
returns c = lemma.links_told
