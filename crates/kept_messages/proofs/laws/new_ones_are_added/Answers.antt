use Rattle.kept_messages.proofs.News.{new_ones}
use Rattle.kept_messages.proofs.laws.new_ones_are_added.Goals as goal

pub returns : goal.returns
returns c = new_ones
