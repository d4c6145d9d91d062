use Rattle.sync_laws.proofs.Played.{replies_follow}
use Rattle.sync_laws.proofs.laws.replies_follow_lines.Goals as goal

pub returns : goal.returns
returns c = replies_follow
