use Rattle.std.proofs.Common.{rules}
use Rattle.field_merge.specs.Stamps.{stamp_hash}
use Rattle.field_merge.proofs.stamps.hash_of.Goals as goal

pub returns : goal.returns
unfolding stamp_hash
returns c = search rules
