use Rattle.std.proofs.Common.{rules}
use Rattle.field_merge.specs.Hashed.{names_hash}
use Rattle.field_merge.proofs.hashed.hash_of.Goals as goal

pub returns : goal.returns
unfolding names_hash
returns c = search rules
