use Rattle.field_merge.proofs.EscapeLemmas.{known_whole}
use Rattle.field_merge.proofs.escape.is_plain_part.Goals as goal

pub returns-then-is_known-clause-whole : goal.returns-then-is_known-clause-whole
returns-then-is_known-clause-whole c = known_whole c.args.is_known c.args.part.now c.requires
