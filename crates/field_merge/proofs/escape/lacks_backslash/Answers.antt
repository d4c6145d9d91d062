use Rattle.std.proofs.Common.{refl}
use Rattle.field_merge.proofs.EscapeLemmas.{plain_good, plain_none, plain_not, plain_whole}
use Rattle.field_merge.proofs.escape.lacks_backslash.Goals as goal

pub returns-clause-whole : goal.returns-clause-whole
returns-clause-whole c = plain_whole c.is_none.result c.memchr.result c.args.bytes.now c.args.bytes.now c.memchr.ensures c.is_none.ensures refl

pub returns-clause-good : goal.returns-clause-good
returns-clause-good c = plain_good c.is_none.result c.memchr.result c.args.bytes.now c.args.bytes.now c.memchr.ensures c.is_none.ensures refl

pub returns-clause-other : goal.returns-clause-other
returns-clause-other c = plain_not c.is_none.result c.memchr.result c.args.bytes.now c.args.bytes.now c.memchr.ensures c.is_none.ensures refl

pub returns-clause-none : goal.returns-clause-none
returns-clause-none c = plain_none c.is_none.result c.memchr.result c.args.bytes.now c.args.bytes.now c.memchr.ensures c.is_none.ensures refl
