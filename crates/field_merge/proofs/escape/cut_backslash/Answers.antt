use Rattle.std.proofs.Common.{lit<}
use Rattle.std.proofs.lemmas.Str.Pattern.{split_parts}
use Rattle.field_merge.proofs.EscapeLemmas.{unescaped-cut, bad_escape-cut}
use Rattle.field_merge.proofs.escape.cut_backslash.Goals as goal

pub returns-clause-cut : goal.returns-clause-cut
returns-clause-cut c = unescaped-cut _ _ (split_parts 92 _ c.split_once.result c.split_once.ensures.cases (lit< tt))

pub returns-clause-plain : goal.returns-clause-plain
returns-clause-plain c = bad_escape-cut _ _ (split_parts 92 _ c.split_once.result c.split_once.ensures.cases (lit< tt))
