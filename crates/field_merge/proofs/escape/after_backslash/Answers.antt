-- No letter of an escape stands behind the backslash.
use Rattle.std.proofs.Common.{None, lit<}
use Rattle.std.proofs.lemmas.Str.Pattern.{strip_prefix_char}
use Rattle.field_merge.proofs.EscapeLemmas.{unescaped-bare}
use Rattle.field_merge.proofs.escape.after_backslash.Goals as goal

pub returns-clause-meaning : goal.returns-clause-meaning
returns-clause-meaning c =
    let text = c.args.text.now in
    unescaped-bare text
    (strip_prefix_char 48 text None c.in_default.ensures.cases (lit< tt))
    (strip_prefix_char 116 text None c.in_default-strip_prefix.ensures.cases (lit< tt))
    (strip_prefix_char 110 text None c.in_default-strip_prefix-2.ensures.cases (lit< tt))
    (strip_prefix_char 92 text None c.in_default-strip_prefix-3.ensures.cases (lit< tt))
