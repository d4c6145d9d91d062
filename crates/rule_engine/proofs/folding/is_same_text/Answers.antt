use Rattle.std.proofs.Common.{rules, ap, sym, ◌∙◌, map, chars}
use Rattle.caseless.specs.Caseless.{default_case_fold}
use Rattle.std.specs.Char.{to_ascii_lowercase}
use Rattle.std.specs.Str.{bytes_eq}
use Rattle.std.proofs.lemmas.Bool.Decides.{same_from_decides}
use Rattle.std.proofs.lemmas.Slice.Eq.{bytes_eq-Decides}
use Rattle.rule_engine.proofs.AsciiTexts.{folds}
use Rattle.rule_engine.proofs.folding.is_same_text.Goals as goal

pub returns-then-is_ascii-2 : goal.returns-then-is_ascii-2
returns-then-is_ascii-2 c =
    let one = folds c.args.text.now (search (rules, c.is_ascii.ensures, c.if-is_ascii.ensures)) in
    let two = folds c.args.other.now (search (rules, c.is_ascii-then-is_ascii.ensures, c.if-is_ascii-2.ensures)) in
    same_from_decides _ _ c.eq_ignore_ascii_case.ensures.test (bytes_eq-Decides _ _)
    ∙ sym (ap (λ x. bytes_eq x (default_case_fold (chars c.args.other.now))) one ∙ ap (bytes_eq (map to_ascii_lowercase c.args.text.now)) two)
