use Rattle.std.proofs.Common.{rules, arith}
use Rattle.std.proofs.lemmas.Grind.{common_steps}
use Rattle.rule_engine.specs.Conditions.{folded}
use Rattle.rule_engine.proofs.AsciiTexts.{folded_ascii}
use Rattle.rule_engine.proofs.folding.has_folded_part.Goals as goal

pub returns-then-is_ascii-2 : goal.returns-then-is_ascii-2
returns-then-is_ascii-2 c =
    let one = folded_ascii c.args.text.now (search (rules, c.is_ascii.ensures, c.if-is_ascii.ensures)) in
    let two = folded_ascii c.args.part.now (search (rules, c.is_ascii-then-is_ascii.ensures, c.if-is_ascii-2.ensures)) in
    search (rules, c.has_ascii_part.ensures, one, two)

pub returns : goal.returns
unfolding folded
returns c = first_of (search rules, grind (arith, common_steps))
