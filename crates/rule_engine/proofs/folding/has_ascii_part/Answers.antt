use Rattle.std.proofs.Common.{rules, arith, ◌≡◌, sym, ◌∙◌, ap, Some, true, false, ◌+◌, ◌-◌, length, take, drop}
use Rattle.std.specs.Option.{option_copied}
use Rattle.rule_engine.proofs.AsciiTexts.{found_there, not_there, no_room, some_part, other_letter, nothing_there, lower}
use Rattle.rule_engine.proofs.folding.has_ascii_part.Goals as goal
use Rattle.rule_engine.proofs.folding.has_ascii_part.Goals.{else-is_begun-via-then-is_begun+else-eq_ignore_ascii_case, else-is_begun-via-else-is_begun}

pub returns-in_default : goal.returns-in_default
returns-in_default c = sym (nothing_there c.args.part.now c.args.text.now (search (rules, c.first.ensures, c.in_default.is)))

pub returns-then-eq_ignore_ascii_case : goal.returns-then-eq_ignore_ascii_case
returns-then-eq_ignore_ascii_case c =
    let there = found_there c.args.part.now c.args.text.now c.starts.at (c.eq_ignore_ascii_case.ensures.test.0 (c.if-eq_ignore_ascii_case.true)) in
    sym (c.starts.invariant.1 ∙ there)

pub starts-preserved : goal.starts-preserved
starts-preserved c =
    let part = c.args.part.now in
    let text = c.args.text.now in
    let other : lower (take (c.starts.at + length part - c.starts.at) (drop c.starts.at text)) ≡ lower part → ⊥ =
    elim c.else-is_begun.branch [
      | else-is_begun-via-then-is_begun+else-eq_ignore_ascii_case w ↦ λ h. search (rules, w.eq_ignore_ascii_case.ensures.test.1 h, w.if-eq_ignore_ascii_case.false)
      | else-is_begun-via-else-is_begun w ↦ other_letter part text c.starts.at c.in-Some.first.now (search (rules, c.first.ensures, c.in-Some.is)) c.starts-test.true (λ h. search (rules, h, w.if-is_begun, c.to_ascii_lowercase.ensures, c.to_ascii_lowercase-first.ensures))
    ] in
    let some = some_part part text c.starts.at other in
    (grind (arith, c.starts-test.true, some), c.starts.invariant.1 ∙ not_there part text c.starts.at other)

pub returns : goal.returns
returns c = sym (c.starts.invariant.1 ∙ no_room c.args.part.now c.args.text.now c.starts.at c.starts.invariant.0 c.starts-test.false)
