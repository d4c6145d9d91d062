use Rattle.std.proofs.Common.{ap, ◌∙◌}
use Rattle.command_lines.proofs.PlainWords.{plain_first, plain_is_good, plain_read}
use Rattle.command_lines.proofs.words.Words.word.Goals as goal

pub returns-then-is_plain-clause-ok : goal.returns-then-is_plain-clause-ok
returns-then-is_plain-clause-ok c = λ next.
    let plain = plain_first _ c.in-Some.written.now c.next.new.self.words (c.self.invariant.1 c.if-is_plain.true) (ap (λ v. v.words) c.self.view_is ∙ c.in-Some.ensures.word) in
    rw (c.in-Some.ensures.word) (plain_read next c.args.self.now.last c.next.new.self.last c.in-Some.written.now c.next.new.self.words plain c.in-Some.ensures.last)

pub returns-then-is_plain-clause-there : goal.returns-then-is_plain-clause-there
returns-then-is_plain-clause-there c =
    let plain = plain_first _ c.in-Some.written.now c.next.new.self.words (c.self.invariant.1 c.if-is_plain.true) (ap (λ v. v.words) c.self.view_is ∙ c.in-Some.ensures.word) in
    rw (c.in-Some.ensures.word) (plain_is_good c.in-Some.written.now plain)
