use Rattle.command_lines.proofs.WordLemmas.{surplus}
use Rattle.command_lines.proofs.words.Words.end.Goals as goal

pub returns-in-Some-clause-err : goal.returns-in-Some-clause-err
returns-in-Some-clause-err c command =
    rw (c.behind_last.ensures, ← c.self.view_is, c.in-Some.is) (surplus command c.self.inside.last c.in-Some.field-0.now)
