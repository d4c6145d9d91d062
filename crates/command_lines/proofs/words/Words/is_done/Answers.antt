use Rattle.command_lines.proofs.WordLemmas.{some_parts}
use Rattle.command_lines.proofs.words.Words.is_done.Goals as goal

pub returns-in-Some-clause-more : goal.returns-in-Some-clause-more
returns-in-Some-clause-more c = λ e. rw (← c.self.view_is, c.in-Some.is) (some_parts c.in-Some.field-0.now)
