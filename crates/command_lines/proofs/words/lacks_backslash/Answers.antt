use Rattle.command_lines.proofs.PlainWords.{plain_words}
use Rattle.command_lines.proofs.words.lacks_backslash.Goals as goal

pub returns-in-Some : goal.returns-in-Some
returns-in-Some c =
    rw (c.in-Some.is) (plain_words c.is_none.result c.memchr.result c.as_bytes.result.now c.in-Some.rest.now c.memchr.ensures c.is_none.ensures c.as_bytes.ensures.value)
