use Rattle.std.proofs.Common.{◌∙◌, sym}
use Rattle.peer_link.proofs.Requests.{body_there, some_there}
use Rattle.peer_link.proofs.asked.body_of.Goals as goal

pub returns-in-Some : goal.returns-in-Some
returns-in-Some c = λ size body small is.
    body_there c.args.bytes.now size body c.from-behind.result.now small is c.from-behind.ensures c.from.result.now c.from-in-Some.result.now c.in-Some.count (sym c.in-Some.is ∙ c.end_of_digits.ensures) c.from.ensures c.from-in-Some.ensures

pub returns-in-None : goal.returns-in-None
returns-in-None c = λ size body small is. absurd (some_there c.args.bytes.now size body c.from-behind.result.now small is c.from-behind.ensures (sym c.in-None.is ∙ c.end_of_digits.ensures))
