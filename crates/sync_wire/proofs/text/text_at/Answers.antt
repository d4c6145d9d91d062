use Rattle.sync_wire.proofs.Texts.{no_fault}
use Rattle.sync_wire.proofs.text.text_at.Goals as goal

pub returns-in-Ok-clause-value : goal.returns-in-Ok-clause-value
returns-in-Ok-clause-value c =
    let valid = no_fault c.args.end c.args.bytes.now c.in-Ok.ensures.cases.1 in
    rw valid (cc c.in-Ok.ensures.cases.0)
