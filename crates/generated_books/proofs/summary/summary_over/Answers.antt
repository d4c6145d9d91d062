use Rattle.std.proofs.Common.{◌≡◌, List, IfOk, subst}
use Rattle.field_merge.specs.declared.message.Message.{Message}
use Rattle.generated_books.specs.Summary.{summary_of}
use Rattle.generated_books.proofs.summary.summary_over.Goals as goal

pub returns : goal.returns
returns g c = subst (λ (ms : List Message). IfOk c.summary_of.result (λ summary. summary ≡ summary_of ms)) c.in_ok-device.ensures.messages c.summary_of.ensures
