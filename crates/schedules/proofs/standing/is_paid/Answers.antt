use Rattle.std.proofs.Common.{ap, ◌∙◌}
use Rattle.std.specs.List.{list_any}
use Rattle.schedules.specs.Status.{is_payment}
use Rattle.schedules.proofs.Paying.{paid_by_named}
use Rattle.schedules.proofs.standing.is_paid.Goals as goal

pub returns-in-Some : goal.returns-in-Some
returns-in-Some c =
    let rows = c.args.book.now.rows in
    let id = c.args.id.now in
    c.has_payment.ensures ∙ ap (list_any (is_payment rows id c.args.next)) c.in-Some.ensures ∙ paid_by_named rows id c.args.next

pub returns-in-None : goal.returns-in-None
returns-in-None c =
    let rows = c.args.book.now.rows in
    let id = c.args.id.now in
    ap (list_any (is_payment rows id c.args.next)) c.in-None.ensures ∙ paid_by_named rows id c.args.next
