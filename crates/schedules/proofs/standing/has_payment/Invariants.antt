use Rattle.std.proofs.Common.{◌≡◌}
use Rattle.std.specs.List.{list_any}
use Rattle.schedules.specs.Status.{is_payment}
use Rattle.schedules.proofs.standing.has_payment.Given as goal

-- the ids that are still to come say whether one of all is that of a payment
abbrev pub invariant-loop-payment : goal.invariant-loop-payment
invariant-loop-payment l = list_any (is_payment l.book.rows l.id l.next) l.payment-iterator ≡ list_any (is_payment l.book.rows l.id l.next) l.ids.keys
