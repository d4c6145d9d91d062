use Rattle.std.proofs.Common.{◌≡◌}
use Rattle.book_edits.specs.Checks.{least_where}
use Rattle.split_transfer.specs.Transfers.{stands_for, payee_for}
use Rattle.split_transfer.proofs.transfers.payee_for.Given as goal

abbrev pub invariant-loop-id : goal.invariant-loop-id
invariant-loop-id l = least_where (stands_for l.account) l.id-iterator ≡ payee_for l.book.rows l.account
