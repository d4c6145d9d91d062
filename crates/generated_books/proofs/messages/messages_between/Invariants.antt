use Rattle.std.proofs.Common.{◌≡◌, ◌-◌, ◌≤◌}
use Rattle.generated_books.specs.Numbers.{messages_at}
use Rattle.generated_books.proofs.messages.messages_between.Given as goal

abbrev pub invariant-loop-at : goal.invariant-loop-at
invariant-loop-at l = l.messages.items ≡ messages_at l.from (l.at - l.from)
