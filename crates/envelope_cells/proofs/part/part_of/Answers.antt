use Rattle.std.proofs.Common.{◌+◌, ◌≤◌, ◌^◌, unsigned_abs, arith}
use Rattle.envelope_cells.specs.BudgetOf.{budget_of}
use Rattle.envelope_cells.proofs.Past.{left_within, moved_within, sum_within}
use Rattle.envelope_cells.proofs.part.part_of.Goals as goal

pub next-requires-clause-sum : goal.next-requires-clause-sum
next-requires-clause-sum c =
    let sum : unsigned_abs c.in_ok-month.month.sum ≤ 2 ^ 120 = sum_within (budget_of c.args.book.now.rows) c.args.id.now c.args.number (c.args.number + 1) c.in_ok-month.month c.in_ok-month.ensures (omega arith) c.requires.small in
    omega arith

pub next-requires-clause-left : goal.next-requires-clause-left
next-requires-clause-left c =
    let left : unsigned_abs c.in_ok-past.past.left ≤ 2 ^ 120 = left_within (budget_of c.args.book.now.rows) c.args.id.now c.args.number (c.args.number + 1) c.in_ok-past.past c.in_ok-past.ensures (omega arith) c.requires.small in
    omega arith

pub next-requires-clause-moved : goal.next-requires-clause-moved
next-requires-clause-moved c =
    let moved : unsigned_abs c.in_ok-past.past.moved ≤ 2 ^ 120 = moved_within (budget_of c.args.book.now.rows) c.args.id.now c.args.number (c.args.number + 1) c.in_ok-past.past c.in_ok-past.ensures (omega arith) c.requires.small in
    omega arith
