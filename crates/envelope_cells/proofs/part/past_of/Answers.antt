use Rattle.std.proofs.Common.{◌≡◌, ◌≤◌, ◌^◌, unsigned_abs, arith, ℕ, subst}
use Rattle.envelope_cells.specs.BudgetOf.{budget_of}
use Rattle.envelope_cells.specs.Parts.{IsPast}
use Rattle.envelope_cells.proofs.Past.{past_next, left_within, moved_within, sum_within}
use Rattle.envelope_cells.proofs.part.past_of.Goals as goal

pub next-past-requires : goal.next-past-requires
next-past-requires c =
    let b = budget_of c.args.book.now.rows in
    let id = c.args.id.now in
    let left : unsigned_abs c.loop-at.past.left ≤ 2 ^ 120 = left_within b id c.loop-at.at c.args.number c.loop-at.past c.loop-at.invariant (omega arith) c.requires.small in
    let moved : unsigned_abs c.loop-at.past.moved ≤ 2 ^ 120 = moved_within b id c.loop-at.at c.args.number c.loop-at.past c.loop-at.invariant (omega arith) c.requires.small in
    let sum : unsigned_abs c.in_ok-month.month.sum ≤ 2 ^ 120 = sum_within b id c.loop-at.at c.args.number c.in_ok-month.month c.in_ok-month.ensures (omega arith) c.requires.small in
    record { sum = omega arith; left = omega arith; moved = omega arith }

pub loop-at-preserved : goal.loop-at-preserved
loop-at-preserved c = past_next (budget_of c.args.book.now.rows) c.args.id.now c.loop-at.at c.loop-at.past c.in_ok-month.month c.next-past.result c.loop-at.invariant c.in_ok-month.ensures c.next-past.ensures.left c.next-past.ensures.carries c.next-past.ensures.moved

pub returns : goal.returns
returns c =
    let e : c.loop-at.at ≡ c.args.number = omega arith in
    let P = λ (k : ℕ). IsPast (budget_of c.args.book.now.rows) c.args.id.now k c.loop-at.past in
    subst P e c.loop-at.invariant
