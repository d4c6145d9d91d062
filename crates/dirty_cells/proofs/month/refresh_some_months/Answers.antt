use Rattle.std.proofs.Common.{◌≡◌, ℕ, ◌+◌, ◌-◌, ◌*◌, ◌≤◌, length, true, ap, arith, ◌∙◌}
use Rattle.envelope_cells.specs.BudgetOf.{budget_of}
use Rattle.dirty_cells.specs.Grid.{is_pending}
use Rattle.dirty_cells.specs.Steps.{month_cost}
use Rattle.dirty_cells.proofs.Months.{done_more, rest_less, beside_more}
use Rattle.dirty_cells.proofs.month.refresh_some_months.Goals as goal

pub refresh_month-requires-clause-prior : goal.refresh_month-requires-clause-prior
refresh_month-requires-clause-prior g c = λ l. c.loop-number.invariant.done.each (c.loop-number.number - 1) (omega (arith, l)) (omega (arith, l))

pub refresh_month-requires-clause-right : goal.refresh_month-requires-clause-right
refresh_month-requires-clause-right g c = c.loop-number.invariant.rest.each c.loop-number.number (omega arith) (omega arith)

-- one month more costs as much again
once_more : (k n from : ℕ) → from ≤ n → k * (n + 1 - from) ≡ k * (n - from) + k
once_more k n from h = ap (λ m. k * m) (turned n from h) ∙ times k (n - from)
  where
    turned : (n from : ℕ) → from ≤ n → n + 1 - from ≡ (n - from) + 1
    turned n from h = omega (arith, h)

    times : (k m : ℕ) → k * (m + 1) ≡ k * m + k
    times k m = grind arith

pub loop-number-preserved : goal.loop-number-preserved
loop-number-preserved g c =
    let b = budget_of c.args.book.now.rows in
    let n = c.loop-number.number in
    let cost = month_cost (length c.args.categories.now) (length c.args.marked.now) in
    record {
      done = done_more c.args.cells.now c.loop-number.cells c.refresh_month.new.cells b c.args.first n c.args.to c.in_ok-refresh_month.ensures.others c.loop-number.invariant.done c.in_ok-refresh_month.ensures.right;
      rest = rest_less c.args.cells.now c.loop-number.cells c.refresh_month.new.cells b c.args.first n c.args.to c.in_ok-refresh_month.ensures.others (is_pending c.args.categories.now c.args.marked.now true) c.loop-number.invariant.rest;
      others = beside_more c.args.cells.now c.loop-number.cells c.refresh_month.new.cells b c.args.from n c.args.to c.in_ok-refresh_month.ensures.others (omega arith) (omega arith) c.loop-number.invariant.others;
      cost = omega (arith, c.in_ok-refresh_month.ensures.cost, c.loop-number.invariant.cost, once_more cost n c.args.from (omega arith));
    }

pub returns-clause-right : goal.returns-clause-right
returns-clause-right g c = record { each = λ n h l. c.loop-number.invariant.done.each n (omega (arith, h)) (omega (arith, l)) }
