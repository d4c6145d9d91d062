use Rattle.std.proofs.Common.{◌<◌, ◌≤◌, ◌+◌, ◌-◌, ◌*◌, true, length, refl, ap, sym, ◌∙◌, subst, arith}
use Rattle.std.specs.FinMap.{entries}
use Rattle.envelope_cells.specs.BudgetOf.{budget_of}
use Rattle.dirty_cells.specs.Bound.{different, pairs, touched_categories, touched_groups, touched_count, first_touched}
use Rattle.dirty_cells.specs.Grid.{is_pending}
use Rattle.dirty_cells.specs.Right.{AreRightIn, AreWithin, none_pending}
use Rattle.dirty_cells.specs.Steps.{month_cost}
use Rattle.dirty_cells.proofs.Begun.{begins, goes_on}
use Rattle.dirty_cells.proofs.Marked.{same_but}
use Rattle.dirty_cells.proofs.Covered.{quiet_kept, told_right, told_within, right_told, based_front, based_order, based_back, based_right, based_within, based_size, between_parts, between_more}
use Rattle.dirty_cells.proofs.Bounded.{within_bound, touched_months_of}
use Rattle.dirty_cells.proofs.grid.apply.change.Goals as goal

pub renew_groups-requires : goal.renew_groups-requires
renew_groups-requires g c = λ h. c.requires.stands.groups ∙ c.in_ok-marks.ensures.groups h

pub with_window-new-requires-clause-order : goal.with_window-new-requires-clause-order
with_window-new-requires-clause-order g c = c.requires.stands.order

pub with_window-new-requires-clause-end : goal.with_window-new-requires-clause-end
with_window-new-requires-clause-end g c = c.requires.stands.within

pub low_of-low-requires : goal.low_of-low-requires
low_of-low-requires g c = subst (λ r. r.0 ≤ r.1) (sym c.based-old.ensures) (based_order c.args.grid.now.first c.args.grid.now.end c.with_window-new.result.0)

pub renew-requires-clause-front : goal.renew-requires-clause-front
renew-requires-clause-front g c =
    let new = c.with_window-new.result in
    subst (λ r. new.0 ≤ r.0) (sym c.based-old.ensures) (based_front c.args.grid.now.first c.args.grid.now.end new.0 new.0 c.with_window-new.ensures.front refl)

pub renew-requires-clause-back : goal.renew-requires-clause-back
renew-requires-clause-back g c =
    let new = c.with_window-new.result in
    subst (λ r. r.1 ≤ new.1) (sym c.based-old.ensures) (based_back c.args.grid.now.first c.args.grid.now.end new.0 new.1 c.with_window-new.ensures.back c.with_window-new.ensures.order)

pub renew-requires-clause-groups : goal.renew-requires-clause-groups
renew-requires-clause-groups g c = c.as_slice-groups.ensures ∙ c.in_ok-renew_groups.ensures

pub renew-requires-clause-quiet : goal.renew-requires-clause-quiet
renew-requires-clause-quiet g c =
    let new = c.with_window-new.result in
    quiet_kept c.follow.new.book.rows new.0 new.1 new.0 c.with_window-new.ensures.window (omega (arith, c.with_window-new.ensures.order, c.with_window-new.ensures.end)) (λ l. omega arith)

pub renew-requires-clause-before : goal.renew-requires-clause-before
renew-requires-clause-before g c =
    let grid = c.args.grid.now in
    let a = budget_of c.args.book.now.rows in
    let b = budget_of c.follow.new.book.rows in
    let from = c.in_ok-marks.marks.from in
    let right = subst (λ r. AreRightIn grid.cells a r.0 r.1 none_pending) (sym c.based-old.ensures)
    (based_right grid.first grid.end c.with_window-new.result.0 grid.cells a none_pending (told_right grid.cells a grid.first grid.end c.requires.stands.within c.requires.stands.cells)) in
    record {
      each = λ n h l.
          let early : n < from = c.low_of-low.ensures.before n h l in
          goes_on grid.cells a b from n (c.in_ok-marks.ensures.before n early) early (right.each n h (omega (arith, l, c.low_of-low.ensures.high)));
    }

pub renew-requires-clause-after : goal.renew-requires-clause-after
renew-requires-clause-after g c =
    let grid = c.args.grid.now in
    let r = c.args.book.now.rows in
    let s = c.follow.new.book.rows in
    let marks = c.in_ok-marks.marks in
    let right = subst (λ r. AreRightIn grid.cells (budget_of c.args.book.now.rows) r.0 r.1 none_pending) (sym c.based-old.ensures)
    (based_right grid.first grid.end c.with_window-new.result.0 grid.cells (budget_of r) none_pending (told_right grid.cells (budget_of r) grid.first grid.end c.requires.stands.within c.requires.stands.cells)) in
    subst (λ cs. AreRightIn grid.cells (budget_of s) c.low_of-low.result c.based-old.result.1 (is_pending cs c.as_slice-marked.result.now true)) (sym c.as_slice-categories.ensures)
    (subst (λ gs. AreRightIn grid.cells (budget_of s) c.low_of-low.result c.based-old.result.1 (is_pending marks.categories gs true)) (sym c.as_slice-marked.ensures)
    (record { each = λ n h l. begins grid.cells (budget_of r) (budget_of s) marks.categories marks.groups n (same_but r s marks.categories marks.groups c.in_ok-marks.ensures.marks) (right.each n (omega (arith, h, c.low_of-low.ensures.low)) l) }))

pub renew-requires-clause-within : goal.renew-requires-clause-within
renew-requires-clause-within g c =
    let grid = c.args.grid.now in
    subst (λ r. AreWithin grid.cells r.0 r.1) (sym c.based-old.ensures)
    (based_within grid.first grid.end c.with_window-new.result.0 grid.cells (told_within grid.cells (budget_of c.args.book.now.rows) grid.first grid.end c.requires.stands.cells))

pub returns-clause-stands : goal.returns-clause-stands
returns-clause-stands g c =
    let new = c.with_window-new.result in
    record {
      sums = c.in_ok-marks.ensures.sums;
      groups = c.in_ok-renew_groups.ensures;
      order = c.with_window-new.ensures.order;
      within = c.with_window-new.ensures.end;
      cells = right_told c.renew.new.cells (budget_of c.follow.new.book.rows) new.0 new.1 c.with_window-new.ensures.end c.in_ok-renew.ensures.right c.in_ok-renew.ensures.within;
      window = c.with_window-new.ensures.window;
    }

pub returns-clause-range : goal.returns-clause-range
returns-clause-range g c = c.with_window-new.ensures.is

pub returns-clause-kept : goal.returns-clause-kept
returns-clause-kept g c = λ month covered.
    let grid = c.args.grid.now in
    let new = c.with_window-new.result in
    let p = between_parts grid.first grid.end month covered in
    let some : grid.first < grid.end = omega (arith, p.low, p.high) in
    between_more new.0 new.1 grid.first grid.end month (c.with_window-new.ensures.front some) (c.with_window-new.ensures.back some) covered

pub returns-clause-cost : goal.returns-clause-cost
returns-clause-cost g c = λ apart.
    let grid = c.args.grid.now in
    let r = c.args.book.now.rows in
    let s = c.follow.new.book.rows in
    let cs = c.args.changes.now in
    let m = c.in_ok-marks.marks in
    let new = c.with_window-new.result in
    let few = c.in_ok-marks.ensures in
    let at_first = c.with_window-new.ensures in
    let front = based_front grid.first grid.end new.0 new.0 at_first.front refl in
    let back = based_back grid.first grid.end new.0 new.1 at_first.back at_first.order in
    let size = based_size grid.first grid.end new.0 new.0 new.1 c.requires.stands.order front back in
    let old = c.based-old.ensures in
    within_bound c.args.steps.now c.follow.new.steps c.renew.new.steps (length cs + pairs r s cs)
    (length m.categories) (different (touched_categories r s cs)) (length m.groups) (different (touched_groups r s cs))
    (c.based-old.result.1 - c.low_of-low.result) (touched_count grid.first grid.end r s cs)
    (month_cost (length (entries s.categories)) (length (entries s.groups)))
    ((c.based-old.result.0 - new.0) + (new.1 - c.based-old.result.1)) ((new.1 - new.0) - (grid.end - grid.first))
    (few.cost apart) (few.few_categories apart) (few.few_groups apart)
    (touched_months_of grid.first grid.end new.0 m.from (first_touched r s cs) c.based-old.result.0 c.based-old.result.1 c.low_of-low.result old c.low_of-low.ensures.size (few.few_months apart))
    (ap (λ p. (p.0 - new.0) + (new.1 - p.1)) old ∙ size)
    (subst (λ n. c.renew.new.steps ≤ c.follow.new.steps + month_cost n (length m.groups) * (c.based-old.result.1 - c.low_of-low.result) + month_cost (length (entries s.categories)) (length (entries s.groups)) * ((c.based-old.result.0 - new.0) + (new.1 - c.based-old.result.1)))
    (ap length c.as_slice-categories.ensures)
    (subst (λ n. c.renew.new.steps ≤ c.follow.new.steps + month_cost (length c.as_slice-categories.result.now) n * (c.based-old.result.1 - c.low_of-low.result) + month_cost (length (entries s.categories)) (length (entries s.groups)) * ((c.based-old.result.0 - new.0) + (new.1 - c.based-old.result.1)))
    (ap length c.as_slice-marked.ensures) c.in_ok-renew.ensures.cost))
