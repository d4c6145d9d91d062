use Rattle.std.proofs.Common.{◌<◌, ◌≤◌, ◌+◌, ◌-◌, ◌*◌, length, refl, ap, sym, ◌∙◌, subst, arith}
use Rattle.std.specs.FinMap.{entries}
use Rattle.book_rows.specs.Months.{window_of}
use Rattle.envelope_cells.specs.Ids.{month_number}
use Rattle.envelope_cells.specs.BudgetOf.{budget_of}
use Rattle.dirty_cells.specs.Right.{AreRightIn, AreWithin, none_pending}
use Rattle.dirty_cells.specs.Stands.{with_month}
use Rattle.dirty_cells.specs.Steps.{month_cost}
use Rattle.dirty_cells.proofs.Covered.{quiet_kept, told_right, told_within, right_told, based_front, based_order, based_back, based_right, based_within, based_size, based_in, between_parts, between_more, parts_between, month_same, window_more}
use Rattle.dirty_cells.proofs.grid.Grid.extend.Goals as goal

pub widen-requires-clause-front : goal.widen-requires-clause-front
widen-requires-clause-front g c =
    let new = c.with_month-new.result in
    subst (λ r. new.0 ≤ r.0) (sym c.based-old.ensures) (based_front c.args.self.now.first c.args.self.now.end new.0 new.0 c.with_month-new.ensures.front refl)

pub widen-requires-clause-order : goal.widen-requires-clause-order
widen-requires-clause-order g c = subst (λ r. r.0 ≤ r.1) (sym c.based-old.ensures) (based_order c.args.self.now.first c.args.self.now.end c.with_month-new.result.0)

pub widen-requires-clause-back : goal.widen-requires-clause-back
widen-requires-clause-back g c =
    let new = c.with_month-new.result in
    subst (λ r. r.1 ≤ new.1) (sym c.based-old.ensures) (based_back c.args.self.now.first c.args.self.now.end new.0 new.1 c.with_month-new.ensures.back (omega (arith, c.with_month-new.ensures.low, c.with_month-new.ensures.high)))

pub widen-requires-clause-end : goal.widen-requires-clause-end
widen-requires-clause-end g c = c.with_month-new.ensures.end c.requires.stands.within

pub widen-requires-clause-sums : goal.widen-requires-clause-sums
widen-requires-clause-sums g c = c.requires.stands.sums

pub widen-requires-clause-groups : goal.widen-requires-clause-groups
widen-requires-clause-groups g c = c.as_slice-groups.ensures ∙ c.requires.stands.groups

pub widen-requires-clause-quiet : goal.widen-requires-clause-quiet
widen-requires-clause-quiet g c =
    let new = c.with_month-new.result in
    quiet_kept c.args.book.now.rows c.args.self.now.first c.args.self.now.end new.0 c.requires.stands.window
    (omega (arith, c.with_month-new.ensures.low, c.with_month-new.ensures.high, c.with_month-new.ensures.end c.requires.stands.within)) c.with_month-new.ensures.front

pub widen-requires-clause-right : goal.widen-requires-clause-right
widen-requires-clause-right g c =
    let grid = c.args.self.now in
    let b = budget_of c.args.book.now.rows in
    subst (λ r. AreRightIn grid.cells b r.0 r.1 none_pending) (sym c.based-old.ensures)
    (based_right grid.first grid.end c.with_month-new.result.0 grid.cells b none_pending (told_right grid.cells b grid.first grid.end c.requires.stands.within c.requires.stands.cells))

pub widen-requires-clause-within : goal.widen-requires-clause-within
widen-requires-clause-within g c =
    let grid = c.args.self.now in
    subst (λ r. AreWithin grid.cells r.0 r.1) (sym c.based-old.ensures)
    (based_within grid.first grid.end c.with_month-new.result.0 grid.cells (told_within grid.cells (budget_of c.args.book.now.rows) grid.first grid.end c.requires.stands.cells))

pub returns-clause-stands : goal.returns-clause-stands
returns-clause-stands g c =
    let grid = c.args.self.now in
    let new = c.with_month-new.result in
    let end = c.with_month-new.ensures.end c.requires.stands.within in
    record {
      sums = c.requires.stands.sums;
      groups = c.requires.stands.groups;
      order = omega (arith, c.with_month-new.ensures.low, c.with_month-new.ensures.high);
      within = end;
      cells = right_told c.widen.new.cells (budget_of c.args.book.now.rows) new.0 new.1 end c.in_ok-widen.ensures.right c.in_ok-widen.ensures.within;
      window = window_more grid.first grid.end new.0 new.1 (window_of c.args.book.now.rows) c.with_month-new.ensures.front c.with_month-new.ensures.back c.requires.stands.window;
    }

pub returns-clause-range : goal.returns-clause-range
returns-clause-range g c = c.with_month-new.ensures.is ∙ ap (with_month (c.args.self.now.first, c.args.self.now.end)) c.month_number-number.ensures.number

pub returns-clause-covered : goal.returns-clause-covered
returns-clause-covered g c =
    let new = c.with_month-new.result in
    let n = c.month_number-number.ensures.number in
    parts_between new.0 new.1 c.args.month (record { valid = c.requires.month; low = omega (arith, n, c.with_month-new.ensures.low); high = omega (arith, n, c.with_month-new.ensures.high) })

pub returns-clause-same : goal.returns-clause-same
returns-clause-same g c = λ name covered.
    let grid = c.args.self.now in
    let p = between_parts grid.first grid.end name.month covered in
    let n = month_number name.month in
    let inside = based_in grid.first grid.end c.with_month-new.result.0 n p.low p.high in
    c.in_ok-widen.ensures.same name n (subst (λ r. r.0 ≤ n) (sym c.based-old.ensures) inside.0) (subst (λ r. n < r.1) (sym c.based-old.ensures) inside.1) (sym (month_same name.month p.valid))

pub returns-clause-cost : goal.returns-clause-cost
returns-clause-cost g c =
    let grid = c.args.self.now in
    let new = c.with_month-new.result in
    let k = month_cost (length (entries c.args.book.now.rows.categories)) (length (entries c.args.book.now.rows.groups)) in
    let size = based_size grid.first grid.end new.0 new.0 new.1 c.requires.stands.order
    (based_front grid.first grid.end new.0 new.0 c.with_month-new.ensures.front refl)
    (based_back grid.first grid.end new.0 new.1 c.with_month-new.ensures.back (omega (arith, c.with_month-new.ensures.low, c.with_month-new.ensures.high))) in
    omega (arith, c.in_ok-widen.ensures.cost, ap (λ x. k * x) (ap (λ r. (r.0 - new.0) + (new.1 - r.1)) c.based-old.ensures ∙ size))

pub returns-clause-kept : goal.returns-clause-kept
returns-clause-kept g c = λ month covered.
    let grid = c.args.self.now in
    let new = c.with_month-new.result in
    let p = between_parts grid.first grid.end month covered in
    let some : grid.first < grid.end = omega (arith, p.low, p.high) in
    between_more new.0 new.1 grid.first grid.end month (c.with_month-new.ensures.front some) (c.with_month-new.ensures.back some) covered
