use Rattle.std.proofs.Common.{◌+◌, ◌*◌, ◌≤◌, sym, ap, ◌∙◌, subst, length}
use Rattle.envelope_cells.specs.BudgetOf.{budget_of, groups_of}
use Rattle.dirty_cells.specs.Grid.{Marks, SameBefore}
use Rattle.dirty_cells.specs.Bound.{different, pairs, touched_categories, touched_groups, first_touched}
use Rattle.dirty_cells.proofs.Following.{marks_follow, before_follows, order_follows}
use Rattle.dirty_cells.proofs.Few.{few_categories, few_groups}
use Rattle.dirty_cells.proofs.FewMonths.{few_months}
use Rattle.dirty_cells.proofs.marks.follow.Goals as goal

pub returns-in-Ok-clause-marks : goal.returns-in-Ok-clause-marks
returns-in-Ok-clause-marks g c =
    let r = c.args.book.now.rows in
    let m = c.in-Ok.marked in
    let f = c.in-Ok.ensures.marked in
    subst (λ z. Marks r z m.categories m.groups) (sym c.in-Ok.ensures.book) (marks_follow r c.args.changes.now f.ids m f.followed f.spares)

pub returns-in-Ok-clause-before : goal.returns-in-Ok-clause-before
returns-in-Ok-clause-before g c = λ k l.
    let r = c.args.book.now.rows in
    let m = c.in-Ok.marked in
    let f = c.in-Ok.ensures.marked in
    subst (λ z. SameBefore (budget_of r) (budget_of z) m.from) (sym c.in-Ok.ensures.book) (before_follows r c.args.changes.now f.ids m f.followed f.spares k l)

pub returns-in-Ok-clause-groups : goal.returns-in-Ok-clause-groups
returns-in-Ok-clause-groups g c = λ h.
    let f = c.in-Ok.ensures.marked in
    order_follows c.args.book.now.rows c.args.changes.now f.ids c.in-Ok.marked f.followed f.spares h ∙ ap groups_of (sym c.in-Ok.ensures.book)

pub returns-in-Ok-clause-few_categories : goal.returns-in-Ok-clause-few_categories
returns-in-Ok-clause-few_categories g c = λ d.
    let r = c.args.book.now.rows in
    let changes = c.args.changes.now in
    let m = c.in-Ok.marked in
    subst (λ z. length m.categories ≤ different (touched_categories r z changes)) (sym c.in-Ok.ensures.book) (few_categories r changes m c.in-Ok.ensures.marked d c.in-Ok.ensures.distinct.0)

pub returns-in-Ok-clause-few_groups : goal.returns-in-Ok-clause-few_groups
returns-in-Ok-clause-few_groups g c = λ d.
    let r = c.args.book.now.rows in
    let changes = c.args.changes.now in
    let m = c.in-Ok.marked in
    subst (λ z. length m.groups ≤ different (touched_groups r z changes)) (sym c.in-Ok.ensures.book) (few_groups r changes m c.in-Ok.ensures.marked d c.in-Ok.ensures.distinct.1)

pub returns-in-Ok-clause-few_months : goal.returns-in-Ok-clause-few_months
returns-in-Ok-clause-few_months g c = λ d.
    let r = c.args.book.now.rows in
    let changes = c.args.changes.now in
    let m = c.in-Ok.marked in
    subst (λ z. first_touched r z changes ≤ m.from) (sym c.in-Ok.ensures.book) (few_months r changes m c.in-Ok.ensures.marked d)

pub returns-in-Ok-clause-cost : goal.returns-in-Ok-clause-cost
returns-in-Ok-clause-cost g c = λ d.
    let r = c.args.book.now.rows in
    let changes = c.args.changes.now in
    subst (λ z. c.set_and_mark.new.steps ≤ c.args.steps.now + 7 * (length changes + pairs r z changes)) (sym c.in-Ok.ensures.book) (c.in-Ok.ensures.cost d)
