use Rattle.std.proofs.Common.{◌≡◌, true, ap, sym, ◌∙◌}
use Rattle.std.specs.Prelude.{is_some, not, ◌||◌}
use Rattle.std.specs.List.{list_any}
use Rattle.std.specs.BTreeSet as set
use Rattle.std.specs.Ordering.{nat_cmp}
use Rattle.std.specs.FinMap as map
use Rattle.book_rows.specs.Rules.{budget_table}
use Rattle.book_rows.specs.Months.{budget_month, month_row_month}
use Rattle.book_rows.specs.Book.{is_month_of}
use Rattle.book_rows.proofs.Pairs.{on_ok}
use Rattle.book_rows.proofs.Named.{any_key-set, or_first}
use Rattle.book_rows.proofs.txs.set_budget.Goals as goal

pub returns-clause-named : goal.returns-clause-named
returns-clause-named c = λ other was. on_ok c.note_month.result (λ e m.
    let known : is_some (budget_table.kind c.args.column) ≡ true = ap is_some (sym c.kind.ensures) ∙ c.is_none.ensures ∙ ap not c.if-is_none.false in
    let here = list_any (λ e. is_month_of m (budget_month e.0)) (map.entries c.args.budgets.now) in
    let there = list_any (λ e. is_month_of m (month_row_month e.0)) (map.entries other) in
    let before = set.contains nat_cmp c.args.named.now m in
    or_first (is_month_of m (budget_month c.args.id.now)) here there (set.contains nat_cmp c.note_month.new.named m) before
    (e m ∙ ap (λ o. is_month_of m o || before) c.budget_month.ensures) (was m)
    ∙ ap (λ b. b || there) (sym (any_key-set (λ id. is_month_of m (budget_month id)) budget_table c.args.id.now c.args.column c.args.value.now c.args.budgets.now c.set.new.self known c.in_ok-set.ensures))) c.note_month.ensures
