use Rattle.std.proofs.Common.{◌≡◌, true, ap, sym, ◌∙◌}
use Rattle.std.specs.Prelude.{is_some, not, ◌||◌}
use Rattle.std.specs.List.{list_any}
use Rattle.std.specs.BTreeSet as set
use Rattle.std.specs.Ordering.{nat_cmp}
use Rattle.std.specs.FinMap as map
use Rattle.book_rows.specs.Rules.{month_table}
use Rattle.book_rows.specs.Months.{budget_month, month_row_month}
use Rattle.book_rows.specs.Book.{is_month_of}
use Rattle.book_rows.proofs.Pairs.{on_ok}
use Rattle.book_rows.proofs.Named.{any_key-set, or_second}
use Rattle.book_rows.proofs.txs.set_month.Goals as goal

pub returns-clause-named : goal.returns-clause-named
returns-clause-named c = λ other was. on_ok c.note_month.result (λ e m.
    let known : is_some (month_table.kind c.args.column) ≡ true = ap is_some (sym c.kind.ensures) ∙ c.is_none.ensures ∙ ap not c.if-is_none.false in
    let here = list_any (λ e. is_month_of m (month_row_month e.0)) (map.entries c.args.months.now) in
    let there = list_any (λ e. is_month_of m (budget_month e.0)) (map.entries other) in
    let before = set.contains nat_cmp c.args.named.now m in
    or_second (is_month_of m (month_row_month c.args.id.now)) there here (set.contains nat_cmp c.note_month.new.named m) before
    (e m ∙ ap (λ o. is_month_of m o || before) c.month_row_month.ensures) (was m)
    ∙ ap (λ b. there || b) (sym (any_key-set (λ id. is_month_of m (month_row_month id)) month_table c.args.id.now c.args.column c.args.value.now c.args.months.now c.set.new.self known c.in_ok-set.ensures))) c.note_month.ensures
