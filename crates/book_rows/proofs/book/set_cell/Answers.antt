use Rattle.std.proofs.Common.{Result, Ok, Err, OnOk}
use Rattle.book_rows.proofs.Bounds.{tx_bounded, tx_days, budget_bounded, month_bounded, track_bounded}
use Rattle.book_rows.proofs.book.set_cell.Goals as goal

both_ok : {A E : Type 0} {P Q S : Type 0} (r : Result A E) → (P → Q → S) → OnOk r P → OnOk r Q → OnOk r S
both_ok (Ok x) f p q = f p q
both_ok (Err e) f p q = p

pub returns-in-Transactions-clause-indexed : goal.returns-in-Transactions-clause-indexed
returns-in-Transactions-clause-indexed c =
    let was = c.requires.indexed in
    both_ok c.set_tx.result (λ rows index. record {
      txs = index;
      named = was.named;
      numbers = tx_bounded c.args.rows.now.txs c.args.rows.now.budgets c.args.rows.now.months c.args.rows.now.tracked c.args.id.now c.args.column c.args.value.now c.requires.valid was.numbers was.days c.set_tx.new.txs rows;
      days = tx_days c.args.rows.now.txs c.args.rows.now.budgets c.args.rows.now.months c.args.rows.now.tracked c.args.id.now c.args.column c.args.value.now c.requires.valid was.numbers was.days c.set_tx.new.txs rows;
    }) c.set_tx.ensures.rows c.set_tx.ensures.index

pub returns-in-ZeroBudgets-clause-indexed : goal.returns-in-ZeroBudgets-clause-indexed
returns-in-ZeroBudgets-clause-indexed c =
    let was = c.requires.indexed in
    both_ok c.set_budget.result (λ rows named. record {
      txs = was.txs;
      named = named;
      numbers = budget_bounded c.args.rows.now.txs c.args.rows.now.budgets c.args.rows.now.months c.args.rows.now.tracked c.args.id.now c.args.column c.args.value.now c.requires.valid was.numbers c.set_budget.new.budgets rows;
      days = was.days;
    }) c.set_budget.ensures.rows (c.set_budget.ensures.named c.args.rows.now.months was.named)

pub returns-in-ZeroBudgetMonths-clause-indexed : goal.returns-in-ZeroBudgetMonths-clause-indexed
returns-in-ZeroBudgetMonths-clause-indexed c =
    let was = c.requires.indexed in
    both_ok c.set_month.result (λ rows named. record {
      txs = was.txs;
      named = named;
      numbers = month_bounded c.args.rows.now.txs c.args.rows.now.budgets c.args.rows.now.months c.args.rows.now.tracked c.args.id.now c.args.column c.args.value.now c.requires.valid was.numbers c.set_month.new.months rows;
      days = was.days;
    }) c.set_month.ensures.rows (c.set_month.ensures.named c.args.rows.now.budgets was.named)

on_ok : {A E : Type 0} {P Q : Type 0} (r : Result A E) → (P → Q) → OnOk r P → OnOk r Q
on_ok (Ok x) f p = f p
on_ok (Err e) f p = p

pub returns-in-ReflectBudgets-clause-indexed : goal.returns-in-ReflectBudgets-clause-indexed
returns-in-ReflectBudgets-clause-indexed c =
    let was = c.requires.indexed in
    on_ok c.set-in-ReflectBudgets.result (λ rows. record {
      txs = was.txs;
      named = was.named;
      numbers = track_bounded c.args.rows.now.txs c.args.rows.now.budgets c.args.rows.now.months c.args.rows.now.tracked c.args.id.now c.args.column c.args.value.now c.requires.valid was.numbers c.set-in-ReflectBudgets.new.self rows;
      days = was.days;
    }) c.set-in-ReflectBudgets.ensures
