use Rattle.std.proofs.Common.{◌≡◌, ℕ, ◌+ℤ◌, ◌+◌, ◌*◌, ◌≤◌, length}
use Rattle.std.specs.FinMap.{entries}
use Rattle.finite_sums.specs.Sums.{total, weight}
use Rattle.finite_sums.specs.Maps.{Text}
use Rattle.envelope_cells.specs.BudgetOf.{share, category_sum}
use Rattle.envelope_cells.specs.Parts.{value_at, sum_name}
use Rattle.envelope_cells.proofs.Rows.{tx_weight}
use Rattle.envelope_cells.proofs.sums.category_sums.Given as goal

abbrev pub invariant-loop-row : goal.invariant-loop-row
invariant-loop-row g l =
    record {
      rest : (c : Text) (month : ℕ) → value_at l.sums (sum_name c month) +ℤ total (λ e. share l.book.rows c month e.1) l.row-iterator ≡ category_sum l.book.rows c month;
      few : weight tx_weight l.row-iterator ≤ weight tx_weight (entries l.book.rows.txs);
      cost : l.steps + length l.row-iterator ≤ l.fn.steps + 2 * length (entries l.book.rows.txs);
    }
