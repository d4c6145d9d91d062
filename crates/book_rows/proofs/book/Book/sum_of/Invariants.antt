use Rattle.std.proofs.Common.{◌≡◌, ◌+ℤ◌, ◌-ℤ◌, ◌*◌, ◌^◌, ◌≤ℤ◌, neg_ℤ, pos, length}
use Rattle.std.specs.FinMap as map
use Rattle.finite_sums.specs.Sums.{total}
use Rattle.finite_sums.specs.Maps.{value_or_zero}
use Rattle.book_rows.specs.Balances.{adds}
use Rattle.book_rows.proofs.book.Book.sum_of.Given as goal

abbrev pub invariant-loop-id : goal.invariant-loop-id
invariant-loop-id l =
    record {
      rest : l.sum +ℤ total (λ id. value_or_zero (adds l.self.rows) (map.get l.self.rows.txs id)) l.id-iterator ≡ total (λ id. value_or_zero (adds l.self.rows) (map.get l.self.rows.txs id)) l.ids.keys;
      above : (l.sum +ℤ pos (2 ^ 63 * length l.id-iterator)) ≤ℤ pos (2 ^ 63 * length l.ids.keys);
      below : neg_ℤ (pos (2 ^ 63 * length l.ids.keys)) ≤ℤ (l.sum -ℤ pos (2 ^ 63 * length l.id-iterator));
    }
