-- Names that are equal in their order are equal.
use Rattle.std.proofs.Common.{◌≡◌, ℕ, ◌==◌, cond, refl, ap, sym, ◌∙◌}
use Rattle.std.specs.Ordering.{nat_cmp}
use Rattle.std.proofs.lemmas.Map.Lookups.{exact_bytes, exact_unsigned, exact_pairs}
use Rattle.std.specs.FinMap.{IsAntisymmetric}
use Rattle.finite_sums.specs.Maps.{Text, text_cmp}
use Rattle.envelope_cells.specs.declared.name.CellName.{CellName}
use Rattle.envelope_cells.specs.declared.name.CellKind.{CellKind}
use Rattle.envelope_cells.specs.declared.name.CellKind.TheVariants.{TotalIncome, FromLastMonth, AvailableFunds, LastMonthOverspent, TotalBudgeted, Buffered, ToBudget, TotalSpent, TotalLeftover, GroupSum, GroupBudget, GroupLeftover, Sum, Budget as OfBudget, Carryover, Leftover}
use Rattle.envelope_cells.specs.Names.{cell_cmp, kind_number}

kind_at : ℕ → CellKind
kind_at n =
    cond (n == 0) TotalIncome (cond (n == 1) FromLastMonth (cond (n == 2) AvailableFunds (cond (n == 3) LastMonthOverspent
    (cond (n == 4) TotalBudgeted (cond (n == 5) Buffered (cond (n == 6) ToBudget (cond (n == 7) TotalSpent
    (cond (n == 8) TotalLeftover (cond (n == 9) GroupSum (cond (n == 10) GroupBudget (cond (n == 11) GroupLeftover
    (cond (n == 12) Sum (cond (n == 13) OfBudget (cond (n == 14) Carryover Leftover))))))))))))))

kind_back : (k : CellKind) → kind_at (kind_number k) ≡ k
unfolding kind_at
kind_back TotalIncome = refl
kind_back FromLastMonth = refl
kind_back AvailableFunds = refl
kind_back LastMonthOverspent = refl
kind_back TotalBudgeted = refl
kind_back Buffered = refl
kind_back ToBudget = refl
kind_back TotalSpent = refl
kind_back TotalLeftover = refl
kind_back GroupSum = refl
kind_back GroupBudget = refl
kind_back GroupLeftover = refl
kind_back Sum = refl
kind_back OfBudget = refl
kind_back Carryover = refl
kind_back Leftover = refl

as_pair : CellName → ℕ × (ℕ × Text)
as_pair n = (n.month, (kind_number n.kind, n.id))

from_pair : ℕ × (ℕ × Text) → CellName
from_pair p = record { month = p.0; kind = kind_at p.1.0; id = p.1.1 }

pair_back : (n : CellName) → from_pair (as_pair n) ≡ n
unfolding as_pair from_pair
pair_back n = λ i. record { month = n.month; kind = kind_back n.kind i; id = n.id }

pub cells_same : IsAntisymmetric cell_cmp
unfolding as_pair
cells_same a b h = sym (pair_back a) ∙ ap from_pair (exact_pairs nat_cmp _ exact_unsigned (exact_pairs nat_cmp text_cmp exact_unsigned exact_bytes) (as_pair a) (as_pair b) h) ∙ pair_back b
