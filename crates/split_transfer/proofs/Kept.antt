-- The parts of a transaction are its children that were not deleted.
use Rattle.std.proofs.Common.{◌≡◌, Bool, true, false, refl, sym, ◌∙◌}
use Rattle.std.specs.Prelude.{not, ◌&&◌}
use lib.IntN.{ℤ}
use Rattle.std.specs.FinMap as map
use Rattle.finite_sums.specs.Sums.{total, only_if}
use Rattle.finite_sums.specs.Maps.{Text, value_or_zero}
use Rattle.finite_sums.proofs.Texts.{text_total, text_same}
use Rattle.finite_sums.proofs.MapSums.{total_same}
use Rattle.book_rows.specs.declared.rows.Rows.{Rows}
use Rattle.book_rows.specs.declared.rows.TxRow.{TxRow}
use Rattle.book_rows.specs.Parts.{is_child_of, children_of}
use Rattle.book_rows.proofs.Balances.{total_of-keys_where}
use Rattle.split_transfer.specs.Pairs.{share, parts_sum}

-- the amount of a row that was not deleted, or else 0
abbrev pub kept_amount : TxRow → ℤ
kept_amount x = only_if (not x.tombstone) x.amount

abbrev pub amount_at : Rows → Text → ℤ
amount_at rows id = value_or_zero kept_amount (map.get rows.txs id)

both : (a b : Bool) (z : ℤ) → only_if (a && b) z ≡ only_if a (only_if b z)
both true b z = refl
both false b z = refl

-- the sum over the children
pub parts_sum_is : (rows : Rows) (id : Text) → total (amount_at rows) (children_of rows id) ≡ parts_sum rows id
parts_sum_is rows id =
    sym (total_of-keys_where (is_child_of id) kept_amount rows.txs)
    ∙ sym (total_same text_total text_same (share id) (λ x. only_if (is_child_of id x) (kept_amount x)) rows.txs (λ q x h. both (is_child_of id x) (not x.tombstone) x.amount))
