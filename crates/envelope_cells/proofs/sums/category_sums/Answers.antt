use Rattle.std.proofs.Common.{◌≡◌, ◌+◌, ◌≤◌, ◌∷◌, ap, ◌∙◌, arith, length, unsigned_abs, rules}
use Rattle.std.specs.Map.Iter.{deref_pair}
use Rattle.std.specs.FinMap.{entries, get-empty}
use Rattle.std.specs.Prelude.{unwrap_or}
use lib.IntN.{pos}
use Rattle.envelope_cells.specs.Names.{cell_cmp}
use Rattle.std.proofs.lemmas.Map.Iter.{rest_more}
use Rattle.std.proofs.lemmas.Int.{ints}
use Rattle.finite_sums.specs.Sums.{total, weight}
use Rattle.finite_sums.specs.Maps.{Text}
use Rattle.book_rows.specs.declared.rows.TxRow.{TxRow}
use Rattle.envelope_cells.specs.BudgetOf.{share, category_sum}
use Rattle.envelope_cells.specs.Parts.{value_at, sum_name}
use Rattle.envelope_cells.proofs.Rows.{tx_weight, txs_small, shares_small}
use Rattle.envelope_cells.proofs.sums.category_sums.Goals as goal

pub add_row-requires : goal.add_row-requires
add_row-requires g c = λ q m.
    let r = c.args.book.now.rows in
    let rest = c.loop-row.invariant.rest q m in
    let few = c.loop-row.invariant.few in
    let all : unsigned_abs (category_sum r q m) ≤ weight tx_weight (entries r.txs) = shares_small r q m (entries r.txs) in
    let left : unsigned_abs (total (λ e. share r q m e.1) c.loop-row.row-iterator) ≤ weight tx_weight c.loop-row.row-iterator = shares_small r q m c.loop-row.row-iterator in
    omega (arith, ints, rest, few, all, left, txs_small r c.sizes.ensures)

pub loop-row-preserved : goal.loop-row-preserved
loop-row-preserved g c =
    let r = c.args.book.now.rows in
    let more : c.loop-row.row-iterator ≡ (c.in-Some.field-0-0.now, c.in-Some.row.now) ∷ c.next.new.self = rest_more deref_pair c.loop-row.row-iterator c.next.new.self c.next.result (c.in-Some.field-0-0, c.in-Some.row) c.in-Some.is c.next.ensures.steps in
    let lens : length c.loop-row.row-iterator ≡ length c.next.new.self + 1 = ap length more ∙ omega arith in
    record {
      rest = λ q m.
          let f = λ (e : Text × TxRow). share r q m e.1 in
          omega (arith, ints, ap (total f) more, c.in_ok-add_row.ensures.added q m, c.loop-row.invariant.rest q m);
      few = omega (arith, ap (weight tx_weight) more, c.loop-row.invariant.few);
      cost = omega (arith, lens, c.loop-row.invariant.cost, c.in_ok-add_row.ensures.cost);
    }

pub loop-row-init : goal.loop-row-init
loop-row-init g c =
    let r = c.args.book.now.rows in
    let its : c.into_iter-row-iterator.result ≡ entries r.txs = search rules in
    record {
      rest = λ q m.
          let none : value_at c.new-sums.result (sum_name q m) ≡ pos 0 = ap (λ s. value_at s (sum_name q m)) c.new-sums.ensures ∙ ap (λ o. unwrap_or o (pos 0)) (get-empty cell_cmp (sum_name q m)) in
          let f = λ (e : Text × TxRow). share r q m e.1 in
          omega (arith, ints, none, ap (total f) its);
      few = omega (arith, ap (weight tx_weight) its);
      cost = omega (arith, ap length its, c.txs-row-items.ensures.cost);
    }
