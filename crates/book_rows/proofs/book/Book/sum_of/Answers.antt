use Rattle.std.proofs.Common.{◌≡◌, ◌+ℤ◌, ◌+◌, ◌∷◌, ap, ◌∙◌, arith, length}
use Rattle.std.specs.FinMap as map
use Rattle.std.proofs.lemmas.Map.Iter.{rest_more}
use Rattle.std.proofs.lemmas.Int.{ints}
use Rattle.finite_sums.specs.Sums.{total}
use Rattle.finite_sums.specs.Maps.{Text, value_or_zero}
use Rattle.book_rows.specs.Balances.{adds}
use Rattle.book_rows.proofs.book.Book.sum_of.Goals as goal

pub loop-id-preserved : goal.loop-id-preserved
loop-id-preserved c =
    let rows = c.args.self.now.rows in
    let f = λ (id : Text). value_or_zero (adds rows) (map.get rows.txs id) in
    let more : c.loop-id.id-iterator ≡ c.in-Some.id.now ∷ c.next.new.self = rest_more (λ b. b.now) c.loop-id.id-iterator c.next.new.self c.next.result c.in-Some.id c.in-Some.is c.next.ensures.steps in
    let sums : total f c.loop-id.id-iterator ≡ f c.in-Some.id.now +ℤ total f c.next.new.self = ap (total f) more in
    let lens : length c.loop-id.id-iterator ≡ length c.next.new.self + 1 = ap length more ∙ omega arith in
    record {
      rest = omega (arith, ints, sums, c.added_by.ensures, c.loop-id.invariant.rest);
      above = omega (arith, ints, lens, c.loop-id.invariant.above);
      below = omega (arith, ints, lens, c.loop-id.invariant.below);
    }
