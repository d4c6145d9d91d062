use Rattle.std.proofs.Common.{◌≡◌, ℕ, ◌≤◌, false, arith}
use Rattle.std.specs.declared.cmp.Ordering.{Ordering}
use Rattle.std.specs.Ordering.{is_gt, is_lt, nat_cmp, ordering_then}
use Rattle.std.proofs.lemmas.Grind.{common_steps}
use Rattle.finite_sums.specs.Maps.{text_cmp}
use Rattle.book_rows.proofs.book.dated_span.Goals as goal

not_above : (a b : ℕ) (o : Ordering) → is_gt (ordering_then (nat_cmp a b) o) ≡ false → a ≤ b
not_above a b o h = grind (arith, common_steps)

not_below : (a b : ℕ) (o : Ordering) → is_lt (ordering_then (nat_cmp b a) o) ≡ false → a ≤ b
not_below a b o h = grind (arith, common_steps)

pub returns-in-Some-Some : goal.returns-in-Some-Some
returns-in-Some-Some c =
    let first = c.in-Some-Some.first.now in
    let last = c.in-Some-Some.last.now in record {
      first = (first.1, c.in-Some-Some.ensures.member);
      last = (last.1, c.in-Some-Some.ensures'.member);
      from = λ m h. not_above first.0 m (text_cmp first.1 h.0) (c.in-Some-Some.ensures.least (m, h.0) h.1);
      up_to = λ m h. not_below m last.0 (text_cmp last.1 h.0) (c.in-Some-Some.ensures'.greatest (m, h.0) h.1);
    }
