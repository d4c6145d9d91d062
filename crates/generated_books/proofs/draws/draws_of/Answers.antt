use Rattle.std.proofs.Common.{ℕ, ◌/◌, List, [], ◌∷◌, ◌++◌, sym, ap, ◌∙◌, arith}
use Rattle.generated_books.specs.Draws.{next}
use Rattle.generated_books.proofs.Drawn.{first_number, next_number, draws_more}
use Rattle.generated_books.proofs.draws.draws_of.Goals as goal

pub loop-at-init : goal.loop-at-init
loop-at-init c = record { number = sym first_number; below = omega arith; draws = c.new-draws.ensures.items }

pub loop-at-preserved : goal.loop-at-preserved
loop-at-preserved c =
    let before = c.loop-at.invariant in record {
      number = c.next-number.ensures.is ∙ ap next before.number ∙ sym (next_number c.loop-at._at);
      below = c.next-number.ensures.below;
      draws =
          c.in_ok-push.ensures.items
          ∙ ap (λ (x : ℕ). c.loop-at.draws.items ++ (x / 256) ∷ []) c.next-number.ensures.is
          ∙ draws_more c.loop-at._at c.loop-at.number c.loop-at.draws.items before.draws before.number;
    }
