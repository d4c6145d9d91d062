use Rattle.std.proofs.Common.{◌≡◌, ℕ, ◌<◌, List, map}
use Rattle.std.specs.List.{range_with_len}
use Rattle.generated_books.specs.Draws.{modulus, number_drawn, draw}
use Rattle.generated_books.proofs.draws.draws_of.Given as goal

-- so many draws were made, and the number is the last one that was drawn
pub record IsDrawn (last : ℕ) (made : List ℕ) (at : ℕ) : Type 0 where
  pub number : last ≡ number_drawn at
  pub below : last < modulus
  pub draws : made ≡ map draw (range_with_len 1 at)

abbrev pub invariant-loop-at : goal.invariant-loop-at
invariant-loop-at l = IsDrawn l.number l.draws.items l._at
