-- The first transaction, worked out by hand.
use Rattle.std.proofs.Common.{◌≡◌, refl}
use Rattle.std.specs.Fmt.{digits}
use Rattle.generated_books.specs.Draws.{next, number_drawn, draw}
use Rattle.generated_books.specs.Generated.{transaction}
use Rattle.generated_books.specs.Numbers.{IsWorkedOut}

pub worked_out : IsWorkedOut
unfolding next number_drawn draw transaction digits
worked_out = record { numbers = refl; first = refl }
