-- The draws that transactions are made of.
use Rattle.std.specs.Prelude.{ℕ, zero, suc, ◌+◌, ◌*◌, ◌/◌, ◌%◌}

-- how many numbers there are among which the next one is drawn
abbrev pub modulus : ℕ
modulus = 2_147_483_648

-- the number that follows one
unfoldable pub next : ℕ → ℕ
next x = (1_103_515_245 * x + 12_345) % modulus

-- the numbers, from 1 on
unfoldable pub number_drawn : ℕ → ℕ
number_drawn zero = 1
number_drawn (suc i) = next (number_drawn i)

-- the draw with a number: what is drawn, without its last eight binary digits
unfoldable pub draw : ℕ → ℕ
draw i = number_drawn i / 256
