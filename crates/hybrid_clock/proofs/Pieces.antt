-- Texts that are written in pieces.
use Rattle.std.proofs.Common.{◌≡◌, ℕ, ◌+◌, ◌-◌, ◌≤◌, List, ◌++◌, length, take, drop, replicate, arith}
use Rattle.std.proofs.lemmas.Grind.{common_steps}
use Rattle.std.proofs.lemmas.List.{take-replicate}
use borrow.Rule.Slice.PartMut.{put_mid, post_of}

-- a head and then a rest fill what was there
pub assembled : (a b : ℕ) (head rest old : List ℕ) → length head ≡ a → length rest ≡ b → length old ≡ a + b → put_mid a b (head ++ post_of 0 a old) rest ≡ head ++ rest
assembled a b head rest old h n o = grind (arith, common_steps)

-- a text written at the end of one of `0`s
pub at_the_end : (n k : ℕ) (text : List ℕ) → length text ≡ k → k ≤ n → put_mid (n - k) (n - (n - k)) (replicate n 48) text ≡ replicate (n - k) 48 ++ text
at_the_end n k text e h = let within : n - k ≤ n = omega arith in grind (arith, common_steps, take-replicate)

-- what stands from a place on
pub rest_of : (n k : ℕ) (text : List ℕ) → length text ≡ n + k → take k (drop n text) ≡ drop n text
rest_of n k text e = grind (arith, common_steps)
