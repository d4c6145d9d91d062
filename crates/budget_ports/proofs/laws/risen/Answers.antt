use Rattle.std.proofs.Common.{◌≡◌, ◌<◌, ℕ, Bool, true, false, refl, arith}
use Rattle.budget_ports.specs.Faults.{count_after, IsUnfailed}
use Rattle.budget_ports.proofs.laws.risen.Goals as goal

-- a count below its end stands still exactly where no call failed
did_not : (failed : Bool) (count : ℕ) → count < 18446744073709551615 → IsUnfailed count (count_after failed count) → failed ≡ false
did_not true count below h = absurd (omega (arith, below, h.same))
did_not false count below h = refl

stands_still : (failed : Bool) (count : ℕ) → count < 18446744073709551615 → failed ≡ false → IsUnfailed count (count_after failed count)
stands_still true count below e = absurd (cc)
stands_still false count below e = record { below = below; same = refl }

pub returns : goal.returns
returns c = record {
  rises = λ count below. omega arith;
  stands = refl;
  others = λ count. refl;
  told = λ failed count below. (did_not failed count below, stands_still failed count below);
}
