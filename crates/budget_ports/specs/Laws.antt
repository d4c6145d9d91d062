-- What the laws on counts of failures and on replies say.
use Rattle.std.specs.Prelude.{◌≡◌, ◌↔◌, ℕ, ◌+◌, ◌-◌, ◌<◌, min, true, false, Bool, List, length}
use Rattle.std.specs.List.{slice_get}
use Rattle.budget_ports.specs.Faults.{count_after, IsUnfailed}
use Rattle.budget_ports.specs.Script.{after_replies}

-- a failure is counted once below the last value of 64 bits, at which a count stands still, and other calls are not counted
pub record CountsRise : Type 0 where
  pub rises : (count : ℕ) → count < 18446744073709551615 → count_after true count ≡ count + 1
  pub stands : count_after true 18446744073709551615 ≡ 18446744073709551615
  pub others : (count : ℕ) → count_after false count ≡ count
  -- a count that can rise and did not rise over a call tells that the call did not fail, and the other way
  pub told : (failed : Bool) (count : ℕ) → count < 18446744073709551615 → IsUnfailed count (count_after failed count) ↔ (failed ≡ false)

-- after n replies the next one is that behind them, and after all of them the last one, whatever n is
abbrev pub RepliesRepeat : Type 0
RepliesRepeat = (replies : List (List ℕ)) (n : ℕ) → slice_get (after_replies n replies) 0 ≡ slice_get replies (min n (length replies - 1))
