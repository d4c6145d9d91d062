-- The calls of an object in memory: which of them fail, and how many were made.
use Rattle.std.specs.Prelude.{ℕ, Bool, List, ◌==◌}
use Rattle.std.specs.List.{list_any}
use Rattle.budget_ports.specs.Faults.{risen}

-- the numbers of the calls that fail, the number of the next call, and how many calls have failed
pub record CallState : Type 0 where
  pub listed : List ℕ
  pub made : ℕ
  pub faults : ℕ

-- before the first call, which has the number 0
abbrev pub no_calls : List ℕ → CallState
no_calls listed = record { listed = listed; made = 0; faults = 0 }

-- whether the next call is one of those that fail
abbrev pub is_listed : CallState → Bool
is_listed calls = list_any (λ number. number == calls.made) calls.listed

-- after a call that did its work
abbrev pub answered : CallState → CallState
answered calls = record calls { made = risen calls.made }

-- after a call that failed
abbrev pub failed : CallState → CallState
failed calls = record calls { made = risen calls.made; faults = risen calls.faults }
