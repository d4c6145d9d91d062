-- What writes and edits come to, by the number of writes.
use Rattle.std.proofs.Common.{◌≡◌, ℕ, ◌+◌, ◌-◌, ◌<◌, ◌≤◌, true, false, List, [], ◌∷◌, length, Ok, Err, refl, ap, ◌∙◌, arith}
use Rattle.std.specs.Prelude.{nat_lt}
use Rattle.std.proofs.lemmas.Bool.Decides.{nat_tests}
use Rattle.hybrid_clock.specs.declared.stamp.Stamp.{Stamp}
use Rattle.hybrid_clock.specs.Clock.{draw}
use Rattle.book_rows.specs.declared.fault.EditFault.TheVariants.{TooManyWrites}
use Rattle.book_rows.specs.declared.write.Write.{Write}
use Rattle.edit_history.specs.declared.history.Turn.{Turn}
use Rattle.device_core.specs.declared.edit.LineRefusal.TheVariants.{Edit as OfEdit}
use Rattle.device_core.specs.Device.{State, at_rest, accepted_as, written, writing, first_in_row}

pub writing_none : (s : State) (turn : Turn) (reading : ℕ) (ws : List Write) → length ws ≡ 0 → writing s turn reading (Ok ws) ≡ Ok (accepted_as (at_rest s) 0)
writing_none s turn reading [] none = refl
writing_none s turn reading (w ∷ ws) none = absurd (omega arith)

pub writing_many : (s : State) (turn : Turn) (reading : ℕ) (ws : List Write) → 65_536 < length ws → writing s turn reading (Ok ws) ≡ Err (OfEdit (TooManyWrites (length ws)))
writing_many s turn reading [] many = absurd (omega arith)
writing_many s turn reading (w ∷ ws) many =
    let test : nat_lt 65_536 (length (w ∷ ws)) ≡ true = grind (arith, nat_tests) in rw test refl

pub writing_some : (s : State) (turn : Turn) (reading : ℕ) (ws : List Write) → 0 < length ws → length ws ≤ 65_536 → writing s turn reading (Ok ws) ≡ written s turn ws (draw s.clock reading (length ws))
writing_some s turn reading [] some few = absurd (omega arith)
writing_some s turn reading (w ∷ ws) some few =
    let test : nat_lt 65_536 (length (w ∷ ws)) ≡ false = grind (arith, nat_tests) in rw test refl

pub ruleset writings = (writing_none, writing_many, writing_some)

-- the first of timestamps in a row, by the last
pub first_is : (clock first : Stamp) (n : ℕ) → clock ≡ record first { counter = first.counter + (n - 1) } → first_in_row clock n ≡ first
first_is clock first n row =
    let back : (first.counter + (n - 1)) - (n - 1) ≡ first.counter = omega arith in
    ap (λ (c : Stamp). record c { counter = c.counter - (n - 1) }) row ∙ ap (λ (k : ℕ). record first { counter = k }) back
