-- What runs have in common that end without a failure.
use Rattle.std.proofs.Common.{◌≡◌, ◌≤◌, ℕ, List, ◌++◌, length, Option, None, Some, Result, Ok, refl, sym, ap, ◌∙◌, subst, arith, append-nil, length-append}
use Rattle.std.specs.Io.KnownBytes.{Consumes, IsAtEnd}
use Rattle.std.specs.Option.{option_map}
use Rattle.std.specs.Result.{result_ok}
use Rattle.budget_top.specs.declared.words.Mode.{Mode}
use Rattle.budget_top.specs.declared.words.Plan.{Plan}
use Rattle.budget_top.specs.declared.words.WordFault.{WordFault}
use Rattle.budget_top.specs.Words.{planned, planned_mode}
use Rattle.budget_top.specs.Limits.{most_input}
use Rattle.budget_top.specs.Unfailed.{IsInput, EndsWell}

-- the mode that the words name is that of their plan
pub named_mode : (asked : List (List ℕ)) (plan : Plan) (mode : Mode) → planned asked ≡ Ok plan → plan.mode ≡ mode → planned_mode asked ≡ Some mode
named_mode asked plan mode is e = ap (λ (r : Result Plan WordFault). option_map (λ (p : Plan). p.mode) (result_ok r)) is ∙ ap Some e

-- no more was read than there was
pub read_within : (left new_left : Option (List ℕ)) (input read : List ℕ) → IsInput left input → Consumes left new_left read → length read ≤ most_input
read_within left new_left input read h reads = by new_left (subst (λ (x : Option (List ℕ)). Consumes x new_left read) h.has reads)
  where
    by : (new : Option (List ℕ)) → Consumes (Some input) new read → length read ≤ most_input
    by None c = absurd c
    by (Some rest) c = omega (arith, h.within, ap length c, length-append read rest)

-- at the end all was read
pub read_all : (left new_left : Option (List ℕ)) (input read : List ℕ) → IsInput left input → Consumes left new_left read → IsAtEnd new_left → read ≡ input
read_all left new_left input read h reads end = by new_left (subst (λ (x : Option (List ℕ)). Consumes x new_left read) h.has reads) end
  where
    by : (new : Option (List ℕ)) → Consumes (Some input) new read → IsAtEnd new → read ≡ input
    by None c e = absurd c
    by (Some rest) c e = sym (c ∙ ap (λ r. read ++ r) e ∙ append-nil read)

-- one of the good statuses
pub ends_well : (status n : ℕ) → EndsWell n → status ≡ n → EndsWell status
ends_well status n good e = subst EndsWell (sym e) good
