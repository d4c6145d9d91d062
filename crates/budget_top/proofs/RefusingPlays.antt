-- A run of `generate` or of a world whose words are refused, and the plan of one that isn't.
use Rattle.std.proofs.Common.{◌≡◌, ℕ, ◌⊎◌, inl, inr, List, Option, Some, Bool, true, false, ◌==◌, refl, sym, ap, ◌∙◌, subst, true≢false}
use Rattle.std.specs.Prelude.{IsErr, IsTrue, Result, Ok, Err}
use Rattle.std.specs.List.{list_any}
use Rattle.std.specs.Option.{option_map}
use Rattle.std.specs.Result.{result_ok}
use Rattle.std.proofs.lemmas.Bool.{eqb-true}
use Rattle.budget_top.specs.declared.words.Mode.TheVariants.{World}
use Rattle.budget_top.specs.declared.words.Plan.{Plan}
use Rattle.budget_top.specs.declared.words.WordFault.{WordFault}
use Rattle.budget_top.specs.Words.{planned, planned_mode, IsWordFault, refusal_status}
use Rattle.budget_top.specs.GenerateRun.{GenerateRun}
use Rattle.budget_top.specs.WorldRun.{WorldRun}
use Rattle.budget_top.proofs.Refusing.{refusal}
use Rattle.budget_top.proofs.WorldRuns.{run_untouched}

-- a status is none that it is known not to be
pub not_known : (status number : ℕ) (statuses : List ℕ) → IsTrue (list_any (λ s. status == s) statuses) → list_any (λ s. number == s) statuses ≡ false → (status == number) ≡ false
not_known status number statuses known other = by (status == number) refl
  where
    by : (t : Bool) → (status == number) ≡ t → t ≡ false
    by true e = absurd (true≢false (sym known ∙ ap (λ n. list_any (λ s. n == s) statuses) (eqb-true status number e) ∙ other))
    by false e = refl

-- ---- generate

generate_untouched : (count : ℕ) (taken : Option (List ℕ)) → GenerateRun count 7 taken taken
generate_untouched count taken = record {
  known = refl;
  all_written = λ x. absurd (cc);
  sink_failed = λ x. absurd (cc);
  no_memory = λ x. refl;
}

pub refused_generate : (words : List (List ℕ)) (fault : WordFault) (plan : Plan) (taken : Option (List ℕ)) → IsWordFault (planned words) fault → planned words ≡ Ok plan
    → GenerateRun plan.count (refusal_status fault) taken taken
refused_generate words fault plan taken h is =
    elim (refusal (planned words) fault h) [
      | inl p ↦ absurd (true≢false (sym (subst IsErr is p)))
      | inr seven ↦ subst (λ s. GenerateRun plan.count s taken taken) (sym seven) (generate_untouched plan.count taken)
    ]

-- one plan is asked for
pub generate_along : (asked : Result Plan WordFault) (a b : Plan) (status : ℕ) (taken new_taken : Option (List ℕ)) → asked ≡ Ok a → asked ≡ Ok b
    → GenerateRun a.count status taken new_taken → GenerateRun b.count status taken new_taken
generate_along asked a b status taken new_taken is is_too h =
    let same : a ≡ b = cc in
    let P : Plan → Type 0 = λ p. GenerateRun p.count status taken new_taken in
    subst P same h

-- ---- world

no_mode : (due : Result Plan WordFault) → IsErr due → option_map (λ (plan : Plan). plan.mode) (result_ok due) ≡ Some World → ⊥
no_mode (Ok plan) h e = true≢false (sym h)
no_mode (Err fault) h e = cc

pub refused_world : (words : List (List ℕ)) (fault : WordFault) (left taken : Option (List ℕ)) → IsWordFault (planned words) fault → planned_mode words ≡ Some World
    → WorldRun (refusal_status fault) left left taken taken
refused_world words fault left taken h e =
    elim (refusal (planned words) fault h) [
      | inl p ↦ absurd (no_mode (planned words) p e)
      | inr seven ↦ subst (λ s. WorldRun s left left taken taken) (sym seven) (run_untouched left taken)
    ]
