-- A run whose words are refused.
use Rattle.std.proofs.Common.{◌≡◌, ℕ, ◌⊎◌, inl, inr, List, Option, Some, refl, sym, subst, ◌∙◌, false, true≢false, arith}
use Rattle.std.proofs.lemmas.Bool.{false≢true, eq-eqb}
use Rattle.std.specs.Prelude.{IsErr, IsTrue, ◌==◌, Result, Ok, Err}
use Rattle.std.specs.List.{list_any}
use Rattle.std.specs.Option.{option_map}
use Rattle.std.specs.Result.{result_ok}
use Rattle.budget_top.specs.declared.words.Mode.TheVariants.{Merge}
use Rattle.budget_top.specs.declared.words.Plan.{Plan}
use Rattle.budget_top.specs.declared.words.WordFault.{WordFault}
use Rattle.budget_top.specs.declared.words.WordFault.TheVariants.{Words, Mode as BadMode, NodeMissing, Node as BadNode, Count, Token, Name, NoMemory}
use Rattle.budget_top.specs.Words.{planned, planned_mode, IsWordFault, refusal_status}
use Rattle.budget_top.specs.MergeRun.{MergeRun}
use Rattle.device_sync.specs.declared.target.Target.{Target}
use Rattle.budget_top.specs.Seen.{Seen}
use Rattle.budget_top.specs.ServeRun.{AtDoor, ServeRun}
use Rattle.budget_top.specs.DeviceRun.{device_statuses, Unopened, Opened, DeviceRun, target_of}
use Rattle.budget_top.proofs.Running.{run_untouched}

-- the words are at fault, or memory ran out
at_fault : (due : Result Plan WordFault) (fault : WordFault) → due ≡ Err fault → IsErr due
at_fault due fault e = subst IsErr (sym e) refl

pub refusal : (due : Result Plan WordFault) (fault : WordFault) → IsWordFault due fault → IsErr due ⊎ (refusal_status fault ≡ 7)
refusal due Words h = inl (at_fault due Words h)
refusal due BadMode h = inl (at_fault due BadMode h)
refusal due NodeMissing h = inl (at_fault due NodeMissing h)
refusal due (BadNode found) h = inl (at_fault due (BadNode found) h)
refusal due Count h = inl (at_fault due Count h)
refusal due Token h = inl (at_fault due Token h)
refusal due Name h = inl (at_fault due Name h)
refusal due NoMemory h = inr refl

no_mode : (due : Result Plan WordFault) → IsErr due → option_map (λ (plan : Plan). plan.mode) (result_ok due) ≡ Some Merge → ⊥
no_mode (Ok plan) h e = true≢false (sym h)
no_mode (Err fault) h e = cc

pub refused_merge : (words : List (List ℕ)) (fault : WordFault) (left taken : Option (List ℕ)) → IsWordFault (planned words) fault → planned_mode words ≡ Some Merge → MergeRun (refusal_status fault) left left taken taken
refused_merge words fault left taken h e =
    elim (refusal (planned words) fault h) [
      | inl p ↦ absurd (no_mode (planned words) p e)
      | inr seven ↦ subst (λ s. MergeRun s left left taken taken) (sym seven) (run_untouched left taken)
    ]

-- ---- the mode `device`

-- the target of a run is this one
pub with_target : {node : List ℕ} {target other : Target} {status : ℕ} {left new_left : Option (List ℕ)} {faults new_faults : ℕ} {old now : Seen}
    → target ≡ other → DeviceRun node target status left new_left faults new_faults old now → DeviceRun node other status left new_left faults new_faults old now
with_target {node} {target} {other} {status} {left} {new_left} {faults} {new_faults} {old} {now} same h =
    let P : Target → Type 0 = λ t. DeviceRun node t status left new_left faults new_faults old now in
    subst P same h

-- no run of a device says that its words are refused
pub device_not_refused : (node : List ℕ) (target : Target) (status : ℕ) (left new_left : Option (List ℕ)) (faults new_faults : ℕ) (old now : Seen) → DeviceRun node target status left new_left faults new_faults old now → status ≡ 2 → ⊥
device_not_refused node target status left new_left faults new_faults old now h two = by h.opening
  where
    by : Unopened status left new_left faults new_faults old now ⊎ Opened node target status left new_left old now → ⊥
    by (inl u) = elim u.how [ inl bad ↦ omega (arith, two, bad.0) | inr stop ↦ elim stop.0 [ inl six ↦ omega (arith, two, six) | inr seven ↦ omega (arith, two, seven) ] ]
    by (inr o) = let P : ℕ → Type 0 = λ n. IsTrue (list_any (λ s. n == s) device_statuses) in true≢false (sym (subst P two o.answered.known))

-- one plan is asked for, so one node
pub device_along : (asked : Result Plan WordFault) (a b : Plan) (m n : List ℕ) (status : ℕ) (left new_left : Option (List ℕ)) (faults new_faults : ℕ) (old now : Seen)
    → asked ≡ Ok a → a.node ≡ Some m → asked ≡ Ok b → b.node ≡ Some n → DeviceRun m (target_of a) status left new_left faults new_faults old now → DeviceRun n (target_of b) status left new_left faults new_faults old now
device_along asked a b m n status left new_left faults new_faults old now is has is_too has_too h =
    let same : a ≡ b = cc in
    let nodes : m ≡ n = cc in
    let P : Plan → Type 0 = λ p. DeviceRun m (target_of p) status left new_left faults new_faults old now in
    let Q : List ℕ → Type 0 = λ x. DeviceRun x (target_of b) status left new_left faults new_faults old now in
    subst Q nodes (subst P same h)

-- ---- the mode `serve`

pub never_so : (status number : ℕ) → status ≡ number → (status == number) ≡ false → ⊥
never_so status number is other = false≢true (sym other ∙ eq-eqb status number is)

serve_untouched : (plan : Plan) (now : AtDoor) → ServeRun plan 7 now now
serve_untouched plan now = record {
  told = λ t. t;
  opening = inl (record {
    known = inr refl;
    taken = refl;
    waiting = refl;
    outs = refl;
    door_faults = refl;
    keeper_faults = refl;
    contents = λ t. refl;
    stops = λ c left. inl left;
  });
}

pub refused_serve : (words : List (List ℕ)) (fault : WordFault) (plan : Plan) (now : AtDoor) → IsWordFault (planned words) fault → planned words ≡ Ok plan → ServeRun plan (refusal_status fault) now now
refused_serve words fault plan now h is =
    elim (refusal (planned words) fault h) [
      | inl p ↦ absurd (true≢false (sym (subst IsErr is p)))
      | inr seven ↦ subst (λ s. ServeRun plan s now now) (sym seven) (serve_untouched plan now)
    ]

-- one plan is asked for
pub serve_along : (asked : Result Plan WordFault) (a b : Plan) (status : ℕ) (old now : AtDoor) → asked ≡ Ok a → asked ≡ Ok b → ServeRun a status old now → ServeRun b status old now
serve_along asked a b status old now is is_too h =
    let same : a ≡ b = cc in
    let P : Plan → Type 0 = λ p. ServeRun p status old now in
    subst P same h
