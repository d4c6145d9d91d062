-- What a run of the mode `merge` has done, by its status.
use Rattle.std.specs.Prelude.{◌≡◌, ◌⊎◌, ℕ, ◌+◌, ◌<◌, ◌≤◌, Bool, true, false, ◌==◌, List, [], ◌∷◌, length, take, Option, IsTrue}
use Rattle.std.specs.List.{list_any}
use Rattle.std.specs.Io.KnownBytes.{Appends, Consumes, IsAtEnd}
use Rattle.budget_top.specs.Lines.{whole_lines, all_lines}
use Rattle.budget_top.specs.Verdicts.{bad_lines, some_bad, merge_text}
use Rattle.budget_top.specs.Fronts.{IsFront}
use Rattle.budget_top.specs.Limits.{most_input}

-- the statuses of such a run
abbrev pub statuses : List ℕ
statuses = 0 ∷ 1 ∷ 4 ∷ 5 ∷ 7 ∷ 9 ∷ []

-- all was read, it has a bad line or none, and all was written
pub record MergesAll (has_bad : Bool) (new_left : Option (List ℕ)) (read written : List ℕ) : Type 0 where
  pub within : length read ≤ most_input
  pub at_end : IsAtEnd new_left
  pub bad : some_bad (all_lines read) ≡ has_bad
  pub text : written ≡ merge_text read

-- the source failed: the bad ones of the whole lines were written
pub record MergesTaken (read written : List ℕ) : Type 0 where
  pub within : length read ≤ most_input
  pub text : written ≡ bad_lines (whole_lines read)

-- a byte past the limit came: the bad ones of the whole lines before that place were written
pub record MergesLimit (read written : List ℕ) : Type 0 where
  pub past : most_input < length read
  pub text : written ≡ bad_lines (whole_lines (take most_input read))

-- The run broke off: what was written is a front of what was due. These are the bad ones of the whole lines before the limit,
-- or all that is written of an input that had ended.
abbrev pub BreaksOff : Option (List ℕ) → List ℕ → List ℕ → Type 0
BreaksOff new_left read written =
    IsFront written (bad_lines (whole_lines (take most_input read))) ⊎ IsAtEnd new_left × (length read ≤ most_input) × IsFront written (merge_text read)

-- what was read and written, as far as source and sink tell, and how the status follows from it
pub record MergeRun (status : ℕ) (left new_left taken new_taken : Option (List ℕ)) : Type 0 where
  pub read : List ℕ
  pub written : List ℕ
  pub reads : Consumes left new_left read
  pub writes : Appends taken new_taken written
  -- no more than one byte past the limit was read
  pub asked : length read ≤ most_input + 1
  pub known : IsTrue (list_any (λ s. status == s) statuses)
  pub all_good : status ≡ 0 → MergesAll false new_left read written
  pub some_refused : status ≡ 1 → MergesAll true new_left read written
  pub source_failed : status ≡ 4 → MergesTaken read written
  pub sink_failed : status ≡ 5 → BreaksOff new_left read written
  pub no_memory : status ≡ 7 → BreaksOff new_left read written
  pub too_much : status ≡ 9 → MergesLimit read written
