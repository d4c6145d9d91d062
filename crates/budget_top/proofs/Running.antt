-- The run as a whole.
use Rattle.std.proofs.Common.{◌≡◌, inl, inr, ℕ, ◌+◌, ◌≤◌, List, [], refl, sym, subst, Option, length, take, arith}
use Rattle.std.proofs.KnownBytes.{Consumes-nil}
use Rattle.std.specs.Io.KnownBytes.{Appends, Consumes, IsAtEnd}
use Rattle.budget_top.specs.declared.stop.Stop.{Stop}
use Rattle.budget_top.specs.declared.stop.Stop.TheVariants.{Memory, Sink}
use Rattle.budget_top.specs.Lines.{whole_lines}
use Rattle.budget_top.specs.Verdicts.{bad_lines, merge_text}
use Rattle.budget_top.specs.Fronts.{AppendsFront}
use Rattle.budget_top.specs.Limits.{most_input, HasRead}
use Rattle.budget_top.specs.MergeRun.{MergeRun, BreaksOff}
use Rattle.budget_top.specs.declared.merge.Merge.{Merge}
use Rattle.budget_top.specs.Stops.{stop_status}
use Rattle.budget_top.specs.Steps.{Stands}
use Rattle.budget_top.proofs.Standing.{front_none}

-- so many bytes were read and dealt with
pub record ReadSoFar (left new_left entry now : Option (List ℕ)) (count : ℕ) (m : Merge) : Type 0 where
  pub read : List ℕ
  pub reads : Consumes left new_left read
  pub many : length read ≡ count
  pub stands : Stands entry now read m

pub run_too_much : (left new_left taken new_taken : Option (List ℕ)) (read : List ℕ) → HasRead left new_left read → most_input + 1 ≤ length read → Appends taken new_taken (bad_lines (whole_lines (take most_input read))) → MergeRun 9 left new_left taken new_taken
run_too_much left new_left taken new_taken read h past writes = record {
  read = read;
  written = bad_lines (whole_lines (take most_input read));
  reads = h.reads;
  writes = writes;
  asked = h.asked;
  known = refl;
  all_good = λ e. absurd (omega arith);
  some_refused = λ e. absurd (omega arith);
  source_failed = λ e. absurd (omega arith);
  sink_failed = λ e. absurd (omega arith);
  no_memory = λ e. absurd (omega arith);
  too_much = λ e. record { past = omega arith; text = refl };
}

run_broken : (left new_left taken new_taken : Option (List ℕ)) (read : List ℕ) (stop : Stop) (written : List ℕ) → HasRead left new_left read → Appends taken new_taken written → BreaksOff new_left read written → MergeRun (stop_status stop) left new_left taken new_taken
run_broken left new_left taken new_taken read Memory written h writes breaks = record {
  read = read;
  written = written;
  reads = h.reads;
  writes = writes;
  asked = h.asked;
  known = refl;
  all_good = λ e. absurd (omega arith);
  some_refused = λ e. absurd (omega arith);
  source_failed = λ e. absurd (omega arith);
  sink_failed = λ e. absurd (omega arith);
  no_memory = λ e. breaks;
  too_much = λ e. absurd (omega arith);
}
run_broken left new_left taken new_taken read Sink written h writes breaks = record {
  read = read;
  written = written;
  reads = h.reads;
  writes = writes;
  asked = h.asked;
  known = refl;
  all_good = λ e. absurd (omega arith);
  some_refused = λ e. absurd (omega arith);
  source_failed = λ e. absurd (omega arith);
  sink_failed = λ e. breaks;
  no_memory = λ e. absurd (omega arith);
  too_much = λ e. absurd (omega arith);
}

as_status : (status : ℕ) (stop : Stop) (left new_left taken new_taken : Option (List ℕ)) → status ≡ stop_status stop → MergeRun (stop_status stop) left new_left taken new_taken → MergeRun status left new_left taken new_taken
as_status status stop left new_left taken new_taken is h = let P : ℕ → Type 0 = λ s. MergeRun s left new_left taken new_taken in subst P (sym is) h

-- it broke off among the lines before the limit
pub run_stopped : (left new_left taken new_taken : Option (List ℕ)) (read : List ℕ) (stop : Stop) (status : ℕ) → status ≡ stop_status stop → HasRead left new_left read → AppendsFront taken new_taken (bad_lines (whole_lines (take most_input read))) → MergeRun status left new_left taken new_taken
run_stopped left new_left taken new_taken read stop status is h f =
    as_status status stop left new_left taken new_taken is (run_broken left new_left taken new_taken read stop f.front h f.written (inl f.of))

-- it broke off at the end of the input
pub run_unfinished : (left new_left taken new_taken : Option (List ℕ)) (read : List ℕ) (stop : Stop) (status : ℕ) → status ≡ stop_status stop → HasRead left new_left read → IsAtEnd new_left → length read ≤ most_input → AppendsFront taken new_taken (merge_text read) → MergeRun status left new_left taken new_taken
run_unfinished left new_left taken new_taken read stop status is h at_end within f =
    as_status status stop left new_left taken new_taken is
    (run_broken left new_left taken new_taken read stop f.front h f.written (inr (at_end, within, f.of)))

-- it broke off before anything was read
pub run_untouched : (left taken : Option (List ℕ)) → MergeRun 7 left left taken taken
run_untouched left taken =
    run_stopped left left taken taken [] Memory 7 refl (record { reads = Consumes-nil left; asked = omega arith }) (front_none taken [])
