-- How runs of the modes `generate` and `world` end where no call of the outside fails.
use Rattle.std.proofs.Common.{◌≡◌, ℕ, Bool, true, false, List, [], ◌∷◌, Option, refl, sym, ap, ◌∙◌, subst, arith}
use Rattle.std.specs.Io.KnownBytes.{Appends}
use Rattle.budget_top.specs.declared.words.Mode.TheVariants.{World}
use Rattle.budget_top.specs.Lines.{all_lines}
use Rattle.budget_top.specs.GenerateRun.{GenerateRun, generate_statuses}
use Rattle.budget_top.specs.Playing.{replies_text, some_line_refused}
use Rattle.budget_top.specs.WorldRun.{WorldRun, PlaysAll, world_statuses}
use Rattle.budget_top.specs.Outside.{Outside}
use Rattle.budget_top.specs.Ran.{Ran}
use Rattle.budget_top.specs.Unfailed.{IsInput, Ends, all_good, one_bad, no_memory, Generates, all_written, none_written, GeneratesUnfailed, Plays, PlaysUnfailed, EndsWell, PlaysWell}
use Rattle.budget_top.proofs.NotRisen.{by_known, is_not}
use Rattle.budget_top.proofs.Inputs.{named_mode, read_within, read_all, ends_well}

-- ---- generate

generates_so : (count status : ℕ) (taken new_taken : Option (List ℕ)) → GenerateRun count status taken new_taken → (status ≡ 5 → ⊥) → Generates count status taken new_taken
generates_so count status taken new_taken run not_sink =
    by_known (Generates count status taken new_taken) status generate_statuses
    (λ x. all_written x (run.all_written x), (λ x. absurd (not_sink x), (λ x. none_written x, tt))) run.known

pub generates : (asked : List (List ℕ)) (status : ℕ) (old now : Outside) → Ran asked status old now → GeneratesUnfailed asked status old now
generates asked status old now ran = λ plan is mode sink.
    generates_so plan.count status _ _ (ran.generate plan is mode) (λ five. is_not status 5 _ _ sink (ran.sink (λ three. omega (arith, three, five))) five)

-- ---- world

plays_so : (status : ℕ) (left new_left taken new_taken : Option (List ℕ)) (input : List ℕ) → WorldRun status left new_left taken new_taken → IsInput left input
    → (status ≡ 4 → ⊥) → (status ≡ 5 → ⊥) → Ends status (λ has_bad. Plays has_bad input new_left taken new_taken)
plays_so status left new_left taken new_taken input run h not_source not_sink =
    by_known (Ends status (λ has_bad. Plays has_bad input new_left taken new_taken)) status world_statuses (
      λ e. all_good e (of false (run.all_good e)),
      (
        λ e. one_bad e (of true (run.some_refused e)),
        (
          λ e. absurd (not_source e),
          (
            λ e. absurd (not_sink e),
            (
              λ e. no_memory e,
              (λ e. absurd (omega (arith, (run.too_much e).past, read_within left new_left input run.read h run.has_read.reads)), tt),
            ),
          ),
        ),
      ),
    ) run.known
  where
    of : (has_bad : Bool) → PlaysAll has_bad new_left run.read taken new_taken → Plays has_bad input new_left taken new_taken
    of has_bad m =
        let all : run.read ≡ input = read_all left new_left input run.read h run.has_read.reads m.at_end in
        record {
          at_end = m.at_end;
          bad = ap (λ (x : List ℕ). some_line_refused (all_lines x)) (sym all) ∙ m.bad;
          written = subst (λ (x : List ℕ). Appends taken new_taken (replies_text (all_lines x))) all m.written;
        }

pub plays : (asked : List (List ℕ)) (status : ℕ) (old now : Outside) → Ran asked status old now → PlaysUnfailed asked status old now
plays asked status old now ran = λ plan input is mode input_is source sink.
    plays_so status _ _ _ _ input (ran.world (named_mode asked plan World is mode)) input_is (is_not status 4 _ _ source ran.source)
    (λ five. is_not status 5 _ _ sink (ran.sink (λ three. omega (arith, three, five))) five)

pub plays_well : (asked : List (List ℕ)) (status : ℕ) (old now : Outside) → Ran asked status old now → PlaysWell asked status old now
plays_well asked status old now ran = λ plan is mode source sink.
    let run = ran.world (named_mode asked plan World is mode) in
    by_known (EndsWell status) status world_statuses (
      ends_well status 0 refl,
      (
        ends_well status 1 refl,
        (
          λ x. absurd (is_not status 4 _ _ source ran.source x),
          (λ x. absurd (is_not status 5 _ _ sink (ran.sink (λ three. omega (arith, three, x))) x), (ends_well status 7 refl, (ends_well status 9 refl, tt))),
        ),
      ),
    ) run.known
