-- A world's run as a whole.
use Rattle.std.proofs.Common.{◌≡◌, ℕ, ◌≤◌, inl, List, [], refl, sym, subst, Bool, true, false, cond, ◌∙◌, Option, length, take, arith}
use Rattle.std.proofs.KnownBytes.{Appends-nil, Consumes-nil}
use Rattle.std.specs.Io.KnownBytes.{IsAtEnd}
use Rattle.budget_top.specs.declared.play.Play.{Play}
use Rattle.budget_top.specs.declared.stop.Stop.{Stop}
use Rattle.budget_top.specs.declared.stop.Stop.TheVariants.{Memory, Sink}
use Rattle.budget_top.specs.Lines.{whole_lines}
use Rattle.budget_top.specs.Limits.{most_input, HasRead, AreDue}
use Rattle.budget_top.specs.Stops.{stop_status}
use Rattle.budget_top.specs.WorldRun.{PlaysAll, PlaysTaken, PlaysLimit, WorldRun}
use Rattle.budget_top.specs.WorldSteps.{Ended, BreaksAs}

pub run_all : (has_bad : Bool) (status : ℕ) (left new_left entry now : Option (List ℕ)) (p : Play) (read : List ℕ) → status ≡ cond has_bad 1 0 → p.bad ≡ has_bad
    → HasRead left new_left read → length read ≤ most_input → IsAtEnd new_left → Ended entry now read p → WorldRun status left new_left entry now
run_all has_bad status left new_left entry now p read is bad has_read within at_end ended = let P : ℕ → Type 0 = λ n. WorldRun n left new_left entry now in subst P (sym is) (by has_bad bad)
  where
    plays : (b : Bool) → p.bad ≡ b → PlaysAll b new_left read entry now
    plays b same = record { within = within; at_end = at_end; bad = sym ended.bad ∙ same; written = ended.written }

    by : (b : Bool) → p.bad ≡ b → WorldRun (cond b 1 0) left new_left entry now
    by false same = record {
      read = read;
      has_read = has_read;
      known = refl;
      all_good = λ x. plays false same;
      some_refused = λ x. absurd (omega arith);
      source_failed = λ x. absurd (omega arith);
      due = whole_lines (take most_input read);
      are_due = inl refl;
      sink_failed = λ x. absurd (omega arith);
      no_memory = λ x. absurd (omega arith);
      too_much = λ x. absurd (omega arith);
    }
    by true same = record {
      read = read;
      has_read = has_read;
      known = refl;
      all_good = λ x. absurd (omega arith);
      some_refused = λ x. plays true same;
      source_failed = λ x. absurd (omega arith);
      due = whole_lines (take most_input read);
      are_due = inl refl;
      sink_failed = λ x. absurd (omega arith);
      no_memory = λ x. absurd (omega arith);
      too_much = λ x. absurd (omega arith);
    }

pub run_taken : (left new_left entry now : Option (List ℕ)) (read : List ℕ) → HasRead left new_left read → PlaysTaken read entry now → WorldRun 4 left new_left entry now
run_taken left new_left entry now read has_read h = record {
  read = read;
  has_read = has_read;
  known = refl;
  all_good = λ x. absurd (omega arith);
  some_refused = λ x. absurd (omega arith);
  source_failed = λ x. h;
  due = whole_lines (take most_input read);
  are_due = inl refl;
  sink_failed = λ x. absurd (omega arith);
  no_memory = λ x. absurd (omega arith);
  too_much = λ x. absurd (omega arith);
}

pub run_limit : (left new_left entry now : Option (List ℕ)) (read : List ℕ) → HasRead left new_left read → PlaysLimit read entry now → WorldRun 9 left new_left entry now
run_limit left new_left entry now read has_read h = record {
  read = read;
  has_read = has_read;
  known = refl;
  all_good = λ x. absurd (omega arith);
  some_refused = λ x. absurd (omega arith);
  source_failed = λ x. absurd (omega arith);
  due = whole_lines (take most_input read);
  are_due = inl refl;
  sink_failed = λ x. absurd (omega arith);
  no_memory = λ x. absurd (omega arith);
  too_much = λ x. h;
}

pub run_stop : (stop : Stop) (status : ℕ) (left new_left entry now : Option (List ℕ)) (read : List ℕ) (due : List (List ℕ)) → AreDue new_left read due → status ≡ stop_status stop
    → HasRead left new_left read → BreaksAs stop entry now due → WorldRun status left new_left entry now
run_stop stop status left new_left entry now read due are_due is has_read h = let P : ℕ → Type 0 = λ n. WorldRun n left new_left entry now in subst P (sym is) (by stop h)
  where
    by : (x : Stop) → BreaksAs x entry now due → WorldRun (stop_status x) left new_left entry now
    by Memory breaks = record {
      read = read;
      has_read = has_read;
      known = refl;
      all_good = λ x. absurd (omega arith);
      some_refused = λ x. absurd (omega arith);
      source_failed = λ x. absurd (omega arith);
      due = due;
      are_due = are_due;
      sink_failed = λ x. absurd (omega arith);
      no_memory = λ x. breaks;
      too_much = λ x. absurd (omega arith);
    }
    by Sink breaks = record {
      read = read;
      has_read = has_read;
      known = refl;
      all_good = λ x. absurd (omega arith);
      some_refused = λ x. absurd (omega arith);
      source_failed = λ x. absurd (omega arith);
      due = due;
      are_due = are_due;
      sink_failed = λ x. breaks;
      no_memory = λ x. absurd (omega arith);
      too_much = λ x. absurd (omega arith);
    }

-- memory ran out before anything was read
pub run_untouched : (left entry : Option (List ℕ)) → WorldRun 7 left left entry entry
run_untouched left entry =
    run_stop Memory 7 left left entry entry [] [] (inl refl) refl (record { reads = Consumes-nil left; asked = omega arith })
    (record { handled = []; first = ([], refl); written = Appends-nil entry })
