-- A device's run as a whole.
use Rattle.std.proofs.Common.{◌≡◌, ℕ, ◌≤◌, inl, inr, List, [], refl, ap, sym, ◌∙◌, subst, Bool, true, false, cond, Option, Some, Result, Ok, Err, OnOk, OnErr, length, take, arith}
use Rattle.std.proofs.KnownBytes.{Appends-nil}
use Rattle.std.specs.Io.KnownBytes.{Appends, Consumes, IsAtEnd}
use Rattle.std.specs.Result.{is_err}
use Rattle.budget_ports.specs.Faults.{count_after}
use Rattle.budget_ports.specs.Contents.{Contents}
use Rattle.budget_ports.specs.Keeper.{IsAlone, IsKnown, LeavesNoMore}
use Rattle.budget_ports.specs.Readings.{Readings, Takes}
use Rattle.budget_ports.specs.Exchanges.{Exchange, Adds}
use Rattle.device_core.specs.Device.{DeviceState}
use Rattle.budget_top.specs.declared.session.Session.{Session}
use Rattle.budget_top.specs.declared.stop.DeviceStop.{DeviceStop}
use Rattle.budget_top.specs.declared.stop.DeviceStop.TheVariants.{Run, Keeper}
use Rattle.budget_top.specs.declared.stop.Stop.TheVariants.{Memory, Sink}
use Rattle.budget_top.specs.Lines.{whole_lines}
use Rattle.budget_top.specs.Limits.{most_input, HasRead, AreDue}
use Rattle.device_sync.specs.declared.target.Target.{Target}
use Rattle.budget_top.specs.Seen.{Seen, Holds}
use Rattle.budget_top.specs.Handling.{IsOpened}
use Rattle.budget_top.specs.Stops.{device_stop_status}
use Rattle.budget_top.specs.Standing.{Entry, Handles}
use Rattle.budget_top.specs.DeviceSteps.{Stands, Ended, BreaksAs}
use Rattle.budget_top.specs.DeviceRun.{HandlesAll, HandlesTaken, HandlesLimit, HasAnswered, TellsBadRecord, bad_record_text, beginning, entry}
use Rattle.budget_ports.specs.declared.stream.Failed.{Failed}
use Rattle.budget_top.specs.Fronts.{AppendsFront}
use Rattle.budget_top.proofs.Standing.{appends_as, front_as}
use Rattle.budget_top.proofs.Folding.{takes_none, adds_none}
use Rattle.budget_top.proofs.Serving.{breaks_from}

-- reading

-- so many bytes were read and dealt with
pub record ReadSoFar (left new_left : Option (List ℕ)) (count : ℕ) (old : Session) (before : Seen) (new : Session) (now : Seen) : Type 0 where
  pub read : List ℕ
  pub reads : Consumes left new_left read
  pub many : length read ≡ count
  pub stands : (e : Entry) → Stands e [] old before → Stands e read new now

pub stands_along : (e : Entry) (xs ys : List ℕ) (session : Session) (now : Seen) → xs ≡ ys → Stands e xs session now → Stands e ys session now
stands_along e xs ys session now same s = let P : List ℕ → Type 0 = λ bs. Stands e bs session now in subst P same s

pub handles_along : (e : Entry) (xs ys : List ℕ) (now : Seen) → xs ≡ ys → Handles e (whole_lines xs) now → Handles e (whole_lines ys) now
handles_along e xs ys now same h = let P : List ℕ → Type 0 = λ bs. Handles e (whole_lines bs) now in subst P same h

pub breaks_along : (stop : DeviceStop) (e : Entry) (alone before : Type 0) (xs ys : List ℕ) (now : Seen) → xs ≡ ys → (before → alone) → BreaksAs stop e alone (whole_lines xs) now → BreaksAs stop e before (whole_lines ys) now
breaks_along stop e alone before xs ys now same f h =
    let P : List ℕ → Type 0 = λ bs. BreaksAs stop e before (whole_lines bs) now in
    subst P same (breaks_from stop e alone before (whole_lines xs) now f h)

-- the answers, by status

pub answered_all : (has_bad : Bool) (status : ℕ) (left new_left : Option (List ℕ)) (e : Entry) (alone : Type 0) (session : Session) (now : Seen) (read : List ℕ) → status ≡ cond has_bad 1 0 → session.bad ≡ has_bad
    → HasRead left new_left read → length read ≤ most_input → IsAtEnd new_left → Ended e read session now → (alone → IsAlone now.tells now.contents now.left) → HasAnswered status left new_left e alone now
answered_all has_bad status left new_left e alone session now read is bad has_read within at_end ended stops = let P : ℕ → Type 0 = λ n. HasAnswered n left new_left e alone now in subst P (sym is) (by has_bad bad)
  where
    handles : (b : Bool) → session.bad ≡ b → HandlesAll b new_left e alone read now
    handles b same = record { within = within; at_end = at_end; handled = ended.handled; bad = sym ended.bad ∙ same; stops = stops }

    by : (b : Bool) → session.bad ≡ b → HasAnswered (cond b 1 0) left new_left e alone now
    by false same = record {
      read = read;
      has_read = has_read;
      due = whole_lines (take most_input read);
      are_due = inl refl;
      known = refl;
      all_good = λ x. handles false same;
      some_refused = λ x. absurd (omega arith);
      source_failed = λ x. absurd (omega arith);
      sink_failed = λ x. absurd (omega arith);
      keeper_failed = λ x. absurd (omega arith);
      no_memory = λ x. absurd (omega arith);
      too_much = λ x. absurd (omega arith);
    }
    by true same = record {
      read = read;
      has_read = has_read;
      due = whole_lines (take most_input read);
      are_due = inl refl;
      known = refl;
      all_good = λ x. absurd (omega arith);
      some_refused = λ x. handles true same;
      source_failed = λ x. absurd (omega arith);
      sink_failed = λ x. absurd (omega arith);
      keeper_failed = λ x. absurd (omega arith);
      no_memory = λ x. absurd (omega arith);
      too_much = λ x. absurd (omega arith);
    }

pub answered_taken : (left new_left : Option (List ℕ)) (e : Entry) (alone : Type 0) (now : Seen) (read : List ℕ) → HasRead left new_left read → HandlesTaken e alone read now → HasAnswered 4 left new_left e alone now
answered_taken left new_left e alone now read has_read h = record {
  read = read;
  has_read = has_read;
  due = whole_lines (take most_input read);
  are_due = inl refl;
  known = refl;
  all_good = λ x. absurd (omega arith);
  some_refused = λ x. absurd (omega arith);
  source_failed = λ x. h;
  sink_failed = λ x. absurd (omega arith);
  keeper_failed = λ x. absurd (omega arith);
  no_memory = λ x. absurd (omega arith);
  too_much = λ x. absurd (omega arith);
}

pub answered_limit : (left new_left : Option (List ℕ)) (e : Entry) (alone : Type 0) (now : Seen) (read : List ℕ) → HasRead left new_left read → HandlesLimit e alone read now → HasAnswered 9 left new_left e alone now
answered_limit left new_left e alone now read has_read h = record {
  read = read;
  has_read = has_read;
  due = whole_lines (take most_input read);
  are_due = inl refl;
  known = refl;
  all_good = λ x. absurd (omega arith);
  some_refused = λ x. absurd (omega arith);
  source_failed = λ x. absurd (omega arith);
  sink_failed = λ x. absurd (omega arith);
  keeper_failed = λ x. absurd (omega arith);
  no_memory = λ x. absurd (omega arith);
  too_much = λ x. h;
}

pub answered_stop : (stop : DeviceStop) (status : ℕ) (left new_left : Option (List ℕ)) (e : Entry) (alone : Type 0) (now : Seen) (read : List ℕ) (due : List (List ℕ)) → AreDue new_left read due → status ≡ device_stop_status stop → HasRead left new_left read → BreaksAs stop e alone due now → HasAnswered status left new_left e alone now
answered_stop stop status left new_left e alone now read due are_due is has_read h = let P : ℕ → Type 0 = λ n. HasAnswered n left new_left e alone now in subst P (sym is) (by stop h)
  where
    by : (x : DeviceStop) → BreaksAs x e alone due now → HasAnswered (device_stop_status x) left new_left e alone now
    by (Run Memory) breaks = record {
      read = read;
      has_read = has_read;
      due = due;
      are_due = are_due;
      known = refl;
      all_good = λ x. absurd (omega arith);
      some_refused = λ x. absurd (omega arith);
      source_failed = λ x. absurd (omega arith);
      sink_failed = λ x. absurd (omega arith);
      keeper_failed = λ x. absurd (omega arith);
      no_memory = λ x. breaks;
      too_much = λ x. absurd (omega arith);
    }
    by Keeper breaks = record {
      read = read;
      has_read = has_read;
      due = due;
      are_due = are_due;
      known = refl;
      all_good = λ x. absurd (omega arith);
      some_refused = λ x. absurd (omega arith);
      source_failed = λ x. absurd (omega arith);
      sink_failed = λ x. absurd (omega arith);
      keeper_failed = λ x. breaks;
      no_memory = λ x. absurd (omega arith);
      too_much = λ x. absurd (omega arith);
    }
    by (Run Sink) breaks = record {
      read = read;
      has_read = has_read;
      due = due;
      are_due = are_due;
      known = refl;
      all_good = λ x. absurd (omega arith);
      some_refused = λ x. absurd (omega arith);
      source_failed = λ x. absurd (omega arith);
      sink_failed = λ x. breaks;
      keeper_failed = λ x. absurd (omega arith);
      no_memory = λ x. absurd (omega arith);
      too_much = λ x. absurd (omega arith);
    }

-- what a stop could leave is known from the run's entry
pub answered_from : (status : ℕ) (left new_left : Option (List ℕ)) (e : Entry) (alone before : Type 0) (now : Seen) → (before → alone) → HasAnswered status left new_left e alone now → HasAnswered status left new_left e before now
answered_from status left new_left e alone before now f h =
    let all : (b : Bool) → HandlesAll b new_left e alone h.read now → HandlesAll b new_left e before h.read now = λ b k. record { within = k.within; at_end = k.at_end; handled = k.handled; bad = k.bad; stops = λ x. k.stops (f x) } in
    record {
      read = h.read;
      has_read = h.has_read;
      due = h.due;
      are_due = h.are_due;
      known = h.known;
      all_good = λ x. all false (h.all_good x);
      some_refused = λ x. all true (h.some_refused x);
      source_failed = λ x. let k = h.source_failed x in record { within = k.within; handled = k.handled; stops = λ y. k.stops (f y) };
      sink_failed = λ x. breaks_from (Run Sink) e alone before h.due now f (h.sink_failed x);
      keeper_failed = λ x. breaks_from Keeper e alone before h.due now f (h.keeper_failed x);
      no_memory = λ x. breaks_from (Run Memory) e alone before h.due now f (h.no_memory x);
      too_much = λ x. let k = h.too_much x in record { past = k.past; handled = k.handled; stops = λ y. k.stops (f y) };
    }

-- the opening

pub stands_open : (node : List ℕ) (target : Target) (session : Session) (old now : Seen) → IsOpened node old.contents now.tells session.device → session.line ≡ Some [] → session.target ≡ target → session.bad ≡ false → now.taken ≡ old.taken → now.readings ≡ old.readings
    → now.exchanges ≡ old.exchanges → now.link_faults ≡ old.link_faults → (now.tells → now.contents ≡ old.contents)
    → Stands (entry old target (beginning node target session.device.state.messages old.contents)) [] session now
stands_open node target session old now h line to bad taken readings exchanges faults same = record {
  handled = record {
    inputs = [];
    lines = refl;
    took = subst (λ (r : Option Readings). Takes old.readings r []) (sym readings) (takes_none old.readings);
    written = let P : Option (List ℕ) → Type 0 = λ t. Appends old.taken t [] in subst P (sym taken) (Appends-nil old.taken);
    talk = record {
      talked = let P : Option (List Exchange) → Type 0 = λ x. Adds old.exchanges x [] in subst P (sym exchanges) (adds_none old.exchanges);
      whole = tt;
      failed = faults;
      found = λ t. tt;
    };
    keeper = λ t.
        let P : Contents → Type 0 = λ k. Holds target old.contents k (beginning node target session.device.state.messages old.contents) in
        subst P (sym (same t)) (record {
          set = record { messages = h.has t; kept = λ key body had. had; written = λ key body lacked has. absurd (cc); others = record { records = λ place other. refl; texts = refl } };
          texts = λ name other. refl;
          synced = refl;
        });
  };
  line = line;
  target = to;
  state = ap (λ (d : DeviceState). d.state) h.state;
  bad = bad;
}

-- a reading call that was answered leaves no more, and tells of what it leaves
pub alone_still : (old now : Contents) (told tells : Type 0) (left new_left : Contents → Type 0) → (tells → now ≡ old) → LeavesNoMore left new_left → IsKnown tells new_left → IsAlone told old left → IsAlone tells now new_left
alone_still old now told tells left new_left same fewer known alone = λ k h. let t = known k h in (t, (alone k (fewer k h)).1 ∙ sym (same t))

-- a text was written, or the sink failed at it
pub reported_or_cut : (result : Result (Unit {0}) Failed) (index : ℕ) (taken new_taken : Option (List ℕ)) (faults new_faults : ℕ) (text : List ℕ) → text ≡ bad_record_text index
    → OnOk result (Appends taken new_taken text) → OnErr result (AppendsFront taken new_taken text) → new_faults ≡ count_after (is_err result) faults → TellsBadRecord index taken new_taken faults new_faults
reported_or_cut (Ok done) index taken new_taken faults new_faults text same all front count = inl (count, appends_as taken new_taken _ _ same all)
reported_or_cut (Err fault) index taken new_taken faults new_faults text same all front count = inr (count, front_as taken new_taken _ _ same front)
