-- Where a device's run stands after one more line, and how it breaks off.
use Rattle.std.proofs.Common.{◌≡◌, ℕ, ◌+◌, ◌-◌, take, drop, List, [], ◌∷◌, ◌++◌, length, refl, ap, ◌∙◌, sym, subst, append_assoc, append-nil, Bool, true, false, ◌||◌, cond, nat_lt, Option, None, Some, Result, Err, arith}
use Rattle.std.proofs.KnownBytes.{Appends-trans}
use Rattle.std.specs.Str.{is_utf8}
use Rattle.std.specs.Io.KnownBytes.{Appends}
use Rattle.budget_ports.specs.Contents.{Contents}
use Rattle.budget_ports.specs.Exchanges.{Exchange, Adds}
use Rattle.budget_ports.specs.Faults.{count_after}
use Rattle.budget_ports.specs.Keeper.{IsAlone}
use Rattle.budget_ports.specs.Readings.{Takes}
use Rattle.budget_ports.specs.declared.keeper.PortFault.{PortFault}
use Rattle.budget_ports.specs.declared.keeper.PortFault.TheVariants.{Failed, NoMemory}
use Rattle.field_merge.specs.Lines.{parts}
use Rattle.device_core.specs.Device.{State}
use Rattle.command_lines.specs.declared.command.Command.{Command}
use Rattle.command_lines.specs.Commands.{of_words}
use Rattle.budget_top.specs.declared.session.Session.{Session}
use Rattle.budget_top.specs.declared.stop.DeviceStop.{DeviceStop}
use Rattle.budget_top.specs.declared.stop.DeviceStop.TheVariants.{Run, Keeper}
use Rattle.budget_top.specs.declared.stop.Stop.TheVariants.{Memory, Sink}
use Rattle.budget_top.specs.Lines.{IsWithinLine, whole_lines, last_piece, all_lines, line_if_some}
use Rattle.budget_top.specs.KeptLine.{kept_line, kept_line_with}
use Rattle.command_lines.specs.Commands.{longest_line}
use Rattle.budget_top.specs.Fronts.{AppendsFront}
use Rattle.budget_top.specs.Session.{asked, asked_kept_line}
use Rattle.device_sync.specs.declared.target.Target.{Target}
use Rattle.budget_top.specs.Doing.{Given, Running, said, done, Finds, fails_link, HasStayed}
use Rattle.budget_top.specs.Course.{Input, replies, some_refused, talks, AreFound}
use Rattle.budget_top.specs.Seen.{Seen, Holds}
use Rattle.budget_top.specs.Handling.{IsAnswered, IsUnanswered}
use Rattle.budget_top.specs.Stops.{stop_of}
use Rattle.budget_top.specs.Standing.{Entry, Talked, reached, lines_of, readings_of, AreFirst, Halts, Cuts}
use Rattle.budget_top.specs.DeviceSteps.{Stands, Ended, BreaksAs}
use Rattle.budget_top.proofs.Cutting.{FirstEnd, whole_lines-within, last_piece-within, whole_lines-end, last_piece-end, whole_lines-append}
use Rattle.budget_top.proofs.Standing.{appends_as, kept_line-append}
use Rattle.budget_top.proofs.Ending.{one_begun}
use Rattle.budget_top.proofs.Feeding.{all_taken, taken_line}
use Rattle.budget_top.proofs.Writing.{whole_rest}
use Rattle.budget_top.proofs.Folding.{after-last, replies-last, refused-last, lines-last, readings-last, talks-last, whole-last, found-last, faults-last, takes_then, adds_then}

-- what a line asks

both_same : {A : Type 0} (b : Bool) (x : A) → cond b x x ≡ x
both_same true x = refl
both_same false x = refl

-- what is kept of a line asks the same as the line
pub asked-kept_line : (line : List ℕ) → asked_kept_line (kept_line line) ≡ asked line
asked-kept_line line =
    let no_command : Result Command ℕ = Err 0 in
    elim (nat_lt longest_line (length line)) as (λ t. nat_lt longest_line (length line) ≡ t → asked_kept_line (cond t None (Some line)) ≡ asked line) [
      | true ↦ λ long. sym (ap (λ t. cond (is_utf8 line) (cond t no_command (of_words (parts line))) no_command) long ∙ both_same (is_utf8 line) no_command)
      | false ↦ λ short. refl
    ] refl

-- that line as an input
abbrev pub in_hand : List ℕ → Given → Input
in_hand read given = record { given = given; line = last_piece read }

-- one line more

module _ (e : Entry) (read : List ℕ) (old : Session) (before now : Seen) (s : Stands e read old before) (told : now.tells → before.tells) (reading : ℕ) (took : Takes before.readings now.readings (reading ∷ [])) where
  abbrev had : List Input
  had = s.handled.inputs

  abbrev here : Running
  here = reached e had

  abbrev asks : Result Command ℕ
  asks = asked (last_piece read)

  asks_so : asked_kept_line old.line ≡ asks
  asks_so = ap asked_kept_line s.line ∙ asked-kept_line (last_piece read)

  abbrev have : Given → List Input
  have given = had ++ in_hand read given ∷ []

  lines_now : (given : Given) → lines_of (have given) ≡ whole_lines (read ++ 10 ∷ [])
  lines_now given = lines-last had (in_hand read given) ∙ ap (λ ls. ls ++ last_piece read ∷ []) s.handled.lines ∙ sym (whole_lines-end read)

  first_now : (given : Given) → AreFirst (lines_of (have given)) (whole_lines (read ++ 10 ∷ []))
  first_now given = ([], append-nil (lines_of (have given)) ∙ lines_now given)

  took_now : (given : Given) → given.reading ≡ reading → Takes e.readings now.readings (readings_of (have given))
  took_now given same =
      let P : List ℕ → Type 0 = λ rs. Takes e.readings now.readings rs in
      subst P (ap (λ n. readings_of had ++ n ∷ []) (sym same) ∙ sym (readings-last had (in_hand read given)))
      (takes_then e.readings before.readings now.readings (readings_of had) (reading ∷ []) s.handled.took took)

  talked_now : (given : Given) → Adds before.exchanges now.exchanges (said given) → Adds e.exchanges now.exchanges (talks (have given))
  talked_now given adds =
      let P : List Exchange → Type 0 = λ xs. Adds e.exchanges now.exchanges xs in
      subst P (sym (talks-last had (in_hand read given))) (adds_then e.exchanges before.exchanges now.exchanges (talks had) (said given) s.handled.talk.talked adds)

  -- what the answer says, of the run
  abbrev Answered : State → List ℕ → Bool → Type 0
  Answered new text refused =
      IsAnswered e.target reading asks here.state new text refused before.exchanges now.exchanges before.link_faults now.link_faults now.tells before.contents now.contents

  answered_here : (new : State) (text : List ℕ) (refused : Bool)
      → IsAnswered old.target reading (asked_kept_line old.line) old.device.state new text refused before.exchanges now.exchanges before.link_faults now.link_faults now.tells before.contents now.contents
      → Answered new text refused
  answered_here new text refused a =
      let R : Target → Type 0 = λ t.
      IsAnswered t reading (asked_kept_line old.line) old.device.state new text refused before.exchanges now.exchanges before.link_faults now.link_faults now.tells before.contents now.contents in
      let P : State → Type 0 = λ x.
      IsAnswered e.target reading (asked_kept_line old.line) x new text refused before.exchanges now.exchanges before.link_faults now.link_faults now.tells before.contents now.contents in
      let Q : Result Command ℕ → Type 0 = λ c.
      IsAnswered e.target reading c here.state new text refused before.exchanges now.exchanges before.link_faults now.link_faults now.tells before.contents now.contents in
      subst Q asks_so (subst P s.state (subst R s.target a))

  keeps_now : (new : State) (text : List ℕ) (refused : Bool) (a : Answered new text refused) → now.tells
      → Holds e.target e.contents now.contents (done e.target here a.given asks).0 × Finds a.given asks here.synced
  keeps_now new text refused a t = a.keeper t e.contents here refl (s.handled.keeper (told t))

  holds_now : (new : State) (text : List ℕ) (refused : Bool) (a : Answered new text refused) → now.tells → Holds e.target e.contents now.contents (reached e (have a.given))
  holds_now new text refused a t =
      let P : Running → Type 0 = λ r. Holds e.target e.contents now.contents r in
      subst P (sym (after-last e.target e.start had (in_hand read a.given))) (keeps_now new text refused a t).0

  talk_now : (new : State) (text : List ℕ) (refused : Bool) (a : Answered new text refused) → Talked e (have a.given) now
  talk_now new text refused a = record {
    talked = talked_now a.given a.talked;
    whole = whole-last e.target e.start had (in_hand read a.given) s.handled.talk.whole a.whole;
    failed =
        a.failed ∙ ap (λ n. count_after (fails_link here.state a.given asks) n) s.handled.talk.failed
        ∙ sym (faults-last e.target e.start e.link_faults had (in_hand read a.given));
    found = λ t. found-last e.target e.start had (in_hand read a.given) (s.handled.talk.found (told t)) (keeps_now new text refused a t).1;
  }

  -- the line was answered
  stands_here : (new : Session) (text : List ℕ) (refused : Bool) (a : Answered new.device.state text refused) → new.line ≡ Some [] → new.target ≡ old.target → new.bad ≡ (old.bad || refused)
      → Appends before.taken now.taken text → Stands e (read ++ 10 ∷ []) new now
  stands_here new text refused a line target bad written = record {
    handled = record {
      inputs = have a.given;
      lines = lines_now a.given;
      took = took_now a.given a.took;
      written =
          appends_as e.taken now.taken _ _
          (ap (λ t. replies e.target e.start had ++ t) a.handled.is_text ∙ sym (replies-last e.target e.start had (in_hand read a.given)))
          (Appends-trans e.taken before.taken now.taken (replies e.target e.start had) text s.handled.written written);
      talk = talk_now new.device.state text refused a;
      keeper = holds_now new.device.state text refused a;
    };
    line = line ∙ ap kept_line (sym (last_piece-end read));
    target = target ∙ s.target;
    state = a.handled.state ∙ ap (λ (r : Running). r.state) (sym (after-last e.target e.start had (in_hand read a.given)));
    bad =
        bad ∙ ap (λ b. b || refused) s.bad ∙ ap (λ b. some_refused e.target e.start had || b) a.handled.is_bad
        ∙ sym (refused-last e.target e.start had (in_hand read a.given));
  }

  pub stands_end : (new : Session) (text : List ℕ) (refused : Bool)
      → IsAnswered old.target reading (asked_kept_line old.line) old.device.state new.device.state text refused before.exchanges now.exchanges before.link_faults now.link_faults now.tells before.contents now.contents
      → new.line ≡ Some [] → new.target ≡ old.target → new.bad ≡ (old.bad || refused) → Appends before.taken now.taken text → Stands e (read ++ 10 ∷ []) new now
  stands_end new text refused a line target bad written = stands_here new text refused (answered_here new.device.state text refused a) line target bad written

  -- the line got no reply
  abbrev Unanswered : PortFault → Type 0
  Unanswered fault =
      IsUnanswered e.target fault reading asks here.state before.exchanges now.exchanges before.link_faults now.link_faults (IsAlone before.tells before.contents before.left) before.tells now.tells
      before.contents now.contents now.left

  halts_end : (fault : PortFault) (u : Unanswered fault) → now.taken ≡ before.taken → Halts e (IsAlone before.tells before.contents before.left) (whole_lines (read ++ 10 ∷ [])) now
  halts_end fault u taken =
      let stayed = u.stayed here refl in
      record {
        inputs = had;
        in_hand = in_hand read u.given ∷ [];
        one = omega arith;
        first = first_now u.given;
        took = took_now u.given u.took;
        written = let P : Option (List ℕ) → Type 0 = λ t. Appends e.taken t (replies e.target e.start had) in subst P (sym taken) s.handled.written;
        talked = talked_now u.given u.talked;
        whole = s.handled.talk.whole;
        found = λ t. found-last e.target e.start had (in_hand read u.given) (s.handled.talk.found (told t)) (stayed.2 t e.contents (s.handled.keeper (told t))).1;
        kept = stayed.0;
        stays = let P : ℕ → Type 0 = λ n. HasStayed e.target here u.given asks stayed.0 n now.link_faults in subst P s.handled.talk.failed stayed.1;
        keeper = λ t. (stayed.2 t e.contents (s.handled.keeper (told t))).0;
        stops = λ alone c left. let it = u.stops alone c left in it.1 e.contents here refl (s.handled.keeper it.0);
      }

  -- memory ran out or the keeper failed, and the line got no reply
  breaks_here : (fault : PortFault) (stop : DeviceStop) → stop ≡ stop_of fault → now.taken ≡ before.taken → Unanswered fault → BreaksAs stop e (IsAlone before.tells before.contents before.left) (whole_lines (read ++ 10 ∷ [])) now
  unfolding halts_end
  breaks_here fault stop is taken u =
      let P : DeviceStop → Type 0 = λ x. BreaksAs x e (IsAlone before.tells before.contents before.left) (whole_lines (read ++ 10 ∷ [])) now in
      subst P (sym is) (by fault u)
    where
      by : (f : PortFault) → Unanswered f → BreaksAs (stop_of f) e (IsAlone before.tells before.contents before.left) (whole_lines (read ++ 10 ∷ [])) now
      by Failed u = record { halts = halts_end Failed u taken; new = u.new refl here refl }
      by NoMemory u = halts_end NoMemory u taken

  pub breaks_end : (fault : PortFault) (stop : DeviceStop) → stop ≡ stop_of fault → now.taken ≡ before.taken
      → IsUnanswered old.target fault reading (asked_kept_line old.line) old.device.state before.exchanges now.exchanges before.link_faults now.link_faults (IsAlone before.tells before.contents before.left)
      before.tells now.tells before.contents now.contents now.left
      → BreaksAs stop e (IsAlone before.tells before.contents before.left) (whole_lines (read ++ 10 ∷ [])) now
  breaks_end fault stop is taken u =
      let R : Target → Type 0 = λ t.
      IsUnanswered t fault reading (asked_kept_line old.line) old.device.state before.exchanges now.exchanges before.link_faults now.link_faults (IsAlone before.tells before.contents before.left) before.tells now.tells
      before.contents now.contents now.left in
      let P : State → Type 0 = λ x.
      IsUnanswered e.target fault reading (asked_kept_line old.line) x before.exchanges now.exchanges before.link_faults now.link_faults (IsAlone before.tells before.contents before.left) before.tells now.tells
      before.contents now.contents now.left in
      let Q : Result Command ℕ → Type 0 = λ c.
      IsUnanswered e.target fault reading c here.state before.exchanges now.exchanges before.link_faults now.link_faults (IsAlone before.tells before.contents before.left) before.tells now.tells
      before.contents now.contents now.left in
      breaks_here fault stop is taken (subst Q asks_so (subst P s.state (subst R s.target u)))

  -- the reply was cut
  cuts_here : (new : State) (text : List ℕ) (refused : Bool) → Answered new text refused → AppendsFront before.taken now.taken text
      → (IsAlone before.tells before.contents before.left → IsAlone now.tells now.contents now.left) → Cuts e (IsAlone before.tells before.contents before.left) (whole_lines (read ++ 10 ∷ [])) now
  cuts_here new text refused a written alone = record {
    inputs = had;
    last = in_hand read a.given;
    part = written.front;
    of = (written.of.0, written.of.1 ∙ a.handled.is_text);
    first = first_now a.given;
    took = took_now a.given a.took;
    written = Appends-trans e.taken before.taken now.taken (replies e.target e.start had) written.front s.handled.written written.written;
    talk = talk_now new text refused a;
    keeper = holds_now new text refused a;
    stops = alone;
  }

  pub cuts_end : (new : State) (text : List ℕ) (refused : Bool)
      → IsAnswered old.target reading (asked_kept_line old.line) old.device.state new text refused before.exchanges now.exchanges before.link_faults now.link_faults now.tells before.contents now.contents
      → AppendsFront before.taken now.taken text
      → (IsAlone before.tells before.contents before.left → IsAlone now.tells now.contents now.left) → Cuts e (IsAlone before.tells before.contents before.left) (whole_lines (read ++ 10 ∷ [])) now
  cuts_end new text refused a written alone = cuts_here new text refused (answered_here new text refused a) written alone

-- bytes within a line
pub stands_within : (e : Entry) (read bytes : List ℕ) (old new : Session) (now : Seen) → IsWithinLine bytes → new.device ≡ old.device → new.target ≡ old.target → new.bad ≡ old.bad → new.line ≡ kept_line_with old.line bytes → Stands e read old now → Stands e (read ++ bytes) new now
stands_within e read bytes old new now within device target bad line s = record {
  handled = record {
    inputs = s.handled.inputs;
    lines = s.handled.lines ∙ sym (whole_lines-within read bytes within);
    took = s.handled.took;
    written = s.handled.written;
    talk = s.handled.talk;
    keeper = s.handled.keeper;
  };
  line = line ∙ ap (λ k. kept_line_with k bytes) s.line ∙ kept_line-append (last_piece read) bytes ∙ ap kept_line (sym (last_piece-within read bytes within));
  target = target ∙ s.target;
  state = ap (λ d. d.state) device ∙ s.state;
  bad = bad ∙ s.bad;
}

-- it broke off between two lines
pub halts_between : (e : Entry) (read : List ℕ) (old : Session) (now : Seen) → Stands e read old now → Halts e (IsAlone now.tells now.contents now.left) (whole_lines read) now
halts_between e read old now s =
    let all : s.handled.inputs ≡ s.handled.inputs ++ [] = sym (append-nil s.handled.inputs) in
    record {
      inputs = s.handled.inputs;
      in_hand = [];
      one = omega arith;
      first = ([], append-nil _ ∙ ap lines_of (sym all) ∙ s.handled.lines);
      took = let P : List Input → Type 0 = λ is. Takes e.readings now.readings (readings_of is) in subst P all s.handled.took;
      written = s.handled.written;
      talked = let P : List Input → Type 0 = λ is. Adds e.exchanges now.exchanges (talks is) in subst P all s.handled.talk.talked;
      whole = s.handled.talk.whole;
      found = λ t. let P : List Input → Type 0 = λ is. AreFound e.target e.start is in subst P all (s.handled.talk.found t);
      kept = reached e s.handled.inputs;
      stays = (refl, s.handled.talk.failed);
      keeper = s.handled.keeper;
      stops = λ alone c left.
          let P : Contents → Type 0 = λ d. Holds e.target e.contents d (reached e s.handled.inputs) in
          let is = alone c left in
          record { left = reached e s.handled.inputs; holds = subst P (sym is.1) (s.handled.keeper is.0); which = refl };
    }

-- what was due goes on

pub first_more : (xs ys zs : List (List ℕ)) → AreFirst xs ys → AreFirst ys zs → AreFirst xs zs
first_more xs ys zs h k = (h.0 ++ k.0, sym (append_assoc xs h.0 k.0) ∙ ap (λ ls. ls ++ k.0) h.1 ∙ k.1)

halts_more : (e : Entry) (alone : Type 0) (due more : List (List ℕ)) (now : Seen) → AreFirst due more → Halts e alone due now → Halts e alone more now
halts_more e alone due more now first h = record { inputs = h.inputs; in_hand = h.in_hand; one = h.one; first = first_more _ due more h.first first; took = h.took; written = h.written; talked = h.talked; whole = h.whole; found = h.found; kept = h.kept; stays = h.stays; keeper = h.keeper; stops = h.stops }

pub breaks_more : (stop : DeviceStop) (e : Entry) (alone : Type 0) (due more : List (List ℕ)) (now : Seen) → AreFirst due more → BreaksAs stop e alone due now → BreaksAs stop e alone more now
unfolding halts_more
breaks_more (Run Memory) e alone due more now first h = halts_more e alone due more now first h
breaks_more Keeper e alone due more now first h = record { halts = halts_more e alone due more now first h.halts; new = h.new }
breaks_more (Run Sink) e alone due more now first h = record { inputs = h.inputs; last = h.last; part = h.part; of = h.of; first = first_more _ due more h.first first; took = h.took; written = h.written; talk = h.talk; keeper = h.keeper; stops = h.stops }

-- what a stop could leave is known from further before
halts_from : (e : Entry) (alone before : Type 0) (due : List (List ℕ)) (now : Seen) → (before → alone) → Halts e alone due now → Halts e before due now
halts_from e alone before due now f h = record { inputs = h.inputs; in_hand = h.in_hand; one = h.one; first = h.first; took = h.took; written = h.written; talked = h.talked; whole = h.whole; found = h.found; kept = h.kept; stays = h.stays; keeper = h.keeper; stops = λ b. h.stops (f b) }

pub breaks_from : (stop : DeviceStop) (e : Entry) (alone before : Type 0) (due : List (List ℕ)) (now : Seen) → (before → alone) → BreaksAs stop e alone due now → BreaksAs stop e before due now
unfolding halts_from
breaks_from (Run Memory) e alone before due now f h = halts_from e alone before due now f h
breaks_from Keeper e alone before due now f h = record { halts = halts_from e alone before due now f h.halts; new = h.new }
breaks_from (Run Sink) e alone before due now f h = record { inputs = h.inputs; last = h.last; part = h.part; of = h.of; first = h.first; took = h.took; written = h.written; talk = h.talk; keeper = h.keeper; stops = λ b. h.stops (f b) }

-- the whole lines of the first bytes come first
pub first_lines : (xs ys : List ℕ) → AreFirst (whole_lines xs) (whole_lines (xs ++ ys))
first_lines xs ys = let more = whole_lines-append xs ys in (more.0, sym more.1)

-- bytes that come next

pub first_taken : (read bytes : List ℕ) (at : ℕ) → AreFirst (whole_lines (read ++ take at bytes)) (whole_lines (read ++ bytes))
first_taken read bytes at =
    let P : List ℕ → Type 0 = λ xs. AreFirst (whole_lines (read ++ take at bytes)) (whole_lines xs) in
    subst P (all_taken read bytes at) (first_lines (read ++ take at bytes) (drop at bytes))

pub first_line : (read bytes : List ℕ) (at n : ℕ) → FirstEnd (drop at bytes) n → AreFirst (whole_lines (read ++ take at bytes ++ take (at + n - at) (drop at bytes) ++ 10 ∷ [])) (whole_lines (read ++ bytes))
first_line read bytes at n ends =
    let P : List ℕ → Type 0 = λ xs. AreFirst (whole_lines xs) (whole_lines (read ++ bytes)) in
    subst P (sym (taken_line read bytes at n ends)) (first_taken read bytes (at + (n + 1)))

pub stands_line : (e : Entry) (read bytes : List ℕ) (at n : ℕ) (session : Session) (now : Seen) → FirstEnd (drop at bytes) n → Stands e (read ++ take at bytes ++ take (at + n - at) (drop at bytes) ++ 10 ∷ []) session now → Stands e (read ++ take (at + (n + 1)) bytes) session now
stands_line e read bytes at n session now ends s =
    let P : List ℕ → Type 0 = λ xs. Stands e xs session now in
    subst P (taken_line read bytes at n ends) s

pub stands_rest : (e : Entry) (read bytes : List ℕ) (at : ℕ) (session : Session) (now : Seen) → Stands e (read ++ take at bytes ++ take (length bytes - at) (drop at bytes)) session now → Stands e (read ++ bytes) session now
stands_rest e read bytes at session now s =
    let P : List ℕ → Type 0 = λ xs. Stands e xs session now in
    subst P (ap (λ xs. read ++ take at bytes ++ xs) (whole_rest bytes at) ∙ all_taken read bytes at) s

-- the end of the input

pub no_bytes : (line : List ℕ) → kept_line line ≡ Some [] → line ≡ []
no_bytes line h = by (nat_lt longest_line (length line)) h
  where
    by : (t : Bool) → cond t None (Some line) ≡ Some [] → line ≡ []
    by true e = absurd (cc)
    by false e = cc

pub ended_now : (e : Entry) (read : List ℕ) (old : Session) (now : Seen) → old.line ≡ Some [] → Stands e read old now → Ended e read old now
ended_now e read old now none s =
    let all : whole_lines read ≡ all_lines read = sym (append-nil (whole_lines read)) ∙ ap (λ l. whole_lines read ++ line_if_some l) (sym (no_bytes (last_piece read) (sym s.line ∙ none))) in
    record {
      handled = record { inputs = s.handled.inputs; lines = s.handled.lines ∙ all; took = s.handled.took; written = s.handled.written; talk = s.handled.talk; keeper = s.handled.keeper };
      bad = s.bad;
    }

pub ended_last : (e : Entry) (read : List ℕ) (old new : Session) (before now : Seen) → (old.line ≡ Some [] → ⊥) → Stands e read old before → Stands e (read ++ 10 ∷ []) new now → Ended e read new now
ended_last e read old new before now some s t = record {
  handled = record { inputs = t.handled.inputs; lines = t.handled.lines ∙ sym (one_begun read old.line s.line some); took = t.handled.took; written = t.handled.written; talk = t.handled.talk; keeper = t.handled.keeper };
  bad = t.bad;
}

pub breaks_last : (stop : DeviceStop) (e : Entry) (alone : Type 0) (read : List ℕ) (old : Session) (before now : Seen) → (old.line ≡ Some [] → ⊥) → Stands e read old before → BreaksAs stop e alone (whole_lines (read ++ 10 ∷ [])) now → BreaksAs stop e alone (all_lines read) now
breaks_last stop e alone read old before now some s h = breaks_more stop e alone _ _ now ([], append-nil _ ∙ sym (one_begun read old.line s.line some)) h
