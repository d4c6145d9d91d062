-- How a server's run goes on and ends.
use Rattle.std.proofs.Common.{◌≡◌, ℕ, ◌+◌, ◌<◌, List, [], ◌∷◌, ◌++◌, length, Option, None, Some, true, refl, sym, ap, subst, ◌∙◌, arith}
use Rattle.std.proofs.KnownBytes.{Appends-trans, Appends-nil}
use Rattle.std.specs.Io.KnownBytes.{Appends}
use Rattle.budget_ports.specs.Connections.{Stays}
use Rattle.budget_ports.specs.Contents.{Contents, Text}
use Rattle.budget_ports.specs.Faults.{count_after}
use Rattle.budget_ports.specs.Keeper.{IsAlone}
use Rattle.sync_server.specs.declared.served.Served.{Served}
use Rattle.sync_server.specs.Serving.{Visit}
use Rattle.sync_server.specs.Outside.{HasServed as HasServedOne}
use Rattle.budget_top.specs.Fronts.{IsFront, AppendsFront}
use Rattle.budget_top.specs.Serving.{Turn, AreServed, kept_by, keeper_faults_by, AreNext, ComeIn, GoOut, end_line, end_lines}
use Rattle.budget_top.specs.ServeRun.{AtDoor, HasServed}
use Rattle.budget_top.specs.ServeSteps.{Behind, ServedSoFar}
use Rattle.budget_top.proofs.Standing.{appends_as}
use Rattle.budget_top.proofs.Behind.{behind_none, behind_now, served_along, lines_last, turns_last}

pub so_far_none : (token : Text) (entry : AtDoor) → IsAlone entry.tells entry.contents entry.left → ServedSoFar token entry 0 entry
so_far_none token entry alone = record { turns = []; many = refl; behind = behind_none token entry alone; written = Appends-nil entry.taken }

come_still : (a b c : Option (List (List ℕ))) (ts : List Turn) → ComeIn a b ts → Stays b c → ComeIn a c ts
come_still None b c ts h k = tt
come_still (Some a) None c ts h k = absurd h
come_still (Some a) (Some b) None ts h k = absurd k
come_still (Some a) (Some b) (Some c) ts h k = subst (λ (w : List (List ℕ)). AreNext a ts w) (sym k) h

went_still : (a b c : Option (List (List ℕ))) (ts : List Turn) → GoOut a b ts → Stays b c → GoOut a c ts
went_still None b c ts h k = tt
went_still (Some a) None c ts h k = absurd h
went_still (Some a) (Some b) None ts h k = absurd k
went_still (Some a) (Some b) (Some c) ts h k = k ∙ h

-- all connections were served
pub all_served : (token : Text) (entry now : AtDoor) (number count : ℕ) → ServedSoFar token entry number now → number ≡ count → HasServed token count entry.contents 0 entry now
all_served token entry now number count s is = record {
  known = refl;
  turns = s.turns;
  few = omega (arith, s.many, is);
  all = λ e. s.many ∙ is;
  more = λ e. absurd (omega (arith, e));
  came = s.behind.came;
  went = s.behind.went;
  served = s.behind.served;
  kept = s.behind.kept;
  written = λ e. s.written;
  cut = λ e. absurd (omega (arith, e));
  keeper_faults = s.behind.keeper_faults;
  door_faults = s.behind.door_faults;
  stops = s.behind.stops;
}

-- the door let no one in
pub shut_out : (token : Text) (entry before : AtDoor) (number count : ℕ) (waiting outs : Option (List (List ℕ))) (faults : ℕ) → ServedSoFar token entry number before → number < count
    → Stays before.waiting waiting → Stays before.outs outs → faults ≡ count_after true before.door_faults
    → HasServed token count entry.contents 8 entry (record before { waiting = waiting; outs = outs; door_faults = faults })
shut_out token entry before number count waiting outs faults s less w o f = record {
  known = refl;
  turns = s.turns;
  few = omega (arith, s.many, less);
  all = λ e. absurd (omega (arith, e));
  more = λ e. omega (arith, s.many, less);
  came = come_still entry.waiting before.waiting waiting s.turns s.behind.came w;
  went = went_still entry.outs before.outs outs s.turns s.behind.went o;
  served = s.behind.served;
  kept = s.behind.kept;
  written = λ e. s.written;
  cut = λ e. absurd (omega (arith, e));
  keeper_faults = s.behind.keeper_faults;
  door_faults = f ∙ ap (count_after true) s.behind.door_faults;
  stops = s.behind.stops;
}

module _ (token own : Text) (entry before now : AtDoor) (number count : ℕ) (s : ServedSoFar token entry number before) (same : own ≡ token) (visit : Visit) (end : Served)
    (h : HasServedOne own visit end before.waiting now.waiting before.outs now.outs before.door_faults now.door_faults before.tells now.tells before.contents now.contents before.left now.left before.keeper_faults now.keeper_faults) where
  abbrev turn : Turn
  turn = record { visit = visit; end = end }

  abbrev all : List Turn
  all = s.turns ++ turn ∷ []

  many : length all ≡ number + 1
  many = omega (arith, turns_last s.turns turn, s.many)

  here : Behind token entry all now
  here =
      let P : Text → Type 0 = λ t. HasServedOne t visit end before.waiting now.waiting before.outs now.outs before.door_faults now.door_faults before.tells now.tells before.contents now.contents before.left now.left before.keeper_faults now.keeper_faults in
      behind_now token entry before now s.turns s.behind visit end (subst P same h)

  line_of : end_line (number + 1) end ≡ end_line (length s.turns + 1) end
  line_of = ap (λ n. end_line (n + 1) end) (sym s.many)

  -- and its line was written
  pub so_far_on : Appends before.taken now.taken (end_line (number + 1) end) → ServedSoFar token entry (number + 1) now
  so_far_on w = record {
    turns = all;
    many = many;
    behind = here;
    written = appends_as entry.taken now.taken _ _ (ap (λ x. end_lines s.turns ++ x) line_of ∙ sym (lines_last s.turns turn))
        (Appends-trans entry.taken before.taken now.taken (end_lines s.turns) (end_line (number + 1) end) s.written w);
  }

  -- and the sink failed at its line
  pub cut_short : number < count → AppendsFront before.taken now.taken (end_line (number + 1) end) → HasServed token count entry.contents 5 entry now
  cut_short less f = record {
    known = refl;
    turns = all;
    few = omega (arith, many, less);
    all = λ e. absurd (omega (arith, e));
    more = λ e. absurd (omega (arith, e));
    came = here.came;
    went = here.went;
    served = here.served;
    kept = here.kept;
    written = λ other. absurd (other refl);
    cut = λ e. record {
      earlier = s.turns;
      last = turn;
      all = refl;
      part = f.front;
      of = let P : ℕ → Type 0 = λ n. IsFront f.front (end_line n end) in subst P (sym many) f.of;
      written = Appends-trans entry.taken before.taken now.taken (end_lines s.turns) f.front s.written f.written;
    };
    keeper_faults = here.keeper_faults;
    door_faults = here.door_faults;
    stops = here.stops;
  }

-- ---- the file has got its group

-- what was served from then on, as seen from the beginning
pub opened : (token own : Text) (count : ℕ) (first middle : Contents) (status : ℕ) (old now : AtDoor) (faults : ℕ) (tells : Type 0) (left : Contents → Type 0)
    → own ≡ token → faults ≡ old.keeper_faults → (now.tells → middle ≡ first)
    → HasServed own count middle status (record old { keeper_faults = faults; tells = tells; contents = middle; left = left }) now → HasServed token count first status old now
opened token own count first middle status old now faults tells left is same from h = record {
  known = h.known;
  turns = h.turns;
  few = h.few;
  all = h.all;
  more = h.more;
  came = h.came;
  went = h.went;
  served =
      served_along now.tells now.tells token middle first h.turns (λ t. t) from
      (subst (λ (t : Text). AreServed now.tells t middle h.turns) is h.served);
  kept = λ t. h.kept t ∙ ap (λ k. kept_by k h.turns) (from t);
  written = h.written;
  cut = h.cut;
  keeper_faults = h.keeper_faults ∙ ap (λ n. keeper_faults_by n h.turns) same;
  door_faults = h.door_faults;
  stops = h.stops;
}
