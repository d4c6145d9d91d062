-- Where a server stands behind one more connection.
use Rattle.std.proofs.Common.{◌≡◌, ℕ, ◌+◌, List, [], ◌∷◌, ◌++◌, length, map, drop, Option, None, Some, refl, sym, ap, subst, ◌∙◌, inl, inr, append_assoc, append-nil, arith}
use Rattle.std.specs.List.{Contains}
use Rattle.std.proofs.lemmas.List.Elements.{Contains-append_cases}
use Rattle.budget_ports.specs.declared.keeper.Record.{Record}
use Rattle.budget_ports.specs.Connections.{LetsIn, next_bytes}
use Rattle.budget_ports.specs.Contents.{Contents, Text, appended}
use Rattle.budget_ports.specs.Faults.{count_after}
use Rattle.budget_ports.specs.Keeper.{IsAlone}
use Rattle.field_merge.specs.declared.message.Message.{Message}
use Rattle.field_merge.specs.Log.{join}
use Rattle.kept_messages.proofs.Groups.{of_cons}
use Rattle.sync_wire.specs.declared.request.SyncRequest.{SyncRequest}
use Rattle.sync_server.specs.declared.served.Served.{Served}
use Rattle.sync_server.specs.Serving.{Verdict, Ends, Refuses, Accepts, Decides, Visit, IsServed, kept_after, batch_of}
use Rattle.sync_server.specs.Outside.{IsNext, Gains, HasFound, HasServed}
use Rattle.budget_top.specs.Serving.{Turn, AreServed, kept_by, keeper_faults_by, door_faults_by, AreNext, ComeIn, GoOut, end_line, end_lines_from, end_lines}
use Rattle.budget_top.specs.Answers.{KeepsAll, IsAnswered, KeepAnswered}
use Rattle.budget_top.specs.ServeRun.{AtDoor}
use Rattle.budget_top.specs.ServeSteps.{KeepsMore, Behind}
use Rattle.budget_top.proofs.Visits.{served_on, served_decided, decided_more, decided_set}

none_in : {A : Type 0} (x : A) → Contains [] x → ⊥
none_in x (k, within, is) = omega (arith, within)

-- ---- one turn more

next_last : (a b c : List (List ℕ)) (ts : List Turn) (t : Turn) → AreNext a ts b → t.visit.came ≡ next_bytes b → c ≡ drop 1 b → AreNext a (ts ++ t ∷ []) c
next_last a b c [] t h came rest = (came ∙ ap next_bytes h, rest ∙ ap (drop 1) h)
next_last a b c (s ∷ ts) t h came rest = (h.0, next_last (drop 1 a) b c ts t h.1 came rest)

pub come_last : (a b c : Option (List (List ℕ))) (ts : List Turn) (t : Turn) → ComeIn a b ts → LetsIn b c → IsNext b t.visit.came → ComeIn a c (ts ++ t ∷ [])
come_last None b c ts t h k l = tt
come_last (Some a) None c ts t h k l = absurd h
come_last (Some a) (Some b) None ts t h k l = absurd k
come_last (Some a) (Some b) (Some c) ts t h k l = next_last a b c ts t h l k

wrote_last : (ts : List Turn) (t : Turn) → map (λ (s : Turn). s.visit.wrote) (ts ++ t ∷ []) ≡ map (λ (s : Turn). s.visit.wrote) ts ++ t.visit.wrote ∷ []
wrote_last [] t = refl
wrote_last (s ∷ ts) t = ap (λ xs. s.visit.wrote ∷ xs) (wrote_last ts t)

pub went_last : (a b c : Option (List (List ℕ))) (ts : List Turn) (t : Turn) → GoOut a b ts → Gains b c t.visit.wrote → GoOut a c (ts ++ t ∷ [])
went_last None b c ts t h k = tt
went_last (Some a) None c ts t h k = absurd h
went_last (Some a) (Some b) None ts t h k = absurd k
went_last (Some a) (Some b) (Some c) ts t h k =
    k ∙ ap (λ xs. xs ++ t.visit.wrote ∷ []) h ∙ append_assoc a (map (λ (s : Turn). s.visit.wrote) ts) (t.visit.wrote ∷ []) ∙ ap (λ xs. a ++ xs) (sym (wrote_last ts t))

pub kept_last : (k : Contents) (ts : List Turn) (t : Turn) → kept_by k (ts ++ t ∷ []) ≡ kept_after t.visit.verdict (kept_by k ts)
kept_last k [] t = refl
kept_last k (s ∷ ts) t = kept_last (kept_after s.visit.verdict k) ts t

keeper_last : (n : ℕ) (ts : List Turn) (t : Turn) → keeper_faults_by n (ts ++ t ∷ []) ≡ count_after t.visit.keeper_failed (keeper_faults_by n ts)
keeper_last n [] t = refl
keeper_last n (s ∷ ts) t = keeper_last (count_after s.visit.keeper_failed n) ts t

door_last : (n : ℕ) (ts : List Turn) (t : Turn) → door_faults_by n (ts ++ t ∷ []) ≡ count_after t.visit.close_failed (count_after t.visit.door_failed (door_faults_by n ts))
door_last n [] t = refl
door_last n (s ∷ ts) t = door_last (count_after s.visit.close_failed (count_after s.visit.door_failed n)) ts t

served_last : (T : Type 0) (token : Text) (k : Contents) (ts : List Turn) (t : Turn) → AreServed T token k ts → IsServed token (λ q found. T → HasFound (kept_by k ts) q found) t.visit t.end → AreServed T token k (ts ++ t ∷ [])
served_last T token k [] t h one = (one, tt)
served_last T token k (s ∷ ts) t h one = (h.0, served_last T token (kept_after s.visit.verdict k) ts t h.1 one)

-- where less is told, of contents that are the same where it is told
pub served_along : (T U : Type 0) (token : Text) (k l : Contents) (ts : List Turn) → (U → T) → (U → k ≡ l) → AreServed T token k ts → AreServed U token l ts
served_along T U token k l [] told same h = tt
served_along T U token k l (t ∷ ts) told same h = (
  served_on token (λ q found. T → HasFound k q found) (λ q found. U → HasFound l q found)
      (λ q found f u. subst (λ (x : Contents). HasFound x q found) (same u) (f (told u))) t.visit t.end h.0,
  served_along T U token (kept_after t.visit.verdict k) (kept_after t.visit.verdict l) ts told (λ u. ap (kept_after t.visit.verdict) (same u)) h.1,
)

lines_from_last : (n : ℕ) (ts : List Turn) (t : Turn) → end_lines_from n (ts ++ t ∷ []) ≡ end_lines_from n ts ++ end_line (length ts + n) t.end
lines_from_last n [] t =
    let same : n ≡ length {A = Turn} [] + n = omega arith in
    append-nil (end_line n t.end) ∙ ap (λ m. end_line m t.end) same
lines_from_last n (s ∷ ts) t =
    let P : ℕ → Type 0 = λ m. end_lines_from (n + 1) (ts ++ t ∷ []) ≡ end_lines_from (n + 1) ts ++ end_line m t.end in
    let rest : end_lines_from (n + 1) (ts ++ t ∷ []) ≡ end_lines_from (n + 1) ts ++ end_line (length (s ∷ ts) + n) t.end = subst P (omega arith) (lines_from_last (n + 1) ts t) in
    ap (λ xs. end_line n s.end ++ xs) rest ∙ sym (append_assoc (end_line n s.end) (end_lines_from (n + 1) ts) (end_line (length (s ∷ ts) + n) t.end))

pub lines_last : (ts : List Turn) (t : Turn) → end_lines (ts ++ t ∷ []) ≡ end_lines ts ++ end_line (length ts + 1) t.end
lines_last ts t = lines_from_last 1 ts t

pub turns_last : (ts : List Turn) (t : Turn) → length (ts ++ t ∷ []) ≡ length ts + 1
turns_last [] t = refl
turns_last (s ∷ ts) t = omega (arith, turns_last ts t)

-- ---- the step

no_batch : (k : Contents) (g : Text) (rs : List Record) → rs ≡ [] → appended k g rs ≡ k
no_batch k g rs is = ap (λ xs. appended k g xs) is

module _ (token : Text) (entry before now : AtDoor) (turns : List Turn) (b : Behind token entry turns before) (visit : Visit) (end : Served)
    (h : HasServed token visit end before.waiting now.waiting before.outs now.outs before.door_faults now.door_faults before.tells now.tells before.contents now.contents before.left now.left before.keeper_faults now.keeper_faults) where
  abbrev turn : Turn
  turn = record { visit = visit; end = end }

  abbrev all : List Turn
  all = turns ++ turn ∷ []

  told : now.tells → before.tells
  told t = h.keeper.told t

  -- what was decided, of the contents that were told
  decides : now.tells → (ms : List Message) (q : SyncRequest) → visit.verdict ≡ Accepts ms q → Decides token (HasFound before.contents) visit.came visit.verdict
  decides t ms q is =
      served_decided token (HasFound before.contents) visit end ms q is
      (served_on token (λ q found. now.tells → HasFound before.contents q found) (HasFound before.contents) (λ q found f. f t) visit end h.served)

  accepted_is : now.tells → (ms : List Message) (q : SyncRequest) → visit.verdict ≡ Accepts ms q → now.contents ≡ kept_after (Accepts ms q) before.contents
  accepted_is t ms q is = h.keeper.keeps t ∙ ap (λ v. kept_after v before.contents) is

  -- the keeper keeps what it kept, and an accepted request's messages
  grows_by : now.tells → (v : Verdict) → visit.verdict ≡ v → KeepsMore before.contents now.contents
  grows_by t Ends is = subst (KeepsMore before.contents) (sym (h.keeper.keeps t ∙ ap (λ v. kept_after v before.contents) is)) (λ group ms keeps. keeps)
  grows_by t (Refuses refusal) is = subst (KeepsMore before.contents) (sym (h.keeper.keeps t ∙ ap (λ v. kept_after v before.contents) is)) (λ group ms keeps. keeps)
  grows_by t (Accepts ms q) is =
      subst (KeepsMore before.contents) (sym (h.keeper.keeps t)) (decided_more token before.contents visit.came visit.verdict (decides t ms q is))

  grows : now.tells → KeepsMore before.contents now.contents
  grows t = grows_by t visit.verdict refl

  set_now : now.tells → (ms : List Message) (q : SyncRequest) → visit.verdict ≡ Accepts ms q → KeepsAll now.contents q.group (join ms q.messages)
  set_now t ms q is =
      let P : Verdict → Type 0 = λ v. Decides token (HasFound before.contents) visit.came v in
      let Q : Contents → Type 0 = λ k. KeepsAll k q.group (join ms q.messages) in
      subst Q (sym (accepted_is t ms q is)) (decided_set token before.contents visit.came ms q (subst P is (decides t ms q is)))

  -- what holds of each turn before and of this one holds of all
  of_all : (P : Turn → Type 0) → ((s : Turn) → Contains turns s → P s) → P turn → (s : Turn) → Contains all s → P s
  of_all P old one s c = elim (Contains-append_cases turns (turn ∷ []) s c) [
    | inl inside ↦ old s inside
    | inr last ↦ of_cons P turn [] s one (λ z none. absurd (none_in z none)) last
  ]

  abbrev Kept : Contents → Turn → Type 0
  Kept c s = (ms : List Message) (q : SyncRequest) → IsAnswered s ms q → KeepsAll c q.group (join ms q.messages)

  answered_now : now.tells → KeepAnswered all now.contents
  answered_now t s ms q c is =
      of_all (Kept now.contents) (λ r inside ns p answered. grows t p.group (join ns p.messages) (b.answered (told t) r ns p inside answered))
      (λ ns p answered. set_now t ns p answered.verdict) s c ms q is

  -- what a stop leaves keeps what the keeper kept before, where that has not changed
  older : now.tells → now.contents ≡ before.contents → (c : Contents) → now.left c → KeepsMore now.contents c
  older t same c left =
      subst (λ (k : Contents). KeepsMore k c) (sym same)
      (elim (h.keeper.stops c left) [
        | inl old ↦ b.more (told t) c old
        | inr (tells, v, d, is) ↦ subst (KeepsMore before.contents) (sym is) (decided_more token before.contents visit.came v d)
      ])

  itself : (c : Contents) → c ≡ now.contents → KeepsMore now.contents c
  itself c is = subst (KeepsMore now.contents) (sym is) (λ group ms keeps. keeps)

  more_of : now.tells → (ms : List Message) (q : SyncRequest) → visit.verdict ≡ Accepts ms q → (batch : List Record) → batch_of ms q ≡ batch → (c : Contents) → now.left c → KeepsMore now.contents c
  more_of t ms q is [] none c left = older t (accepted_is t ms q is ∙ no_batch before.contents q.group (batch_of ms q) none) c left
  more_of t ms q is (r ∷ rs) some c left = itself c (h.keeper.alone ms q is (λ none. absurd (let no = sym none ∙ some in cc)) c left).1

  more_by : now.tells → (v : Verdict) → visit.verdict ≡ v → (c : Contents) → now.left c → KeepsMore now.contents c
  more_by t Ends is c left = older t (h.keeper.keeps t ∙ ap (λ v. kept_after v before.contents) is) c left
  more_by t (Refuses refusal) is c left = older t (h.keeper.keeps t ∙ ap (λ v. kept_after v before.contents) is) c left
  more_by t (Accepts ms q) is c left = more_of t ms q is (batch_of ms q) refl c left

  more_now : now.tells → (c : Contents) → now.left c → KeepsMore now.contents c
  more_now t c left = more_by t visit.verdict refl c left

  -- the answers before are in what a stop leaves
  stops_old : (c : Contents) → now.left c → KeepAnswered turns c
  stops_old c left = elim (h.keeper.stops c left) [
    | inl old ↦ b.stops c old
    | inr (tells, v, d, is) ↦ λ s ms q inside answered.
        subst (λ (k : Contents). KeepsAll k q.group (join ms q.messages)) (sym is)
        (decided_more token before.contents visit.came v d q.group (join ms q.messages) (b.answered tells s ms q inside answered))
  ]

  -- nothing was accepted: this turn has no answer
  stops_unless : ((ms : List Message) (q : SyncRequest) → visit.verdict ≡ Accepts ms q → ⊥) → (c : Contents) → now.left c → KeepAnswered all c
  stops_unless none c left s ms q inside answered =
      of_all (Kept c) (λ r in_turns ns p has. stops_old c left r ns p in_turns has) (λ ns p has. absurd (none ns p has.verdict)) s inside ms q answered

  stops_by : (v : Verdict) → visit.verdict ≡ v → (c : Contents) → now.left c → KeepAnswered all c
  stops_by Ends is c left = stops_unless (λ ms q has. let no = sym is ∙ has in cc) c left
  stops_by (Refuses refusal) is c left = stops_unless (λ ms q has. let no = sym is ∙ has in cc) c left
  stops_by (Accepts ms q) is c left = λ s ns p inside answered.
      let t = h.keeper.known ms q is c left in
      more_now t c left p.group (join ns p.messages) (answered_now t s ns p inside answered)

  pub behind_now : Behind token entry all now
  behind_now = record {
    told = λ t. b.told (told t);
    came = come_last entry.waiting before.waiting now.waiting turns turn b.came h.door.lets_in h.door.came;
    went = went_last entry.outs before.outs now.outs turns turn b.went h.door.wrote;
    served = served_last now.tells token entry.contents turns turn
        (served_along before.tells now.tells token entry.contents entry.contents turns told (λ t. refl) b.served)
        (served_on token (λ q found. now.tells → HasFound before.contents q found) (λ q found. now.tells → HasFound (kept_by entry.contents turns) q found)
        (λ q found f t. subst (λ (k : Contents). HasFound k q found) (b.kept (told t)) (f t)) visit end h.served);
    kept = λ t. h.keeper.keeps t ∙ ap (kept_after visit.verdict) (b.kept (told t)) ∙ sym (kept_last entry.contents turns turn);
    keeper_faults = h.keeper.count ∙ ap (count_after visit.keeper_failed) b.keeper_faults ∙ sym (keeper_last entry.keeper_faults turns turn);
    door_faults = h.door.count ∙ ap (λ n. count_after visit.close_failed (count_after visit.door_failed n)) b.door_faults ∙ sym (door_last entry.door_faults turns turn);
    answered = answered_now;
    more = more_now;
    stops = stops_by visit.verdict refl;
  }

-- ---- the beginning

come_none : (a : Option (List (List ℕ))) → ComeIn a a []
come_none None = tt
come_none (Some waited) = refl

went_none : (a : Option (List (List ℕ))) → GoOut a a []
went_none None = tt
went_none (Some outs) = sym (append-nil outs)

pub behind_none : (token : Text) (entry : AtDoor) → IsAlone entry.tells entry.contents entry.left → Behind token entry [] entry
behind_none token entry alone = record {
  told = λ t. t;
  came = come_none entry.waiting;
  went = went_none entry.outs;
  served = tt;
  kept = λ t. refl;
  keeper_faults = refl;
  door_faults = refl;
  answered = λ t s ms q inside answered. absurd (none_in s inside);
  more = λ t c left. subst (KeepsMore entry.contents) (sym (alone c left).1) (λ group ms keeps. keeps);
  stops = λ c left s ms q inside answered. absurd (none_in s inside);
}
