-- What was answered is right, and stays.
use Rattle.std.proofs.Common.{◌≡◌, List, [], ◌∷◌, ◌++◌, Ok, refl, sym, ap, subst, ◌∙◌, arith}
use Rattle.budget_ports.specs.Contents.{Contents, Text, records_after}
use Rattle.field_merge.specs.declared.message.Message.{Message}
use Rattle.field_merge.specs.Log.{join}
use Rattle.kept_messages.specs.Records.{kept_set}
use Rattle.kept_messages.proofs.Groups.{of_cons}
use Rattle.kept_messages.proofs.Starting.{rising_set}
use Rattle.sync_wire.specs.declared.request.SyncRequest.{SyncRequest}
use Rattle.sync_server.specs.declared.served.Served.{Served}
use Rattle.sync_server.specs.declared.served.Served.TheVariants as served
use Rattle.sync_server.specs.Answer.{answer_of}
use Rattle.sync_server.specs.Laws.{AnswersTell}
use Rattle.sync_server.specs.Serving.{Found, Verdict, Ends, Refuses, Accepts, reply_of, Decides, Visit, IsServed, kept_after}
use Rattle.sync_server.specs.Outside.{HasFound}
use Rattle.budget_top.specs.Serving.{Turn, AreServed, kept_by}
use Rattle.budget_top.specs.Answers.{KeepsAll, IsAnswered, KeepAnswered, IsToldRight, AnswersStay}
use Rattle.budget_top.specs.ServeSteps.{KeepsMore}
use Rattle.budget_top.proofs.Visits.{served_on, served_decided, good, decided_more, decided_set}

-- what a keeper has that tells
abbrev Tells : Contents → SyncRequest → Found → Type 0
Tells k q found = Unit {0} → HasFound k q found

decides : (token : Text) (k : Contents) (t : Turn) (ms : List Message) (q : SyncRequest) → t.visit.verdict ≡ Accepts ms q → IsServed token (Tells k) t.visit t.end → Decides token (HasFound k) t.visit.came t.visit.verdict
decides token k t ms q is h = served_decided token (HasFound k) t.visit t.end ms q is (served_on token (Tells k) (HasFound k) (λ q found f. f tt) t.visit t.end h)

-- ---- one connection

one_more : (token : Text) (k : Contents) (t : Turn) → IsServed token (Tells k) t.visit t.end → (v : Verdict) → t.visit.verdict ≡ v → KeepsMore k (kept_after v k)
one_more token k t h Ends is = λ group ms keeps. keeps
one_more token k t h (Refuses refusal) is = λ group ms keeps. keeps
one_more token k t h (Accepts ms q) is =
    let P : Verdict → Type 0 = λ v. Decides token (HasFound k) t.visit.came v in
    decided_more token k t.visit.came (Accepts ms q) (subst P is (decides token k t ms q is h))

one_set : (token : Text) (k : Contents) (t : Turn) (ms : List Message) (q : SyncRequest) → t.visit.verdict ≡ Accepts ms q → IsServed token (Tells k) t.visit t.end → KeepsAll (kept_after t.visit.verdict k) q.group (join ms q.messages)
one_set token k t ms q is h =
    let P : Verdict → Type 0 = λ v. Decides token (HasFound k) t.visit.came v in
    let Q : Verdict → Type 0 = λ v. KeepsAll (kept_after v k) q.group (join ms q.messages) in
    subst Q (sym is) (decided_set token k t.visit.came ms q (subst P is (decides token k t ms q is h)))

wrote_all : (token : Text) (F : SyncRequest → Found → Type 0) (visit : Visit) (end : Served) → end ≡ served.Answered 200 → IsServed token F visit end → visit.wrote ≡ reply_of visit.verdict
wrote_all token F visit (served.Answered status) is (IsServed.answered s m has wrote fine) = wrote
wrote_all token F visit served.Cut is h = absurd (cc)

right : AnswersTell → (token : Text) (k : Contents) (t : Turn) (ms : List Message) (q : SyncRequest) → IsServed token (Tells k) t.visit t.end → IsAnswered t ms q → IsToldRight k t ms q
right tells token k t ms q h is =
    let had : kept_set (records_after k q.group []) ≡ Ok ms = (good token k ms q t.visit.came t.visit.verdict is.verdict (decides token k t ms q is.verdict h)).1 in
    record {
      had = had;
      reply = answer_of ms q;
      wrote = wrote_all token (Tells k) t.visit t.end is.end h ∙ ap reply_of is.verdict;
      exactly = λ m. tells.exactly ms q m;
      in_order = tells.in_order ms q (rising_set (records_after k q.group []) ms had);
    }

-- ---- all of them

told_right : AnswersTell → (token : Text) (k : Contents) (earlier later : List Turn) (t : Turn) (ms : List Message) (q : SyncRequest) → AreServed (Unit {0}) token k (earlier ++ t ∷ later) → IsAnswered t ms q → IsToldRight (kept_by k earlier) t ms q
told_right tells token k [] later t ms q h is = right tells token k t ms q h.0 is
told_right tells token k (s ∷ earlier) later t ms q h is = told_right tells token (kept_after s.visit.verdict k) earlier later t ms q h.1 is

all_more : (token : Text) (k : Contents) (ts : List Turn) → AreServed (Unit {0}) token k ts → KeepsMore k (kept_by k ts)
all_more token k [] h group ms keeps = keeps
all_more token k (t ∷ ts) h group ms keeps = all_more token (kept_after t.visit.verdict k) ts h.1 group ms (one_more token k t h.0 t.visit.verdict refl group ms keeps)

stays : (token : Text) (k : Contents) (earlier later : List Turn) → AreServed (Unit {0}) token k (earlier ++ later) → KeepAnswered earlier (kept_by k (earlier ++ later))
stays token k [] later h s ms q (i, within, at) is = absurd (omega (arith, within))
stays token k (t ∷ earlier) later h s ms q c is =
    let k1 = kept_after t.visit.verdict k in
    let P : Turn → Type 0 = λ r. (ns : List Message) (p : SyncRequest) → IsAnswered r ns p → KeepsAll (kept_by k (t ∷ earlier ++ later)) p.group (join ns p.messages) in
    of_cons P t earlier s
    (λ ns p answered. all_more token k1 (earlier ++ later) h.1 p.group (join ns p.messages) (one_set token k t ns p answered.verdict h.0))
    (λ r inside ns p answered. stays token k1 earlier later h.1 r ns p inside answered) c ms q is

pub stay_by : AnswersTell → AnswersStay
stay_by tells = record { told = told_right tells; kept = stays }
