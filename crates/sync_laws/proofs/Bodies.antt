-- Which bytes behind a head decide: there is one verdict, and this is one.
use Rattle.std.specs.Prelude.{◌↔◌}
use Rattle.std.proofs.Common.{◌≡◌, ◌∙◌, ◌≤◌, ℕ, List, ◌++◌, length, take, Ok, refl, sym, subst, arith}
use Rattle.std.proofs.lemmas.List.{length-append, take_at}
use Rattle.httparse.specs.Grammar.{RequestHead}
use Rattle.budget_ports.specs.Contents.{Contents, Text}
use Rattle.sync_server.specs.declared.refusal.Refusal.TheVariants.{BadMessage}
use Rattle.sync_server.specs.Heads.{judge_head, HasHead}
use Rattle.sync_server.specs.Laws.{HasOneVerdict, ConnectionsAreDecided}
use Rattle.sync_server.specs.Outside.{HasFound}
use Rattle.sync_server.specs.Serving.{found_in, Verdict, Ends, Refuses, judge_request, Decides, by_head, short, whole, DecidesBody, no_request, request}
use Rattle.sync_laws.specs.Server.{BodiesDecide}

-- where one verdict is decided, it is any one that is
this_one : (token : Text) (k : Contents) (came : List ℕ) → HasOneVerdict token k came → (v : Verdict) → Decides token (HasFound k) came v → (w : Verdict) → Decides token (HasFound k) came w ↔ (w ≡ v)
this_one token k came one v d w =
    let is : v ≡ one.0 = (one.1 v).0 d in
    (λ e. (one.1 w).0 e ∙ sym is, λ e. (one.1 w).1 (e ∙ is))

fits : (body after : List ℕ) → length body ≤ length (body ++ after)
fits body after = omega (arith, length-append body after)

-- as many bytes as the head tells decide
by_body : (token : Text) (k : Contents) (came : List ℕ) (head : RequestHead) (more body after : List ℕ) (v : Verdict) → HasHead (take 65536 came) head more → HasHead came head (body ++ after)
    → judge_head token head ≡ Ok (length body) → DecidesBody (HasFound k) body v → Decides token (HasFound k) came v
by_body token k came head more body after v near far e d =
    by_head head more (body ++ after) near far
    (whole (length body) e (fits body after) (subst (λ (x : List ℕ). DecidesBody (HasFound k) x v) (sym (take_at body after (length body) refl)) d))

pub bodies : ConnectionsAreDecided → BodiesDecide
bodies law = record {
  ends = λ token k came head more rest n v near far e less.
      this_one token k came (law.one_verdict token k came head more near) Ends (by_head head more rest near far (short n e less refl)) v;
  requests = λ token k came head more body after q v near far e is.
      this_one token k came (law.one_verdict token k came head more near) (judge_request q (found_in k q)) (by_body token k came head more body after _ near far e (request q (found_in k q) is refl refl)) v;
  faults = λ token k came head more body after f v near far e is.
      this_one token k came (law.one_verdict token k came head more near) (Refuses BadMessage) (by_body token k came head more body after _ near far e (no_request f is refl)) v;
}
