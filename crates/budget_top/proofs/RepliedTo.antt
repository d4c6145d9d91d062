-- A whole request that is accepted is answered, or memory runs out.
use Rattle.std.proofs.Common.{◌≡◌, ◌∙◌, ℕ, List, Bool, true, false, sym, ap, subst}
use Rattle.std.proofs.lemmas.Bool.{false≢true}
use Rattle.budget_ports.specs.Contents.{Contents, Text}
use Rattle.field_merge.specs.declared.message.Message.{Message}
use Rattle.sync_wire.specs.declared.request.SyncRequest.{SyncRequest}
use Rattle.sync_server.specs.declared.served.Served.TheVariants as served
use Rattle.sync_server.specs.Laws.{ConnectionsAreDecided}
use Rattle.sync_server.specs.Outside.{HasFound}
use Rattle.sync_server.specs.Serving.{Verdict, Ends, Refuses, Accepts, reply_of, HasStatus, Decides, by_head, too_large, no_head, bytes_end, Means, decided, keeper_fault, no_memory as out_of_memory, Visit, answered, ended, unread, unwritten}
use Rattle.sync_server.specs.declared.refusal.Refusal.TheVariants.{NoMemory}
use Rattle.budget_top.specs.Replied.{GetsReply, accepted, no_memory, AcceptedGetReplies}

module _ (law : ConnectionsAreDecided) where
  -- bytes that are accepted decide nothing else
  one_verdict : (token : Text) (k : Contents) (came : List ℕ) (ms : List Message) (q : SyncRequest) (w : Verdict) → Decides token (HasFound k) came (Accepts ms q) → Decides token (HasFound k) came w → w ≡ Accepts ms q
  one_verdict token k came ms q w (by_head head more rest near far d) other =
      let one = law.one_verdict token k came head more near in
      (one.1 w).0 other ∙ sym ((one.1 (Accepts ms q)).0 (by_head head more rest near far d))
  one_verdict token k came ms q w (too_large none many e) other = absurd (cc)
  one_verdict token k came ms q w (no_head none e) other = absurd (cc)
  one_verdict token k came ms q w (bytes_end none few e) other = absurd (cc)

  not_both : (b : Bool) → b ≡ false → b ≡ true → ⊥
  not_both b e is = false≢true (sym e ∙ is)

  whole_reply : (ms : List Message) (q : SyncRequest) (visit : Visit) (status : ℕ) → HasStatus visit.verdict status → visit.wrote ≡ reply_of visit.verdict → visit.verdict ≡ Accepts ms q → GetsReply ms q visit (served.Answered status)
  whole_reply ms q visit status has wrote is =
      accepted (ap served.Answered (subst (λ (v : Verdict). HasStatus v status) is has)) is (wrote ∙ ap reply_of is)

  lacks_memory : (ms : List Message) (q : SyncRequest) (visit : Visit) (status : ℕ) → HasStatus visit.verdict status → visit.wrote ≡ reply_of visit.verdict → visit.verdict ≡ Refuses NoMemory → GetsReply ms q visit (served.Answered status)
  lacks_memory ms q visit status has wrote is =
      no_memory (ap served.Answered (subst (λ (v : Verdict). HasStatus v status) is has)) (wrote ∙ ap reply_of is)

  means_reply : (token : Text) (k : Contents) (visit : Visit) (ms : List Message) (q : SyncRequest) (status : ℕ) → Decides token (HasFound k) visit.came (Accepts ms q) → visit.keeper_failed ≡ false
      → HasStatus visit.verdict status → visit.wrote ≡ reply_of visit.verdict → Means token (HasFound k) visit.came visit.keeper_failed visit.verdict → GetsReply ms q visit (served.Answered status)
  means_reply token k visit ms q status accepts fine has wrote (decided f d) = whole_reply ms q visit status has wrote (one_verdict token k visit.came ms q visit.verdict accepts d)
  means_reply token k visit ms q status accepts fine has wrote (keeper_fault f asks e) = absurd (not_both visit.keeper_failed fine f)
  means_reply token k visit ms q status accepts fine has wrote (out_of_memory f e) = lacks_memory ms q visit status has wrote e

  pub get_replies : AcceptedGetReplies
  get_replies token k visit end ms q accepts fine shut (answered status m has wrote f) = means_reply token k visit ms q status accepts fine has wrote m
  get_replies token k visit end ms q accepts fine shut (ended e d wrote f g) = absurd (let same = one_verdict token k visit.came ms q Ends accepts d in cc)
  get_replies token k visit end ms q accepts fine shut (unread e front back is un wrote f g) = absurd (not_both visit.door_failed shut g)
  get_replies token k visit end ms q accepts fine shut (unwritten m rest is some g) = absurd (not_both visit.door_failed shut g)
