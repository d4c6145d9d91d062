use Rattle.std.proofs.Common.{◌∙◌, Ok, Err, sym, subst, ap}
use Rattle.sync_server.specs.Keeping.{HasKept}
use Rattle.budget_ports.specs.Faults.{count_after}
use Rattle.sync_server.specs.Asking.{IsAsked}
use Rattle.sync_server.specs.declared.asking.Asked.TheVariants as asked
use Rattle.sync_server.specs.Outside.{IsSent, is_cut}
use Rattle.sync_server.specs.Replies.{refusal_bytes, status_of}
use Rattle.sync_server.proofs.Pieces.{sent_on, stays_on}
use Rattle.sync_server.proofs.Visits.{accepted_visit, refused_visit, early_visit, ended_visit, unread_visit}
use Rattle.sync_server.proofs.serving.serve_open.Goals as goal

pub returns-in-Ok-clause-served : goal.returns-in-Ok-clause-served
returns-in-Ok-clause-served g c =
    let a = c.in-Request.ensures.asked in
    let te = c.bytes.ensures.value ∙ c.token.ensures in
    let q = subst (λ t. IsAsked t a.0 (asked.Request c.in-Request.request)) te a.2 in
    let k = c.in-Ok.ensures.kept in
    let count = c.send.ensures.count ∙ ap (count_after (is_cut c.send.result)) c.in-Request.ensures.count in
    accepted_visit c.args.state.now.token (g.K.Keeper.tells c.args.keeper.now) (g.K.Keeper.tells c.keep.new.keeper) (g.K.Keeper.contents c.args.keeper.now) (g.K.Keeper.contents c.keep.new.keeper) (g.K.Keeper.left c.args.keeper.now) (g.K.Keeper.left c.keep.new.keeper) (g.K.Keeper.faults c.args.keeper.now) (g.K.Keeper.faults c.keep.new.keeper) c.args.state.now c.keep.new.state a.0 (g.D.Door.left c.args.door.now) (g.D.Door.outs c.args.door.now) (g.D.Door.outs c.send.new.door) (g.D.Door.faults c.args.door.now) (g.D.Door.faults c.send.new.door) c.send.result a.1 count q.0 k.0 c.in-Ok.reply (subst (λ r. HasKept r k.0 c.args.state.now c.keep.new.state (g.K.Keeper.tells c.args.keeper.now) (g.K.Keeper.tells c.keep.new.keeper) (g.K.Keeper.contents c.args.keeper.now) (g.K.Keeper.contents c.keep.new.keeper) (g.K.Keeper.left c.args.keeper.now) (g.K.Keeper.left c.keep.new.keeper) (Ok c.in-Ok.reply)) (sym q.1) k.1) c.in-Ok.ensures.count (sent_on c.in-Ok.reply 200 (g.D.Door.outs c.args.door.now) (g.D.Door.outs c.ask.new.door) (g.D.Door.outs c.send.new.door) c.send.result c.in-Request.ensures.others.1 (subst (λ t. IsSent t 200 (g.D.Door.outs c.ask.new.door) (g.D.Door.outs c.send.new.door) c.send.result) c.as_slice.ensures c.send.ensures.sent))

pub returns-in-Request-clause-served : goal.returns-in-Request-clause-served
returns-in-Request-clause-served g c =
    let a = c.in-Request.ensures.asked in
    let te = c.bytes.ensures.value ∙ c.token.ensures in
    let q = subst (λ t. IsAsked t a.0 (asked.Request c.in-Request.request)) te a.2 in
    let k = c.in-Err.ensures.kept in
    let count = c.send-in-Err.ensures.count ∙ ap (count_after (is_cut c.send-in-Err.result)) c.in-Request.ensures.count in
    let r = c.in-Err.refusal in
    refused_visit c.args.state.now.token (g.K.Keeper.tells c.args.keeper.now) (g.K.Keeper.tells c.keep.new.keeper) (g.K.Keeper.contents c.args.keeper.now) (g.K.Keeper.contents c.keep.new.keeper) (g.K.Keeper.left c.args.keeper.now) (g.K.Keeper.left c.keep.new.keeper) (g.K.Keeper.faults c.args.keeper.now) (g.K.Keeper.faults c.keep.new.keeper) c.args.state.now c.keep.new.state a.0 (g.D.Door.left c.args.door.now) (g.D.Door.outs c.args.door.now) (g.D.Door.outs c.send-in-Err.new.door) (g.D.Door.faults c.args.door.now) (g.D.Door.faults c.send-in-Err.new.door) c.send-in-Err.result a.1 count q.0 k.0 r (subst (λ r. HasKept r k.0 c.args.state.now c.keep.new.state (g.K.Keeper.tells c.args.keeper.now) (g.K.Keeper.tells c.keep.new.keeper) (g.K.Keeper.contents c.args.keeper.now) (g.K.Keeper.contents c.keep.new.keeper) (g.K.Keeper.left c.args.keeper.now) (g.K.Keeper.left c.keep.new.keeper) (Err c.in-Err.refusal)) (sym q.1) k.1) c.in-Err.ensures.count (sent_on (refusal_bytes r) (status_of r) (g.D.Door.outs c.args.door.now) (g.D.Door.outs c.ask.new.door) (g.D.Door.outs c.send-in-Err.new.door) c.send-in-Err.result c.in-Request.ensures.others.1 (subst (λ t. IsSent t (status_of r) (g.D.Door.outs c.ask.new.door) (g.D.Door.outs c.send-in-Err.new.door) c.send-in-Err.result) (c.as_bytes.ensures.value ∙ c.reply-in-Err.ensures) (subst (λ st. IsSent c.as_bytes.result.now st (g.D.Door.outs c.ask.new.door) (g.D.Door.outs c.send-in-Err.new.door) c.send-in-Err.result) c.status.ensures c.send-in-Err.ensures.sent)))

pub returns-in-Refused-clause-served : goal.returns-in-Refused-clause-served
returns-in-Refused-clause-served g c =
    let a = c.in-Refused.ensures.asked in
    let te = c.bytes.ensures.value ∙ c.token.ensures in
    let r = c.in-Refused.refusal in
    let q = subst (λ t. IsAsked t a.0 (asked.Refused r)) te a.2 in
    let o = g.D.Door.outs c.ask.new.door in
    let n = g.D.Door.outs c.send-in-Refused.new.door in
    let result = c.send-in-Refused.result in
    let count = c.send-in-Refused.ensures.count ∙ ap (count_after (is_cut result)) c.in-Refused.ensures.count in
    early_visit c.args.state.now.token (g.K.Keeper.tells c.args.keeper.now) (g.K.Keeper.contents c.args.keeper.now) (g.K.Keeper.left c.args.keeper.now) (g.K.Keeper.faults c.args.keeper.now) c.args.state.now a.0 (g.D.Door.left c.args.door.now) (g.D.Door.outs c.args.door.now) n (g.D.Door.faults c.args.door.now) (g.D.Door.faults c.send-in-Refused.new.door) a.1 result count r q (sent_on (refusal_bytes r) (status_of r) (g.D.Door.outs c.args.door.now) o n result c.in-Refused.ensures.others.1 (subst (λ t. IsSent t (status_of r) o n result) (c.as_bytes-in-Refused.ensures.value ∙ c.reply-in-Refused.ensures) (subst (λ st. IsSent c.as_bytes-in-Refused.result.now st o n result) c.status-in-Refused.ensures c.send-in-Refused.ensures.sent)))

pub returns-in-Ended-clause-served : goal.returns-in-Ended-clause-served
returns-in-Ended-clause-served g c =
    let a = c.in-Ended.ensures.asked in
    let te = c.bytes.ensures.value ∙ c.token.ensures in
    let q = subst (λ t. IsAsked t a.0 asked.Ended) te a.2 in
    ended_visit c.args.state.now.token (g.K.Keeper.tells c.args.keeper.now) (g.K.Keeper.contents c.args.keeper.now) (g.K.Keeper.left c.args.keeper.now) (g.K.Keeper.faults c.args.keeper.now) c.args.state.now a.0 (g.D.Door.left c.args.door.now) (g.D.Door.outs c.args.door.now) (g.D.Door.outs c.ask.new.door) (g.D.Door.faults c.args.door.now) (g.D.Door.faults c.ask.new.door) a.1 c.in-Ended.ensures.count q c.in-Ended.ensures.others.1

pub returns-clause-served : goal.returns-clause-served
returns-clause-served g c =
    let a = c.in-Failed.ensures.asked in
    let te = c.bytes.ensures.value ∙ c.token.ensures in
    let q = subst (λ t. IsAsked t a.0 asked.Failed) te a.2 in
    unread_visit c.args.state.now.token (g.K.Keeper.tells c.args.keeper.now) (g.K.Keeper.contents c.args.keeper.now) (g.K.Keeper.left c.args.keeper.now) (g.K.Keeper.faults c.args.keeper.now) c.args.state.now a.0 (g.D.Door.left c.args.door.now) (g.D.Door.outs c.args.door.now) (g.D.Door.outs c.ask.new.door) (g.D.Door.faults c.args.door.now) (g.D.Door.faults c.ask.new.door) a.1 c.in-Failed.ensures.count q.0 q.1 q.2 q.3 c.in-Failed.ensures.others.1

pub returns-in-Ok-clause-others : goal.returns-in-Ok-clause-others
returns-in-Ok-clause-others g c = stays_on _ _ _ c.in-Request.ensures.others.0 c.send.ensures.others
