use Rattle.std.proofs.Common.{List, ℕ, refl, sym, ap, ◌∙◌, subst}
use Rattle.budget_ports.specs.Faults.{count_after}
use Rattle.device_sync.specs.Replies.{IsJudged}
use Rattle.device_sync.specs.Judged.{got_of}
use Rattle.device_sync.specs.Sync.{told}
use Rattle.device_sync.proofs.Turns.{round_settled, not_linked, nothing_sent}
use Rattle.device_sync.proofs.round.round.Goals as goal

pub returns-in-Ok-judge-clause-round : goal.returns-in-Ok-judge-clause-round
returns-in-Ok-judge-clause-round g c =
    round_settled c.args.target.now c.args.group.now c.args.reading c.args.since.now c.args.device.now.state _ _ c.settle.new.device.state c.deref.result.now c.in-Ok-exchange.came.items (got_of c.in-Ok-judge.reply)
    (c.deref.ensures.value ∙ c.in-Ok.ensures.text) c.in-Ok.ensures.means c.in-Ok-exchange.ensures.ok
    (subst (λ (z : List ℕ). IsJudged z (got_of c.in-Ok-judge.reply)) c.deref-2.ensures.value c.in-Ok-judge.ensures.judged) c.settle.result c.settle.ensures.settled c.settle.ensures.stops

pub returns-in-Ok-judge-clause-link_count : goal.returns-in-Ok-judge-clause-link_count
returns-in-Ok-judge-clause-link_count g c =
    c.in-Ok-exchange.ensures.count ∙ ap (λ b. count_after b (g.L.Link.faults c.args.link.now)) (sym (not_linked c.args.device.now.state (got_of c.in-Ok-judge.reply) c.args.reading c.settle.new.device.state c.settle.result c.settle.ensures.settled))

pub returns-in-Err-clause-round : goal.returns-in-Err-clause-round
returns-in-Err-clause-round g c =
    nothing_sent c.args.target.now c.args.group.now c.args.reading c.args.since.now c.args.device.now.state
    (told (g.L.Link.exchanges c.args.link.now) (g.K.Keeper.tells c.args.keeper.now) (g.K.Keeper.contents c.args.keeper.now) (g.K.Keeper.left c.args.keeper.now))
    (told (g.L.Link.exchanges c.args.link.now) (g.K.Keeper.tells c.args.keeper.now) (g.K.Keeper.contents c.args.keeper.now) (g.K.Keeper.left c.args.keeper.now)) refl (λ k h. h)
