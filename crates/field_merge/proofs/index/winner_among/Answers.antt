use Rattle.std.proofs.Common.{◌∙◌, Some, ap, sym}
use Rattle.field_merge.specs.Log.{has_field}
use Rattle.field_merge.proofs.Orders.{names_alike}
use Rattle.field_merge.proofs.Listed.{found_first, missed_first}
use Rattle.field_merge.proofs.index.winner_among.Goals as goal

pub returns-then-eq-clause-found : goal.returns-then-eq-clause-found
returns-then-eq-clause-found c =
    ap Some (c.message-then-eq.ensures ∙ sym c.message.ensures)
    ∙ found_first (has_field c.args.field.now) c.loop-message.message-iterator c.next.new.self c.in-Some.message.now c.message.result.now c.in-Some.ensures.steps c.message.ensures
    (names_alike c.args.field.now c.message.result.now.field ∙ sym c.eq.ensures ∙ c.if-eq.true)
    ∙ c.loop-message.invariant

pub loop-message-preserved : goal.loop-message-preserved
loop-message-preserved c =
    sym (missed_first (has_field c.args.field.now) c.loop-message.message-iterator c.next.new.self c.in-Some.message.now c.message.result.now c.in-Some.ensures.steps c.message.ensures
    (names_alike c.args.field.now c.message.result.now.field ∙ sym c.eq.ensures ∙ c.if-eq.false))
    ∙ c.loop-message.invariant
