use Rattle.std.proofs.Common.{◌≡◌, ◌++◌, ◌∙◌, List, ap, subst, is_none}
use Rattle.budget_ports.specs.declared.keeper.Record.{Record}
use Rattle.field_merge.specs.declared.message.Message.{Message}
use Rattle.field_merge.specs.Log.{at_stamp}
use Rattle.kept_messages.proofs.Members.{one_new}
use Rattle.kept_messages.proofs.join.join_message.Goals as goal

pub returns-clause-batch : goal.returns-clause-batch
returns-clause-batch c =
    subst (λ (x : List Record). c.push_if.new.batch.items ≡ c.args.batch.now.items ++ x)
    (one_new c.args.log.now.messages c.args.message.now c.in_ok-told.told.fresh c.in_ok-kept.kept
    (c.in_ok-told.ensures.fresh ∙ ap (λ (m : Message). is_none (at_stamp c.args.log.now.messages m.stamp)) c.in_ok-copy.ensures) c.in_ok-kept.ensures) c.in_ok-push_if.ensures
