use Rattle.std.proofs.Common.{cond, ◌∷◌, ◌++◌, ◌∙◌, List, [], ap, sym, subst}
use Rattle.field_merge.specs.declared.message.Message.{Message}
use Rattle.dirty_cells.specs.Changes.{Change}
use Rattle.device_core.specs.Changes.{AreChangesOf}
use Rattle.device_core.proofs.Changes.{single_change}
use Rattle.device_core.proofs.known.join_single.Goals as goal

pub returns-clause-changed : goal.returns-clause-changed
returns-clause-changed c =
    let old = c.args.log.now.messages in
    let new = c.join_message.new.log.messages in
    let m : Message = c.args.message.now in
    let entered = c.in_ok-entered in
    subst (AreChangesOf old new)
    (sym (c.in_ok-push_if.ensures ∙ ap (λ (cs : List Change). cs ++ cond entered.entered.latest ((m.field, m.value) ∷ []) []) c.in_ok-changes.ensures.items))
    (single_change old new m entered.entered.latest entered.ensures.latest entered.ensures.changed)
