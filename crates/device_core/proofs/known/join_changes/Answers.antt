use Rattle.std.proofs.Common.{◌∙◌, ap, sym, subst}
use Rattle.std.specs.Prelude.{flat_map}
use Rattle.std.proofs.lemmas.Result.{IfOk-weaker}
use Rattle.device_core.specs.Changes.{AreChangesOf, change_of}
use Rattle.device_core.proofs.Changes.{changes_are}
use Rattle.device_core.proofs.known.join_changes.Goals as goal

pub returns-clause-changed : goal.returns-clause-changed
returns-clause-changed c =
    let old = c.args.log.now.messages in
    let new = c.join_logged.new.log.messages in
    let fields = c.in_ok-fields in
    IfOk-weaker c.changes_of.result _ _
    (λ changes made. subst (AreChangesOf old new) (sym (made ∙ ap (flat_map (change_of new)) c.as_slice.ensures.value)) (changes_are old new fields.fields.items fields.ensures.changed))
    c.changes_of.ensures
