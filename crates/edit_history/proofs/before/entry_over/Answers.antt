use Rattle.std.proofs.Common.{◌≡◌, ◌++◌, ◌∷◌, [], List, cond, ap, sym, subst, ◌∙◌, map, arith, Result, Ok, Err, IfOk}
use Rattle.std.proofs.lemmas.List.{take_all}
use Rattle.std.specs.List.{list_any}
use Rattle.field_values.specs.Names.{names_eq}
use Rattle.field_merge.specs.declared.message.Message.{Message}
use Rattle.field_merge.specs.Log.{value_in}
use Rattle.edit_history.specs.declared.before.Before.{Before}
use Rattle.edit_history.specs.Undo.{before_of, entry_over}
use Rattle.edit_history.specs.History.{IsEntry}
use Rattle.edit_history.proofs.Growing.{entry_more}
use Rattle.edit_history.proofs.Listing.{one_alone}
use Rattle.edit_history.proofs.Valid.{entry_valid}
use Rattle.edit_history.proofs.before.entry_over.Goals as goal

where_valid : {E : Type 0} (r : Result (List Before) E) (entry : List Before) → IfOk r (λ e. e ≡ entry) → IsEntry entry → IfOk r IsEntry
where_valid (Ok e) entry same valid = subst IsEntry (sym same) valid
where_valid (Err e) entry same valid = tt

pub loop-message-preserved : goal.loop-message-preserved
loop-message-preserved c = (
  c.in_ok-push_before.ensures.found
      ∙ ap (λ (found : List Before). found ++ cond (list_any (λ (b : Before). names_eq b.field c.message-item.result.field) found) [] (before_of (value_in c.args.log.now.messages) c.message-item.result.field ∷ [])) c.loop-message.invariant.0
      ∙ entry_more (value_in c.args.log.now.messages) c.args.messages.now c.loop-message.message-index c.message-item.result c.loop-message-test.true c.message-item.is,
  c.in_ok-push_before.ensures.seen,
)

pub returns-clause-valid : goal.returns-clause-valid
returns-clause-valid c =
    let same : c.new.result ≡ entry_over (value_in c.args.log.now.messages) (map (λ (m : Message). m.field) c.args.messages.now) =
    c.new.ensures ∙ c.loop-message.invariant.0 ∙ ap (λ (l : List Message). entry_over (value_in c.args.log.now.messages) (map (λ (m : Message). m.field) l)) (take_all c.loop-message.message-index c.args.messages.now (omega arith)) in
    subst IsEntry (sym same) (entry_valid c.args.log.now.messages c.args.messages.now c.requires.known c.requires.valid c.requires.some c.requires.few)

pub returns-in-len1-clause-valid : goal.returns-in-len1-clause-valid
returns-in-len1-clause-valid c =
    let values = value_in c.args.log.now.messages in
    let single = c.single-item.result in
    let same : c.args.messages.now ≡ single ∷ [] = one_alone c.args.messages.now single c.in-len1.len_at_least c.in-len1.len_below c.single-item.is in
    let valid = entry_valid c.args.log.now.messages c.args.messages.now c.requires.known c.requires.valid c.requires.some c.requires.few in
    where_valid c.single_entry.result (before_of values single.field ∷ []) c.single_entry.ensures (subst (λ (l : List Message). IsEntry (entry_over values (map (λ (m : Message). m.field) l))) same valid)
