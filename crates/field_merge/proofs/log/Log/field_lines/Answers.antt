use Rattle.std.proofs.Common.{◌∙◌, ◌++◌, ◌∷◌, [], ap, append-nil, arith, sym, take}
use Rattle.std.proofs.lemmas.List.{take_all, take_more}
use Rattle.std.proofs.lemmas.List.Concat.{flat_map-append}
use Rattle.std.specs.List.{flat_map}
use Rattle.std.specs.BTreeMap.{values}
use Rattle.field_merge.specs.Log.{LogState, ended_line, field_text}
use Rattle.field_merge.proofs.Listed.{listed, index_valid}
use Rattle.field_merge.proofs.log.Log.field_lines.Goals as goal

pub latest_by_field-requires : goal.latest_by_field-requires
latest_by_field-requires c s =
    index_valid (values c.self.inside.messages) c.self.inside.index.entries (c.self.invariant.index_right (ap (λ v. v.spent) c.self.view_is ∙ c.requires)) s c.self.invariant.entries_stand.valid

pub loop-arrival-preserved : goal.loop-arrival-preserved
loop-arrival-preserved c =
    let items = c.deref-arrival-items.result.now in
    let more = take_more items c.loop-arrival.arrival-index c.arrival-item.result (omega arith) in
    c.in_ok-push_ended_line.ensures ∙ ap (λ ts. ts ++ ended_line c.arrival-item.result) c.loop-arrival.invariant
    ∙ ap (λ ts. flat_map ended_line (take c.loop-arrival.arrival-index items) ++ ts) (sym (append-nil (ended_line c.arrival-item.result)))
    ∙ sym (flat_map-append ended_line (take c.loop-arrival.arrival-index items) (c.arrival-item.result ∷ []))
    ∙ ap (flat_map ended_line) (ap (λ x. take c.loop-arrival.arrival-index items ++ x ∷ []) c.arrival-item.is ∙ sym more)

pub returns : goal.returns
returns c =
    let all = listed (values c.self.inside.messages) c.self.inside.index.entries c.in_ok-latest.latest.items (c.self.invariant.index_right (ap (λ v. v.spent) c.self.view_is ∙ c.requires))
    c.in_ok-latest.ensures.ordered c.in_ok-latest.ensures.latest in
    c.new.ensures ∙ c.loop-arrival.invariant ∙ ap (flat_map ended_line) (take_all c.loop-arrival.arrival-index c.deref-arrival-items.result.now (omega arith) ∙ c.deref-arrival-items.ensures.value ∙ all)
    ∙ ap (λ (l : LogState). field_text l.messages) c.self.view_is
