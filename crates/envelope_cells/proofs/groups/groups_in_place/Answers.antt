use Rattle.std.proofs.Common.{◌≡◌, ◌∷◌, ap, sym, ◌∙◌}
use Rattle.std.specs.Map.Iter.{deref_pair}
use Rattle.std.proofs.lemmas.Map.Iter.{rest_more}
use Rattle.envelope_cells.specs.Places.{placed, group_places}
use Rattle.envelope_cells.proofs.groups.groups_in_place.Goals as goal

pub loop-id-preserved : goal.loop-id-preserved
loop-id-preserved c =
    let more : c.loop-id.id-iterator ≡ (c.in-Some.id.now, c.in-Some.row.now) ∷ c.next.new.self = rest_more deref_pair c.loop-id.id-iterator c.next.new.self c.next.result (c.in-Some.id, c.in-Some.row) c.in-Some.is c.next.ensures.steps in
    c.in_ok-place_group.ensures c.next.new.self ∙ ap (λ es. placed (group_places es) c.loop-id.found.entries) (sym more) ∙ c.loop-id.invariant
