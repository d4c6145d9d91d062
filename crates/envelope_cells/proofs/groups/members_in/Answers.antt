use Rattle.std.proofs.Common.{◌≡◌, ◌∷◌, ◌++◌, ap, sym, ◌∙◌}
use Rattle.std.specs.Map.Iter.{deref_pair}
use Rattle.std.proofs.lemmas.Map.Iter.{rest_more}
use Rattle.envelope_cells.specs.Places.{ids_of_group, members_of}
use Rattle.envelope_cells.proofs.groups.members_in.Goals as goal

pub loop-place-preserved : goal.loop-place-preserved
loop-place-preserved c = λ g.
    let more : c.loop-place.place-iterator ≡ (c.in-Some.place.now, c.in-Some.group.now) ∷ c.next.new.self = rest_more deref_pair c.loop-place.place-iterator c.next.new.self c.next.result (c.in-Some.place, c.in-Some.group) c.in-Some.is c.next.ensures.steps in
    c.in_ok-enter_place.ensures c.next.new.self g ∙ ap (λ es. members_of c.loop-place.members g ++ ids_of_group g es) (sym more) ∙ c.loop-place.invariant g
