use Rattle.std.proofs.Common.{◌≡◌, ◌∷◌, false, sym, ◌∙◌, rules}
use Rattle.std.specs.Map.Iter.{deref_pair}
use Rattle.std.proofs.lemmas.Map.Iter.{rest_more}
use Rattle.book_edits.specs.Checks.{is_group_named}
use Rattle.book_edits.proofs.Least.{least_after}
use Rattle.book_edits.proofs.names.free_group_name.Goals as goal

pub loop-id-preserved : goal.loop-id-preserved
loop-id-preserved c =
    let p = is_group_named c.args.name.now in
    let more : c.loop-id.id-iterator ≡ (c.in-Some.id.now, c.in-Some.row.now) ∷ c.next.new.self = rest_more deref_pair c.loop-id.id-iterator c.next.new.self c.next.result (c.in-Some.id, c.in-Some.row) c.in-Some.is c.next.ensures.steps in
    let fails : p c.in-Some.row.now ≡ false = search rules in
    sym (least_after p c.next.new.self c.loop-id.id-iterator c.in-Some.id.now c.in-Some.row.now more fails) ∙ c.loop-id.invariant
