use Rattle.std.proofs.Common.{◌≡◌, ◌∷◌, true, false, sym, ◌∙◌, rules}
use Rattle.std.specs.Map.Iter.{deref_pair}
use Rattle.std.proofs.lemmas.Map.Iter.{rest_more}
use Rattle.book_edits.proofs.Least.{least_here, least_after}
use Rattle.split_transfer.specs.Transfers.{stands_for}
use Rattle.split_transfer.proofs.transfers.payee_for.Goals as goal

pub loop-id-preserved : goal.loop-id-preserved
loop-id-preserved c =
    let p = stands_for c.args.account.now in
    let more : c.loop-id.id-iterator ≡ (c.in-Some.id.now, c.in-Some.row.now) ∷ c.next.new.self = rest_more deref_pair c.loop-id.id-iterator c.next.new.self c.next.result (c.in-Some.id, c.in-Some.row) c.in-Some.is c.next.ensures.steps in
    let fails : p c.in-Some.row.now ≡ false = search rules in
    sym (least_after p c.next.new.self c.loop-id.id-iterator c.in-Some.id.now c.in-Some.row.now more fails) ∙ c.loop-id.invariant

pub returns-then-stands_for : goal.returns-then-stands_for
returns-then-stands_for c =
    let p = stands_for c.args.account.now in
    let more : c.loop-id.id-iterator ≡ (c.in-Some.id.now, c.in-Some.row.now) ∷ c.next.new.self = rest_more deref_pair c.loop-id.id-iterator c.next.new.self c.next.result (c.in-Some.id, c.in-Some.row) c.in-Some.is c.next.ensures.steps in
    let passes : p c.in-Some.row.now ≡ true = search rules in
    sym (least_here p c.next.new.self c.loop-id.id-iterator c.in-Some.id.now c.in-Some.row.now more passes) ∙ c.loop-id.invariant
