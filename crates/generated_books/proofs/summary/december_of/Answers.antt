use Rattle.std.proofs.Common.{◌≡◌, ◌∙◌, rules, to_z, of_z}
use Rattle.std.specs.Int.{w128}
use Rattle.std.proofs.lemmas.Int.{to_z-of_z}
use Rattle.generated_books.specs.Summary.{december_of}
use Rattle.generated_books.proofs.Told.{december_is, some_is_there, same_value}
use Rattle.generated_books.proofs.summary.december_of.Goals as goal

pub there-requires : goal.there-requires
there-requires c = some_is_there c.cell-value.result (december_of c.args.device.now.state.messages) (c.cell-value.ensures ∙ december_is c.args.device.now.state.messages c.in_ok-id.id c.in_ok-id.ensures)

pub returns : goal.returns
returns c =
    let same : to_z w128 (of_z w128 c.there.result) ≡ c.there.result = to_z-of_z w128 c.there.result (search rules) in
    same ∙ same_value c.there.result (december_of c.args.device.now.state.messages) c.cell-value.result c.there.ensures
    (c.cell-value.ensures ∙ december_is c.args.device.now.state.messages c.in_ok-id.id c.in_ok-id.ensures)
