use Rattle.std.proofs.Common.{◌∙◌, ap}
use Rattle.field_merge.specs.Latest.{LatestState}
use Rattle.field_merge.proofs.Coming.{listed_latest}
use Rattle.field_merge.proofs.latest_messages.LatestMessages.lines_by_field.Goals as goal

pub returns : goal.returns
returns c ms came =
    c.new.ensures ∙ c.iter.ensures.rest ∙ c.deref.ensures.value ∙ ap (λ (l : LatestState). l.messages) c.self.view_is
    ∙ listed_latest ms c.args.self.now came c.requires.tidy
