use Rattle.field_merge.proofs.Fields.{lists_latest}
use Rattle.field_merge.proofs.laws.listed_fields.Goals as goal

pub returns : goal.returns
returns c = lists_latest
