use Rattle.budget_ports.proofs.Groups.{flattened_empty}
use Rattle.budget_ports.proofs.records.Records.new.Goals as goal

pub returns : goal.returns
returns c = flattened_empty c.new.result.entries c.new.ensures.empty
