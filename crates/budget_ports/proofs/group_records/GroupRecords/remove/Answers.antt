use Rattle.std.proofs.Common.{◌∙◌, ap}
use Rattle.std.specs.FinMap.{from_entries}
use Rattle.budget_ports.specs.Contents.{text_cmp}
use Rattle.budget_ports.specs.Latest.{by_text}
use Rattle.budget_ports.proofs.Latest.{record_out}
use Rattle.budget_ports.proofs.group_records.GroupRecords.remove.Goals as goal

pub returns : goal.returns
returns c =
    ap (λ l. from_entries {R = text_cmp} (by_text l)) c.remove.ensures.keys
    ∙ record_out c.self.inside.records.keys c.args.self.now c.args.key.now c.self.view_is c.self.invariant
