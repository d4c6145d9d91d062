use Rattle.std.proofs.Common.{◌≡◌, ◌∙◌, not, ap, ap₂, sym}
use Rattle.std.specs.FinMap.{contains_key}
use Rattle.budget_ports.specs.Contents.{Text}
use Rattle.budget_ports.specs.Groups.{with_body}
use Rattle.budget_ports.proofs.Bodies.{of_pair}
use Rattle.budget_ports.proofs.Latest.{has_key, record_added}
use Rattle.budget_ports.proofs.group_records.GroupRecords.add_one.Goals as goal

pub returns-clause-added : goal.returns-clause-added
returns-clause-added c =
    c.in_ok-added.ensures.added
    ∙ ap not (sym (has_key c.self.inside.records.keys c.args.self.now c.in_ok-record.record c.self.view_is) ∙ ap (contains_key c.args.self.now) (c.in_ok-record.ensures.key ∙ c.as_str.ensures))

pub returns-clause-ok : goal.returns-clause-ok
returns-clause-ok c =
    let same : of_pair (c.in_ok-record.record.0, c.in_ok-record.record.1.0) ≡ c.args.kept.now =
    ap₂ (λ (k b : Text). record { key = k; body = b }) (c.in_ok-record.ensures.key ∙ c.as_str.ensures) (c.in_ok-record.ensures.body ∙ c.as_str-2.ensures) in
    record_added c.self.inside.records.keys c.args.self.now c.in_ok-record.record c.insert.new.self.keys c.in_ok-added.added c.self.view_is c.in_ok-added.ensures.added c.in_ok-added.ensures.keys
    c.in_ok-added.ensures.unchanged
    ∙ ap (with_body c.args.self.now) same
