use Rattle.std.proofs.Common.{◌∙◌, ap}
use Rattle.std.specs.FinMap as map
use Rattle.budget_ports.proofs.Maps.{one_put}
use Rattle.budget_ports.proofs.Places.{text_total, text_same}
use Rattle.budget_ports.proofs.records.Texts.put.Goals as goal

pub returns-clause-ok : goal.returns-clause-ok
returns-clause-ok c =
    one_put text_total text_same c.self.inside.texts.entries c.insert.new.self.entries c.in_ok-name.name c.in_ok-text.text c.in_ok-insert.ensures.updates.0
    ∙ ap (λ m. map.insert m c.in_ok-name.name c.in_ok-text.text) c.self.view_is
    ∙ ap (λ k. map.insert c.args.self.now k c.in_ok-text.text) c.in_ok-name.ensures
    ∙ ap (λ t. map.insert c.args.self.now c.args.name.now t) c.in_ok-text.ensures
