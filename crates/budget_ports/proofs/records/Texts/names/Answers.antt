use Rattle.std.proofs.Common.{◌∙◌, ◌++◌, ap}
use Rattle.budget_ports.proofs.Maps.{keys_are}
use Rattle.budget_ports.proofs.Places.{text_total, text_same}
use Rattle.budget_ports.proofs.records.Texts.names.Goals as goal

pub loop-name-init : goal.loop-name-init
loop-name-init c =
    ap (λ ns. ns ++ c.into_iter-name-iterator.result) c.new-names.ensures.items
    ∙ c.into_iter-name-iterator.ensures.into_iter_gives ∙ c.keys-name-items.ensures.rest
    ∙ keys_are text_total text_same c.self.inside.texts.entries c.args.self.now c.self.view_is c.keys-name-items.ensures.ordered
