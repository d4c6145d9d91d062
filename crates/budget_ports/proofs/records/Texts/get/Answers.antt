use Rattle.std.proofs.Common.{◌∙◌, ap, sym, Some}
use Rattle.std.specs.FinMap as map
use Rattle.budget_ports.proofs.Maps.{get_is}
use Rattle.budget_ports.proofs.Places.{text_total, text_same}
use Rattle.budget_ports.proofs.records.Texts.get.Goals as goal

pub returns-in_ok-copy-in-Some : goal.returns-in_ok-copy-in-Some
returns-in_ok-copy-in-Some c = ap Some c.in_ok-copy-in-Some.ensures ∙ c.in-Some.ensures.value ∙ sym (get_is text_total text_same c.self.inside.texts.entries c.args.name.now) ∙ ap (λ m. map.get m c.args.name.now) c.self.view_is

pub returns-in-None : goal.returns-in-None
returns-in-None c = c.in-None.ensures.value ∙ sym (get_is text_total text_same c.self.inside.texts.entries c.args.name.now) ∙ ap (λ m. map.get m c.args.name.now) c.self.view_is
