use Rattle.std.proofs.Common.{◌∙◌, ap}
use Rattle.std.specs.Ordering.{is_eq}
use Rattle.field_merge.proofs.Orders.{names_alike}
use Rattle.field_merge.proofs.arrival.Arrival.is_of_field_of.Goals as goal

pub returns : goal.returns
returns c = rw (← c.self.view_is, ← c.other.view_is) (c.is_eq.ensures ∙ ap is_eq c.cmp.ensures ∙ names_alike c.self.inside.names c.other.inside.names)
