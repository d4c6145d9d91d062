use Rattle.std.proofs.Common.{◌∙◌, ap, subst, sym}
use Rattle.field_values.specs.Names.{AreNames}
use Rattle.field_merge.specs.Short.{names_in}
use Rattle.field_merge.proofs.short.Names.are.Goals as goal

pub returns-in-Here-clause-same : goal.returns-in-Here-clause-same
returns-in-Here-clause-same c = λ h. sym c.self.view_is ∙ ap names_in c.in-Here.is ∙ c.is.ensures h

pub returns-in-Here-clause-valid : goal.returns-in-Here-clause-valid
returns-in-Here-clause-valid c = λ h. subst AreNames (ap names_in c.in-Here.is ∙ c.is.ensures h) c.self.invariant
