use Rattle.std.proofs.Common.{subst, sym}
use Rattle.field_values.specs.Names.{AreNames}
use Rattle.field_values.proofs.NameLemmas.{names_without_fault}
use Rattle.field_merge.proofs.latest_messages.place_of.Goals as goal

pub returns-clause-good : goal.returns-clause-good
returns-clause-good c = subst AreNames (sym c.requires) (names_without_fault _ c.in_ok-check_names.ensures.good)
