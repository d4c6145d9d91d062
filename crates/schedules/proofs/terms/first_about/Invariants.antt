use Rattle.std.proofs.Common.{◌≡◌, drop}
use Rattle.serde_json.specs.View.{items_view}
use Rattle.schedules.specs.Terms.{first_where, fits}
use Rattle.schedules.proofs.terms.first_about.Given as goal

abbrev pub invariant-loop-entry : goal.invariant-loop-entry
invariant-loop-entry l = first_where (fits l.about) (items_view (drop l.entry-index l.entries.items)) ≡ first_where (fits l.about) (items_view l.entries.items)
