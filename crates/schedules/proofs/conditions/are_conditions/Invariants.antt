use Rattle.std.proofs.Common.{◌≡◌, drop}
use Rattle.serde_json.specs.View.{items_view}
use Rattle.schedules.specs.Conditions.{all_of, is_condition}
use Rattle.schedules.proofs.conditions.are_conditions.Given as goal

abbrev pub invariant-loop-entry : goal.invariant-loop-entry
invariant-loop-entry l = all_of is_condition (items_view (drop l.entry-index l.entries.items)) ≡ all_of is_condition (items_view l.entries.items)
