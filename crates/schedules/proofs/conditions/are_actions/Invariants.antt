use Rattle.std.proofs.Common.{◌≡◌, drop}
use Rattle.serde_json.specs.View.{items_view}
use Rattle.schedules.specs.Conditions.{all_of, is_action}
use Rattle.schedules.proofs.conditions.are_actions.Given as goal

abbrev pub invariant-loop-entry : goal.invariant-loop-entry
invariant-loop-entry l = all_of is_action (items_view (drop l.entry-index l.entries.items)) ≡ all_of is_action (items_view l.entries.items)
