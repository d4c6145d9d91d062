use Rattle.std.proofs.Common.{◌≡◌, drop, Some}
use Rattle.serde_json.specs.View.{items_view}
use Rattle.schedules.specs.Conditions.{all_of, is_words}
use Rattle.schedules.proofs.conditions.all_words.Given as goal

abbrev pub invariant-loop-entry : goal.invariant-loop-entry
invariant-loop-entry l = all_of (λ d. is_words (Some d)) (items_view (drop l.entry-index l.entries.items)) ≡ all_of (λ d. is_words (Some d)) (items_view l.entries.items)
