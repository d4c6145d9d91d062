-- Rules and schedules read the same JSON.
use Rattle.std.specs.Prelude.{◌≡◌, ◌↔◌, true, List, Option, Some, Ok}
use Rattle.serde_json.specs.Data.{Data, Items}
use Rattle.finite_sums.specs.Maps.{Text}
use Rattle.book_rows.specs.declared.fault.RulePart.TheVariants.{Conditions, Actions}
use Rattle.rule_engine.specs.declared.rule.Condition.{Condition}
use Rattle.rule_engine.specs.declared.rule.Action.{Action}
use Rattle.rule_engine.specs.Reading.{condition_of, action_of, read_part}
use Rattle.schedules.specs.Conditions.{is_condition, is_action}
use Rattle.schedules.specs.Terms.{entries_of}

-- what a rule can have, and what the rule of a schedule can have
pub record RulesAreReadAlike : Type 0 where
  -- a condition or an action of the one is one of the other
  pub condition : (d : Data) → (is_condition d ≡ true) ↔ ((c : Condition) × (condition_of d ≡ Some c))
  pub action : (d : Data) → (is_action d ≡ true) ↔ ((a : Action) × (action_of d ≡ Some a))
  -- so a text that the one reads as conditions, or as actions, the other reads too
  pub conditions : (text : Option Text) → ((ds : Items) × (entries_of is_condition text ≡ Some ds)) ↔ ((cs : List Condition) × (read_part Conditions condition_of text ≡ Ok cs))
  pub actions : (text : Option Text) → ((ds : Items) × (entries_of is_action text ≡ Some ds)) ↔ ((xs : List Action) × (read_part Actions action_of text ≡ Ok xs))
