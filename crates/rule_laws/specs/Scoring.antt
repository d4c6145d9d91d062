-- How much the conditions of a rule count.
use Rattle.std.specs.Prelude.{◌≡◌, ◌*◌, ℕ, List, [], ◌∷◌}
use Rattle.std.specs.List.{Contains, sum_by}
use Rattle.rule_engine.specs.declared.rule.CondOp.{CondOp}
use Rattle.rule_engine.specs.declared.rule.CondOp.TheVariants.{Is, IsNot, OneOf, NotOneOf, Contains as HasPart, DoesNotContain, IsApprox, IsBetween, Gt, Gte, Lt, Lte}
use Rattle.rule_engine.specs.declared.rule.Condition.{Condition}
use Rattle.rule_engine.specs.declared.rule.Rule.{Rule}
use Rattle.rule_engine.specs.Scores.{op_score, score}

-- the tests that name their values
abbrev pub exact_tests : List CondOp
exact_tests = Is ∷ IsNot ∷ IsApprox ∷ OneOf ∷ NotOneOf ∷ []

-- what the tests of some conditions count together
abbrev pub counted : List Condition → ℕ
counted cs = sum_by (λ (c : Condition). op_score c.op) cs

-- how much rules count
pub record ScoresAreTold : Type 0 where
  -- each test by itself
  pub same : (op : CondOp) → Contains (Is ∷ IsNot ∷ []) op → op_score op ≡ 10
  pub listed : (op : CondOp) → Contains (OneOf ∷ NotOneOf ∷ []) op → op_score op ≡ 9
  pub near : (op : CondOp) → Contains (IsApprox ∷ IsBetween ∷ []) op → op_score op ≡ 5
  pub ordered : (op : CondOp) → Contains (Gt ∷ Gte ∷ Lt ∷ Lte ∷ []) op → op_score op ≡ 1
  pub part : (op : CondOp) → Contains (HasPart ∷ DoesNotContain ∷ []) op → op_score op ≡ 0
  -- the sum of them, twice where each of the conditions has such a test
  pub twice : (r : Rule) → ((c : Condition) → Contains r.conditions c → Contains exact_tests c.op) → score r ≡ 2 * counted r.conditions
  -- and once where one of them has another
  pub once : (r : Rule) (c : Condition) → Contains r.conditions c → (Contains exact_tests c.op → ⊥) → score r ≡ counted r.conditions
