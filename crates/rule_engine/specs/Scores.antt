-- The scores of rules, and the one order in which they run.
use Rattle.std.specs.Prelude.{ℕ, ◌*◌, List, [], ◌∷◌, Bool, true, false, if◌then◌else◌}
use Rattle.std.specs.List.{sum_by, list_all}
use Rattle.std.specs.Cmp.{IsTotalOrder}
use Rattle.std.specs.Ordering.{nat_cmp, ordering_then, is_gt}
use Rattle.std.specs.Str.{bytes_eq}
use Rattle.std.specs.declared.cmp.Ordering.{Ordering}
use Rattle.std.proofs.lemmas.Cmp.{nat_cmp_total, nat_list_cmp_total, on_total, then_total}
use Rattle.finite_sums.specs.Maps.{text_cmp}
use Rattle.rule_engine.specs.declared.rule.CondOp.{CondOp}
use Rattle.rule_engine.specs.declared.rule.CondOp.TheVariants.{Is, IsNot, OneOf, NotOneOf, Contains, DoesNotContain, IsApprox, IsBetween, Gt, Gte, Lt, Lte}
use Rattle.rule_engine.specs.declared.rule.Condition.{Condition}
use Rattle.rule_engine.specs.declared.rule.Rule.{Rule}
use Rattle.rule_engine.specs.declared.rule.Stage.{Stage}
use Rattle.rule_engine.specs.declared.rule.Stage.TheVariants.{Pre, Plain, Post}

-- how much each test counts
abbrev pub op_score : CondOp → ℕ
op_score Is = 10
op_score IsNot = 10
op_score OneOf = 9
op_score NotOneOf = 9
op_score IsApprox = 5
op_score IsBetween = 5
op_score Gt = 1
op_score Gte = 1
op_score Lt = 1
op_score Lte = 1
op_score Contains = 0
op_score DoesNotContain = 0

-- a test that names its values
abbrev pub is_exact : CondOp → Bool
is_exact Is = true
is_exact IsNot = true
is_exact IsApprox = true
is_exact OneOf = true
is_exact NotOneOf = true
is_exact IsBetween = false
is_exact Gt = false
is_exact Gte = false
is_exact Lt = false
is_exact Lte = false
is_exact Contains = false
is_exact DoesNotContain = false

-- what the conditions count together, twice where each names its values
unfoldable pub score : Rule → ℕ
score r =
    if list_all (λ (c : Condition). is_exact c.op) r.conditions then 2 * sum_by (λ (c : Condition). op_score c.op) r.conditions
    else sum_by (λ (c : Condition). op_score c.op) r.conditions

abbrev pub stage_place : Stage → ℕ
stage_place Pre = 0
stage_place Plain = 1
stage_place Post = 2

-- by stage, then by score, then by id
abbrev pub rank_cmp : Rule → Rule → Ordering
rank_cmp a b =
    ordering_then (ordering_then (nat_cmp (stage_place a.stage) (stage_place b.stage)) (nat_cmp (score a) (score b))) (text_cmp a.id b.id)

-- two rules of one id
abbrev pub same_id : Rule → Rule → Bool
same_id a b = bytes_eq a.id b.id

pub rank_total : IsTotalOrder rank_cmp
rank_total =
    then_total
    (then_total (on_total (λ (r : Rule). stage_place r.stage) nat_cmp_total) (on_total (λ (r : Rule). score r) nat_cmp_total))
    (on_total (λ (r : Rule). r.id) nat_list_cmp_total)

-- a rule at its place among others
abbrev pub placed : Rule → List Rule → List Rule
placed r [] = r ∷ []
placed r (s ∷ rs) = if is_gt (rank_cmp r s) then s ∷ placed r rs else r ∷ s ∷ rs

-- the rules in the order in which they run
abbrev pub ranked : List Rule → List Rule
ranked [] = []
ranked (r ∷ rs) = placed r (ranked rs)
