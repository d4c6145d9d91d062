use Rattle.std.proofs.Common.{◌≡◌, ◌++◌, ◌∷◌, [], map, ap, ◌∙◌, refl, arith, drop, ◌+◌, ◌≤◌, ◌<◌, ℕ, List, length, get_or, suc, zero}
use Rattle.finite_sums.specs.Sums.{weight}
use Rattle.finite_sums.specs.Maps.{Text}
use Rattle.envelope_cells.specs.Budget.{categories_of}
use Rattle.envelope_cells.specs.declared.groups.BudgetGroup.{BudgetGroup}
use Rattle.envelope_cells.specs.BudgetOf.{budget_of}
use Rattle.envelope_cells.specs.Parts.{group_of, weight_before}
use Rattle.envelope_cells.proofs.Lists.{turn, weight-append}
use Rattle.envelope_cells.proofs.part.groups_parts.Goals as goal

group_weight : (w : Text → ℕ) (gs : List BudgetGroup) (i : ℕ) (g : BudgetGroup) → i < length gs → g ≡ get_or gs i g → weight w g.categories ≤ weight w (categories_of gs)
group_weight w [] i g h e = absurd (omega arith)
group_weight w (k ∷ gs) zero g h e = omega (arith, ap (λ x. weight w x.categories) e, weight-append w k.categories (categories_of gs))
group_weight w (k ∷ gs) (suc i) g h e = omega (arith, group_weight w gs i g (omega arith) e, weight-append w k.categories (categories_of gs))

pub loop-group-preserved : goal.loop-group-preserved
loop-group-preserved c =
    let f = group_of (budget_of c.args.book.now.rows) c.args.number in
    let i = c.loop-group.group-index in
    ap (λ done. done ++ map f (drop (i + 1) c.args.groups.now)) (c.in_ok-push.ensures.items ∙ ap (λ p. c.loop-group.all.items ++ p ∷ []) c.in_ok-group_of.ensures)
    ∙ turn (map f) (λ x. f x ∷ []) (λ x xs. refl) c.loop-group.all.items _ c.args.groups.now i c.group-item.result (omega arith) c.group-item.is c.loop-group.invariant

pub group_of-requires-clause-small : goal.group_of-requires-clause-small
group_of-requires-clause-small c = omega (arith, group_weight (λ q. weight_before (budget_of c.args.book.now.rows) q (c.args.number + 1)) c.args.groups.now c.loop-group.group-index c.group-item.result (omega arith) c.group-item.is, c.requires.small)
