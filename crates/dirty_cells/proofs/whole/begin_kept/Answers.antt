use Rattle.std.proofs.Common.{◌≡◌, ℕ, ◌-◌, ◌<◌, unsigned_abs, refl, ap, ◌∙◌, rules, arith, to_z, of_z}
use mir.Val.{SFits}
use mir.Syntax.{w128}
use Rattle.std.proofs.lemmas.Int.{ints, to_z-of_z}
use Rattle.finite_sums.specs.Maps.{Text}
use Rattle.envelope_cells.specs.BudgetOf.{budget_of}
use Rattle.envelope_cells.specs.Cells.{to_budget}
use Rattle.envelope_cells.specs.Ids.{month_at}
use Rattle.envelope_cells.specs.declared.name.CellKind.TheVariants.{ToBudget, Buffered, TotalLeftover}
use Rattle.dirty_cells.specs.Spots.{name_at, spot_at, value_of_name}
use Rattle.dirty_cells.proofs.Wholes.{cell_small, to_budget_kept, held_kept, left_kept, from_last_is, left_is}
use Rattle.dirty_cells.proofs.whole.begin_kept.Goals as goal

pub brought-from_last-requires-clause-to_budget : goal.brought-from_last-requires-clause-to_budget
brought-from_last-requires-clause-to_budget c =
    let rows = c.args.book.now.rows in
    let m = c.args.number - 1 in
    let past = c.handed_on-past in
    let fits : SFits w128 past.result.to_budget = search rules in
    let below : m < 2760 = omega (arith, c.requires.number) in
    let cell = λ (month : ℕ) (id : Text). value_of_name c.args.cells.now (name_at id (spot_at month ToBudget)) in
    let told : past.result.to_budget ≡ to_budget (budget_of rows) m = past.ensures.to_budget ∙ ap (λ (month : ℕ). cell month c.args.none.now) c.month_at.ensures ∙ ap (λ (id : Text). cell (month_at m) id) c.requires.none ∙ to_budget_kept (budget_of rows) c.args.cells.now m c.requires.prior in
    omega (arith, ints, told, ap unsigned_abs told, cell_small rows c.sizes.ensures m below ToBudget (to_budget (budget_of rows) m) refl)

pub brought-from_last-requires-clause-held : goal.brought-from_last-requires-clause-held
brought-from_last-requires-clause-held c =
    let rows = c.args.book.now.rows in
    let m = c.args.number - 1 in
    let past = c.handed_on-past in
    let fits : SFits w128 past.result.buffered = search rules in
    let below : m < 2760 = omega (arith, c.requires.number) in
    let cell = λ (month : ℕ) (id : Text). value_of_name c.args.cells.now (name_at id (spot_at month Buffered)) in
    let told : past.result.buffered ≡ (budget_of rows).buffered m = past.ensures.buffered ∙ ap (λ (month : ℕ). cell month c.args.none.now) c.month_at.ensures ∙ ap (λ (id : Text). cell (month_at m) id) c.requires.none ∙ held_kept (budget_of rows) c.args.cells.now m c.requires.prior in
    omega (arith, ints, told, ap unsigned_abs told, cell_small rows c.sizes.ensures m below Buffered ((budget_of rows).buffered m) refl)

pub returns : goal.returns
returns c =
    let b = budget_of c.args.book.now.rows in
    let n = c.args.number in
    let past = c.handed_on-past in
    let f1 : SFits w128 past.result.to_budget = search rules in
    let f2 : SFits w128 past.result.buffered = search rules in
    let f3 : SFits w128 past.result.leftover = search rules in
    let f4 : SFits w128 c.brought-from_last.result = search rules in
    let a1 = λ (month : ℕ) (id : Text). value_of_name c.args.cells.now (name_at id (spot_at month ToBudget)) in
    let a2 = λ (month : ℕ) (id : Text). value_of_name c.args.cells.now (name_at id (spot_at month Buffered)) in
    let a3 = λ (month : ℕ) (id : Text). value_of_name c.args.cells.now (name_at id (spot_at month TotalLeftover)) in
    record {
      from_last = from_last_is b n c.requires.some (to_z w128 (of_z w128 past.result.to_budget)) (to_z w128 (of_z w128 past.result.buffered)) (to_z w128 (of_z w128 c.brought-from_last.result))
          (to_z-of_z w128 c.brought-from_last.result f4 ∙ c.brought-from_last.ensures)
          (to_z-of_z w128 past.result.to_budget f1 ∙ past.ensures.to_budget ∙ ap (λ (month : ℕ). a1 month c.args.none.now) c.month_at.ensures ∙ ap (λ (id : Text). a1 (month_at (n - 1)) id) c.requires.none ∙ to_budget_kept b c.args.cells.now (n - 1) c.requires.prior)
          (to_z-of_z w128 past.result.buffered f2 ∙ past.ensures.buffered ∙ ap (λ (month : ℕ). a2 month c.args.none.now) c.month_at.ensures ∙ ap (λ (id : Text). a2 (month_at (n - 1)) id) c.requires.none ∙ held_kept b c.args.cells.now (n - 1) c.requires.prior);
      left = to_z-of_z w128 past.result.leftover f3 ∙ past.ensures.leftover ∙ ap (λ (month : ℕ). a3 month c.args.none.now) c.month_at.ensures ∙ ap (λ (id : Text). a3 (month_at (n - 1)) id) c.requires.none ∙ left_kept b c.args.cells.now (n - 1) c.requires.prior ∙ left_is b n c.requires.some;
    }
