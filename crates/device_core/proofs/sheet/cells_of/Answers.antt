use Rattle.std.proofs.Common.{◌≡◌, ◌∙◌, ◌+◌, List, [], ◌∷◌, ◌++◌, true, drop, refl, ap, sym, subst, arith, append_assoc}
use Rattle.std.specs.Prelude.{flat_map}
use Rattle.std.specs.List.{AllByRecursion}
use Rattle.envelope_cells.specs.BudgetOf.{budget_of}
use Rattle.envelope_cells.specs.declared.name.Cell.{Cell}
use Rattle.envelope_cells.specs.declared.name.CellName.{CellName}
use Rattle.envelope_cells.proofs.Lists.{none_left}
use Rattle.dirty_cells.specs.declared.grid.Grid.{Grid}
use Rattle.dirty_cells.specs.Stands.{is_covered}
use Rattle.kept_messages.proofs.Members.{from_place}
use Rattle.device_core.specs.Sheets.{told_of}
use Rattle.device_core.proofs.sheet.cells_of.Goals as goal

abbrev AllCovered : Grid → List CellName → Type 0
AllCovered grid names = AllByRecursion (λ name. is_covered grid name.month ≡ true) names

pub loop-name-init : goal.loop-name-init
loop-name-init c = record {
  rest = λ rows stands. ap (λ (cs : List Cell). cs ++ flat_map (told_of (budget_of rows)) c.args.names.now) c.new-cells.ensures.items;
  covered = c.requires;
}

pub push_cell-requires : goal.push_cell-requires
push_cell-requires c =
    let names = c.args.names.now in
    let step : drop c.loop-name.name-index names ≡ c.name-item.result ∷ drop (c.loop-name.name-index + 1) names = from_place names c.loop-name.name-index c.name-item.result c.loop-name-test.true c.name-item.is in
    (subst (AllCovered c.args.grid.now) step c.loop-name.invariant.covered).0

pub loop-name-preserved : goal.loop-name-preserved
loop-name-preserved c =
    let names = c.args.names.now in
    let i = c.loop-name.name-index in
    let x : CellName = c.name-item.result in
    let step : drop i names ≡ x ∷ drop (i + 1) names = from_place names i x c.loop-name-test.true c.name-item.is in
    record {
      rest = λ rows stands.
          ap (λ (cs : List Cell). cs ++ flat_map (told_of (budget_of rows)) (drop (i + 1) names)) (c.in_ok-push_cell.ensures rows stands)
          ∙ append_assoc c.loop-name.cells.items (told_of (budget_of rows) x) (flat_map (told_of (budget_of rows)) (drop (i + 1) names))
          ∙ ap (λ (l : List CellName). c.loop-name.cells.items ++ flat_map (told_of (budget_of rows)) l) (sym step)
          ∙ c.loop-name.invariant.rest rows stands;
      covered = (subst (AllCovered c.args.grid.now) step c.loop-name.invariant.covered).1;
    }

append_nothing : (xs : List Cell) → xs ≡ xs ++ []
append_nothing [] = refl
append_nothing (x ∷ xs) = ap (λ (ys : List Cell). x ∷ ys) (append_nothing xs)

pub returns : goal.returns
returns c = λ rows stands.
    let names = c.args.names.now in
    let none : drop c.loop-name.name-index names ≡ [] = none_left names c.loop-name.name-index (omega (arith, c.loop-name-test.false)) in
    append_nothing c.loop-name.cells.items
    ∙ ap (λ (l : List CellName). c.loop-name.cells.items ++ flat_map (told_of (budget_of rows)) l) (sym none)
    ∙ c.loop-name.invariant.rest rows stands
