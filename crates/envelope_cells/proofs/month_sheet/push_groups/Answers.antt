use Rattle.std.proofs.Common.{◌++◌, ap, ◌∙◌, refl, arith, drop, ◌+◌, append_assoc}
use Rattle.finite_sums.specs.Sums.{weight}
use Rattle.envelope_cells.specs.Parts.{part_weight}
use Rattle.envelope_cells.specs.Whole.{all_cells, own_cells, parts_cells}
use Rattle.envelope_cells.proofs.Lists.{turn, weight_here}
use Rattle.envelope_cells.proofs.month_sheet.push_groups.Goals as goal

pub push_own-requires : goal.push_own-requires
push_own-requires c = λ k. omega (arith, weight_here (λ g. weight (part_weight k) g.parts) c.args.groups.now c.loop-group.group-index c.group-item.result (omega arith) c.group-item.is, c.requires k)

pub loop-group-preserved : goal.loop-group-preserved
loop-group-preserved c =
    let month = c.args.month in
    let i = c.loop-group.group-index in
    let g = c.group-item.result in
    ap (λ done. done ++ all_cells month (drop (i + 1) c.args.groups.now))
    (c.in_ok-push_parts.ensures ∙ ap (λ ps. c.push_own.new.cells.items ++ parts_cells month g.is_income ps) c.as_slice.ensures ∙ ap (λ done. done ++ parts_cells month g.is_income g.parts) c.in_ok-push_own.ensures
    ∙ append_assoc c.loop-group.cells.items (own_cells month g) (parts_cells month g.is_income g.parts))
    ∙ turn (all_cells month) (λ g. own_cells month g ++ parts_cells month g.is_income g.parts) (λ x xs. refl) c.loop-group.cells.items _ c.args.groups.now i g (omega arith) c.group-item.is c.loop-group.invariant
