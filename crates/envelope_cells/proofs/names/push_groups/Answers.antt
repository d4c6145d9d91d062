use Rattle.std.proofs.Common.{◌++◌, ap, ◌∙◌, refl, arith, drop, ◌+◌, append_assoc}
use Rattle.envelope_cells.specs.NamesOf.{groups_names, group_names, categories_names}
use Rattle.envelope_cells.proofs.Lists.{turn}
use Rattle.envelope_cells.proofs.names.push_groups.Goals as goal

pub loop-group-preserved : goal.loop-group-preserved
loop-group-preserved c =
    let month = c.args.month in
    let i = c.loop-group.group-index in
    let g = c.group-item.result in
    ap (λ done. done ++ groups_names month (drop (i + 1) c.args.groups.now))
    (c.in_ok-push_categories.ensures ∙ ap (λ ids. c.push_group.new.names.items ++ categories_names month g.is_income ids) c.as_slice.ensures ∙ ap (λ done. done ++ categories_names month g.is_income g.categories) c.in_ok-push_group.ensures
    ∙ append_assoc c.loop-group.names.items (group_names month g) (categories_names month g.is_income g.categories))
    ∙ turn (groups_names month) (λ g. group_names month g ++ categories_names month g.is_income g.categories) (λ x xs. refl) c.loop-group.names.items _ c.args.groups.now i g (omega arith) c.group-item.is c.loop-group.invariant
