use Rattle.std.proofs.Common.{ap, sym, ◌∙◌}
use Rattle.std.specs.Prelude.{◌||◌, flat_map}
use Rattle.std.specs.BTreeSet as set
use Rattle.finite_sums.specs.Maps.{text_cmp, is_among}
use Rattle.dirty_cells.specs.Marking.{group_at}
use Rattle.dirty_cells.proofs.TouchedSet.{any_among, sorted_distinct}
use Rattle.dirty_cells.proofs.marks.marks_after.Goals as goal

pub returns-clause-categories : goal.returns-clause-categories
returns-clause-categories c = λ q. ap (λ l. is_among text_cmp l q) c.in_ok-categories.ensures.all ∙ sym (any_among c.args.begun.categories.keys q)

pub returns-clause-groups : goal.returns-clause-groups
returns-clause-groups c = λ q.
    ap (λ l. is_among text_cmp l q) c.in_ok-groups.ensures.all ∙ sym (any_among c.mark_groups.new.gs.keys q) ∙ c.in_ok-mark_groups.ensures q
    ∙ ap (λ l. is_among text_cmp (flat_map (group_at c.args.book.now.rows) l) q || set.contains text_cmp c.args.begun.groups q) c.as_slice.ensures

pub returns-clause-distinct : goal.returns-clause-distinct
returns-clause-distinct c = (sorted_distinct c.in_ok-categories.categories c.in_ok-categories.ensures.sorted, sorted_distinct c.in_ok-groups.groups c.in_ok-groups.ensures.sorted)
