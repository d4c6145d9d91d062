use Rattle.std.proofs.Common.{length, arith, ◌∙◌, ap, subst}
use Rattle.std.specs.Prelude.{◌||◌, flat_map}
use Rattle.std.specs.BTreeSet as set
use Rattle.std.specs.List.Sorted.{IsStrictlySortedBy}
use Rattle.finite_sums.specs.Sums.{weight}
use Rattle.finite_sums.specs.Maps.{text_cmp, is_among}
use Rattle.envelope_cells.proofs.Lists.{where_ok}
use Rattle.dirty_cells.specs.Governing.{governed}
use Rattle.dirty_cells.proofs.touching.put_set_governed.Goals as goal

pub returns-clause-more : goal.returns-clause-more
returns-clause-more g c = where_ok c.put_all_governed.result
    (λ h q. h q ∙ ap (λ l. is_among text_cmp (flat_map (governed c.args.book.now.rows c.args.governor) l) q || set.contains text_cmp c.args.ids.now q) (c.as_slice.ensures ∙ c.in_ok-list.ensures.all))
    c.put_all_governed.ensures.more

pub returns-clause-cost : goal.returns-clause-cost
returns-clause-cost g c = where_ok c.put_all_governed.result
    (λ h. omega (arith, h, ap (weight (λ id. length (governed c.args.book.now.rows c.args.governor id))) (c.as_slice.ensures ∙ c.in_ok-list.ensures.all)))
    c.put_all_governed.ensures.cost

pub returns-clause-sorted : goal.returns-clause-sorted
returns-clause-sorted g c = where_ok c.put_all_governed.result (λ h. subst (IsStrictlySortedBy text_cmp) c.in_ok-list.ensures.all c.in_ok-list.ensures.sorted) c.put_all_governed.ensures.cost
