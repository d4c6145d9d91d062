use Rattle.std.proofs.Common.{◌<◌, length, rules, arith, ◌∙◌}
use Rattle.std.specs.Prelude.{◌||◌, flat_map}
use Rattle.std.specs.BTreeSet as set
use Rattle.finite_sums.specs.Maps.{text_cmp, is_among}
use Rattle.envelope_cells.proofs.Lists.{from_here}
use Rattle.dirty_cells.specs.Marking.{group_at}
use Rattle.dirty_cells.proofs.Gathered.{gather_step, gathered}
use Rattle.dirty_cells.proofs.marks.mark_groups.Goals as goal

pub loop-id-preserved : goal.loop-id-preserved
loop-id-preserved c = record {
  all = λ q.
      let ids = c.args.ids.now in
      let i = c.loop-id.id-index in
      let x = c.id-item.result in
      let inside : i < length ids = search rules in
      gather_step (group_at c.args.book.now.rows) ids i x (set.contains text_cmp c.loop-id.gs) (set.contains text_cmp c.mark_group.new.gs) q (from_here ids i x inside c.id-item.is) (c.in_ok-mark_group.ensures q)
      ∙ c.loop-id.invariant.all q;
}

pub returns : goal.returns
returns c = λ q. gathered (group_at c.args.book.now.rows) c.args.ids.now c.loop-id.id-index (set.contains text_cmp c.loop-id.gs) q (is_among text_cmp (flat_map (group_at c.args.book.now.rows) c.args.ids.now) q || set.contains text_cmp c.args.gs.now q) (omega arith) (c.loop-id.invariant.all q)
