use Rattle.std.proofs.Common.{◌≡◌, ◌<◌, ◌+◌, ◌∷◌, drop, length, rules, arith, ◌∙◌, ap}
use Rattle.std.specs.Prelude.{◌||◌, flat_map}
use Rattle.std.specs.BTreeSet as set
use Rattle.finite_sums.specs.Sums.{weight}
use Rattle.finite_sums.specs.Maps.{text_cmp, is_among}
use Rattle.envelope_cells.proofs.Lists.{from_here}
use Rattle.dirty_cells.specs.Governing.{governed}
use Rattle.dirty_cells.proofs.Gathered.{gather_step, gathered}
use Rattle.dirty_cells.proofs.touching.put_all_governed.Goals as goal

pub loop-id-preserved : goal.loop-id-preserved
loop-id-preserved g c =
    let rows = c.args.rows.now in
    let f = governed c.args.book.now.rows c.args.governor in
    let i = c.loop-id.id-index in
    let x = c.id-item.result in
    let inside : i < length rows = search rules in
    let here : drop i rows ≡ x ∷ drop (i + 1) rows = from_here rows i x inside c.id-item.is in
    record {
      all = λ q. gather_step f rows i x (set.contains text_cmp c.loop-id.ids) (set.contains text_cmp c.put_governed.new.ids) q here (c.in_ok-put_governed.ensures.more q) ∙ c.loop-id.invariant.all q;
      cost = omega (arith, c.in_ok-put_governed.ensures.cost, c.loop-id.invariant.cost, ap (weight (λ id. length (f id))) here);
    }

pub returns-clause-more : goal.returns-clause-more
returns-clause-more g c = λ q.
    let f = governed c.args.book.now.rows c.args.governor in
    gathered f c.args.rows.now c.loop-id.id-index (set.contains text_cmp c.loop-id.ids) q (is_among text_cmp (flat_map f c.args.rows.now) q || set.contains text_cmp c.args.ids.now q) (omega arith) (c.loop-id.invariant.all q)
