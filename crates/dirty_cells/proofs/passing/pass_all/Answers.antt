use Rattle.std.proofs.Common.{◌≡◌, ◌+◌, ◌^◌, ◌<◌, ◌≤◌, ap, sym, ◌∙◌, arith, length, take, drop, map, unsigned_abs, length-take, get_or, rules}
use Rattle.std.specs.Prelude.{◌||◌, flat_map}
use Rattle.std.specs.BTreeSet as set
use Rattle.std.proofs.lemmas.Int.{ints}
use Rattle.finite_sums.specs.Sums.{total}
use Rattle.finite_sums.specs.Maps.{text_cmp, is_among}
use Rattle.finite_sums.proofs.Totals.{total_more}
use Rattle.envelope_cells.specs.Parts.{value_at, sum_name}
use Rattle.envelope_cells.proofs.Lists.{from_here, none_left}
use Rattle.dirty_cells.specs.Changes.{share_at, signed}
use Rattle.dirty_cells.specs.Marking.{category_at, month_at_tx, earlier, earliest}
use Rattle.dirty_cells.proofs.Gathered.{gather_step, gathered}
use Rattle.dirty_cells.proofs.Small.{share_small, abs_plus, abs_signed, total_small, signed-plus}
use Rattle.dirty_cells.proofs.passing.pass_all.Goals as goal

pub pass_one-requires : goal.pass_one-requires
pass_one-requires g c = λ d m.
    let f = share_at c.args.book.now.rows d m in
    let done = take c.loop-id.id-index c.args.ids.now in
    let moved = ap unsigned_abs (c.loop-id.invariant.moved d m) in
    let small = total_small f (2 ^ 53) done (λ id. share_small c.args.book.now.rows c.sizes.ensures d m id) in
    let some : length done ≤ length c.args.ids.now = omega (arith, length-take c.loop-id.id-index c.args.ids.now) in
    omega (arith, moved, abs_plus (value_at c.args.sums.now (sum_name d m)) (signed c.args.into (total f done)), abs_signed c.args.into (total f done), small, some, c.requires.room d m)

pub loop-id-preserved : goal.loop-id-preserved
loop-id-preserved g c =
    let r = c.args.book.now.rows in
    let ids = c.args.ids.now in
    let i = c.loop-id.id-index in
    let x = c.id-item.result in
    let inside : i < length ids = search rules in
    let here = from_here ids i x inside c.id-item.is in
    let done = c.in_ok-month.ensures in
    let old = c.loop-id.invariant in
    record {
      cost = omega (arith, done.cost, old.cost);
      moved = λ d m.
          let f = share_at r d m in
          let same : f x ≡ f (get_or ids i x) = ap f c.id-item.is in
          let more = total_more f ids i x inside in
          omega (arith, ints, done.moved d m, old.moved d m, same, ap (signed c.args.into) more, signed-plus c.args.into (total f (take i ids)) (f (get_or ids i x)), ap (signed c.args.into) same);
      all = λ q. gather_step (category_at r) ids i x (set.contains text_cmp c.loop-id.categories) (set.contains text_cmp c.pass_one.new.categories) q here (done.more q) ∙ old.all q;
      first =
          ap (λ n. earliest n (map (month_at_tx r) (drop (i + 1) ids))) (c.earlier-first.ensures ∙ ap (earlier c.loop-id.first) done.month)
          ∙ ap (λ l. earliest c.loop-id.first (map (month_at_tx r) l)) (sym here) ∙ old.first;
    }

pub returns-clause-more : goal.returns-clause-more
returns-clause-more g c = λ q.
    let f = category_at c.args.book.now.rows in
    gathered f c.args.ids.now c.loop-id.id-index (set.contains text_cmp c.loop-id.categories) q (is_among text_cmp (flat_map f c.args.ids.now) q || set.contains text_cmp c.args.categories.now q) (omega arith) (c.loop-id.invariant.all q)

pub returns-clause-first : goal.returns-clause-first
returns-clause-first g c = ap (λ l. earliest c.loop-id.first (map (month_at_tx c.args.book.now.rows) l)) (sym (none_left c.args.ids.now c.loop-id.id-index (omega arith))) ∙ c.loop-id.invariant.first
