use Rattle.std.proofs.Common.{◌≡◌, ◌+◌, ◌≤◌, drop, length}
use Rattle.std.specs.Prelude.{◌||◌, flat_map}
use Rattle.std.specs.BTreeSet as set
use Rattle.finite_sums.specs.Sums.{weight}
use Rattle.finite_sums.specs.Maps.{Text, text_cmp, is_among}
use Rattle.dirty_cells.specs.Governing.{governed}
use Rattle.dirty_cells.proofs.touching.put_all_governed.Given as goal

abbrev pub invariant-loop-id : goal.invariant-loop-id
invariant-loop-id g l = record {
  all : (q : Text) → (is_among text_cmp (flat_map (governed l.book.rows l.governor) (drop l.id-index l.rows)) q || set.contains text_cmp l.ids q) ≡ (is_among text_cmp (flat_map (governed l.book.rows l.governor) l.rows) q || set.contains text_cmp l.fn.ids q);
  cost : l.steps + weight (λ id. length (governed l.book.rows l.governor id)) (drop l.id-index l.rows) ≤ l.fn.steps + weight (λ id. length (governed l.book.rows l.governor id)) l.rows;
}
