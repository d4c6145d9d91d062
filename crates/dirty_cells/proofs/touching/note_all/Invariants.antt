use Rattle.std.proofs.Common.{◌≡◌, ◌+◌, ◌≤◌, drop}
use Rattle.std.specs.Prelude.{◌||◌, flat_map}
use Rattle.std.specs.BTreeSet as set
use Rattle.finite_sums.specs.Maps.{Text, text_cmp, is_among}
use Rattle.dirty_cells.specs.Governing.{KnowsLast, txs_by, accounts_by, parents_by, mappings_by}
use Rattle.dirty_cells.proofs.touching.note_all.Given as goal

abbrev pub invariant-loop-field : goal.invariant-loop-field
invariant-loop-field g l = record {
  txs : (q : Text) → (is_among text_cmp (flat_map txs_by (drop l.field-index l.changes)) q || set.contains text_cmp l.found.txs q) ≡ is_among text_cmp (flat_map txs_by l.changes) q;
  accounts : (q : Text) → (is_among text_cmp (flat_map (accounts_by l.book.rows) (drop l.field-index l.changes)) q || set.contains text_cmp l.found.accounts q) ≡ is_among text_cmp (flat_map (accounts_by l.book.rows) l.changes) q;
  parents : (q : Text) → (is_among text_cmp (flat_map (parents_by l.book.rows) (drop l.field-index l.changes)) q || set.contains text_cmp l.found.parents q) ≡ is_among text_cmp (flat_map (parents_by l.book.rows) l.changes) q;
  mappings : (q : Text) → (is_among text_cmp (flat_map (mappings_by l.book.rows) (drop l.field-index l.changes)) q || set.contains text_cmp l.found.mappings q) ≡ is_among text_cmp (flat_map (mappings_by l.book.rows) l.changes) q;
  last : KnowsLast l.book.rows l.found;
  cost : l.steps ≤ l.fn.steps + l.field-index;
}
