use Rattle.std.proofs.Common.{◌≡◌, ◌<◌, ◌+◌, ◌∷◌, drop, length, rules, arith, ◌∙◌}
use Rattle.std.specs.Prelude.{flat_map}
use Rattle.std.specs.BTreeSet as set
use Rattle.finite_sums.specs.Maps.{text_cmp, is_among}
use Rattle.envelope_cells.proofs.Lists.{from_here}
use Rattle.dirty_cells.specs.Governing.{txs_by, accounts_by, parents_by, mappings_by}
use Rattle.dirty_cells.proofs.Gathered.{gather_step, gathered}
use Rattle.dirty_cells.proofs.touching.note_all.Goals as goal

pub loop-field-preserved : goal.loop-field-preserved
loop-field-preserved g c =
    let changes = c.args.changes.now in
    let r = c.args.book.now.rows in
    let i = c.loop-field.field-index in
    let x = c.loop-field-item.result in
    let inside : i < length changes = search rules in
    let here : drop i changes ≡ x ∷ drop (i + 1) changes = from_here changes i x inside c.loop-field-item.is in
    let old = c.loop-field.found in
    let new = c.note.new.found in
    record {
      txs = λ q. gather_step txs_by changes i x (set.contains text_cmp old.txs) (set.contains text_cmp new.txs) q here (c.in_ok-note.ensures.txs q) ∙ c.loop-field.invariant.txs q;
      accounts = λ q. gather_step (accounts_by r) changes i x (set.contains text_cmp old.accounts) (set.contains text_cmp new.accounts) q here (c.in_ok-note.ensures.accounts q) ∙ c.loop-field.invariant.accounts q;
      parents = λ q. gather_step (parents_by r) changes i x (set.contains text_cmp old.parents) (set.contains text_cmp new.parents) q here (c.in_ok-note.ensures.parents q) ∙ c.loop-field.invariant.parents q;
      mappings = λ q. gather_step (mappings_by r) changes i x (set.contains text_cmp old.mappings) (set.contains text_cmp new.mappings) q here (c.in_ok-note.ensures.mappings q) ∙ c.loop-field.invariant.mappings q;
      last = c.in_ok-note.ensures.kept;
      cost = omega (arith, c.in_ok-note.ensures.cost, c.loop-field.invariant.cost);
    }

pub returns-clause-txs : goal.returns-clause-txs
returns-clause-txs g c = λ q. gathered txs_by c.args.changes.now c.loop-field.field-index (set.contains text_cmp c.loop-field.found.txs) q (is_among text_cmp (flat_map txs_by c.args.changes.now) q) (omega arith) (c.loop-field.invariant.txs q)

pub returns-clause-accounts : goal.returns-clause-accounts
returns-clause-accounts g c = λ q.
    let f = accounts_by c.args.book.now.rows in
    gathered f c.args.changes.now c.loop-field.field-index (set.contains text_cmp c.loop-field.found.accounts) q (is_among text_cmp (flat_map f c.args.changes.now) q) (omega arith) (c.loop-field.invariant.accounts q)

pub returns-clause-parents : goal.returns-clause-parents
returns-clause-parents g c = λ q.
    let f = parents_by c.args.book.now.rows in
    gathered f c.args.changes.now c.loop-field.field-index (set.contains text_cmp c.loop-field.found.parents) q (is_among text_cmp (flat_map f c.args.changes.now) q) (omega arith) (c.loop-field.invariant.parents q)

pub returns-clause-mappings : goal.returns-clause-mappings
returns-clause-mappings g c = λ q.
    let f = mappings_by c.args.book.now.rows in
    gathered f c.args.changes.now c.loop-field.field-index (set.contains text_cmp c.loop-field.found.mappings) q (is_among text_cmp (flat_map f c.args.changes.now) q) (omega arith) (c.loop-field.invariant.mappings q)
