use Rattle.std.proofs.Common.{true, sym, ◌∙◌}
use Rattle.std.specs.BTreeSet as set
use Rattle.finite_sums.specs.Maps.{text_cmp}
use Rattle.envelope_cells.proofs.Among.{itself, or_left}
use Rattle.dirty_cells.specs.Changes.{tx_governs}
use Rattle.dirty_cells.proofs.Noted.{last_noted, governs_new, put_before, put_itself}
use Rattle.dirty_cells.proofs.touching.note_tx.Goals as goal

pub returns-then-is_last-clause-txs : goal.returns-then-is_last-clause-txs
returns-then-is_last-clause-txs g c = λ q.
    let a = c.args in
    let txs = set.contains text_cmp a.found.now.txs in
    let noted = last_noted a.book.now.rows a.row.now a.value.now txs (set.contains text_cmp a.found.now.parents) a.column a.found.now.last (sym c.is_last.ensures ∙ c.if-is_last.true) c.requires in
    put_before txs a.row.now q true (λ h. noted.0)

pub returns-then-is_last-clause-parents : goal.returns-then-is_last-clause-parents
returns-then-is_last-clause-parents g c = λ q.
    let a = c.args in
    let parents = set.contains text_cmp a.found.now.parents in
    let noted = last_noted a.book.now.rows a.row.now a.value.now (set.contains text_cmp a.found.now.txs) parents a.column a.found.now.last (sym c.is_last.ensures ∙ c.if-is_last.true) c.requires in
    put_before parents a.row.now q (tx_governs a.book.now.rows a.row.now a.column a.value.now) noted.1

pub returns-clause-kept : goal.returns-clause-kept
returns-clause-kept g c =
    let a = c.args in
    let id = c.in_ok-id.id in (
      c.in_ok-put_one.ensures id ∙ or_left _ (set.contains text_cmp a.found.now.txs id) (itself id),
      λ e. c.in_ok-put_where.ensures id ∙ put_itself c.tx_governs-governs.result (set.contains text_cmp a.found.now.parents id) id (c.tx_governs-governs.ensures.is ∙ governs_new a.book.now.rows id a.column a.value.now e),
    )
