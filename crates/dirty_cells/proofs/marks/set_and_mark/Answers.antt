use Rattle.std.proofs.Common.{sym, subst, ◌∙◌, refl, arith, Result, Ok, Err, OnOk}
use Rattle.dirty_cells.specs.Changes.{Spares, Within, with_fields}
use Rattle.dirty_cells.specs.Bound.{touched_txs}
use Rattle.dirty_cells.proofs.Lengths.{few_ids}
use Rattle.dirty_cells.proofs.Lone.{found_alone, alone_spares, alone_within, no_categories, no_groups, no_month, no_order}
use Rattle.dirty_cells.proofs.marks.set_and_mark.Goals as goal

anyway : {A E P Q : Type 0} (r : Result A E) → OnOk r P → (P → Q) → OnOk r Q
anyway (Ok x) p f = f p
anyway (Err e) p f = tt

pub set_known-requires-clause-spares : goal.set_known-requires-clause-spares
set_known-requires-clause-spares g c =
    let r = c.args.book.now.rows in
    let cs = c.args.changes.now in
    let alone = found_alone r cs c.index-changes-0.result c.in_ok-id.field-0 c.in-Some.id c.in_ok-id.ensures.touches c.in-Some.is c.in-len1.len_at_least c.in-len1.len_below in
    alone_spares r cs c.in-Some.id _ alone refl

pub set_known-requires-clause-within : goal.set_known-requires-clause-within
set_known-requires-clause-within g c =
    let r = c.args.book.now.rows in
    let cs = c.args.changes.now in
    let alone = found_alone r cs c.index-changes-0.result c.in_ok-id.field-0 c.in-Some.id c.in_ok-id.ensures.touches c.in-Some.is c.in-len1.len_at_least c.in-len1.len_below in
    alone_within r cs c.in-Some.id _ alone refl

pub set_known-requires-clause-categories : goal.set_known-requires-clause-categories
set_known-requires-clause-categories g c = λ q. c.none_begun-begun.ensures.categories q ∙ sym (no_categories c.args.book.now.rows c.args.changes.now c.index-changes-0.result c.in_ok-id.field-0 c.in-Some.id c.in_ok-id.ensures.sets c.in-Some.is c.in-len1.len_at_least c.in-len1.len_below q)

pub set_known-requires-clause-groups : goal.set_known-requires-clause-groups
set_known-requires-clause-groups g c = λ q. c.none_begun-begun.ensures.groups q ∙ sym (no_groups c.args.book.now.rows c.args.changes.now c.index-changes-0.result c.in_ok-id.field-0 c.in-Some.id c.in_ok-id.ensures.sets c.in-Some.is c.in-len1.len_at_least c.in-len1.len_below q)

pub set_known-requires-clause-first : goal.set_known-requires-clause-first
set_known-requires-clause-first g c = c.none_begun-begun.ensures.first ∙ sym (no_month c.args.book.now.rows c.args.changes.now c.index-changes-0.result c.in_ok-id.field-0 c.in-Some.id c.in_ok-id.ensures.sets c.in-Some.is c.in-len1.len_at_least c.in-len1.len_below)

pub set_known-requires-clause-rearranged : goal.set_known-requires-clause-rearranged
set_known-requires-clause-rearranged g c = c.none_begun-begun.ensures.rearranged ∙ sym (no_order c.args.book.now.rows c.args.changes.now c.index-changes-0.result c.in_ok-id.field-0 c.in-Some.id c.in_ok-id.ensures.sets c.in-Some.is c.in-len1.len_at_least c.in-len1.len_below)

pub set_known-requires-2-clause-spares : goal.set_known-requires-2-clause-spares
set_known-requires-2-clause-spares g c = subst (Spares c.args.book.now.rows (with_fields c.args.book.now.rows c.args.changes.now)) (sym c.as_slice.ensures) c.in_ok-ids.ensures.spares

pub set_known-requires-2-clause-within : goal.set_known-requires-2-clause-within
set_known-requires-2-clause-within g c = λ d.
    let r = c.args.book.now.rows in
    let changes = c.args.changes.now in
    subst (λ l. Within l (touched_txs r (with_fields r changes) changes)) (sym c.as_slice.ensures) (c.in_ok-ids.ensures.within d)

pub returns-clause-cost : goal.returns-clause-cost
returns-clause-cost g c = anyway c.set_known-2.result c.set_known-2.ensures.cost (λ cost d.
    let r = c.args.book.now.rows in
    let changes = c.args.changes.now in
    let s = with_fields r changes in
    let list = c.as_slice.result.now in
    let spares : Spares r s list = subst (Spares r s) (sym c.as_slice.ensures) c.in_ok-ids.ensures.spares in
    let within : Within list (touched_txs r s changes) = subst (λ l. Within l (touched_txs r s changes)) (sym c.as_slice.ensures) (c.in_ok-ids.ensures.within d) in
    omega (arith, cost, c.in_ok-ids.ensures.cost d, few_ids r s changes list spares.distinct within))
