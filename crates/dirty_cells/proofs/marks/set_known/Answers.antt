use Rattle.std.proofs.Common.{sym, subst, arith, Result, Ok, Err, IfOk, OnOk}
use Rattle.dirty_cells.specs.Changes.{Spares, Within, with_fields}
use Rattle.dirty_cells.specs.Bound.{touched_txs}
use Rattle.dirty_cells.specs.declared.marks.Begun.{Begun}
use Rattle.dirty_cells.proofs.Following.{is_followed}
use Rattle.dirty_cells.proofs.Lengths.{few_ids}
use Rattle.dirty_cells.proofs.marks.set_known.Goals as goal

four : {A E : Type 0} {P Q R S T : A → Type 0} (r : Result A E) → IfOk r P → IfOk r Q → IfOk r R → IfOk r S → ((x : A) → P x → Q x → R x → S x → T x) → IfOk r T
four (Ok x) p q s t f = f x p q s t
four (Err e) p q s t f = p

pub returns-clause-marked : goal.returns-clause-marked
returns-clause-marked g c =
    let r = c.args.book.now.rows in
    let changes = c.args.changes.now in
    let list = c.args.ids.now in
    let s = c.change_sums.new.book.rows in
    let by_txs = c.in_ok-begun.ensures in
    let b = c.args.begun in
    let a : Begun = record { categories = c.change_sums.new.categories; groups = b.groups; first = c.in_ok-begun.field-0; rearranged = b.rearranged } in
    four c.marks_after.result c.marks_after.ensures.categories c.marks_after.ensures.groups c.marks_after.ensures.from c.marks_after.ensures.rearranged
    (λ m mc mg mf mr. record {
      ids = list;
      spares = c.requires.spares;
      within = c.requires.within;
      followed = is_followed r s changes list b a m by_txs.book c.requires.categories c.requires.groups c.requires.first c.requires.rearranged by_txs.more by_txs.first mc mg mf mr;
    })
