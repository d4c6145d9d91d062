use Rattle.std.proofs.Common.{◌≡◌, ◌∙◌, Some, None, IsSome, cond, refl, ap, sym, subst, rules}
use Rattle.std.specs.BTreeMap as tree
use Rattle.std.specs.BTreeMap.{is_at}
use Rattle.finite_sums.specs.Maps.{text_cmp}
use Rattle.dirty_cells.specs.Spots.{RowNine}
use Rattle.dirty_cells.proofs.Spots.{row_nine, on_ok}
use Rattle.dirty_cells.proofs.store.Store.place_whole.Goals as goal

pub returns-in-Some : goal.returns-in-Some
returns-in-Some c =
    let rows = c.self.inside.rows in
    let id = c.args.id.now in
    let there : tree.get text_cmp rows id ≡ Some c.in-Some.row.now = search rules in
    let updates = (c.get_mut.follows.holds c.settle_whole.new.self).3 (subst IsSome (sym there) refl) in
    on_ok c.settle_whole.result (λ set. row_nine rows.entries (c.get_mut.follows.lender c.settle_whole.new.self).entries c.args.self.now id (Some c.in-Some.row.now) c.settle_whole.new.self
    c.self.view_is there updates.0 c.args.month c.args.cells set) c.settle_whole.ensures

pub returns : goal.returns
returns c =
    let rows = c.self.inside.rows in
    let id = c.args.id.now in
    let same = c.get_mut.follows.holds-at-none in
    let none : tree.get text_cmp rows id ≡ None = search rules in
    row_nine rows.entries c.insert.new.self.entries c.args.self.now id None c.settle_whole-2.new.self
    c.self.view_is none
    (λ q. c.in_ok-insert.ensures.updates.0 q ∙ ap (λ k. cond (is_at (text_cmp k) q) (Some c.settle_whole-2.new.self) (tree.get text_cmp c.get_mut.follows.lender-at-none q)) c.in_ok-copy.ensures
    ∙ ap (λ m. cond (is_at (text_cmp id) q) (Some c.settle_whole-2.new.self) (tree.get text_cmp m q)) same)
    c.args.month c.args.cells
    (subst (λ e. RowNine e c.settle_whole-2.new.self c.args.month c.args.cells) c.new-row.ensures c.in_ok-settle_whole.ensures)
