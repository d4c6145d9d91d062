use Rattle.std.proofs.Common.{◌≡◌, Some, None, IsSome, true, cond, refl, ap, sym, ◌∙◌, rules, subst}
use Rattle.std.specs.List.{list_any}
use Rattle.std.specs.BTreeMap as tree
use Rattle.std.specs.BTreeMap.{is_at}
use Rattle.std.specs.BTreeSet as set
use Rattle.finite_sums.specs.Maps.{text_cmp}
use Rattle.book_rows.specs.Book.{has_id}
use Rattle.book_rows.proofs.Pairs.{set_pair}
use Rattle.book_rows.proofs.indexes.add.Goals as goal

pub returns-in-Some : goal.returns-in-Some
returns-in-Some c =
    let there : tree.get text_cmp c.args.index.now c.args.key.now ≡ Some c.in-Some.ids.now = search rules in
    let updates = (c.get_mut.follows.holds c.insert.new.self).3 (subst IsSome (sym there) refl) in
    set_pair c.args.index.now (c.get_mut.follows.lender c.insert.new.self) c.args.key.now c.args.id.now c.in-Some.ids.now c.insert.new.self true
    updates.0
    (λ q. c.in_ok-insert.ensures.updates.0 q ∙ ap (λ k. cond (is_at (text_cmp k) q) true (set.contains text_cmp c.in-Some.ids.now q)) c.in_ok-copy.ensures)
    (λ q. ap (λ o. has_id o q) there)

pub returns : goal.returns
returns c =
    let same = c.get_mut.follows.holds-at-none in
    let none : tree.get text_cmp c.args.index.now c.args.key.now ≡ None = search rules in
    set_pair c.args.index.now c.insert-3.new.self c.args.key.now c.args.id.now c.new-ids.result c.insert-2.new.self true
    (λ p. c.in_ok-insert-3.ensures.updates.0 p ∙ ap (λ k. cond (is_at (text_cmp k) p) (Some c.insert-2.new.self) (tree.get text_cmp c.get_mut.follows.lender-at-none p)) c.in_ok-copy-3.ensures
    ∙ ap (λ m. cond (is_at (text_cmp c.args.key.now) p) (Some c.insert-2.new.self) (tree.get text_cmp m p)) same)
    (λ q. c.in_ok-insert-2.ensures.updates.0 q ∙ ap (λ k. cond (is_at (text_cmp k) q) true (set.contains text_cmp c.new-ids.result q)) c.in_ok-copy-2.ensures)
    (λ q. ap (λ o. has_id o q) none ∙ sym (ap (list_any (is_at (text_cmp q))) c.new-ids.ensures.empty))
