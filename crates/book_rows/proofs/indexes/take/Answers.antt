use Rattle.std.proofs.Common.{◌≡◌, List, [], ◌∷◌, Some, None, IsSome, false, cond, refl, ap, sym, ◌∙◌, rules, subst, length, arith}
use Rattle.std.specs.BTreeMap as tree
use Rattle.finite_sums.specs.Maps.{Text, text_cmp}
use Rattle.book_rows.specs.Book.{has_id, holds, ids_in}
use Rattle.book_rows.proofs.Pairs.{set_pair, absent_pair, itself}
use Rattle.book_rows.proofs.indexes.take.Goals as goal

no_ids : (ids : List Text) → length ids ≡ 0 → ids ≡ []
no_ids [] h = refl
no_ids (id ∷ ids) h = absurd (omega arith)

pub returns-in-Some-clause-pairs : goal.returns-in-Some-clause-pairs
returns-in-Some-clause-pairs c =
    let there : tree.get text_cmp c.args.index.now c.args.key.now ≡ Some c.in-Some.ids.now = search rules in
    let updates = (c.get_mut.follows.holds c.remove.new.self).3 (subst IsSome (sym there) refl) in
    set_pair c.args.index.now (c.get_mut.follows.lender c.remove.new.self) c.args.key.now c.args.id.now c.in-Some.ids.now c.remove.new.self false
    updates.0 c.remove.ensures.updates.0 (λ q. ap (λ o. has_id o q) there)

pub returns-in-Some-clause-left : goal.returns-in-Some-clause-left
returns-in-Some-clause-left c = λ h.
    let there : tree.get text_cmp c.args.index.now c.args.key.now ≡ Some c.in-Some.ids.now = search rules in
    let updates = (c.get_mut.follows.holds c.remove.new.self).3 (subst IsSome (sym there) refl) in
    ap ids_in (updates.0 c.args.key.now ∙ ap (λ b. cond b (Some c.remove.new.self) (tree.get text_cmp c.args.index.now c.args.key.now)) (itself c.args.key.now))
    ∙ no_ids c.remove.new.self.keys (c.is_empty.ensures.0 h)

pub returns-in-None-clause-pairs : goal.returns-in-None-clause-pairs
returns-in-None-clause-pairs c = λ p q.
    let same = c.get_mut.follows.holds-at-none in
    let none : tree.get text_cmp c.args.index.now c.args.key.now ≡ None = search rules in
    ap (λ m. holds m p q) same ∙ absent_pair c.args.index.now c.args.key.now c.args.id.now none p q
