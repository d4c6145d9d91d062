use Rattle.std.proofs.Common.{◌≡◌, ◌≤◌, ◌+◌, false, ap, ◌∙◌, length, subst, List}
use Rattle.finite_sums.specs.Maps.{Text}
use Rattle.book_rows.specs.Parts.{children_of}
use Rattle.book_rows.specs.Book.{ids_under}
use Rattle.book_rows.proofs.Lists.{children_are, relisted}
use Rattle.book_rows.proofs.book.Book.children.Goals as goal

pub returns-clause-ids : goal.returns-clause-ids
returns-clause-ids g c =
    let live : c.self.inside.spent ≡ false = ap (λ s. s.spent) c.self.view_is ∙ c.requires.live in
    let are : ids_under c.self.inside.index.children c.args.id.now ≡ children_of c.args.self.now.rows c.args.id.now =
    children_are c.self.inside.index c.self.inside.rows.txs (c.self.invariant live).txs c.args.id.now c.list.ensures.sorted ∙ ap (λ s. children_of s.rows c.args.id.now) c.self.view_is in
    relisted c.list.result are c.list.ensures.all

pub returns-clause-most : goal.returns-clause-most
returns-clause-most g c =
    let live : c.self.inside.spent ≡ false = ap (λ s. s.spent) c.self.view_is ∙ c.requires.live in
    let are : ids_under c.self.inside.index.children c.args.id.now ≡ children_of c.args.self.now.rows c.args.id.now =
    children_are c.self.inside.index c.self.inside.rows.txs (c.self.invariant live).txs c.args.id.now c.list.ensures.sorted ∙ ap (λ s. children_of s.rows c.args.id.now) c.self.view_is in
    subst (λ (ids : List Text). c.list.new.steps ≤ c.args.steps.now + length ids) are c.list.ensures.most
