use lib.IntN.{pos}
use Rattle.std.proofs.Common.{◌≡◌, false, [], Option, None, Some, ap, sym, ◌∙◌, subst, rules}
use Rattle.std.specs.BTreeMap as tree
use Rattle.std.specs.FinMap as map
use Rattle.std.proofs.lemmas.Int.{to_z-of_z}
use Rattle.std.specs.Int.{w128}
use Rattle.std.specs.BTreeSet.{BTreeSet}
use Rattle.finite_sums.specs.Sums.{total}
use Rattle.finite_sums.specs.Maps.{Text, text_cmp, value_or_zero}
use Rattle.book_rows.specs.declared.rows.Rows.{Rows}
use Rattle.book_rows.specs.Book.{has_id}
use Rattle.book_rows.specs.Balances.{adds, balance_of}
use Rattle.book_rows.proofs.Balances.{balance_is}
use Rattle.book_rows.proofs.Pairs.{none_sorted}
use Rattle.book_rows.proofs.book.Book.balance.Goals as goal

pub returns-in-Some : goal.returns-in-Some
returns-in-Some c =
    let account = c.args.account.now in
    let ids = c.in-Some.ids.now in
    let live : c.self.inside.spent ≡ false = ap (λ s. s.spent) c.self.view_is ∙ c.requires.live in
    let is = (c.self.invariant live).txs in
    let rows : c.self.inside.rows ≡ c.args.self.now.rows = ap (λ s. s.rows) c.self.view_is in
    let there : tree.get text_cmp c.self.inside.index.accounts account ≡ Some ids = search rules in
    let sum = balance_is c.self.inside.index c.self.inside.rows is account ids.keys c.sum_of.ensures.sorted (λ q. sym (ap (λ o. has_id o q) there)) in
    to_z-of_z w128 c.sum_of.result (search rules) ∙ c.sum_of.ensures.sum
    ∙ subst (λ (r : Rows). total (λ id. value_or_zero (adds r) (map.get r.txs id)) ids.keys ≡ balance_of r account) rows sum

pub returns-in-None : goal.returns-in-None
returns-in-None c =
    let account = c.args.account.now in
    let live : c.self.inside.spent ≡ false = ap (λ s. s.spent) c.self.view_is ∙ c.requires.live in
    let is = (c.self.invariant live).txs in
    let rows : c.self.inside.rows ≡ c.args.self.now.rows = ap (λ s. s.rows) c.self.view_is in
    let there : tree.get text_cmp c.self.inside.index.accounts account ≡ None = search rules in
    let sum = balance_is c.self.inside.index c.self.inside.rows is account [] none_sorted (λ q. sym (ap (λ (o : Option (BTreeSet Text)). has_id o q) there)) in
    subst (λ (r : Rows). pos 0 ≡ balance_of r account) rows sum
