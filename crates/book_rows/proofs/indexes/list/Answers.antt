use Rattle.std.proofs.Common.{◌≡◌, Some, None, sym, subst, ap, List, rules}
use Rattle.std.specs.List.Sorted.{IsStrictlySortedBy}
use Rattle.std.specs.BTreeMap as tree
use Rattle.finite_sums.specs.Maps.{Text, text_cmp}
use Rattle.book_rows.specs.Book.{ids_in}
use Rattle.book_rows.proofs.Pairs.{none_sorted}
use Rattle.book_rows.proofs.indexes.list.Goals as goal

pub returns-in-None-clause-sorted : goal.returns-in-None-clause-sorted
returns-in-None-clause-sorted g c =
    let none : tree.get text_cmp c.args.index.now c.args.key.now ≡ None = search rules in
    subst (λ (ks : List Text). IsStrictlySortedBy text_cmp ks) (sym (ap ids_in none)) none_sorted

pub returns-in-Some-clause-sorted : goal.returns-in-Some-clause-sorted
returns-in-Some-clause-sorted g c =
    let there : tree.get text_cmp c.args.index.now c.args.key.now ≡ Some c.in-Some.ids.now = search rules in
    subst (λ (ks : List Text). IsStrictlySortedBy text_cmp ks) (sym (ap ids_in there)) c.copies.ensures.sorted
