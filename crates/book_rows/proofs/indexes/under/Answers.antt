use Rattle.std.proofs.Common.{◌≡◌, None, sym, subst, ap, List, rules}
use Rattle.std.specs.List.Sorted.{IsStrictlySortedBy}
use Rattle.std.specs.BTreeMap as tree
use Rattle.finite_sums.specs.Maps.{Text, text_cmp}
use Rattle.book_rows.specs.Book.{ids_in}
use Rattle.book_rows.proofs.Pairs.{none_sorted}
use Rattle.book_rows.proofs.indexes.under.Goals as goal

pub returns-in-None-clause-sorted : goal.returns-in-None-clause-sorted
returns-in-None-clause-sorted c =
    let none : tree.get text_cmp c.args.index.now c.args.key.now ≡ None = search rules in
    subst (λ (ks : List Text). IsStrictlySortedBy text_cmp ks) (sym (ap ids_in none)) none_sorted
