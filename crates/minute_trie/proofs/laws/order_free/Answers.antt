use Rattle.std.proofs.Common.{◌∙◌}
use Rattle.std.proofs.Math.Path.{fun_ext}
use Rattle.std.proofs.lemmas.List.Sorted.{IsPermutation-map}
use Rattle.minute_trie.specs.Trie.{entry_of, entries_of}
use Rattle.minute_trie.proofs.Order.{pruned_same}
use Rattle.minute_trie.proofs.laws.order_free.Goals as goal

pub returns : goal.returns
returns c = record {
  same = λ pairs others same. fun_ext (pruned_same (entries_of pairs) (entries_of others) (IsPermutation-map entry_of pairs others same));
  trie = λ pairs others trie same is. record { same = is.same ∙ fun_ext (pruned_same (entries_of pairs) (entries_of others) (IsPermutation-map entry_of pairs others same)) };
}
