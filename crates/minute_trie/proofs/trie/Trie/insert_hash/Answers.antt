use Rattle.std.proofs.Common.{w32, ap, ap₂, ◌∙◌}
use Rattle.std.proofs.Math.Path.{fun_ext}
use Rattle.std.specs.Int.{cast_unsigned}
use Rattle.std.proofs.lemmas.Int.{to_z-of_z}
use Rattle.minute_trie.specs.Trie.{held}
use Rattle.minute_trie.specs.Adding.{added}
use Rattle.minute_trie.proofs.Tries.{pair_added}
use Rattle.minute_trie.proofs.trie.Trie.insert_hash.Goals as goal

pub returns-clause-inserted : goal.returns-clause-inserted
returns-clause-inserted c pairs is = record {
  same =
      fun_ext c.in_ok-insert.ensures ∙ ap₂ (λ k h. added k h (held c.args.self.now)) c.key_of-key.ensures
      (c.cast_unsigned.ensures ∙ ap (cast_unsigned w32) (to_z-of_z w32 c.args.hash c.ranges.hash))
      ∙ pair_added pairs c.args.minute c.args.hash (held c.args.self.now) is.same;
}
