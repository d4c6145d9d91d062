use Rattle.std.proofs.Common.{◌++◌, ◌∙◌, ℕ, List, ap, arith, drop, length, replicate}
use Rattle.field_merge.proofs.ShortLemmas.{padded_of}
use Rattle.field_merge.proofs.short.Long.of.Goals as goal

pub invariant_of-result : goal.invariant_of-result
invariant_of-result c =
    padded_of 48 c.args.text.now _
    (ap (λ (ts : List ℕ). ts ++ drop (length c.args.text.now) (replicate 48 0)) (c.copy_from_slice.ensures.after ∙ c.as_bytes.ensures.value))
    c.requires c.utf8.text (λ k. omega (arith, c.type_inv.text k))
