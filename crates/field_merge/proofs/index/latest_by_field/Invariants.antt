use Rattle.std.proofs.Common.{◌≡◌, ◌++◌}
use Rattle.std.specs.BTreeMap.{values, IsOrdered}
use Rattle.field_merge.specs.Hashed.{hashed_cmp}
use Rattle.field_merge.specs.Messages.{AreMessages}
use Rattle.field_merge.proofs.index.latest_by_field.Given as goal

abbrev pub invariant-loop-message : goal.invariant-loop-message
invariant-loop-message l = record {
  built : l.found.items ++ l.message-iterator ≡ values l.index;
  valid : AreMessages l.message-iterator;
  ordered : IsOrdered hashed_cmp l.index;
}
