use Rattle.std.proofs.Common.{◌≡◌, ◌++◌, length}
use Rattle.std.specs.Prelude.{reverse}
use Rattle.std.specs.BTreeMap.{values}
use Rattle.field_merge.specs.Messages.{AreMessages}
use Rattle.field_merge.specs.Log.{IsRising, messages_after}
use Rattle.field_merge.proofs.later.copies_after.Given as goal

abbrev pub invariant-loop-message : goal.invariant-loop-message
invariant-loop-message l = record {
  told : messages_after l.text l.left ++ reverse l.found.items ≡ messages_after l.text (values l.messages);
  rising : IsRising l.left;
  valid : AreMessages l.left;
}

abbrev pub decreases-loop-message : goal.decreases-loop-message
decreases-loop-message l = length l.left
