use Rattle.std.proofs.Common.{◌≡◌, ◌+◌, ◌≤◌, take, true, length}
use Rattle.std.specs.BTreeMap.{values}
use Rattle.field_merge.specs.Log.{join}
use Rattle.field_merge.specs.Stored.{AreEntries, IsIndex, MarksChanged}
use Rattle.field_merge.proofs.log.Log.join.Given as goal

abbrev pub invariant-loop-message : goal.invariant-loop-message
invariant-loop-message l = record {
  stands : AreEntries l.self-inside.messages.entries;
  right : IsIndex (values l.self-inside.messages) l.self-inside.index.entries;
  joined : values l.self-inside.messages ≡ join (values l.initial.self-inside.messages) (take l.message-index l.batch);
  spent : l.self-inside.spent ≡ true;
  small : l.added ≤ l.message-index;
  count : length (values l.initial.self-inside.messages) + l.added ≡ length (values l.self-inside.messages);
  marked : MarksChanged (values l.initial.self-inside.messages) (values l.self-inside.messages) l.changed;
}
