use Rattle.std.proofs.Common.{◌≡◌, ◌++◌, take}
use Rattle.std.specs.List.{flat_map, AllByRecursion}
use Rattle.sync_wire.specs.Canon.{message_field}
use Rattle.sync_wire.specs.Laws.{HasTexts}
use Rattle.sync_wire.proofs.writing.put_messages.Given as goal

abbrev pub invariant-loop-message : goal.invariant-loop-message
invariant-loop-message l = record {
  written : l.out.items ≡ l.initial.out.items ++ flat_map message_field (take l.message-index l.messages);
  texts : AllByRecursion HasTexts (take l.message-index l.messages);
}
