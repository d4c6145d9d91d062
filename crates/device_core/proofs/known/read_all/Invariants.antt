use Rattle.std.proofs.Common.{◌≡◌, ◌<◌, drop}
use Rattle.kept_messages.specs.Records.{kept_set, HasFirstStamp}
use Rattle.kept_messages.proofs.Starting.{kept_after}
use Rattle.device_core.specs.Known.{IsKnown}
use Rattle.device_core.proofs.known.read_all.Given as goal

abbrev pub invariant-loop-index : goal.invariant-loop-index
invariant-loop-index l = record {
  rest : kept_after l.known.log.messages l.index (drop l.index l.records) ≡ kept_set l.records;
  known : IsKnown l.known;
  first : 0 < l.index → HasFirstStamp l.records;
}
