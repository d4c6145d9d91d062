use Rattle.std.proofs.Common.{◌≡◌}
use Rattle.std.specs.List.{find}
use Rattle.std.specs.BTreeMap.{values}
use Rattle.field_merge.specs.Log.{has_field}
use Rattle.field_merge.proofs.index.winner_among.Given as goal

-- the field is not among those before
abbrev pub invariant-loop-message : goal.invariant-loop-message
invariant-loop-message l = find (has_field l.field) l.message-iterator ≡ find (has_field l.field) (values l.index)
