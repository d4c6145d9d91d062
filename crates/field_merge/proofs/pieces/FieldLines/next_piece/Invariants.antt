use Rattle.std.proofs.Common.{◌≡◌, ◌++◌, ◌<◌, length, string_bytes}
use Rattle.std.specs.List.{flat_map}
use Rattle.std.specs.Slice.Iter.{iter_rest}
use Rattle.field_merge.specs.Log.{ended_line}
use Rattle.field_merge.specs.Pieces.{IsJustEnough}
use Rattle.field_merge.proofs.pieces.FieldLines.next_piece.Given as goal

abbrev pub invariant-lines : goal.invariant-lines
invariant-lines l = record {
  told : string_bytes l.text ++ flat_map ended_line (iter_rest l.self-inside.left) ≡ flat_map ended_line l.fn.self;
  fewer : length (iter_rest l.self-inside.left) < length l.fn.self;
  enough : IsJustEnough (string_bytes l.text);
}

abbrev pub decreases-lines : goal.decreases-lines
decreases-lines l = length (iter_rest l.self-inside.left)
