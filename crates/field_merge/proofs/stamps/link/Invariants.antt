use Rattle.std.proofs.Common.{◌≡◌, length, map}
use Rattle.field_merge.specs.Stamps.{IsLinked, before_of, buckets_of, stamp_of}
use Rattle.field_merge.proofs.stamps.link.Given as goal

abbrev pub invariant-links : goal.invariant-links
invariant-links l = record {
  same : map stamp_of l.kept ≡ map stamp_of l.initial.kept;
  linked : IsLinked l.heads (before_of l.kept) (buckets_of (length l.heads) l.kept) l.at;
}
