use Rattle.std.proofs.Common.{refl, replicate}
use Rattle.field_merge.proofs.Packing.{put_three}
use Rattle.field_merge.proofs.short.bytes_of_three.Goals as goal

pub returns : goal.returns
returns c = put_three c.args.first c.args.second c.args.third (replicate 48 0) _ _ _ refl c.put_at.ensures c.put_at-2.ensures c.put_at-3.ensures
