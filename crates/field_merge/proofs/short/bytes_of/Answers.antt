use Rattle.field_merge.specs.Padded.{bytes_of}
use Rattle.field_merge.proofs.short.bytes_of.Goals as goal

pub returns : goal.returns
unfolding bytes_of
returns c = c.to_be_bytes.ensures
