use Rattle.sync_laws.proofs.Adding.{has_got, has_text}
use Rattle.sync_laws.proofs.Listing.{are_above}
use Rattle.sync_laws.proofs.laws.contents_are_kept.Goals as goal

pub returns : goal.returns
returns c = record { above = are_above; got = has_got; put = has_text }
