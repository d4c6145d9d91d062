-- The nodes of the messages and of the device.
use Rattle.std.proofs.Common.{◌≡◌, List, Result, Ok, Err, refl}
use Rattle.std.specs.Prelude.{codes}
use Rattle.hybrid_clock.specs.Node.{node_of}

pub of_messages : node_of (codes "0000000000000gen") ≡ Ok (codes "0000000000000gen")
unfolding node_of
of_messages = refl

pub of_device : node_of (codes "1") ≡ Ok (codes "0000000000000001")
unfolding node_of
of_device = refl
