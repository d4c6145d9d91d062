-- Faults of the keeper and want of memory, for which a request is refused whatever it asks.
use Rattle.std.proofs.Common.{◌≡◌, ◌≢◌, ℕ, List, refl, inl, inr, sym, subst}
use Rattle.budget_ports.specs.declared.keeper.PortFault.{PortFault}
use Rattle.budget_ports.specs.declared.keeper.PortFault.TheVariants as faults
use Rattle.sync_server.specs.declared.refusal.Refusal.{Refusal}
use Rattle.sync_server.specs.declared.refusal.Refusal.TheVariants.{NoMemory}
use Rattle.sync_server.specs.Replies.{refusal_of}
use Rattle.sync_server.specs.Keeping.{IsFree}
use Rattle.sync_wire.specs.declared.fault.WireFault.{WireFault}
use Rattle.sync_wire.specs.declared.fault.WireFault.TheVariants as wire
use Rattle.sync_wire.specs.Wire.{IsRequestFault}
use Rattle.sync_server.specs.Asking.{RefusesBody, refusal_for, no_meaning, out_of_memory}

pub free_of : (fault : PortFault) → IsFree (refusal_of fault)
free_of faults.Failed = inl refl
free_of faults.NoMemory = inr refl

pub free_port : (fault : PortFault) (r : Refusal) → r ≡ refusal_of fault → IsFree r
free_port fault r e = subst IsFree (sym e) (free_of fault)

pub free_memory : (r : Refusal) → r ≡ NoMemory → IsFree r
free_memory r e = inr e

-- a body is refused for what is wrong with it, where memory didn't run out
pub body_fault : (body : List ℕ) (fault : WireFault) → (fault ≢ wire.NoMemory → IsRequestFault body fault) → RefusesBody body (refusal_for fault)
body_fault body (wire.Truncated at) h = no_meaning (wire.Truncated at) (h (λ e. cc)) refl
body_fault body (wire.BadTag at) h = no_meaning (wire.BadTag at) (h (λ e. cc)) refl
body_fault body (wire.LongVarint at) h = no_meaning (wire.LongVarint at) (h (λ e. cc)) refl
body_fault body (wire.NotUtf8 at) h = no_meaning (wire.NotUtf8 at) (h (λ e. cc)) refl
body_fault body (wire.BadStamp at) h = no_meaning (wire.BadStamp at) (h (λ e. cc)) refl
body_fault body (wire.BadMessage at) h = no_meaning (wire.BadMessage at) (h (λ e. cc)) refl
body_fault body wire.NoMemory h = out_of_memory refl
