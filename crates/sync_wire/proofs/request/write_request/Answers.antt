use Rattle.std.proofs.Common.{◌<◌, ◌^◌, length, subst, sym, ◌∙◌, List, ℕ}
use Rattle.sync_wire.specs.Wire.{IsRequest}
use Rattle.sync_wire.proofs.Bodies.{request_reads_back}
use Rattle.sync_wire.proofs.request.write_request.Goals as goal

pub returns-clause-meaning : goal.returns-clause-meaning
returns-clause-meaning c =
    let same = c.in_ok-bytes.ensures.bytes in
    let fits = subst (λ (b : List ℕ). length b < 2 ^ 64) (c.deref.ensures.value ∙ same) c.fits.ensures in
    subst (λ (b : List ℕ). IsRequest b c.args.request.now) (sym (c.new.ensures ∙ same)) (request_reads_back c.args.request.now c.requires.plain c.requires.valid c.in_ok-bytes.ensures.texts fits)
