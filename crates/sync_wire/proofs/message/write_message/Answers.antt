use Rattle.std.proofs.Common.{◌<◌, ◌^◌, length, subst, sym, ◌∙◌, List, ℕ}
use Rattle.sync_wire.specs.Wire.{IsMessageContent}
use Rattle.sync_wire.proofs.Bodies.{content_reads_back}
use Rattle.sync_wire.proofs.message.write_message.Goals as goal

pub returns-clause-meaning : goal.returns-clause-meaning
returns-clause-meaning c =
    let same = c.in_ok-bytes.ensures.bytes in
    let fits = subst (λ (b : List ℕ). length b < 2 ^ 64) (c.deref.ensures.value ∙ same) c.fits.ensures in
    subst (λ (b : List ℕ). IsMessageContent c.args.message.now.stamp b c.args.message.now) (sym (c.new.ensures ∙ same)) (content_reads_back c.args.message.now c.requires c.in_ok-bytes.ensures.texts fits)
