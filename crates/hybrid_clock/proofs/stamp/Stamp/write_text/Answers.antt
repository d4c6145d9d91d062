use Rattle.std.proofs.Common.{◌≡◌, ◌∙◌, ap, List, ℕ}
use Rattle.hybrid_clock.specs.declared.stamp.Stamp.{Stamp}
use Rattle.hybrid_clock.specs.Stamp.{stamp_text}
use Rattle.hybrid_clock.specs.Clock.{stands_at}
use Rattle.hybrid_clock.specs.Reading.{read_stamp}
use Rattle.hybrid_clock.proofs.Writing.{text_reads}
use Rattle.hybrid_clock.proofs.stamp.Stamp.write_text.Goals as goal

pub returns-clause-reads_back : goal.returns-clause-reads_back
returns-clause-reads_back c =
    let s = c.args.self.now in
    let same : stands_at c.bytes.result s.millis s.counter ≡ s = ap (λ (node : List ℕ). stands_at node s.millis s.counter) c.bytes.ensures.value in
    ap read_stamp c.fill.ensures ∙ ap (λ (x : Stamp). read_stamp (stamp_text x)) same ∙ text_reads s c.requires
