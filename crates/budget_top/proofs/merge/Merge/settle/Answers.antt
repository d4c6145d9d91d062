use Rattle.std.proofs.Common.{◌+◌, ◌∙◌, ℕ, Err, ap, refl, subst}
use Rattle.budget_top.specs.KeptLine.{judged_kept_line, kept_line_with}
use Rattle.budget_top.specs.Verdicts.{bad_line, Takes}
use Rattle.budget_top.proofs.Standing.{appends_as, settles_bad}
use Rattle.budget_top.proofs.merge.Merge.settle.Goals as goal

pub returns-clause-ok : goal.returns-clause-ok
returns-clause-ok g c =
    let old = c.args.self.now in
    let verdict = judged_kept_line (kept_line_with old.line c.args.bytes.now) in
    let word = c.in-Err.word in
    let same = c.in_ok-word.ensures.same.0 in
    let text = c.as_bytes.ensures.value ∙ c.as_str.ensures.value ∙ c.in_ok-text.ensures ∙ ap (λ (n : ℕ). bad_line (n + 1) (Err word)) same in
    settles_bad old _ c.take.new.self.latest (g.W.Sink.taken c.args.sink.now) (g.W.Sink.taken c.write_all.new.sink) verdict word
    (subst (λ told. Takes verdict told old.latest c.take.new.self.latest) c.in-Err.is c.in_ok-word.ensures.taken)
    refl c.requires.live same refl
    (appends_as (g.W.Sink.taken c.args.sink.now) (g.W.Sink.taken c.write_all.new.sink) _ _ text c.in_ok-write_all.ensures.all)
