use Rattle.std.proofs.Common.{◌≡◌, ◌+◌, Bool, true, false, cond, List, ◌∷◌, Option, drop, ap, ◌∙◌, subst}
use Rattle.std.specs.Prelude.{◌||◌}
use Rattle.std.specs.BTreeSet as set
use Rattle.finite_sums.specs.Maps.{Text, text_cmp}
use Rattle.book_edits.specs.Checks.{same_id}
use Rattle.bank_import.specs.Matching.{somes, is_among}
use Rattle.bank_import.proofs.Steps.{rest_at}
use Rattle.bank_import.proofs.turns.ids_taken.Goals as goal
use Rattle.bank_import.proofs.turns.ids_taken.Goals.{in-Some+in_ok-copy+in_ok-insert, in_default}

one_more : (b a rest whole : Bool) → (a || (b || rest)) ≡ whole → (cond b true a || rest) ≡ whole
one_more true true rest whole h = h
one_more true false rest whole h = h
one_more false a rest whole h = h

pub loop-found-preserved : goal.loop-found-preserved
loop-found-preserved c = λ q.
    let rest = drop (c.loop-found.found-index + 1) c.args.matches.now in
    let before = set.contains text_cmp c.loop-found.taken q in
    let whole = is_among (somes c.args.matches.now) q in
    let cut : drop c.loop-found.found-index c.args.matches.now ≡ c.found-item.result ∷ rest = rest_at c.args.matches.now c.loop-found.found-index c.found-item.result c.loop-found-test.true c.found-item.is in
    let inv = subst (λ (ms : List (Option Text)). (before || is_among (somes ms) q) ≡ whole) cut (c.loop-found.invariant q) in
    elim c.match-found.branch [
      | in-Some+in_ok-copy+in_ok-insert w ↦
          let at = subst (λ (m : Option Text). (before || is_among (somes (m ∷ rest)) q) ≡ whole) w.in-Some.is inv in
          let now : set.contains text_cmp c.match-found.taken q ≡ cond (same_id w.in-Some.id q) true before =
          ap (λ s. set.contains text_cmp s q) w.taken-is ∙ w.in_ok-insert.ensures.updates.0 q ∙ ap (λ k. cond (same_id k q) true before) w.in_ok-copy.ensures in
          ap (λ b. b || is_among (somes rest) q) now ∙ one_more (same_id w.in-Some.id q) before (is_among (somes rest) q) whole at
      | in_default w ↦
          let at = subst (λ (m : Option Text). (before || is_among (somes (m ∷ rest)) q) ≡ whole) w.in_default.is inv in
          ap (λ s. set.contains text_cmp s q || is_among (somes rest) q) w.taken-is ∙ at
    ]
