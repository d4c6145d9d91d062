use Rattle.std.proofs.Common.{◌≡◌, ◌<◌, ◌+◌, List, [], ◌∷◌, ◌++◌, Option, Some, None, length, length-append, drop, sym, ap, ◌∙◌, arith, subst}
use Rattle.std.specs.BTreeSet as set
use Rattle.finite_sums.specs.Maps.{Text, text_cmp}
use Rattle.bank_import.specs.Matching.{run_pass, next_pass, with_taken}
use Rattle.bank_import.specs.declared.facts.Facts.{Facts}
use Rattle.bank_import.proofs.Steps.{rest_at}
use Rattle.bank_import.proofs.Passes.{Test, keeps_match, takes_match}
use Rattle.bank_import.proofs.index.Index.next_pass.Goals as goal
use Rattle.bank_import.proofs.index.Index.next_pass.Goals.{in-Some+in_ok-copy-in-Some, in-None+in_ok-id-in-None}

pub loop-i-preserved : goal.loop-i-preserved
loop-i-preserved c =
    let es = drop (c.loop-i.i + 1) c.args.records.now in
    let ms = drop (c.loop-i.i + 1) c.args.matches.now in
    let entry = c.index-records-i.result in
    let now : Test = λ q. set.contains text_cmp c.loop-i.taken q in
    let later : Test = λ q. set.contains text_cmp c.match-matches-i.taken q in
    let found = c.loop-i.found.items in
    let whole = next_pass c.args.pass c.args.self.now c.args.records.now c.args.matches.now in
    let room : c.loop-i.i < length c.args.matches.now = omega arith in
    let at_entry = rest_at c.args.records.now c.loop-i.i entry c.loop-i-test.true c.index-records-i.is in
    let at_match = rest_at c.args.matches.now c.loop-i.i c.index-matches-i.result room c.index-matches-i.is in
    let inv1 = subst (λ (x : List Facts). found ++ run_pass c.args.pass c.args.self.now now x (drop c.loop-i.i c.args.matches.now) ≡ whole) at_entry c.loop-i.invariant.found in
    let inv2 = subst (λ (x : List (Option Text)). found ++ run_pass c.args.pass c.args.self.now now (entry ∷ es) x ≡ whole) at_match inv1 in
    let inv = λ (m : Option Text) (is : c.index-matches-i.result ≡ m). subst (λ (x : Option Text). found ++ run_pass c.args.pass c.args.self.now now (entry ∷ es) (x ∷ ms) ≡ whole) is inv2 in
    let more : (found ++ c.match-matches-i.id ∷ []) ++ run_pass c.args.pass c.args.self.now later es ms ≡ whole =
    elim c.match-matches-i.branch [
      | in-Some+in_ok-copy-in-Some w ↦
          let id : c.match-matches-i.id ≡ Some w.in-Some.id = w.id-is ∙ ap Some w.in_ok-copy-in-Some.ensures in
          subst (λ (o : Option Text). (found ++ o ∷ []) ++ run_pass c.args.pass c.args.self.now later es ms ≡ whole) (sym id)
          (keeps_match c.args.pass c.args.self.now now later entry es w.in-Some.id ms found whole (λ q. ap (λ s. set.contains text_cmp s q) w.taken-is) (inv (Some w.in-Some.id) w.in-Some.is))
      | in-None+in_ok-id-in-None w ↦
          takes_match c.args.pass c.args.self.now now later entry es c.match-matches-i.id ms found whole
          (w.id-is ∙ w.in_ok-id-in-None.ensures.found)
          (λ q. ap (λ s. set.contains text_cmp s q) w.taken-is ∙ w.in_ok-id-in-None.ensures.taken q ∙ ap (λ o. with_taken o now q) (sym w.id-is))
          (inv None w.in-None.is)
    ] in
    record {
      found = subst (λ (x : List (Option Text)). x ++ run_pass c.args.pass c.args.self.now later es ms ≡ whole) (sym c.in_ok-push.ensures.items) more;
      len = ap length c.in_ok-push.ensures.items ∙ length-append found (c.match-matches-i.id ∷ []) ∙ ap (λ n. n + 1) c.loop-i.invariant.len;
    }
