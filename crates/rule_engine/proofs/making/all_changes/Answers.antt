use Rattle.std.proofs.Common.{◌≡◌, ◌++◌, cond, sym, ap, ◌∙◌}
use Rattle.std.proofs.lemmas.Bool.{cond-true, cond-false}
use Rattle.rule_engine.specs.Edits.{changes}
use Rattle.book_edits.proofs.Once.{is_new, taken_at, at_first}
use Rattle.rule_engine.proofs.making.all_changes.Goals as goal
use Rattle.rule_engine.proofs.making.all_changes.Goals.{then-branch+in_ok-push_changes, else-branch}

pub loop-id-init : goal.loop-id-init
loop-id-init c = at_first (changes c.args.book.now.rows c.args.rules.now) c.new-seen.result c.new-writes.result.items c.args.ids.now c.new-writes.ensures.items c.new-seen.ensures.empty

pub loop-id-preserved : goal.loop-id-preserved
loop-id-preserved c =
    let f = changes c.args.book.now.rows c.args.rules.now in
    let before = c.loop-id.writes.items in
    let id = c.id-item.result in
    let fresh = is_new c.loop-id.seen c.in_ok-copy.field-0 in
    let is : c.if-branch.writes.items ≡ cond fresh (before ++ f id) before = elim c.if-branch.branch [
      | then-branch+in_ok-push_changes w ↦ ap (λ v. v.items) w.writes-is ∙ w.in_ok-push_changes.ensures ∙ sym (cond-true fresh (before ++ f id) before (sym c.in_ok-insert.ensures.added ∙ w.if-branch.true))
      | else-branch w ↦ ap (λ v. v.items) w.writes-is ∙ sym (cond-false fresh (before ++ f id) before (sym c.in_ok-insert.ensures.added ∙ w.if-branch.false))
    ] in
    taken_at f c.loop-id.seen c.insert.new.self c.args.ids.now c.loop-id.id-index id c.in_ok-copy.field-0 before c.if-branch.writes.items _ c.id-item.is c.loop-id-test.true c.in_ok-copy.ensures c.in_ok-insert.ensures.updates.0 is c.loop-id.invariant
