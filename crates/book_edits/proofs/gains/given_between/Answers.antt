use Rattle.std.proofs.Common.{◌≡◌, ◌++◌, ◌∷◌, [], cond, ap, sym, ◌∙◌}
use Rattle.book_edits.specs.Mappings.{is_given}
use Rattle.book_edits.proofs.Months.{one_more, kept_one, kept_none}
use Rattle.book_edits.proofs.gains.given_between.Goals as goal
use Rattle.book_edits.proofs.gains.given_between.Goals.{then-branch+in_ok-push, else-branch}

pub loop-month-preserved : goal.loop-month-preserved
loop-month-preserved c =
    let p = is_given c.args.book.now.rows c.args.id.now in
    let month = c.loop-month.month in
    let before = c.loop-month.months.items in
    let is : c.if-branch.months.items ≡ before ++ cond (p month) (month ∷ []) [] = elim c.if-branch.branch [
      | then-branch+in_ok-push w ↦ ap (λ v. v.items) w.months-is ∙ w.in_ok-push.ensures.items ∙ kept_one p month before (sym c.in_ok-is_given.ensures ∙ w.if-branch.true)
      | else-branch w ↦ ap (λ v. v.items) w.months-is ∙ kept_none p month before (sym c.in_ok-is_given.ensures ∙ w.if-branch.false)
    ] in
    one_more p c.args.first month c.loop-month.auto.month before c.if-branch.months.items c.loop-month.invariant is
