use Rattle.std.proofs.Common.{◌≡◌, [], ◌∷◌, ◌++◌, ◌∙◌, sym, ap, refl, not, true, false, Bool, cond, subst}
use Rattle.field_merge.specs.declared.message.Message.{Message}
use Rattle.field_merge.specs.Latest.{CameFrom, LatestState}
use Rattle.field_merge.proofs.Coming.{came_again, came_new, has_more, not_back}
use Rattle.field_merge.proofs.latest_messages.LatestMessages.gather.Goals as goal
use Rattle.field_merge.proofs.latest_messages.LatestMessages.gather.Goals.{then-branch+in_ok-push, else-branch}

pub returns-clause-came : goal.returns-clause-came
returns-clause-came c ms came =
    let before : CameFrom ms (record { stamps = c.self.inside.stamps; messages = c.self.inside.came.items; most = c.self.inside.most; spent = c.self.inside.spent }) =
    subst (λ (l : LatestState). CameFrom ms l) (sym c.self.view_is) came in
    elim c.if-branch.branch [
      | then-branch+in_ok-push w ↦
          rw w.self-inside-is
          (came_new ms c.args.message _ _ before
          (not_back _ _ c.in_ok-insert.ensures.fresh ∙ ap not w.if-branch.true)
          (has_more c.args.message c.self.inside.stamps c.insert.new.self (c.in_ok-insert.ensures.kept ∙ ap (λ b. cond b (c.self.inside.stamps ++ c.args.message.stamp ∷ []) c.self.inside.stamps) w.if-branch.true))
          (w.in_ok-push.ensures.items ∙ ap (λ (m : Message). c.self.inside.came.items ++ m ∷ []) w.new.ensures) refl)
      | else-branch w ↦
          rw w.self-inside-is
          (came_again ms c.args.message _ _ before
          (not_back _ _ c.in_ok-insert.ensures.fresh ∙ ap not w.if-branch.false)
          (c.in_ok-insert.ensures.kept ∙ ap (λ b. cond b (c.self.inside.stamps ++ c.args.message.stamp ∷ []) c.self.inside.stamps) w.if-branch.false) refl refl)
    ]
