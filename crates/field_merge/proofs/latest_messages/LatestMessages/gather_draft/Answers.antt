use Rattle.std.proofs.Common.{◌≡◌, [], ◌∷◌, ◌++◌, ◌∙◌, sym, ap, refl, not, true, false, cond, subst}
use Rattle.field_merge.specs.declared.message.Message.{Message}
use Rattle.field_merge.specs.Latest.{CameFrom, LatestState}
use Rattle.field_merge.specs.Messages.{message_of}
use Rattle.field_merge.proofs.Coming.{came_again, came_new, came_with, has_more, not_back}
use Rattle.field_merge.proofs.latest_messages.LatestMessages.gather_draft.Goals as goal
use Rattle.field_merge.proofs.latest_messages.LatestMessages.gather_draft.Goals.{then-branch+in_ok-take_in, else-branch}

pub returns-clause-came : goal.returns-clause-came
returns-clause-came c ms came =
    let m : Message = message_of c.args.draft.stamp c.args.draft.names c.args.draft.value.now in
    let before : CameFrom ms (record { stamps = c.self.inside.stamps; messages = c.self.inside.came.items; most = c.self.inside.most; spent = c.self.inside.spent }) =
    subst (λ (l : LatestState). CameFrom ms l) (sym c.self.view_is) came in
    elim c.if-branch.branch [
      | then-branch+in_ok-take_in w ↦
          let mid : LatestState = record { stamps = c.insert.new.self; messages = c.self.inside.came.items ++ m ∷ []; most = c.self.inside.most; spent = c.self.inside.spent } in
          rw w.self-inside-is
          (came_with (ms ++ m ∷ []) mid _
          (came_new ms m _ mid before
          (not_back _ _ c.in_ok-insert.ensures.fresh ∙ ap not w.if-branch.true)
          (has_more m c.self.inside.stamps c.insert.new.self (c.in_ok-insert.ensures.kept ∙ ap (λ b. cond b (c.self.inside.stamps ++ m.stamp ∷ []) c.self.inside.stamps) w.if-branch.true))
          refl refl)
          w.in_ok-take_in.ensures refl refl)
      | else-branch w ↦
          rw w.self-inside-is
          (came_again ms m _ _ before
          (not_back _ _ c.in_ok-insert.ensures.fresh ∙ ap not w.if-branch.false)
          (c.in_ok-insert.ensures.kept ∙ ap (λ b. cond b (c.self.inside.stamps ++ m.stamp ∷ []) c.self.inside.stamps) w.if-branch.false) refl refl)
    ]
