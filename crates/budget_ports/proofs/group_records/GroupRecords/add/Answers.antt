use Rattle.std.proofs.Common.{◌∙◌, ◌++◌, ◌∷◌, [], List, ℕ, ap, sym, refl}
use Rattle.std.specs.FinMap.{contains_key}
use Rattle.budget_ports.proofs.Bodies.{added_out}
use Rattle.budget_ports.proofs.group_records.GroupRecords.add.Goals as goal

pub returns-in_ok-push-clause-undone : goal.returns-in_ok-push-clause-undone
returns-in_ok-push-clause-undone c = λ batch here.
    added_out batch c.args.self.now c.add_one.new.self c.args.added.now.items c.push.new.self.items c.args.place c.args.kept.now (contains_key c.args.self.now c.args.kept.now.key)
    here (c.in_ok-push.ensures.items ∙ ap (λ (places : List ℕ). places ++ c.args.place ∷ []) c.reserve.ensures.items) refl (sym c.in_ok-add_one.ensures.added ∙ c.if-branch.true) c.in_ok-add_one.ensures.ok
