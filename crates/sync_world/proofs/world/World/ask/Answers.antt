use Rattle.std.proofs.Common.{ℕ, ◌-◌, Ok, false, length, refl, sym, ap, ◌∙◌, subst, arith}
use Rattle.std.proofs.lemmas.Option.{slice_get_read}
use Rattle.sync_world.specs.declared.event.Event.TheVariants as events
use Rattle.sync_world.specs.declared.event.Outcome.TheVariants.{Asked}
use Rattle.sync_world.specs.Whole.{WorldModel, world_of, model_of, IsDone}
use Rattle.sync_world.proofs.Wholes.{ask_done, ask_holds}
use Rattle.sync_world.proofs.world.World.ask.Goals as goal

pub invariant_of-self : goal.invariant_of-self
invariant_of-self c = λ _.
    let i = c.self.inside in
    ask_holds c.steps_stay_right.ensures i.devices.items i.server i.trie i.made.items i.acknowledged.items i.kept.items i.requests.items c.ask_at.new.requests.items i.replies.items
    c.args.number c.index.result.now c.args.since.now (c.self.invariant (ap (λ (m : WorldModel). m.spent) c.self.view_is ∙ c.requires.live)) (omega (arith, c.if-number-eq0.false))
    (slice_get_read i.devices.items (length c.as_slice.result.now) (c.args.number - 1) c.index.result.now (ap length c.as_slice.ensures.value) c.if-index-as_slice.false c.index.ensures)
    c.in-Ok.ensures.sent c.in-Ok.ensures.valid

pub returns-in-Ok-clause-ok : goal.returns-in-Ok-clause-ok
returns-in-Ok-clause-ok c =
    let i = c.self.inside in
    subst (λ (m : WorldModel). IsDone (events.Ask c.args.number c.args.since.now) m
    (model_of i.devices.items i.server i.made.items i.acknowledged.items i.kept.items c.ask_at.new.requests.items i.replies.items false)
    (Asked (length c.as_slice-2.result.now))) c.self.view_is
    (record {
      steps =
          ask_done i.devices.items i.server i.made.items i.acknowledged.items i.kept.items i.requests.items c.ask_at.new.requests.items i.replies.items c.args.number c.index.result.now c.args.since.now (omega (arith, c.if-number-eq0.false))
          (slice_get_read i.devices.items (length c.as_slice.result.now) (c.args.number - 1) c.index.result.now (ap length c.as_slice.ensures.value) c.if-index-as_slice.false c.index.ensures)
          c.in-Ok.ensures.sent
          ∙ ap (λ (n : ℕ). Ok (world_of i.devices.items i.server i.made.items i.acknowledged.items i.kept.items c.ask_at.new.requests.items i.replies.items, Asked n)) (ap length (sym c.as_slice-2.ensures.value));
      live = refl;
    })
