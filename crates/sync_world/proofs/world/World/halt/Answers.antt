use Rattle.std.proofs.Common.{false, length, refl, ap, ◌∙◌, subst}
use Rattle.std.proofs.lemmas.Option.{slice_get_read}
use Rattle.field_merge.specs.Log.{join}
use Rattle.sync_world.specs.declared.event.Event.TheVariants as events
use Rattle.sync_world.specs.declared.event.Outcome.TheVariants.{Halted}
use Rattle.sync_world.specs.Whole.{WorldModel, world_of, model_of, IsDone}
use Rattle.sync_world.proofs.Wholes.{halt_done, halt_holds}
use Rattle.sync_world.proofs.world.World.halt.Goals as goal

pub invariant_of-self : goal.invariant_of-self
invariant_of-self c = λ _.
    let i = c.self.inside in
    halt_holds c.steps_stay_right.ensures i.devices.items i.server c.join_all.new.log i.trie c.join_all.new.trie i.made.items i.acknowledged.items i.kept.items i.requests.items i.replies.items
    c.args.number c.args.whole c.index.result.now (c.self.invariant (ap (λ (m : WorldModel). m.spent) c.self.view_is ∙ c.requires.live)) c.if-not-whole.false
    (slice_get_read i.requests.items (length c.as_slice.result.now) c.args.number c.index.result.now (ap length c.as_slice.ensures.value) c.if-index-as_slice.false c.index.ensures)
    (c.in-Ok.ensures.joined ∙ ap (join i.server.messages) c.as_slice-2.ensures) c.in-Ok.ensures.live c.in-Ok.ensures.trie_live c.in-Ok.ensures.right

pub returns-in-Ok-clause-ok : goal.returns-in-Ok-clause-ok
returns-in-Ok-clause-ok c =
    let i = c.self.inside in
    subst (λ (m : WorldModel). IsDone (events.Halt c.args.number c.args.whole) m
    (model_of i.devices.items c.join_all.new.log i.made.items i.acknowledged.items i.kept.items i.requests.items i.replies.items false)
    Halted) c.self.view_is
    (record {
      steps = halt_done i.devices.items i.server c.join_all.new.log i.made.items i.acknowledged.items i.kept.items i.requests.items i.replies.items
          c.args.number c.args.whole c.index.result.now c.if-not-whole.false
          (slice_get_read i.requests.items (length c.as_slice.result.now) c.args.number c.index.result.now (ap length c.as_slice.ensures.value) c.if-index-as_slice.false c.index.ensures)
          (c.in-Ok.ensures.joined ∙ ap (join i.server.messages) c.as_slice-2.ensures);
      live = refl;
    })
