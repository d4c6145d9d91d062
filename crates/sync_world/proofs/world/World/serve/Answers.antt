use Rattle.std.proofs.Common.{ℕ, Ok, false, length, refl, sym, ap, ◌∙◌, subst}
use Rattle.std.proofs.lemmas.Option.{slice_get_read}
use Rattle.sync_world.specs.declared.event.Event.TheVariants as events
use Rattle.sync_world.specs.declared.event.Outcome.TheVariants.{Served}
use Rattle.sync_world.specs.Whole.{WorldModel, world_of, model_of, IsDone}
use Rattle.sync_world.proofs.Wholes.{serve_done, serve_holds}
use Rattle.sync_world.proofs.world.World.serve.Goals as goal

pub invariant_of-self : goal.invariant_of-self
invariant_of-self c = λ _.
    let i = c.self.inside in
    serve_holds c.steps_stay_right.ensures i.devices.items i.server c.serve_at.new.server i.trie c.serve_at.new.trie i.made.items i.acknowledged.items i.kept.items c.serve_at.new.kept.items i.requests.items i.replies.items c.serve_at.new.replies.items
    c.args.number c.in-Ok.messages c.index.result.now (c.self.invariant (ap (λ (m : WorldModel). m.spent) c.self.view_is ∙ c.requires.live))
    (slice_get_read i.requests.items (length c.as_slice.result.now) c.args.number c.index.result.now (ap length c.as_slice.ensures.value) c.if-index-as_slice.false c.index.ensures)
    c.in-Ok.ensures.joined c.in-Ok.ensures.kept c.in-Ok.ensures.sent c.in-Ok.ensures.count
    c.in-Ok.ensures.live c.in-Ok.ensures.trie_live c.in-Ok.ensures.right c.in-Ok.ensures.valid

pub returns-in-Ok-clause-ok : goal.returns-in-Ok-clause-ok
returns-in-Ok-clause-ok c =
    let i = c.self.inside in
    subst (λ (m : WorldModel). IsDone (events.Serve c.args.number) m
    (model_of i.devices.items c.serve_at.new.server i.made.items i.acknowledged.items c.serve_at.new.kept.items i.requests.items c.serve_at.new.replies.items false)
    (Served (length c.as_slice-2.result.now) c.in-Ok.messages)) c.self.view_is
    (record {
      steps =
          serve_done i.devices.items i.server c.serve_at.new.server i.made.items i.acknowledged.items i.kept.items c.serve_at.new.kept.items i.requests.items i.replies.items c.serve_at.new.replies.items
          c.args.number c.in-Ok.messages c.index.result.now
          (slice_get_read i.requests.items (length c.as_slice.result.now) c.args.number c.index.result.now (ap length c.as_slice.ensures.value) c.if-index-as_slice.false c.index.ensures)
          c.in-Ok.ensures.joined c.in-Ok.ensures.kept c.in-Ok.ensures.sent c.in-Ok.ensures.count
          ∙ ap (λ (n : ℕ). Ok (world_of i.devices.items c.serve_at.new.server i.made.items i.acknowledged.items c.serve_at.new.kept.items i.requests.items c.serve_at.new.replies.items, Served n c.in-Ok.messages))
          (ap length (sym c.as_slice-2.ensures.value));
      live = refl;
    })
