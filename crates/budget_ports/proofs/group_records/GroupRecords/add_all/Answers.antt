use Rattle.std.proofs.Common.{◌≡◌, ◌+◌, ◌∙◌, ap, sym, drop, Some, refl}
use Rattle.std.specs.List.{slice_get}
use Rattle.std.proofs.lemmas.Option.{slice_get_read}
use Rattle.budget_ports.specs.Groups.{with_bodies}
use Rattle.budget_ports.proofs.Bodies.{one_read}
use Rattle.budget_ports.proofs.group_records.GroupRecords.add_all.Goals as goal

pub loop-place-preserved : goal.loop-place-preserved
loop-place-preserved c =
    let here : slice_get c.args.batch.now c.loop-place.place ≡ Some c.index-batch-place.result = slice_get_read c.args.batch.now _ c.loop-place.place c.index-batch-place.result refl c.loop-place-test.true c.index-batch-place.is in
    record {
      rest = ap (λ m. with_bodies m (drop (c.loop-place.place + 1) c.args.batch.now)) c.in_ok-add.ensures.ok
          ∙ ap (with_bodies c.loop-place.self) (sym (one_read c.args.batch.now c.loop-place.place c.index-batch-place.result here)) ∙ c.loop-place.invariant.rest;
      undone = c.add.ensures.undone c.args.batch.now here ∙ c.loop-place.invariant.undone;
    }
