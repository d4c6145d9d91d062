use Rattle.std.proofs.Common.{◌≡◌, ◌∙◌, ap, Some, None, refl, arith}
use Rattle.std.specs.List.{slice_get}
use Rattle.std.specs.FinMap.{remove}
use Rattle.std.proofs.lemmas.Option.{slice_get_read, slice_get_past}
use Rattle.budget_ports.proofs.Bodies.{one_popped, none_popped}
use Rattle.budget_ports.proofs.group_records.GroupRecords.take_out.Goals as goal

pub loop-place-preserved-in-Some-get : goal.loop-place-preserved-in-Some-get
loop-place-preserved-in-Some-get c =
    let looked = c.in-Some-get.ensures.lookup in
    let here : slice_get c.args.batch.now c.in-Some.place ≡ Some c.in-Some-get.kept.now = slice_get_read c.args.batch.now _ c.in-Some.place c.in-Some-get.kept.now refl looked.3.0 looked.1 in
    let before = c.loop-place.invariant.room in
    let after = c.put.ensures.room in
    record {
      out = one_popped c.args.batch.now c.loop-place.self c.remove.new.self c.loop-place.added.items c.pop.new.self.items c.in-Some.place c.in-Some-get.kept.now
          c.in-Some.ensures.items here (c.remove.ensures ∙ ap (remove c.loop-place.self) c.put.ensures.key) ∙ c.loop-place.invariant.out;
      room = omega arith;
    }

pub loop-place-preserved : goal.loop-place-preserved
loop-place-preserved c =
    let none : slice_get c.args.batch.now c.in-Some.place ≡ None = slice_get_past c.args.batch.now c.in-Some.place c.in_default-get.ensures.lookup.3 in
    record {
      out = none_popped c.args.batch.now c.loop-place.self c.loop-place.added.items c.pop.new.self.items c.in-Some.place c.in-Some.ensures.items none ∙ c.loop-place.invariant.out;
      room = c.loop-place.invariant.room;
    }
