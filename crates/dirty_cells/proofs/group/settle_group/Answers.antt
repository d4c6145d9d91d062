use Rattle.std.proofs.Common.{OnOk, Result, Ok, Err, subst}
use Rattle.dirty_cells.specs.Spots.{SettledThree}
use Rattle.dirty_cells.proofs.Refreshed.{group_right, group_elsewhere}
use Rattle.dirty_cells.proofs.group.settle_group.Goals as goal

on_ok : {A E : Type 0} {P Q : Type 0} (r : Result A E) → (P → Q) → OnOk r P → OnOk r Q
on_ok (Ok x) f p = f p
on_ok (Err e) f p = p

pub returns-clause-right : goal.returns-clause-right
returns-clause-right g c =
    let n = c.args.number in
    let id = c.args.id.now in
    on_ok c.settle_group.result (λ set b cs rest e1 e2 e3 right.
    let three = subst (λ m. SettledThree c.args.cells.now c.settle_group.new.self m id c.args.sum c.args.budget c.args.leftover) c.requires.month set in
    group_right b n id c.args.cells.now three.one three.two c.settle_group.new.self c.args.sum c.args.budget c.args.leftover
    three.first three.second three.third cs rest e1 e2 e3 right) c.settle_group.ensures.set

pub returns-clause-others : goal.returns-clause-others
returns-clause-others g c =
    let n = c.args.number in
    let id = c.args.id.now in
    on_ok c.settle_group.result (λ set q apart.
    let three = subst (λ m. SettledThree c.args.cells.now c.settle_group.new.self m id c.args.sum c.args.budget c.args.leftover) c.requires.month set in
    group_elsewhere n id c.args.cells.now three.one three.two c.settle_group.new.self c.args.sum c.args.budget c.args.leftover
    three.first three.second three.third q apart) c.settle_group.ensures.set
