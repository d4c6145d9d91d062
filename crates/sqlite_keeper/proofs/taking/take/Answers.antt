use Rattle.std.proofs.Common.{sym, ap, subst, ◌∙◌, arith}
use Rattle.sqlite.specs.State.{HasCleanDisk}
use Rattle.sqlite.specs.Held.{state}
use Rattle.sqlite_keeper.specs.Contents.{contents_of, contents_now}
use Rattle.sqlite_keeper.specs.Adopting.{TellsVersion}
use Rattle.sqlite_keeper.specs.Adopted.{IsGivenBack}
use Rattle.sqlite_keeper.specs.Taking.{IsLetGo, TellsLast}
use Rattle.sqlite_keeper.specs.declared.keeper.AdoptFault.TheVariants.{Version}
use Rattle.sqlite_keeper.proofs.OrderLemmas.{let_go_as, tells_last, tells_unrefused}
use Rattle.sqlite_keeper.proofs.TakeLemmas.{taken_again, taken_kept, taken_moved, taken_made, taken_reason, taken_shut, store_listed, none_listed, to_take}
use Rattle.sqlite_keeper.proofs.taking.take.Goals as goal

pub returns-in-Ok-adopt-clause-again : goal.returns-in-Ok-adopt-clause-again
returns-in-Ok-adopt-clause-again g c = taken_again g.S.Store c.args.connection c.in-Ok.ordered c.in-Ok-adopt.keeper c.in-Ok-adopt.ensures.taken c.in-Ok.ensures.rows c.in-Ok.ensures.sound c.in-Ok.ensures.listed

pub returns-in-Ok-adopt-clause-kept : goal.returns-in-Ok-adopt-clause-kept
returns-in-Ok-adopt-clause-kept g c = taken_kept g.S.Store c.args.connection c.in-Ok.ordered c.in-Ok-adopt.keeper c.in-Ok-adopt.ensures.taken c.in-Ok.ensures.rows c.in-Ok.ensures.sound c.in-Ok.ensures.listed

pub returns-in-Ok-adopt-clause-moved : goal.returns-in-Ok-adopt-clause-moved
returns-in-Ok-adopt-clause-moved g c = taken_moved g.S.Store c.args.connection c.in-Ok.ordered c.in-Ok-adopt.keeper c.in-Ok-adopt.ensures.taken c.in-Ok.ensures.rows c.in-Ok.ensures.sound c.in-Ok.ensures.listed

pub returns-in-Ok-adopt-clause-made : goal.returns-in-Ok-adopt-clause-made
returns-in-Ok-adopt-clause-made g c = taken_made g.S.Store c.args.connection c.in-Ok.ordered c.in-Ok-adopt.keeper c.in-Ok-adopt.ensures.taken c.in-Ok.ensures.rows c.in-Ok.ensures.sound c.in-Ok.ensures.listed

pub returns-in-Ok-adopt-clause-alone : goal.returns-in-Ok-adopt-clause-alone
returns-in-Ok-adopt-clause-alone g c = c.in-Ok-adopt.ensures.taken.alone

pub returns-in-Ok-adopt-clause-count : goal.returns-in-Ok-adopt-clause-count
returns-in-Ok-adopt-clause-count g c = c.in-Ok-adopt.ensures.taken.count

pub returns-in-Ok-adopt-clause-reason : goal.returns-in-Ok-adopt-clause-reason
returns-in-Ok-adopt-clause-reason g c =
    taken_reason g.S.Store c.args.connection c.in-Ok.ordered c.in-Ok-adopt.keeper c.in-Ok-adopt.ensures.taken c.in-Ok.ensures.rows c.in-Ok.ensures.sound c.in-Ok.ensures.listed c.in-Ok.ensures.idle c.in-Ok.ensures.unlimited

pub returns-in-Ok-adopt-clause-shut : goal.returns-in-Ok-adopt-clause-shut
returns-in-Ok-adopt-clause-shut g c = taken_shut g.S.Store c.args.connection c.in-Ok.ordered c.in-Ok-adopt.keeper c.in-Ok-adopt.ensures.taken c.in-Ok.ensures.rows c.in-Ok.ensures.sound c.in-Ok.ensures.listed

pub returns-in-Ok-adopt-clause-opened : goal.returns-in-Ok-adopt-clause-opened
returns-in-Ok-adopt-clause-opened g c clean =
    let less = c.in-Ok-adopt.ensures.taken.clean in
    let early : HasCleanDisk (state g.S.Store c.in-Ok.ordered) = omega (arith, less, clean) in
    c.in-Ok.ensures.opened early

pub returns-in-Err-adopt-clause-let_go : goal.returns-in-Err-adopt-clause-let_go
returns-in-Err-adopt-clause-let_go g c =
    let u = c.in-Err-adopt.unadopted in
    let store = c.left_by.result.store in
    let back : IsGivenBack g.S.Store c.in-Ok.ordered u.fault u.connection = c.in-Err-adopt.ensures.back in
    let less = back.clean in
    subst (IsLetGo g.S.Store c.args.connection store) (sym c.left_by.ensures.fault)
    (let_go_as g.S.Store c.args.connection store u.fault (omega (arith, c.in-Ok.ensures.clean, less, c.left_by.ensures.clean))
    (λ clean found is.
    let late : HasCleanDisk (state g.S.Store u.connection) = omega (arith, c.left_by.ensures.clean, clean) in
    let early : HasCleanDisk (state g.S.Store c.in-Ok.ordered) = omega (arith, less, late) in
    let rows = c.in-Ok.ensures.rows early in
    record {
      was_open = c.in-Ok.ensures.opened early;
      tells = λ listed. subst (λ db. TellsVersion (contents_of db) (Version found)) rows.1
          (subst (TellsVersion (contents_now g.S.Store c.in-Ok.ordered)) is (back.version (store_listed c.in-Ok.ordered.schema (state g.S.Store c.args.connection).committed.trees (c.in-Ok.ensures.listed early) listed) late));
      listed = λ none. absurd (let other = back.blank (none_listed c.in-Ok.ordered.schema (state g.S.Store c.args.connection).committed.trees (c.in-Ok.ensures.listed early) none) late in let e = is in cc);
    })
    (λ clean e is.
    let late : HasCleanDisk (state g.S.Store u.connection) = omega (arith, c.left_by.ensures.clean, clean) in
    let early : HasCleanDisk (state g.S.Store c.in-Ok.ordered) = omega (arith, less, late) in
    record {
      was_open = c.in-Ok.ensures.opened early;
      foreign = λ store. back.refused e is late (to_take c.in-Ok.ordered.schema (state g.S.Store c.args.connection).committed.trees (c.in-Ok.ensures.listed early) store);
    }))

pub returns-in-Err-adopt-clause-back : goal.returns-in-Err-adopt-clause-back
returns-in-Err-adopt-clause-back g c store clean is_open =
    let u = c.in-Err-adopt.unadopted in
    let back : IsGivenBack g.S.Store c.in-Ok.ordered u.fault u.connection = c.in-Err-adopt.ensures.back in
    let less = back.clean in
    let late : HasCleanDisk (state g.S.Store u.connection) = omega (arith, c.left_by.ensures.clean, clean) in
    let early : HasCleanDisk (state g.S.Store c.in-Ok.ordered) = omega (arith, less, late) in
    let rows = c.in-Ok.ensures.rows early in
    let take = to_take c.in-Ok.ordered.schema (state g.S.Store c.args.connection).committed.trees (c.in-Ok.ensures.listed early) store in
    ap contents_of (c.left_by.ensures.rows back.idle clean is_open) ∙ back.same take late (c.left_by.ensures.opened clean is_open) ∙ ap contents_of rows.1

pub returns-in-Err-adopt-clause-told : goal.returns-in-Err-adopt-clause-told
returns-in-Err-adopt-clause-told g c listed clean =
    let u = c.in-Err-adopt.unadopted in
    let store = c.left_by.result.store in
    let back : IsGivenBack g.S.Store c.in-Ok.ordered u.fault u.connection = c.in-Err-adopt.ensures.back in
    let less = back.clean in
    let late : HasCleanDisk (state g.S.Store u.connection) = omega (arith, c.left_by.ensures.clean, clean) in
    let early : HasCleanDisk (state g.S.Store c.in-Ok.ordered) = omega (arith, less, late) in
    subst (TellsLast (g.S.Store.blamed store) (g.S.Store.view store).is_broken) (sym c.left_by.ensures.fault)
    (tells_unrefused (g.S.Store.blamed store) (g.S.Store.view store).is_broken u.fault (λ e is. back.refused e is late (to_take c.in-Ok.ordered.schema (state g.S.Store c.args.connection).committed.trees (c.in-Ok.ensures.listed early) listed)))

pub returns-in-Err-clause-told : goal.returns-in-Err-clause-told
returns-in-Err-clause-told g c listed clean =
    let store = c.in-Err.unread.store in
    subst (TellsLast (g.S.Store.blamed store) (g.S.Store.view store).is_broken) (sym c.opening_fault-fault.ensures) (tells_last g.S.Store store c.in-Err.unread.error (c.in-Err.ensures.told clean))
