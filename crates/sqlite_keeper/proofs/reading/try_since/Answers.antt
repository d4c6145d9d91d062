use Rattle.std.proofs.Common.{[], ◌∷◌, arith, ◌∙◌, sym, subst}
use Rattle.sqlite.specs.Held.{state}
use Rattle.sqlite.specs.State.{HasCleanDisk, Shown}
use Rattle.sqlite.specs.Effect.{Database}
use Rattle.sqlite_value.specs.declared.value.Value.TheVariants.{Text}
use Rattle.store_tables.specs.Texts.{find_text}
use Rattle.store_tables.specs.Since.{FindsGroup}
use Rattle.sqlite_keeper.specs.Contents.{Sound, IsKept}
use Rattle.sqlite_keeper.proofs.GetLemmas.{told_before}
use Rattle.sqlite_keeper.proofs.ReadLemmas.{may_find, stands_after, left_same, group_found}
use Rattle.sqlite_keeper.proofs.reading.try_since.Goals as goal

pub returns-in_err-found-clause-sound : goal.returns-in_err-found-clause-sound
returns-in_err-found-clause-sound g c sound clean is_open =
    (stands_after g.S.Store c.args.conn.now c.ask.new.conn sound c.ask.ensures.clean (c.ask.ensures.told clean) (c.ask.ensures.rests clean (may_find g.S.Store c.args.conn.now sound)) clean is_open).0

pub returns-in_err-found-clause-told : goal.returns-in_err-found-clause-told
returns-in_err-found-clause-told g c clean sound is_open = c.ask.ensures.told clean is_open

pub returns-in_err-found-clause-same : goal.returns-in_err-found-clause-same
returns-in_err-found-clause-same g c clean sound is_open =
    (stands_after g.S.Store c.args.conn.now c.ask.new.conn sound c.ask.ensures.clean (c.ask.ensures.told clean) (c.ask.ensures.rests clean (may_find g.S.Store c.args.conn.now sound)) clean is_open).1

pub returns-in_err-found-clause-left : goal.returns-in_err-found-clause-left
returns-in_err-found-clause-left g c clean sound k left = left_same g.S.Store c.args.conn.now c.ask.new.conn k (c.ask.ensures.left clean (may_find g.S.Store c.args.conn.now sound)) left

pub returns-clause-sound : goal.returns-clause-sound
returns-clause-sound g c sound = c.since_of.ensures.sound (λ early is_open. (stands_after g.S.Store c.args.conn.now c.ask.new.conn sound c.ask.ensures.clean (c.ask.ensures.told early) (c.ask.ensures.rests early (may_find g.S.Store c.args.conn.now sound)) early is_open).0)

pub returns-clause-told : goal.returns-clause-told
returns-clause-told g c clean sound is_open =
    let early : HasCleanDisk (state g.S.Store c.ask.new.conn) = omega (arith, c.since_of.ensures.clean) in
    c.ask.ensures.told early (c.since_of.ensures.told clean is_open)

pub returns-clause-same : goal.returns-clause-same
returns-clause-same g c clean sound is_open =
    let early : HasCleanDisk (state g.S.Store c.ask.new.conn) = omega (arith, c.since_of.ensures.clean) in
    let mid = stands_after g.S.Store c.args.conn.now c.ask.new.conn sound c.ask.ensures.clean (c.ask.ensures.told early) (c.ask.ensures.rests early (may_find g.S.Store c.args.conn.now sound)) early (c.since_of.ensures.told clean is_open) in
    c.since_of.ensures.same clean (λ first still. mid.0) is_open ∙ mid.1

pub returns-clause-known : goal.returns-clause-known
returns-clause-known g c clean sound =
    let early : HasCleanDisk (state g.S.Store c.ask.new.conn) = omega (arith, c.since_of.ensures.clean) in
    let mid = stands_after g.S.Store c.args.conn.now c.ask.new.conn sound c.ask.ensures.clean (c.ask.ensures.told early) (c.ask.ensures.rests early (may_find g.S.Store c.args.conn.now sound)) early (c.in_ok-found.ensures.known early (may_find g.S.Store c.args.conn.now sound)) in
    c.since_of.ensures.known clean mid.0

pub returns-clause-left : goal.returns-clause-left
returns-clause-left g c clean sound k left =
    let early : HasCleanDisk (state g.S.Store c.ask.new.conn) = omega (arith, c.since_of.ensures.clean) in
    let between : Sound g.S.Store c.ask.new.conn = λ first is_open. (stands_after g.S.Store c.args.conn.now c.ask.new.conn sound c.ask.ensures.clean (c.ask.ensures.told early) (c.ask.ensures.rests early (may_find g.S.Store c.args.conn.now sound)) early is_open).0 in
    left_same g.S.Store c.args.conn.now c.ask.new.conn k (c.ask.ensures.left early (may_find g.S.Store c.args.conn.now sound)) (c.since_of.ensures.left clean between k left)

pub returns-clause-records : goal.returns-clause-records
returns-clause-records g c clean sound =
    let early : HasCleanDisk (state g.S.Store c.ask.new.conn) = omega (arith, c.since_of.ensures.clean) in
    let first : HasCleanDisk (state g.S.Store c.args.conn.now) = omega (arith, c.since_of.ensures.clean, c.ask.ensures.clean) in
    let may = may_find g.S.Store c.args.conn.now sound in
    let h = c.in_ok-found.ensures.shown early may in
    let old = state g.S.Store c.args.conn.now in
    let mid = state g.S.Store c.ask.new.conn in
    let kept = (sound first h.0).kept in
    let rows = c.deref.result.now in
    let shown : Shown find_text (Text c.args.group.now ∷ []) old mid rows = rw (c.deref.ensures.value) (rw (c.params-to_sql.ensures, c.as_str.ensures) at h.1) in
    let found = group_found kept.0 old mid kept.1 c.args.group.now rows shown in
    let rests = c.ask.ensures.rests early may (c.in_ok-found.ensures.known early may) in
    told_before g.S.Store c.args.conn.now c.ask.new.conn c.since_of.result c.args.group.now c.args.after.now rests.1
    (c.since_of.ensures.records clean kept.0 c.args.group.now (record {
      rests = rests.0;
      kept = subst (IsKept kept.0) (sym rests.1) kept.1;
      found = subst (λ (d : Database). FindsGroup (d.trees kept.0.grps_tree) c.args.group.now rows) (sym rests.1) found;
    }))
