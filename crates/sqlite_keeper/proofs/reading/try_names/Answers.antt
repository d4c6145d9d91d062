use Rattle.std.proofs.Common.{[], map, arith}
use Rattle.std.specs.FinMap.{keys}
use Rattle.sqlite.specs.Held.{state}
use Rattle.sqlite.specs.State.{HasCleanDisk, Shown}
use Rattle.store_tables.specs.Named.{names_text}
use Rattle.sqlite_keeper.specs.Contents.{contents_now}
use Rattle.sqlite_keeper.specs.Queries.{name_in, Climb}
use Rattle.sqlite_keeper.proofs.Kept.{kept_texts, sound_words}
use Rattle.sqlite_keeper.proofs.GetLemmas.{shows_names, same_if_ok, if_text}
use Rattle.sqlite_keeper.proofs.ReadLemmas.{may_name, stands_after, left_same, names_told}
use Rattle.sqlite_keeper.proofs.reading.try_names.Goals as goal

pub returns-in_err-rows-clause-sound : goal.returns-in_err-rows-clause-sound
returns-in_err-rows-clause-sound g c sound clean is_open =
    (stands_after g.S.Store c.args.conn.now c.ask.new.conn sound c.ask.ensures.clean (c.ask.ensures.told clean) (c.ask.ensures.rests clean (may_name g.S.Store c.args.conn.now (sound_words g.S.Store c.args.conn.now sound))) clean is_open).0

pub returns-in_err-rows-clause-same : goal.returns-in_err-rows-clause-same
returns-in_err-rows-clause-same g c clean sound is_open =
    (stands_after g.S.Store c.args.conn.now c.ask.new.conn sound c.ask.ensures.clean (c.ask.ensures.told clean) (c.ask.ensures.rests clean (may_name g.S.Store c.args.conn.now (sound_words g.S.Store c.args.conn.now sound))) clean is_open).1

pub returns-in_err-rows-clause-left : goal.returns-in_err-rows-clause-left
returns-in_err-rows-clause-left g c clean sound k left = left_same g.S.Store c.args.conn.now c.ask.new.conn k (c.ask.ensures.left clean (may_name g.S.Store c.args.conn.now (sound_words g.S.Store c.args.conn.now sound))) left

pub returns-clause-sound : goal.returns-clause-sound
returns-clause-sound g c sound clean is_open =
    (stands_after g.S.Store c.args.conn.now c.ask.new.conn sound c.ask.ensures.clean (c.ask.ensures.told clean) (c.ask.ensures.rests clean (may_name g.S.Store c.args.conn.now (sound_words g.S.Store c.args.conn.now sound))) clean is_open).0

pub returns-clause-same : goal.returns-clause-same
returns-clause-same g c clean sound is_open =
    (stands_after g.S.Store c.args.conn.now c.ask.new.conn sound c.ask.ensures.clean (c.ask.ensures.told clean) (c.ask.ensures.rests clean (may_name g.S.Store c.args.conn.now (sound_words g.S.Store c.args.conn.now sound))) clean is_open).1

pub returns-clause-left : goal.returns-clause-left
returns-clause-left g c clean sound k left = left_same g.S.Store c.args.conn.now c.ask.new.conn k (c.ask.ensures.left clean (may_name g.S.Store c.args.conn.now (sound_words g.S.Store c.args.conn.now sound))) left

pub returns-clause-known : goal.returns-clause-known
returns-clause-known g c clean sound = if_text c.names_in.result (c.in_ok-rows.ensures.known clean (may_name g.S.Store c.args.conn.now (sound_words g.S.Store c.args.conn.now sound)))

pub returns-clause-names : goal.returns-clause-names
returns-clause-names g c clean sound =
    let early : HasCleanDisk (state g.S.Store c.args.conn.now) = omega (arith, c.ask.ensures.clean) in
    let h = c.in_ok-rows.ensures.shown clean (may_name g.S.Store c.args.conn.now (sound_words g.S.Store c.args.conn.now sound)) in
    let kept = (sound early h.0).kept in
    let old = state g.S.Store c.args.conn.now in
    let new = state g.S.Store c.ask.new.conn in
    let rows = c.deref.result.now in
    let shown : Shown names_text [] old new rows = rw (c.deref.ensures.value) h.1 in
    same_if_ok c.names_in.result Climb (map name_in rows) (keys (contents_now g.S.Store c.args.conn.now).texts) c.names_in.ensures.names c.names_in.ensures.rise
    (names_told (contents_now g.S.Store c.args.conn.now) rows (shows_names old new (kept_texts kept.0 old.now kept.1) rows shown))
