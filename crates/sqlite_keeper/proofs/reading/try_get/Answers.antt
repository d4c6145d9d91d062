use Rattle.std.proofs.Common.{[], ◌∷◌, arith}
use Rattle.sqlite.specs.Held.{state}
use Rattle.sqlite.specs.State.{HasCleanDisk, Shown}
use Rattle.sqlite_value.specs.declared.value.Value.TheVariants.{Text}
use Rattle.store_tables.specs.Named.{get_text}
use Rattle.sqlite_keeper.specs.Contents.{contents_now}
use Rattle.sqlite_keeper.proofs.Kept.{kept_texts, sound_words}
use Rattle.sqlite_keeper.proofs.GetLemmas.{shows_text, text_is, if_text}
use Rattle.sqlite_keeper.proofs.ReadLemmas.{may_get, stands_after, left_same}
use Rattle.sqlite_keeper.proofs.reading.try_get.Goals as goal

pub returns-in_err-rows-clause-sound : goal.returns-in_err-rows-clause-sound
returns-in_err-rows-clause-sound g c sound clean is_open =
    (stands_after g.S.Store c.args.conn.now c.ask.new.conn sound c.ask.ensures.clean (c.ask.ensures.told clean) (c.ask.ensures.rests clean (may_get g.S.Store c.args.conn.now (sound_words g.S.Store c.args.conn.now sound))) clean is_open).0

pub returns-in_err-rows-clause-same : goal.returns-in_err-rows-clause-same
returns-in_err-rows-clause-same g c clean sound is_open =
    (stands_after g.S.Store c.args.conn.now c.ask.new.conn sound c.ask.ensures.clean (c.ask.ensures.told clean) (c.ask.ensures.rests clean (may_get g.S.Store c.args.conn.now (sound_words g.S.Store c.args.conn.now sound))) clean is_open).1

pub returns-in_err-rows-clause-left : goal.returns-in_err-rows-clause-left
returns-in_err-rows-clause-left g c clean sound k left = left_same g.S.Store c.args.conn.now c.ask.new.conn k (c.ask.ensures.left clean (may_get g.S.Store c.args.conn.now (sound_words g.S.Store c.args.conn.now sound))) left

pub returns-clause-sound : goal.returns-clause-sound
returns-clause-sound g c sound clean is_open =
    (stands_after g.S.Store c.args.conn.now c.ask.new.conn sound c.ask.ensures.clean (c.ask.ensures.told clean) (c.ask.ensures.rests clean (may_get g.S.Store c.args.conn.now (sound_words g.S.Store c.args.conn.now sound))) clean is_open).0

pub returns-clause-same : goal.returns-clause-same
returns-clause-same g c clean sound is_open =
    (stands_after g.S.Store c.args.conn.now c.ask.new.conn sound c.ask.ensures.clean (c.ask.ensures.told clean) (c.ask.ensures.rests clean (may_get g.S.Store c.args.conn.now (sound_words g.S.Store c.args.conn.now sound))) clean is_open).1

pub returns-clause-left : goal.returns-clause-left
returns-clause-left g c clean sound k left = left_same g.S.Store c.args.conn.now c.ask.new.conn k (c.ask.ensures.left clean (may_get g.S.Store c.args.conn.now (sound_words g.S.Store c.args.conn.now sound))) left

pub returns-clause-known : goal.returns-clause-known
returns-clause-known g c clean sound = if_text c.text_in.result (c.in_ok-rows.ensures.known clean (may_get g.S.Store c.args.conn.now (sound_words g.S.Store c.args.conn.now sound)))

pub returns-clause-text : goal.returns-clause-text
returns-clause-text g c clean sound =
    let early : HasCleanDisk (state g.S.Store c.args.conn.now) = omega (arith, c.ask.ensures.clean) in
    let h = c.in_ok-rows.ensures.shown clean (may_get g.S.Store c.args.conn.now (sound_words g.S.Store c.args.conn.now sound)) in
    let kept = (sound early h.0).kept in
    let old = state g.S.Store c.args.conn.now in
    let new = state g.S.Store c.ask.new.conn in
    let shown : Shown get_text (Text c.args.name.now ∷ []) old new c.deref.result.now = rw (c.deref.ensures.value) (rw (c.params-to_sql.ensures, c.as_str.ensures) at h.1) in
    text_is c.text_in.result (contents_now g.S.Store c.args.conn.now) c.args.name.now c.deref.result.now c.text_in.ensures (shows_text old new (kept_texts kept.0 old.now kept.1) c.args.name.now c.deref.result.now shown)
