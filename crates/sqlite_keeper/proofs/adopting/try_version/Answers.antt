use Rattle.std.proofs.Common.{rules, arith, [], ◌∷◌, refl, ap, sym, subst, OnOk}
use Rattle.sqlite.specs.Values.{bound_value}
use Rattle.sqlite.specs.Held.{state}
use Rattle.sqlite.specs.State.{HasCleanDisk, Shown}
use Rattle.sqlite_value.specs.declared.value.Value.TheVariants.{Text}
use Rattle.store_tables.specs.Named.{get_text}
use Rattle.sqlite_keeper.specs.Contents.{contents_now}
use Rattle.sqlite_keeper.specs.Queries.{IsUnread}
use Rattle.sqlite_keeper.specs.Adopting.{version_name}
use Rattle.sqlite_keeper.proofs.GetLemmas.{shows_text, version_is, if_text}
use Rattle.sqlite_keeper.proofs.ReadLemmas.{may_get, left_same}
use Rattle.sqlite_keeper.proofs.MakeLemmas.{get_unread}
use Rattle.sqlite_keeper.proofs.adopting.try_version.Goals as goal

pub returns-in_err-rows-clause-blank : goal.returns-in_err-rows-clause-blank
returns-in_err-rows-clause-blank g c clean blank =
    let none : OnOk c.from_residual.result ⊥ = search rules in
    ((c.ask.ensures.unread clean (subst (λ s. IsUnread s get_text) (sym blank) get_unread)).0, none)

pub returns-clause-blank : goal.returns-clause-blank
returns-clause-blank g c clean blank = absurd (c.in_ok-rows.ensures.unread clean (subst (λ s. IsUnread s get_text) (sym blank) get_unread)).1

pub returns-in_err-rows-clause-rests : goal.returns-in_err-rows-clause-rests
returns-in_err-rows-clause-rests g c clean words is_open = c.ask.ensures.rests clean (may_get g.S.Store c.args.conn.now words) is_open

pub returns-in_err-rows-clause-left : goal.returns-in_err-rows-clause-left
returns-in_err-rows-clause-left g c clean words k left = left_same g.S.Store c.args.conn.now c.ask.new.conn k (c.ask.ensures.left clean (may_get g.S.Store c.args.conn.now words)) left

pub returns-in_err-rows-clause-reason : goal.returns-in_err-rows-clause-reason
returns-in_err-rows-clause-reason g c clean words is_open =
    let first : HasCleanDisk (state g.S.Store c.args.conn.now) = omega (arith, c.ask.ensures.clean) in
    search (rules, c.in_err-rows.ensures.reason clean (may_get g.S.Store c.args.conn.now words) (words first is_open).1 is_open refl (ap (λ v. bound_value v ∷ []) c.params-to_sql.ensures))

pub returns-clause-rests : goal.returns-clause-rests
returns-clause-rests g c clean words is_open = c.ask.ensures.rests clean (may_get g.S.Store c.args.conn.now words) is_open

pub returns-clause-left : goal.returns-clause-left
returns-clause-left g c clean words k left = left_same g.S.Store c.args.conn.now c.ask.new.conn k (c.ask.ensures.left clean (may_get g.S.Store c.args.conn.now words)) left

pub returns-clause-known : goal.returns-clause-known
returns-clause-known g c clean words = if_text c.version_in.result (c.in_ok-rows.ensures.known clean (may_get g.S.Store c.args.conn.now words))

pub returns-clause-version : goal.returns-clause-version
returns-clause-version g c clean words =
    let first : HasCleanDisk (state g.S.Store c.args.conn.now) = omega (arith, c.ask.ensures.clean) in
    let h = c.in_ok-rows.ensures.shown clean (may_get g.S.Store c.args.conn.now words) in
    let old = state g.S.Store c.args.conn.now in
    let new = state g.S.Store c.ask.new.conn in
    let shown : Shown get_text (Text version_name ∷ []) old new c.deref.result.now = rw (c.deref.ensures.value) (rw c.params-to_sql.ensures at h.1) in
    version_is c.version_in.result (contents_now g.S.Store c.args.conn.now) c.deref.result.now c.version_in.ensures.version (shows_text old new (words first h.0).1 version_name c.deref.result.now shown)
