use Rattle.std.proofs.Common.{inl, inr}
use Rattle.sqlite.specs.Held.{state}
use Rattle.sqlite.proofs.Callers.{never_commits}
use Rattle.sqlite_keeper.proofs.Calls.{rests_still}
use Rattle.sqlite_keeper.proofs.GetLemmas.{shown_unchanged, query_err}
use Rattle.sqlite_keeper.proofs.asking.show.Goals as goal

pub returns-in-Ok-clause-rests : goal.returns-in-Ok-clause-rests
returns-in-Ok-clause-rests g c clean was query is_open =
    rests_still g.S.Store c.args.conn.now c.query_all.new.self was clean is_open (inl (shown_unchanged c.args.sql.now _ (state g.S.Store c.args.conn.now) (state g.S.Store c.query_all.new.self) _ query.is_plain (c.in-Ok.ensures.ok clean)))

pub returns-in-Ok-clause-known : goal.returns-in-Ok-clause-known
returns-in-Ok-clause-known g c clean query =
    (shown_unchanged c.args.sql.now _ (state g.S.Store c.args.conn.now) (state g.S.Store c.query_all.new.self) _ query.is_plain (c.in-Ok.ensures.ok clean)).0.is_open

pub returns-in-Ok-clause-left : goal.returns-in-Ok-clause-left
returns-in-Ok-clause-left g c clean query db left = elim (c.query_all.ensures.survives.crash clean db left) [
  | inl there ↦ there
  | inr commits ↦ absurd (never_commits c.args.sql.now _ (state g.S.Store c.args.conn.now) db query.is_plain commits)
]

pub returns-in-Err-clause-rests : goal.returns-in-Err-clause-rests
returns-in-Err-clause-rests g c clean was query is_open =
    rests_still g.S.Store c.args.conn.now c.query_all.new.self was clean is_open (query_err c.args.sql.now _ _ _ _ query.is_plain (c.in-Err.ensures.err clean))

pub returns-in-Err-clause-left : goal.returns-in-Err-clause-left
returns-in-Err-clause-left g c clean query db left = elim (c.query_all.ensures.survives.crash clean db left) [
  | inl there ↦ there
  | inr commits ↦ absurd (never_commits c.args.sql.now _ (state g.S.Store c.args.conn.now) db query.is_plain commits)
]
