use Rattle.std.proofs.Common.{inl, inr}
use Rattle.sqlite_keeper.proofs.Results.{if_ok, if_err}
use Rattle.store_laws.proofs.MoveLaws.{either_left, second_left}
use Rattle.store_laws.proofs.moving.move_store.Goals as goal

pub returns-clause-left : goal.returns-clause-left
returns-clause-left g c =
    if_ok c.adopt.result (λ k taken clean. either_left g.S.Store c.args.connection k.conn c.requires.first c.requires.settled (taken.left (inl (inr c.requires.first)) clean)) c.adopt.ensures.taken

pub returns-clause-left_back : goal.returns-clause-left_back
returns-clause-left_back g c =
    if_err c.adopt.result (λ u back clean. either_left g.S.Store c.args.connection u.connection c.requires.first c.requires.settled (back.left (inl (inr c.requires.first)) clean)) c.adopt.ensures.back

pub returns-clause-taken : goal.returns-clause-taken
returns-clause-taken g c =
    if_ok c.adopt.result (λ k taken unshut other clean. second_left g.S.Store c.args.connection k taken c.requires.first unshut other clean) c.adopt.ensures.taken
