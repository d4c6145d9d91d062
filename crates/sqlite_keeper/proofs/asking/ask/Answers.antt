use Rattle.std.proofs.Common.{rules, [], inl, inr, arith, ◌∙◌, subst, subst₂, sym, OnOk}
use Rattle.sqlite.specs.State.{HasCleanDisk, IsNotRun, FailsToQuery}
use Rattle.sqlite.specs.Held.{state}
use Rattle.sqlite_keeper.specs.Adopting.{version_row, IsReason}
use Rattle.sqlite_keeper.specs.Queries.{HasTexts}
use Rattle.sqlite_keeper.proofs.Calls.{not_run, was_open, rests_still, asked}
use Rattle.sqlite_keeper.proofs.GetLemmas.{shown_first}
use Rattle.sqlite_keeper.proofs.Results.{if_err}
use Rattle.sqlite_keeper.proofs.CauseLemmas.{not_run_reason, query_reason, reason_after}
use Rattle.sqlite_keeper.proofs.asking.ask.Goals as goal

pub returns-in_err-_ready-clause-told : goal.returns-in_err-_ready-clause-told
returns-in_err-_ready-clause-told g c clean is_open = was_open (state g.S.Store c.args.conn.now) (state g.S.Store c.prepare.new.self) (not_run _ [] _ _ _ (c.in_err-_ready.ensures.err clean [])) is_open

pub returns-in_err-_ready-clause-rests : goal.returns-in_err-_ready-clause-rests
returns-in_err-_ready-clause-rests g c clean may is_open =
    let back = not_run _ [] _ _ _ (c.in_err-_ready.ensures.err clean []) in
    let first : HasCleanDisk (state g.S.Store c.args.conn.now) = omega (arith, c.prepare.ensures.survives.clean) in
    rests_still g.S.Store c.args.conn.now c.prepare.new.self (may first (was_open (state g.S.Store c.args.conn.now) (state g.S.Store c.prepare.new.self) back is_open)).0 clean is_open back

pub returns-in_err-_ready-clause-left : goal.returns-in_err-_ready-clause-left
returns-in_err-_ready-clause-left g c clean may db left = elim (c.prepare.ensures.survives.crash clean db left) [ inl there ↦ there | inr never ↦ absurd never ]

pub returns-clause-told : goal.returns-clause-told
returns-clause-told g c clean is_open =
    let early : HasCleanDisk (state g.S.Store c.prepare.new.self) = omega (arith, c.show.ensures.clean) in
    (c.in_ok-_ready.ensures.ok early).1.0.was_open

pub returns-clause-shown : goal.returns-clause-shown
returns-clause-shown g c clean may =
    let early : HasCleanDisk (state g.S.Store c.prepare.new.self) = omega (arith, c.show.ensures.clean) in
    let same = (c.in_ok-_ready.ensures.ok early).1 in
    let was = asked g.S.Store c.args.conn.now c.prepare.new.self c.args.sql.now may same c.prepare.ensures.survives.clean early in
    shown_first g.S.Store c.args.conn.now c.prepare.new.self c.show.new.conn c.args.sql.now _ (λ rows. rows.items) c.show.result was.2.is_plain same (c.show.ensures.shown clean)

pub returns-clause-rests : goal.returns-clause-rests
returns-clause-rests g c clean may is_open =
    let early : HasCleanDisk (state g.S.Store c.prepare.new.self) = omega (arith, c.show.ensures.clean) in
    let was = asked g.S.Store c.args.conn.now c.prepare.new.self c.args.sql.now may (c.in_ok-_ready.ensures.ok early).1 c.prepare.ensures.survives.clean early in
    let it = c.show.ensures.rests clean was.0 was.2 is_open in
    (it.0, it.1 ∙ was.1)

pub returns-clause-known : goal.returns-clause-known
returns-clause-known g c clean may =
    let early : HasCleanDisk (state g.S.Store c.prepare.new.self) = omega (arith, c.show.ensures.clean) in
    let was = asked g.S.Store c.args.conn.now c.prepare.new.self c.args.sql.now may (c.in_ok-_ready.ensures.ok early).1 c.prepare.ensures.survives.clean early in
    c.show.ensures.known clean was.2

pub returns-clause-left : goal.returns-clause-left
returns-clause-left g c clean may db left =
    let early : HasCleanDisk (state g.S.Store c.prepare.new.self) = omega (arith, c.show.ensures.clean) in
    let was = asked g.S.Store c.args.conn.now c.prepare.new.self c.args.sql.now may (c.in_ok-_ready.ensures.ok early).1 c.prepare.ensures.survives.clean early in
    elim (c.prepare.ensures.survives.crash early db (c.show.ensures.left clean was.2 db left)) [ inl there ↦ there | inr none ↦ absurd none ]

pub returns-in_err-_ready-clause-unread : goal.returns-in_err-_ready-clause-unread
returns-in_err-_ready-clause-unread g c clean unread =
    let none : OnOk c.from_residual.result ⊥ = search rules in (
      record {
        back = not_run _ [] _ _ _ (c.in_err-_ready.ensures.err clean []);
        left = λ db left. elim (c.prepare.ensures.survives.crash clean db left) [ inl there ↦ there | inr never ↦ absurd never ];
        counts = c.prepare.ensures.survives.counts;
        limit = c.prepare.ensures.survives.limit;
        closes = c.prepare.ensures.survives.closes clean;
      },
      none,
    )

pub returns-clause-unread : goal.returns-clause-unread
returns-clause-unread g c clean unread =
    let early : HasCleanDisk (state g.S.Store c.prepare.new.self) = omega (arith, c.show.ensures.clean) in
    absurd (rw unread.1 at (c.in_ok-_ready.ensures.shape early))

pub returns-in_err-_ready-clause-reason : goal.returns-in_err-_ready-clause-reason
returns-in_err-_ready-clause-reason g c clean may texts is_open asks given =
    let old = state g.S.Store c.args.conn.now in
    let new = state g.S.Store c.prepare.new.self in
    let not_run : IsNotRun old new _ version_row c.in_err-_ready.field-0.0 = subst (λ t. IsNotRun old new t version_row c.in_err-_ready.field-0.0) asks (c.in_err-_ready.ensures.err clean version_row) in
    let reason : IsReason old new c.in_err-_ready.field-0.0 = not_run_reason old new _ texts is_open not_run in
    search (rules, reason)

pub returns-clause-reason : goal.returns-clause-reason
returns-clause-reason g c clean may texts is_open asks given =
    let mid = state g.S.Store c.prepare.new.self in
    let new = state g.S.Store c.show.new.conn in
    let early : HasCleanDisk mid = omega (arith, c.show.ensures.clean) in
    let same = (c.in_ok-_ready.ensures.ok early).1 in
    reason_after c.show.result (state g.S.Store c.args.conn.now) mid new c.prepare.ensures.survives.counts c.prepare.ensures.survives.limit
    (if_err c.show.result (λ e failed. query_reason mid new e (subst HasTexts (sym same.0.now_is) texts) same.0.is_open (subst₂ (λ t ps. FailsToQuery t ps mid new e) asks given failed)) (c.show.ensures.err clean))
