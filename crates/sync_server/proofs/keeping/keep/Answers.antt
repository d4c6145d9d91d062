use Rattle.std.proofs.Common.{◌∙◌, Some, Ok, sym, subst}
use Rattle.std.proofs.lemmas.Result.{err_from_is_err_and}
use Rattle.budget_ports.specs.Keeper.{HaveKeys}
use Rattle.field_merge.specs.Messages.{IsMessage}
use Rattle.kept_messages.proofs.Members.{all_new}
use Rattle.kept_messages.proofs.Keeping.{have_keys}
use Rattle.kept_messages.specs.News.{new_in}
use Rattle.field_merge.specs.Log.{join}
use Rattle.sync_server.specs.Keeping.{Puts}
use Rattle.sync_server.specs.State.{Agrees}
use Rattle.sync_server.specs.declared.refusal.Refusal.TheVariants.{NoMemory}
use Rattle.sync_server.proofs.Requests.{refused_first, refused_next, refused_last, accepted_all, agrees_then, read_set, added}
use Rattle.sync_server.proofs.keeping.keep.Goals as goal

pub commit-requires : goal.commit-requires
commit-requires g c =
    let f = c.in_ok-prepared.ensures.found.2 in
    record { keys = subst HaveKeys (sym (c.deref.ensures.value ∙ f.2.batch)) (have_keys (new_in f.0 c.args.request.now.messages) (all_new IsMessage f.0 c.args.request.now.messages c.requires.valid)) }

pub returns-in_err-check_group-clause-kept : goal.returns-in_err-check_group-clause-kept
returns-in_err-check_group-clause-kept g c =
    let p = err_from_is_err_and c.from_residual.result c.from_residual.ensures.1 in
    let f = c.in_err-check_group.ensures.found in
    rw (p.1, p.2) (refused_first c.args.request.now _ c.args.state.now _ _ _ _ _ _ f.0 f.1 c.in_err-check_group.ensures.reads f.2)

pub returns-in_err-prepared-clause-kept : goal.returns-in_err-prepared-clause-kept
returns-in_err-prepared-clause-kept g c =
    let p = err_from_is_err_and c.from_residual-in_err-prepared.result c.from_residual-in_err-prepared.ensures.1 in
    let f = c.in_ok-check_group.ensures.found in
    let s = c.in_err-prepared.ensures.found in
    rw (p.1, p.2) (refused_next c.args.request.now _ c.args.state.now _ _ _ _ _ _ f.0 f.1 c.in_ok-check_group.ensures.reads _ _ _ f.2 s.0 c.in_err-prepared.ensures.reads s.1 c.prepare.new.state s.2)

pub returns-in_err-commit-clause-kept : goal.returns-in_err-commit-clause-kept
returns-in_err-commit-clause-kept g c =
    let p = err_from_is_err_and c.from_residual-in_err-commit.result c.from_residual-in_err-commit.ensures.1 in
    let f = c.in_ok-check_group.ensures.found in
    let s = c.in_ok-prepared.ensures.found in
    let e = c.in_err-commit.ensures in
    rw (p.1, p.2) (refused_last c.args.request.now _ c.args.state.now _ _ _ _ _ _ f.0 f.1 c.in_ok-check_group.ensures.reads _ _ _ f.2 s.0 c.in_ok-prepared.ensures.reads s.1 s.2.0 s.2.1 c.prepare.new.state c.commit.new.state c.deref.result.now (c.deref.ensures.value ∙ s.2.2.batch) _ _ _ e.told e.stops e.free e.unkept (e.err.token ∙ s.2.2.state.token))

pub returns-clause-kept : goal.returns-clause-kept
returns-clause-kept g c =
    let f = c.in_ok-check_group.ensures.found in
    let s = c.in_ok-prepared.ensures.found in
    let e = c.in_ok-commit.ensures in
    accepted_all c.args.request.now NoMemory c.args.state.now _ _ _ _ _ _ f.0 f.1 c.in_ok-check_group.ensures.reads _ _ _ f.2 s.0 c.in_ok-prepared.ensures.reads s.1 s.2.0 s.2.1 c.prepare.new.state c.commit.new.state c.deref.result.now (c.deref.ensures.value ∙ s.2.2.batch) _ _ _ e.told e.stops _ s.2.2.reply s.2.2.means (subst (λ x. Puts c.args.state.now x c.args.request.now.group (Some (Ok (join s.2.0 c.args.request.now.messages)))) (sym e.ok) s.2.2.state) e.kept (e.known (c.in_ok-prepared.ensures.known c.in_ok-check_group.ensures.known)) e.alone

pub returns-clause-agrees : goal.returns-clause-agrees
returns-clause-agrees g c = λ t.
    let f = c.in_ok-check_group.ensures.found in
    let s = c.in_ok-prepared.ensures.found in
    let e = c.in_ok-commit.ensures in
    let reads = c.in_ok-check_group.ensures.reads in
    let old = g.K.Keeper.contents c.args.keeper.now in
    let set = read_set c.args.request.now NoMemory c.args.state.now _ _ _ _ _ _ f.0 f.1 c.in_ok-check_group.ensures.reads _ _ _ f.2 s.0 c.in_ok-prepared.ensures.reads s.1 s.2.0 s.2.1 c.prepare.new.state c.commit.new.state c.deref.result.now (c.deref.ensures.value ∙ s.2.2.batch) _ (g.K.Keeper.contents c.commit.new.keeper) _ e.told e.stops (e.told t) in
    let now = added c.args.request.now NoMemory c.args.state.now _ _ _ _ _ _ f.0 f.1 c.in_ok-check_group.ensures.reads _ _ _ f.2 s.0 c.in_ok-prepared.ensures.reads s.1 s.2.0 s.2.1 c.prepare.new.state c.commit.new.state c.deref.result.now (c.deref.ensures.value ∙ s.2.2.batch) _ (g.K.Keeper.contents c.commit.new.keeper) _ e.told e.stops (e.told t) in
    let entry = reads.told (c.in_ok-prepared.ensures.reads.told (e.told t)) in
    let right = agrees_then c.args.state.now c.prepare.new.state old c.args.request.now s.2.0 c.requires.valid set (c.requires.agrees entry) s.2.2.state in
    subst (λ x. Agrees x (g.K.Keeper.contents c.commit.new.keeper)) (sym e.ok) (subst (Agrees c.prepare.new.state) (sym (e.kept t ∙ now)) right)
