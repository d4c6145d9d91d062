use Rattle.std.proofs.Common.{inl, inr, refl}
use Rattle.sqlite_trees.specs.declared.error.StoreError.TheVariants.{Corrupt, Full}
use Rattle.sqlite_keeper.specs.declared.taking.OpeningCause.TheVariants.{NoRoom, Damaged}
use Rattle.sqlite_keeper.proofs.Results.{if_ok, if_err}
use Rattle.store_laws.proofs.TakeLaws.{told_back, blank_back, cause_of}
use Rattle.store_laws.proofs.taking.take_store.Goals as goal

pub returns-clause-kept : goal.returns-clause-kept
returns-clause-kept g c = c.take.ensures.kept

pub returns-clause-moved : goal.returns-clause-moved
returns-clause-moved g c = c.take.ensures.moved

pub returns-clause-made : goal.returns-clause-made
returns-clause-made g c = c.take.ensures.made

pub returns-clause-others : goal.returns-clause-others
returns-clause-others g c = if_ok c.take.result (λ k again tells. elim (again tells) [
  | inl it ↦ inl (inl it.1)
  | inr rest ↦ elim rest [ inl it ↦ inl (inr it.1) | inr it ↦ inr it.1 ]
]) c.take.ensures.again

pub returns-clause-shut : goal.returns-clause-shut
returns-clause-shut g c = c.take.ensures.reason

pub returns-clause-other : goal.returns-clause-other
returns-clause-other g c = if_err c.take.result (λ u let_go lists clean. told_back g.S.Store c.args.connection u.store u.fault let_go lists clean) c.take.ensures.let_go

pub returns-clause-unmade : goal.returns-clause-unmade
returns-clause-unmade g c = if_err c.take.result (λ u let_go none clean. blank_back g.S.Store c.args.connection u.store u.fault let_go none clean) c.take.ensures.let_go

pub returns-clause-no_room : goal.returns-clause-no_room
returns-clause-no_room g c = if_err c.take.result (λ u told lists clean last why is. cause_of Full NoRoom refl (g.S.Store.blamed u.store) (g.S.Store.view u.store).is_broken u.fault (told lists clean) last why is) c.take.ensures.told

pub returns-clause-damaged : goal.returns-clause-damaged
returns-clause-damaged g c = if_err c.take.result (λ u told lists clean last why is. cause_of Corrupt Damaged refl (g.S.Store.blamed u.store) (g.S.Store.view u.store).is_broken u.fault (told lists clean) last why is) c.take.ensures.told
