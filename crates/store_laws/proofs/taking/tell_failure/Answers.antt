use Rattle.std.proofs.Common.{◌∙◌, inl, inr, sym, ap}
use Rattle.sqlite_keeper.specs.Taking.{opening_fault}
use Rattle.store_laws.proofs.TakeLaws.{only_memory, only_unopened, only_in_use, only_no_store, only_others, only_damaged, only_full, no_version}
use Rattle.store_laws.proofs.taking.tell_failure.Goals as goal

pub returns-clause-memory : goal.returns-clause-memory
returns-clause-memory c = (λ h. only_memory _ (sym c.opening_fault.ensures ∙ h), λ is. c.opening_fault.ensures ∙ ap opening_fault is)

pub returns-clause-not_opened : goal.returns-clause-not_opened
returns-clause-not_opened c = (λ h. only_unopened _ (sym c.opening_fault.ensures ∙ h), λ is. c.opening_fault.ensures ∙ ap opening_fault is)

pub returns-clause-in_use : goal.returns-clause-in_use
returns-clause-in_use c = (λ h. only_in_use _ (sym c.opening_fault.ensures ∙ h), λ is. c.opening_fault.ensures ∙ ap opening_fault is)

pub returns-clause-no_store : goal.returns-clause-no_store
returns-clause-no_store c = (λ h. only_no_store _ (sym c.opening_fault.ensures ∙ h), λ is. c.opening_fault.ensures ∙ ap opening_fault is)

pub returns-clause-other_tables : goal.returns-clause-other_tables
returns-clause-other_tables c = (
  λ h. only_others _ (sym c.opening_fault.ensures ∙ h),
  λ which. elim which [
    | inl is ↦ c.opening_fault.ensures ∙ ap opening_fault is
    | inr it ↦ c.opening_fault.ensures ∙ ap opening_fault it.1
  ],
)

pub returns-clause-damaged : goal.returns-clause-damaged
returns-clause-damaged c = (λ h. only_damaged _ (sym c.opening_fault.ensures ∙ h), λ is. c.opening_fault.ensures ∙ ap opening_fault is)

pub returns-clause-no_room : goal.returns-clause-no_room
returns-clause-no_room c = (λ h. only_full _ (sym c.opening_fault.ensures ∙ h), λ is. c.opening_fault.ensures ∙ ap opening_fault is)

pub returns-clause-failed : goal.returns-clause-failed
returns-clause-failed c is = c.opening_fault.ensures ∙ ap opening_fault is

pub returns-clause-no_version : goal.returns-clause-no_version
returns-clause-no_version c found h = no_version _ found (sym c.opening_fault.ensures ∙ h)
