-- Why a write within a transaction stops.
use Rattle.std.proofs.Common.{arith, true≢false, true, ◌≡◌, ◌⊎◌, ◌≤◌, ℕ, false, List, Option, Some, Ok, Err, None, inl, inr, sym, ap, subst, ◌∙◌, append-nil, length, IsTrue, IsSome, Result}
use Rattle.sqlite_value.specs.Order.{Row}
use Rattle.sqlite_trees.specs.declared.error.StoreError.{StoreError}
use Rattle.sqlite_trees.specs.declared.error.StoreError.TheVariants.{OutOfMemory, Io, Corrupt, Full, Broken, Unstorable}
use Rattle.sqlite_schema.specs.declared.schema.Schema.{Schema}
use Rattle.sqlite_schema.specs.declared.command.Command.{Command}
use Rattle.sqlite_schema.specs.declared.command.Returning.{Returning}
use Rattle.sqlite_resolve.specs.declared.compiled.Compiled.{Compiled}
use Rattle.sqlite_resolve.specs.declared.error.CompileError.{CompileError}
use Rattle.sqlite.specs.declared.error.Error.{Error}
use Rattle.sqlite.specs.Calls.{IsWrite}
use Rattle.sqlite.specs.Does.{Does}
use Rattle.sqlite.specs.Steps.{FailsToCommit}
use Rattle.sqlite.specs.Store.{Ghosts}
use Rattle.sqlite.specs.Held.{Held, state}
use Rattle.sqlite.specs.Listing.{understood}
use Rattle.sqlite.specs.State.{State, Fails, HasCause, store_error, IsNoStatement, IsNotRun, IsUnchanged, IsMisplaced, ExecutesIn, ExecutesInside, EndsScope, text_of, shows_rows}
use Rattle.sqlite.specs.Clock.{timed}
use Rattle.sqlite.proofs.Callers.{IsPlain, command_of, statement_of}
use Rattle.sqlite_keeper.specs.Adopting.{IsReason}
use Rattle.store_tables.specs.Grouped.{mode}

-- the text has nothing behind it, has so many parameters, and shows no rows
abbrev pub Acts : List ℕ → ℕ → Result Compiled CompileError → Type 0
Acts sql params (Ok c) = (length sql ≤ c.tail) × (params ≡ length c.names) × (shows_rows false c ≡ false)
Acts sql params (Err e) = ⊥

-- a store that was open fails for a reason, where each row can be stored
pub fails_reason : (big : Type 0) (old new : State) (e : Error) → IsTrue old.is_open → (big → ⊥) → Fails old new big e → IsReason old new e
fails_reason big old new e is_open small h = by h.0 h.1 h.2
  where
    by : (k : StoreError) → e ≡ store_error k → HasCause old new big k → IsReason old new e
    by OutOfMemory is cause = inl is
    by Io is cause = inr (inl cause)
    by Corrupt is cause = inr (inl cause)
    by Full is cause = inr (inl cause)
    by Broken is cause = absurd (let a = is_open in let b = cause in cc)
    by Unstorable is cause = absurd (small cause)

module _ (sql : List ℕ) (params : Row) (old new : State) (e : Error) (schema : Schema) (has : old.now.schema ≡ schema) (is_open : IsTrue old.is_open) (command : Command) (is : command_of (understood schema sql) ≡ command)
    (whole : statement_of sql (understood schema sql) ≡ sql) (plain : IsPlain (understood schema sql)) (acts : Acts sql (length params) (understood schema sql)) (writes : IsWrite command) where
  abbrev Stopped : Option Error → Type 0
  Stopped stop = Does old.step_limit mode params old.now sql None command (Err stop)

  abbrev Ran : Option Returning → Command → List ℕ → Row → Type 0
  Ran returning k text ps =
      ((IsMisplaced old k e ⊎ ((IsWrite k ⊎ IsSome returning) × Does old.step_limit mode ps old.now text returning k (Err (Some e)))) × IsUnchanged old new)
      ⊎ Fails old new (Does old.step_limit mode ps old.now text returning k (Err None)) e

  known : (c : Compiled) → understood old.now.schema sql ≡ Ok c → understood schema sql ≡ Ok c
  known c h = ap (λ s. understood s sql) (sym has) ∙ h

  unread : IsNoStatement old sql params e → ⊥
  unread (inl h) = subst (Acts sql (length params)) (ap (λ s. understood s sql) (sym has) ∙ h.1) acts
  unread (inr h) =
      let it : Acts sql (length params) (Ok h.0) = subst (Acts sql (length params)) (known h.0 h.1) acts in
      let bare : IsPlain (Ok h.0) = subst IsPlain (known h.0 h.1) plain in
      elim h.2 [ inl more ↦ more.0 it.0 | inr other ↦ elim other [ inl given ↦ given.0 it.1 | inr clock ↦ clock.0 bare.1 ] ]

  placed : IsMisplaced old command e → ⊥
  placed (inl h) = elim h.1 [
    | inl begin ↦ subst IsWrite begin.0 writes
    | inr end ↦ elim end.0 [ inl commit ↦ subst IsWrite commit writes | inr back ↦ subst IsWrite back writes ]
  ]
  placed (inr h) = elim h.2 [ inl release ↦ subst IsWrite release writes | inr back ↦ subst IsWrite back writes ]

  ends : EndsScope 0 sql params old → ⊥
  unfolding EndsScope
  ends h =
      let same : h.0.command ≡ command = sym (ap command_of (known h.0 h.1.is)) ∙ is in
      let w : IsWrite h.0.command = subst IsWrite (sym same) writes in
      elim h.2 [
        | inl plain_end ↦ elim plain_end [ inl commit ↦ subst IsWrite commit w | inr back ↦ subst IsWrite back w ]
        | inr mark ↦ elim mark.1 [ inl release ↦ subst IsWrite release w | inr back ↦ subst IsWrite back w ]
      ]

  ran_reason : (Stopped None → ⊥) → (Stopped (Some e) → IsSome old.step_limit) → Ran None command sql params → IsReason old new e
  ran_reason small limited (inl h) = elim h.0 [ inl misplaced ↦ absurd (placed misplaced) | inr may ↦ inr (inr (limited may.1)) ]
  ran_reason small limited (inr h) = fails_reason _ old new e is_open small h

  pub stop_reason : (Stopped None → ⊥) → (Stopped (Some e) → IsSome old.step_limit) → ExecutesInside 0 sql params old new (Err e) → IsReason old new e
  unfolding ExecutesIn IsNotRun
  stop_reason small limited (inr h) = absurd (ends h.0)
  stop_reason small limited (inl h) = elim h.0 [
    | inl not_run ↦ elim not_run [ inl nothing ↦ absurd (unread nothing.0) | inr failed ↦ fails_reason _ old new e is_open (λ never. never) failed ]
    | inr run ↦ (
        let known_as = known run.0 run.1.is in
        let it : Acts sql (length params) (Ok run.0) = subst (Acts sql (length params)) known_as acts in
        let bare : IsPlain (Ok run.0) = subst IsPlain known_as plain in
        let ran : Ran run.0.returning run.0.command (text_of sql run.0) (timed params run.0.formats run.1.now) = rw it.2 at run.2 in
        let ran_plain : Ran None run.0.command (text_of sql run.0) params = rw (bare.0, bare.1, append-nil params) at ran in
        let ran_as : Ran None command sql params = subst (λ k. Ran None k sql params) (ap command_of (sym known_as) ∙ is) (subst (λ t. Ran None run.0.command t params) (ap (statement_of sql) (sym known_as) ∙ whole) ran_plain) in
        ran_reason small limited ran_as)
  ]

-- a commit of an open transaction fails for a reason
pub commit_reason : (old new : State) (e : Error) → IsTrue old.is_open → old.in_transaction ≡ true → FailsToCommit old new e → IsReason old new e
commit_reason old new e is_open inside (inl h) = fails_reason ⊥ old new e is_open (λ never. never) h
commit_reason old new e is_open inside (inr h) = absurd (true≢false (sym inside ∙ h.1))

-- a reason stays one when more happens
pub reason_on : (old mid new : State) (e : Error) → IsReason old mid e → mid.faults ≤ new.faults → IsReason old new e
reason_on old mid new e (inl memory) less = inl memory
reason_on old mid new e (inr (inl more)) less = inr (inl (omega (arith, more)))
reason_on old mid new e (inr (inr limit)) less = inr (inr limit)

-- a transaction begins with the faults and the limit of its connection
pub reason_begun : {S : Type 0} (g : Ghosts S) (old tx new : Held S) (e : Error) → tx ≡ record old { in_transaction = true } → IsReason (state g tx) (state g new) e → IsReason (state g old) (state g new) e
reason_begun {S = S} g old tx new e is h = subst (λ (h : Held S). IsReason (state g h) (state g new) e) is h
