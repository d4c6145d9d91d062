-- Why the first statement is refused over the keeper's tables.
use Rattle.std.proofs.Common.{arith, ◌≡◌, ◌≤◌, [], ◌∷◌, Ok, Err, inl, inr, refl, sym, ap, subst, ◌∙◌, append-nil, IsTrue, IsSome, true≢false, Result, codes, IfErr}
use Rattle.sqlite_trees.specs.declared.error.StoreError.{StoreError}
use Rattle.sqlite_trees.specs.declared.error.StoreError.TheVariants.{OutOfMemory, Io, Corrupt, Full, Broken, Unstorable}
use Rattle.sqlite_typing.specs.Types.{accepts_program}
use Rattle.sqlite_sql.specs.Program.{overlay}
use Rattle.sqlite_sql.proofs.QueryLemmas.{no_fold_overflows}
use Rattle.sqlite.specs.Command.TheVariants.{Select}
use Rattle.sqlite.specs.declared.error.Error.{Error}
use Rattle.sqlite.specs.Effect.{Database, RefusesToRead}
use Rattle.sqlite.specs.Listing.{understood, reads_listing, IsSourceOf}
use Rattle.sqlite.specs.State.{State, Fails, HasCause, store_error, IsNoStatement, IsNotRun, FailsToQuery}
use Rattle.sqlite.proofs.Callers.{IsPlain, command_of}
use Rattle.sqlite_keeper.specs.Adopting.{version_row, HasReason, IsReason}
use Rattle.store_tables.specs.Named.{get_text, get_filter, get_project}
use Rattle.store_tables.specs.Texts.{query_of}
use Rattle.store_tables.proofs.WithinLemmas.{same_command}
use Rattle.sqlite.specs.Schema.{Schema}
use Rattle.sqlite_keeper.specs.Queries.{HasTexts, TakesOne}

module _ (old new : State) (e : Error) (t : HasTexts old.now) (is_open : IsTrue old.is_open) where
  abbrev schema : Schema
  schema = t.spot.schema

  has : old.now.schema ≡ schema
  has = t.schema

  failed : Fails old new ⊥ e → IsReason old new e
  failed h = by h.0 h.1 h.2
    where
      by : (k : StoreError) → e ≡ store_error k → HasCause old new ⊥ k → IsReason old new e
      by OutOfMemory is cause = inl is
      by Io is cause = inr (inl cause)
      by Corrupt is cause = inr (inl cause)
      by Full is cause = inr (inl cause)
      by Broken is cause = absurd (let a = is_open in let b = cause in cc)
      by Unstorable is cause = absurd cause

  unread : IsNoStatement old get_text version_row e → ⊥
  unread (inl h) = subst IsPlain (ap (λ s. understood s get_text) (sym has) ∙ h.1) t.texts.get_plain
  unread (inr h) =
      let known : understood schema get_text ≡ Ok h.0 = ap (λ s. understood s get_text) (sym has) ∙ h.1 in
      let fits : TakesOne get_text (Ok h.0) = subst (TakesOne get_text) known t.asks.takes in
      let plain : IsPlain (Ok h.0) = subst IsPlain known t.texts.get_plain in
      elim h.2 [ inl whole ↦ whole.0 fits.0 | inr more ↦ elim more [ inl given ↦ given.0 (sym fits.1) | inr clock ↦ clock.0 plain.1 ] ]

  pub not_run_reason : IsNotRun old new get_text version_row e → IsReason old new e
  unfolding IsNotRun
  not_run_reason (inl h) = absurd (unread h.0)
  not_run_reason (inr h) = failed h

  refuses : (db : Database) → db ≡ old.now → RefusesToRead old.step_limit (command_of (understood schema get_text)) db version_row e → IsReason old new e
  refuses db same h = by (rw (same_command (understood schema get_text) ∙ t.texts.get_is) at h)
    where
      by : RefusesToRead old.step_limit (Select (record { lets = []; body = query_of t.spot.tree get_filter get_project [] }) (codes "body" ∷ [])) db version_row e → IsReason old new e
      by (inl typed) = absurd (true≢false (sym t.asks.typed ∙ ap (λ s. accepts_program s [] (query_of t.spot.tree get_filter get_project []) version_row) (sym has ∙ ap (λ (d : Database). d.schema) (sym same)) ∙ typed.1))
      by (inr (inl over)) = absurd (elim over.1 [ inl none ↦ none | inr fold ↦ no_fold_overflows (overlay db.trees []) (query_of t.spot.tree get_filter get_project []).from (version_row ∷ []) refl fold ])
      by (inr (inr limit)) = inr (inr limit.1)

  pub query_reason : FailsToQuery get_text version_row old new e → IsReason old new e
  unfolding FailsToQuery
  query_reason (inl h) = not_run_reason h
  query_reason (inr h) =
      let known = sym h.1.is ∙ ap (λ s. understood s get_text) has in
      let bare = subst IsPlain (sym known) t.texts.get_plain in
      let it = rw (bare.0, bare.1, append-nil version_row) at h.2 in
      let db : it.0 ≡ old.now = subst (λ b. IsSourceOf b old.now it.0) (ap (λ s. reads_listing s get_text) has ∙ t.texts.get_unlisted) it.1 in
      refuses it.0 db (subst (λ k. RefusesToRead old.step_limit k it.0 version_row e) (ap command_of known) it.2)

-- what has a reason after a call had it since before that call, where no fault was forgotten and the limit is the same
pub has_since : (old mid new : State) → old.faults ≤ mid.faults → mid.step_limit ≡ old.step_limit → HasReason mid new → HasReason old new
has_since old mid new less limit (inl more) = inl (omega arith)
has_since old mid new less limit (inr some) = inr (subst IsSome limit some)

pub reason_since : (e : Error) (old mid new : State) → old.faults ≤ mid.faults → mid.step_limit ≡ old.step_limit → IsReason mid new e → IsReason old new e
reason_since e old mid new less limit (inl memory) = inl memory
reason_since e old mid new less limit (inr has) = inr (has_since old mid new less limit has)

pub reason_after : {T : Type 0} (r : Result T Error) (old mid new : State) → old.faults ≤ mid.faults → mid.step_limit ≡ old.step_limit → IfErr r (IsReason mid new) → IfErr r (IsReason old new)
reason_after (Ok x) old mid new less limit h = tt
reason_after (Err e) old mid new less limit h = reason_since e old mid new less limit h
