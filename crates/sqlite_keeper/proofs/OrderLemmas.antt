-- What a store that is open and not broken keeps in order.
use Rattle.std.proofs.Common.{◌≡◌, ◌≤◌, ◌⊎◌, ℕ, List, Option, Bool, true, false, inl, inr, refl, sym, ap, subst, ◌∙◌, true≢false, IsTrue, arith}
use Rattle.sqlite_disk.specs.Disk.{MoreFaults}
use Rattle.sqlite_trees.specs.declared.error.StoreError.{StoreError}
use Rattle.sqlite_trees.specs.declared.error.StoreError.TheVariants.{OutOfMemory, Io, Corrupt, Full, Broken, Unstorable}
use Rattle.sqlite_trees.specs.View.{View, doubt, IsOrdered, IsShaped, IsClean, IsRolledBack, IsQuiet}
use Rattle.sqlite_trees.specs.Objects.{catalog_tree, IsListed}
use Rattle.sqlite_trees.specs.Tree.{Trees}
use Rattle.sqlite_schema.specs.declared.schema.Schema.{Schema}
use Rattle.sqlite_rules.specs.Calls.{Excuses}
use Rattle.sqlite_catalog.specs.Listing.{AreListed, IsSound}
use Rattle.sqlite_catalog.proofs.LayoutLemmas.{laid_out}
use Rattle.sqlite.specs.Store.{Ghosts}
use Rattle.sqlite.specs.declared.error.ErrorCode.TheVariants as code
use Rattle.sqlite.specs.declared.error.Error.{Error}
use Rattle.sqlite.specs.declared.error.Error.TheVariants.{SqliteFailure, SqlInputError}
use Rattle.sqlite.specs.State.{store_error, is_disk_error, Relays}
use Rattle.sqlite.specs.Steps.{IsFresh, FailsToOpen}
use Rattle.sqlite.specs.Held.{Held}
use Rattle.sqlite_keeper.specs.Taking.{IsOther, IsForeign, IsLost, HasCause, IsLetGo, IsToldOf, TellsLast, opening_fault, told_as}
use Rattle.sqlite_keeper.specs.declared.keeper.AdoptFault.{AdoptFault}
use Rattle.sqlite_keeper.specs.declared.keeper.AdoptFault.TheVariants as adopt
use Rattle.sqlite_trees.specs.declared.store.Shape.{Shape}
use Rattle.sqlite_trees.specs.declared.store.Shape.TheVariants as shape
use Rattle.sqlite_rules.specs.Lists.{Has}
use Rattle.sqlite_rules.proofs.ListLemmas.{all_has}
use Rattle.sqlite_schema.specs.declared.schema.Table.{Table}
use Rattle.sqlite_keeper.specs.Contents.{Rises}

pub open_of : (v : View) → (v.is_open ≡ false → IsTrue v.is_broken) → v.is_broken ≡ false → IsTrue v.is_open
open_of v law sound = go v.is_open law
  where
    go : (b : Bool) → (b ≡ false → IsTrue v.is_broken) → b ≡ true
    go true law = refl
    go false law = absurd (true≢false (sym (law refl) ∙ sound))

pub fresh : (old new : View) → (new.is_open ≡ false → IsTrue new.is_broken) → IsRolledBack old new → IsTrue new.is_numbered → new.is_broken ≡ false → IsClean new → IsFresh new
fresh old new law back numbered sound clean =
    let is_open = open_of new law sound in
    let kept = back.kept clean in
    record { sound = sound; numbered = numbered; clean = (back.undone is_open).0 ∙ sym (kept.committed is_open); unmarked = kept.marks is_open }

-- the rows of each table that is listed, where the trees are in the order of their shapes
pub in_shape : (trees : Trees) (shapes : ℕ → Shape) (reals : ℕ → ℕ) (schema : Schema) → IsListed (trees catalog_tree) shapes reals → IsOrdered shapes trees → AreListed (trees catalog_tree) schema
    → (t : Table) → Has schema.tables t → IsShaped shape.Table (trees t.tree)
in_shape trees shapes reals schema listed ordered are t has =
    let objects = subst (λ s. IsShaped s (trees catalog_tree)) listed.itself.0 (ordered catalog_tree) in
    let laid = laid_out listed objects are in
    subst (λ s. IsShaped s (trees t.tree)) (all_has (λ (u : Table). shapes u.tree ≡ shape.Table) schema.tables t laid.tables has) (ordered t.tree)

pub rows_rise : (v : View) (trees : Trees) (schema : Schema) → trees ≡ v.trees → IsListed (v.trees catalog_tree) v.shape v.reals → IsOrdered v.shape v.trees → AreListed (trees catalog_tree) schema
    → (t : Table) → Has schema.tables t → Rises (trees t.tree)
rows_rise v trees schema same listed ordered are t has =
    let it = in_shape v.trees v.shape v.reals schema listed ordered (subst (λ (d : Trees). AreListed (d catalog_tree) schema) same are) t has in
    subst (λ (d : Trees). Rises (d t.tree)) (sym same) (record { up = it.0; ints = it.1 })

-- a store that is broken after it was rolled back was shut before, or the disk has failed meanwhile
pub lost : {More : Type 0} (was is broken : Bool) → (IsTrue was → IsTrue is ⊎ More) → (IsTrue is → broken ≡ false) → IsTrue broken → (was ≡ false) ⊎ More
lost false is broken closes sound shut = inl refl
lost true is broken closes sound shut = elim (closes refl) [
  | inl is_open ↦ absurd (true≢false (sym shut ∙ sound is_open))
  | inr more ↦ inr more
]

-- why a store with a database is not read again: memory was wanting, or the disk has failed meanwhile
pub unread : (old mid new : ℕ) (db : Trees) (e : Error) → ((schema : Schema) × IsSound schema db) → old ≤ mid → FailsToOpen db (MoreFaults mid new) e → (e ≡ SqliteFailure code.OutOfMemory) ⊎ MoreFaults old new
unread old mid new db e sound less (inl h) = absurd (h.1 sound.0 sound.1)
unread old mid new db e sound less (inr h) = by h.0 h.1 h.2
  where
    by : (k : StoreError) → e ≡ store_error k → Excuses (MoreFaults mid new) ⊥ k → (e ≡ SqliteFailure code.OutOfMemory) ⊎ MoreFaults old new
    by OutOfMemory is cause = inl is
    by Io is cause = inr (omega (arith, cause, less))
    by Corrupt is cause = inr (omega (arith, cause, less))
    by Full is cause = inr (omega (arith, cause, less))
    by Broken is cause = absurd cause
    by Unstorable is cause = absurd cause

-- why it was not is told as the store named it
pub told_unread : {S More : Type 0} (g : Ghosts S) (left : S) (db : Trees) (e : Error) → ((schema : Schema) × IsSound schema db) → FailsToOpen db More e → Relays (g.blamed left) e → IsToldOf g left e
told_unread g left db e sound (inl h) relays = absurd (h.1 sound.0 sound.1)
told_unread {S} {More} g left db e sound (inr h) relays = by h.0 h.1 h.2
  where
    by : (k : StoreError) → e ≡ store_error k → Excuses More ⊥ k → IsToldOf g left e
    by OutOfMemory is cause = inl is
    by Io is cause = inr (inr (ap is_disk_error is, relays))
    by Corrupt is cause = inr (inr (ap is_disk_error is, relays))
    by Full is cause = inr (inr (ap is_disk_error is, relays))
    by Broken is cause = absurd cause
    by Unstorable is cause = absurd cause

-- and so is the cause of the fault
pub tells_last : {S : Type 0} (g : Ghosts S) (left : S) (e : Error) → IsToldOf g left e → TellsLast (g.blamed left) (g.view left).is_broken (opening_fault e)
tells_last g left e (inl memory) = subst (λ f. TellsLast (g.blamed left) (g.view left).is_broken (opening_fault f)) (sym memory) tt
tells_last g left e (inr (inl shut)) = subst (λ f. TellsLast (g.blamed left) (g.view left).is_broken (opening_fault f)) (sym shut.0) (inl (refl, shut.1))
tells_last g left e (inr (inr failed)) = by e failed.0 failed.1
  where
    by : (f : Error) → IsTrue (is_disk_error f) → Relays (g.blamed left) f → TellsLast (g.blamed left) (g.view left).is_broken (opening_fault f)
    by (SqliteFailure code.SystemIoFailure) disk relays = inr (λ kind is. ap opening_fault (relays kind is disk))
    by (SqliteFailure code.DatabaseCorrupt) disk relays = inr (λ kind is. ap opening_fault (relays kind is disk))
    by (SqliteFailure code.DiskFull) disk relays = inr (λ kind is. ap opening_fault (relays kind is disk))
    by _ disk relays = absurd (true≢false (sym disk))

-- where nothing was refused
pub tells_unrefused : (blamed : Option StoreError) (is_broken : Bool) (fault : AdoptFault) → ((e : Error) → fault ≡ adopt.Refused e → ⊥) → TellsLast blamed is_broken (told_as fault)
tells_unrefused blamed is_broken (adopt.Version found) never = tt
tells_unrefused blamed is_broken (adopt.Refused e) never = absurd (never e refl)
tells_unrefused blamed is_broken adopt.NoMemory never = tt

-- of two quiet calls, one behind the other
pub quiet_on : {S : Type 0} (g : Ghosts S) (old mid new : S) → IsQuiet g.view g.faults g.recovers g.is_shielded old mid → IsQuiet g.view g.faults g.recovers g.is_shielded mid new → IsQuiet g.view g.faults g.recovers g.is_shielded old new
quiet_on g old mid new p q = record {
  shield = λ s. q.shield (p.shield s);
  clean = omega (arith, p.clean, q.clean);
  counts = omega (arith, p.counts, q.counts);
  closes = λ clean is_open. elim (p.closes (omega (arith, q.clean, clean)) is_open) [
    | inl still ↦ elim (q.closes clean still) [ inl last ↦ inl last | inr more ↦ inr (omega (arith, more, p.counts)) ]
    | inr more ↦ inr (omega (arith, more, q.counts))
  ];
  outcomes = λ db left. p.outcomes db (q.outcomes db left);
}

-- a failure of SQLite tells want of memory, or that the store can't be opened
has_cause : {S : Type 0} (g : Ghosts S) (old : Held S) (left : S) (e : Error) → IsLost g old left ⊎ IsForeign g old → HasCause g old left (opening_fault e)
has_cause g old left (SqliteFailure code.OutOfMemory) why = tt
has_cause g old left (SqliteFailure code.CannotOpen) why = why
has_cause g old left (SqliteFailure code.DatabaseBusy) why = why
has_cause g old left (SqliteFailure code.NotADatabase) why = why
has_cause g old left (SqliteFailure code.NameTaken) why = why
has_cause g old left (SqliteFailure code.DatabaseCorrupt) why = why
has_cause g old left (SqliteFailure code.DiskFull) why = why
has_cause g old left (SqlInputError _) why = why
has_cause g old left _ why = why

-- a store that was not taken is let go for its fault
pub let_go_as : {S : Type 0} (g : Ghosts S) (old : Held S) (left : S) (fault : AdoptFault) → doubt (g.view old.store).is_clean ≤ doubt (g.view left).is_clean
    → (IsClean (g.view left) → (found : List ℕ) → fault ≡ adopt.Version found → IsOther g old found) → (IsClean (g.view left) → (e : Error) → fault ≡ adopt.Refused e → IsForeign g old) → IsLetGo g old left (told_as fault)
let_go_as g old left (adopt.Version found) less other foreign = record { clean = less; cause = λ clean. other clean found refl }
let_go_as g old left (adopt.Refused e) less other foreign = record { clean = less; cause = λ clean. has_cause g old left e (inr (foreign clean e refl)) }
let_go_as g old left adopt.NoMemory less other foreign = record { clean = less; cause = λ clean. tt }
