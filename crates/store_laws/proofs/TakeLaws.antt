-- Why a store is not taken, and what is told of a failure of SQLite.
use Rattle.std.proofs.Common.{◌≡◌, ◌⊎◌, Bool, Option, Some, IsTrue, inl, inr, refl, sym, ◌∙◌}
use Rattle.sqlite.specs.Store.{Ghosts}
use Rattle.sqlite.specs.Held.{Held, state}
use Rattle.sqlite.specs.declared.error.Error.{Error}
use Rattle.sqlite.specs.declared.error.Error.TheVariants.{SqliteFailure, SqlInputError}
use Rattle.sqlite.specs.declared.error.ErrorCode.TheVariants as code
use Rattle.sqlite.specs.State.{store_error}
use Rattle.sqlite_trees.specs.View.{IsClean}
use Rattle.sqlite_trees.specs.declared.error.StoreError.{StoreError}
use Rattle.sqlite_keeper.specs.Taking.{IsLetGo, TellsLast, opening_fault}
use Rattle.sqlite_keeper.specs.declared.taking.OpeningCause.{OpeningCause}
use Rattle.sqlite_keeper.specs.declared.taking.OpeningCause.TheVariants as cause
use Rattle.sqlite_keeper.specs.declared.taking.StoreFault.{StoreFault}
use Rattle.sqlite_keeper.specs.declared.taking.StoreFault.TheVariants.{Unopened, Version, NoMemory}
use Rattle.store_laws.specs.Stores.{ListsVersion, ListsNothing, IsExcused, TellsOther}

pub told_back : {S : Type 0} (g : Ghosts S) (old : Held S) (left : S) (fault : StoreFault) → IsLetGo g old left fault → ListsVersion (state g old).committed.trees → IsClean (g.view left)
    → IsExcused (state g old) (g.faults left) fault ⊎ TellsOther (state g old).committed.trees fault
told_back g old left (Unopened why) let_go lists clean = elim (let_go.cause clean) [
  | inl lost ↦ inl (inr lost)
  | inr foreign ↦ absurd (foreign.foreign (inl lists))
]
told_back g old left (Version found) let_go lists clean = let it = (let_go.cause clean).tells lists in inr (found, refl, it.0, it.1, it.2)
told_back g old left NoMemory let_go lists clean = inl (inl refl)

pub blank_back : {S : Type 0} (g : Ghosts S) (old : Held S) (left : S) (fault : StoreFault) → IsLetGo g old left fault → ListsNothing (state g old).committed.trees → IsClean (g.view left) → IsExcused (state g old) (g.faults left) fault
blank_back g old left (Unopened why) let_go none clean = elim (let_go.cause clean) [
  | inl lost ↦ inr lost
  | inr foreign ↦ absurd (foreign.foreign (inr none))
]
blank_back g old left (Version found) let_go none clean = absurd ((let_go.cause clean).listed none)
blank_back g old left NoMemory let_go none clean = inl refl

-- the cause that is told, where the store's last error was of one kind
pub cause_of : (kind : StoreError) (told : OpeningCause) → opening_fault (store_error kind) ≡ Unopened told → (blamed : Option StoreError) (is_broken : Bool) (fault : StoreFault) → TellsLast blamed is_broken fault → blamed ≡ Some kind
    → (why : OpeningCause) → fault ≡ Unopened why → (why ≡ told) ⊎ ((why ≡ cause.Failed) × IsTrue is_broken)
cause_of kind told named blamed is_broken (Unopened first) tells is why same =
    let one : first ≡ why = let e = same in cc in
    elim tells [
      | inl failed ↦ inr (sym one ∙ failed.0, failed.1)
      | inr last ↦ inl (let e : ◌≡◌ (Unopened first) (Unopened told) = last kind is ∙ named in sym one ∙ cc)
    ]
cause_of kind told named blamed is_broken (Version found) tells is why same = let e = same in cc
cause_of kind told named blamed is_broken NoMemory tells is why same = let e = same in cc

-- ---- which failure it was that is told so

pub only_memory : (e : Error) → opening_fault e ≡ NoMemory → e ≡ SqliteFailure code.OutOfMemory
only_memory (SqliteFailure code.OutOfMemory) h = refl
only_memory _ h = let told = h in cc

pub only_unopened : (e : Error) → opening_fault e ≡ Unopened cause.NotOpened → e ≡ SqliteFailure code.CannotOpen
only_unopened (SqliteFailure code.CannotOpen) h = refl
only_unopened _ h = let told = h in cc

pub only_in_use : (e : Error) → opening_fault e ≡ Unopened cause.InUse → e ≡ SqliteFailure code.DatabaseBusy
only_in_use (SqliteFailure code.DatabaseBusy) h = refl
only_in_use _ h = let told = h in cc

pub only_no_store : (e : Error) → opening_fault e ≡ Unopened cause.NoStore → e ≡ SqliteFailure code.NotADatabase
only_no_store (SqliteFailure code.NotADatabase) h = refl
only_no_store _ h = let told = h in cc

pub only_others : (e : Error) → opening_fault e ≡ Unopened cause.OtherTables → (e ≡ SqliteFailure code.NameTaken) ⊎ ((why : _) × (e ≡ SqlInputError why))
only_others (SqliteFailure code.NameTaken) h = inl refl
only_others (SqlInputError why) h = inr (why, refl)
only_others _ h = let told = h in cc

pub only_damaged : (e : Error) → opening_fault e ≡ Unopened cause.Damaged → e ≡ SqliteFailure code.DatabaseCorrupt
only_damaged (SqliteFailure code.DatabaseCorrupt) h = refl
only_damaged _ h = let told = h in cc

pub only_full : (e : Error) → opening_fault e ≡ Unopened cause.NoRoom → e ≡ SqliteFailure code.DiskFull
only_full (SqliteFailure code.DiskFull) h = refl
only_full _ h = let told = h in cc

pub no_version : (e : Error) (found : _) → opening_fault e ≡ Version found → ⊥
no_version (SqliteFailure code.OutOfMemory) found h = let told = h in cc
no_version (SqlInputError why) found h = let told = h in cc
no_version _ found h = let told = h in cc
