-- A store that was opened, and is read again to be taken.
use Rattle.std.specs.FinMap.{get}
use Rattle.std.specs.Prelude.{◌≡◌, ◌≢◌, Option, Some, ◌≤◌, ◌⊎◌, Bool, false, List, ℕ, None, IsTrue, ⊤}
use Rattle.sqlite.specs.Store.{Ghosts}
use Rattle.sqlite.specs.Held.{Held, state}
use Rattle.sqlite.specs.State.{Relays, is_disk_error, store_error}
use Rattle.sqlite_trees.specs.declared.error.StoreError.{StoreError}
use Rattle.sqlite_catalog.specs.Listing.{IsSound}
use Rattle.sqlite_disk.specs.Disk.{MoreFaults}
use Rattle.sqlite_trees.specs.Tree.{Trees}
use Rattle.sqlite_trees.specs.View.{doubt, IsClean}
use Rattle.sqlite_keeper.specs.Tables.{first_schema, made_schema, moved_schema, no_schema}
use Rattle.sqlite_keeper.specs.Contents.{contents_of}
use Rattle.sqlite_keeper.specs.Adopting.{TellsVersion, version_name, version_one}
use Rattle.sqlite_keeper.specs.declared.keeper.AdoptFault.{AdoptFault}
use Rattle.sqlite_keeper.specs.declared.keeper.AdoptFault.TheVariants as adopt
use Rattle.sqlite.specs.declared.error.ErrorCode.TheVariants.{OutOfMemory, CannotOpen, DatabaseBusy, NotADatabase, NameTaken, DatabaseCorrupt, DiskFull, Closed}
use Rattle.sqlite.specs.declared.error.Error.{Error}
use Rattle.sqlite.specs.declared.error.Error.TheVariants.{SqliteFailure, SqlInputError}
use Rattle.sqlite_keeper.specs.declared.taking.OpeningCause.TheVariants.{NotOpened, InUse, NoStore, OtherTables, Damaged, NoRoom, Failed}
use Rattle.sqlite_keeper.specs.declared.taking.StoreFault.{StoreFault}
use Rattle.sqlite_keeper.specs.declared.taking.StoreFault.TheVariants.{Unopened, Version, NoMemory}

-- the rows list the tables of the second version, made new or beside the empty table of the first
abbrev pub IsSecondStore : Trees → Type 0
IsSecondStore db = IsSound made_schema db ⊎ IsSound moved_schema db

-- the rows list the tables of one of the two versions
abbrev pub IsStore : Trees → Type 0
IsStore db = IsSecondStore db ⊎ IsSound first_schema db

-- or nothing
abbrev pub IsStoreOrBlank : Trees → Type 0
IsStoreOrBlank db = IsStore db ⊎ IsSound no_schema db

-- the rows list the tables of one of the two versions and do not tell the one before, or nothing is listed
abbrev pub IsKeptOrBlank : Trees → Type 0
IsKeptOrBlank db = (IsStore db × (get (contents_of db).texts version_name ≢ Some version_one)) ⊎ IsSound no_schema db

-- a connection over the rows that were committed, where no limit is set on the steps of a query
pub record IsReadAgain {S : Type 0} (g : Ghosts S) (old again : Held S) : Type 0 where
  pub is_open : IsTrue (state g again).is_open
  pub idle : again.in_transaction ≡ false
  pub rows : (state g again).now.trees ≡ (state g old).committed.trees
  pub unlimited : again.step_limit ≡ None

-- the disk has failed since the store was read again
abbrev pub HasFailedSince : {S : Type 0} → Ghosts S → Held S → Held S → Type 0
HasFailedSince {S} g old new = (again : Held S) × IsReadAgain g old again × MoreFaults (state g again).faults (state g new).faults

-- the connection was shut, or the disk has failed until the store was let go
abbrev pub IsLost : {S : Type 0} → Ghosts S → Held S → S → Type 0
IsLost g old left = ((state g old).is_open ≡ false) ⊎ MoreFaults (state g old).faults (g.faults left)

-- a connection that was open has rows of another version, and something is listed
pub record IsOther {S : Type 0} (g : Ghosts S) (old : Held S) (found : List ℕ) : Type 0 where
  pub was_open : IsTrue (state g old).is_open
  pub tells : IsStore (state g old).committed.trees → TellsVersion (contents_of (state g old).committed.trees) (adopt.Version found)
  pub listed : ¬ IsSound no_schema (state g old).committed.trees

-- a connection that was open has rows that list other tables than those of a version
pub record IsForeign {S : Type 0} (g : Ghosts S) (old : Held S) : Type 0 where
  pub was_open : IsTrue (state g old).is_open
  pub foreign : ¬ IsStoreOrBlank (state g old).committed.trees

-- want of memory alone needs no reason
abbrev pub HasCause : {S : Type 0} → Ghosts S → Held S → S → StoreFault → Type 0
HasCause g old left (Unopened cause) = IsLost g old left ⊎ IsForeign g old
HasCause g old left (Version found) = IsOther g old found
HasCause g old left NoMemory = ⊤

-- while the store is open, its rows are those that were committed last
abbrev pub HasComeBack : {S : Type 0} → Ghosts S → Held S → S → Type 0
HasComeBack g old left = IsClean (g.view left) → IsTrue (g.view left).is_open → (g.view left).trees ≡ (state g old).committed.trees

-- what is known of a store when it is let go, and why it was: a disk that returned something else says nothing
pub record IsLetGo {S : Type 0} (g : Ghosts S) (old : Held S) (left : S) (fault : StoreFault) : Type 0 where
  pub clean : doubt (g.view old.store).is_clean ≤ doubt (g.view left).is_clean
  pub cause : IsClean (g.view left) → HasCause g old left fault

-- what a failure of SQLite says of a store that is to be opened, read again, or made one of this version
abbrev pub opening_fault : Error → StoreFault
opening_fault (SqliteFailure OutOfMemory) = NoMemory
opening_fault (SqliteFailure CannotOpen) = Unopened NotOpened
opening_fault (SqliteFailure DatabaseBusy) = Unopened InUse
opening_fault (SqliteFailure NotADatabase) = Unopened NoStore
opening_fault (SqliteFailure NameTaken) = Unopened OtherTables
opening_fault (SqlInputError _) = Unopened OtherTables
opening_fault (SqliteFailure DatabaseCorrupt) = Unopened Damaged
opening_fault (SqliteFailure DiskFull) = Unopened NoRoom
opening_fault _ = Unopened Failed

-- the fault of a store that was not taken, as that of one that was opened
abbrev pub told_as : AdoptFault → StoreFault
told_as (adopt.Version found) = Version found
told_as (adopt.Refused error) = opening_fault error
told_as adopt.NoMemory = NoMemory

-- memory was wanting, the store is broken, or the disk has failed, told as the store named it where it keeps that
abbrev pub IsToldOf : {S : Type 0} → Ghosts S → S → Error → Type 0
IsToldOf g left e = (e ≡ SqliteFailure OutOfMemory) ⊎ (((e ≡ SqliteFailure Closed) × IsTrue (g.view left).is_broken) ⊎ (IsTrue (is_disk_error e) × Relays (g.blamed left) e))

-- the cause is that of the store's last error where it keeps that, or a failure where it is broken
abbrev pub TellsLast : Option StoreError → Bool → StoreFault → Type 0
TellsLast blamed is_broken (Unopened cause) = ((cause ≡ Failed) × IsTrue is_broken) ⊎ ((kind : StoreError) → blamed ≡ Some kind → Unopened cause ≡ opening_fault (store_error kind))
TellsLast blamed is_broken (Version found) = ⊤
TellsLast blamed is_broken NoMemory = ⊤
