-- What a store was when a keeper took it or gave it back, and what it is then.
use Rattle.std.specs.Prelude.{◌≡◌, ◌≢◌, ◌≤◌, ◌⊎◌, true, false, if◌then◌else◌, [], Some, IsTrue}
use Rattle.std.specs.FinMap.{get}
use Rattle.budget_ports.specs.Keeper.{IsAlone}
use Rattle.sqlite_trees.specs.View.{doubt}
use Rattle.sqlite.specs.Store.{Ghosts}
use Rattle.sqlite.specs.State.{HasCleanDisk}
use Rattle.sqlite.specs.Held.{Held, state}
use Rattle.sqlite.specs.declared.error.Error.{Error}
use Rattle.sqlite_keeper.specs.Tables.{IsOurs, first_schema, no_schema}
use Rattle.sqlite_keeper.specs.Contents.{contents_now}
use Rattle.sqlite_keeper.specs.Keeping.{Keeping, TellsAll, MayBeLeft}
use Rattle.sqlite_keeper.specs.Adopting.{HasVersion, IsToTake, IsToKeep, TellsVersion, HasReason, LeavesOrBegins, moved, new_contents, version_name, version_one, version_two}
use Rattle.sqlite_keeper.specs.declared.keeper.AdoptFault.{AdoptFault}
use Rattle.sqlite_keeper.specs.declared.keeper.AdoptFault.TheVariants.{Refused, NoMemory}

-- of a keeper over a store: nothing is said of a disk that has returned something else
pub record IsTaken {S : Type 0} (g : Ghosts S) (old : Held S) (k : Keeping S) : Type 0 where
  pub count : k.faults ≡ (if k.is_shut then 1 else 0)
  -- not shut, it tells: over the tables of this version what the store held, which told this version
  pub kept : IsOurs old.schema → k.is_shut ≡ false → HasCleanDisk (state g k.conn) → TellsAll g k × (contents_now g k.conn ≡ contents_now g old) × (get (contents_now g old).texts version_name ≡ Some version_two)
  -- over those of the version before the same with this version, and the old table is empty, unless they told this one already
  pub moved : old.schema ≡ first_schema → k.is_shut ≡ false → HasCleanDisk (state g k.conn) → (k.is_ours ≡ true) ⊎ (get (contents_now g old).texts version_name ≢ Some version_two)
      → TellsAll g k × (contents_now g k.conn ≡ moved (contents_now g old)) × (get (contents_now g old).texts version_name ≡ Some version_one) × ((state g k.conn).now.trees 0 ≡ [])
  -- and where nothing was listed what a new store holds
  pub made : old.schema ≡ no_schema → k.is_shut ≡ false → HasCleanDisk (state g k.conn) → TellsAll g k × (contents_now g k.conn ≡ new_contents)
  pub alone : IsAlone (TellsAll g k) (contents_now g k.conn) (MayBeLeft g k)
  pub ours : k.is_ours ≡ true → IsToTake old.schema
  pub clean : doubt (state g old).is_clean ≤ doubt (state g k.conn).is_clean
  pub opened : k.is_shut ≡ false → IsToTake old.schema → HasCleanDisk (state g k.conn) → IsTrue (state g old).is_open
  -- it is shut only over the tables of a version, or where nothing is listed
  pub known : k.is_shut ≡ true → IsToTake old.schema
  -- and there where the store told the version before, or for a reason, and the contents are as before while the connection is open
  pub reason : k.is_shut ≡ true → IsToKeep old.schema (contents_now g old) → IsTrue (state g old).is_open → HasCleanDisk (state g k.conn) → HasReason (state g old) (state g k.conn)
  pub shut : k.is_shut ≡ true → IsToTake old.schema → HasCleanDisk (state g k.conn) → IsTrue (state g k.conn).is_open → contents_now g k.conn ≡ contents_now g old
  -- a stop leaves what it could leave before, or what the store became
  pub left : IsToTake old.schema → HasCleanDisk (state g k.conn) → LeavesOrBegins g old k.conn

-- of a store that was not taken, and of its connection
pub record IsGivenBack {S : Type 0} (g : Ghosts S) (old : Held S) (fault : AdoptFault) (new : Held S) : Type 0 where
  pub version : HasVersion old.schema → HasCleanDisk (state g new) → TellsVersion (contents_now g old) fault
  pub blank : old.schema ≡ no_schema → HasCleanDisk (state g new) → fault ≡ NoMemory
  -- what is refused has tables of no version
  pub refused : (e : Error) → fault ≡ Refused e → HasCleanDisk (state g new) → IsToTake old.schema → ⊥
  pub told : fault ≢ NoMemory → HasVersion old.schema → HasCleanDisk (state g new) → IsTrue (state g old).is_open
  pub left : IsToTake old.schema → HasCleanDisk (state g new) → LeavesOrBegins g old new
  pub clean : doubt (state g old).is_clean ≤ doubt (state g new).is_clean
  pub idle : new.in_transaction ≡ false
  pub same : IsToTake old.schema → HasCleanDisk (state g new) → IsTrue (state g new).is_open → contents_now g new ≡ contents_now g old
