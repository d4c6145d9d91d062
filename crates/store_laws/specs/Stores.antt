-- What a store lists and says, in its own words, and why it is not taken.
use Rattle.std.specs.Prelude.{◌≡◌, ◌⊎◌, false, List, ℕ, [], codes, Some, IsUtf8}
use Rattle.std.specs.FinMap.{get}
use Rattle.sqlite_disk.specs.Disk.{MoreFaults}
use Rattle.sqlite_trees.specs.Tree.{Trees}
use Rattle.sqlite_catalog.specs.Listing.{IsSound}
use Rattle.sqlite.specs.State.{State}
use Rattle.sqlite_keeper.specs.Tables.{first_schema, made_schema, moved_schema, no_schema}
use Rattle.sqlite_keeper.specs.Contents.{contents_of}
use Rattle.sqlite_keeper.specs.declared.taking.StoreFault.{StoreFault}
use Rattle.sqlite_keeper.specs.declared.taking.StoreFault.TheVariants.{Version, NoMemory}

-- the rows list the tables of the second version, made new or beside that of the first, and nothing else
abbrev pub ListsSecond : Trees → Type 0
ListsSecond db = IsSound made_schema db ⊎ IsSound moved_schema db

-- those of the first version, and nothing else
abbrev pub ListsFirst : Trees → Type 0
ListsFirst db = IsSound first_schema db

abbrev pub ListsNothing : Trees → Type 0
ListsNothing db = IsSound no_schema db

-- those of one of the two versions
abbrev pub ListsVersion : Trees → Type 0
ListsVersion db = ListsSecond db ⊎ ListsFirst db

-- or nothing
abbrev pub ListsKnown : Trees → Type 0
ListsKnown db = ListsVersion db ⊎ ListsNothing db

-- the text `version` is this
abbrev pub Says : Trees → List ℕ → Type 0
Says db text = get (contents_of db).texts (codes "version") ≡ Some text

-- memory was wanting, the connection was shut, or the disk has failed meanwhile
abbrev pub IsExcused : State → ℕ → StoreFault → Type 0
IsExcused was faults fault = (fault ≡ NoMemory) ⊎ ((was.is_open ≡ false) ⊎ MoreFaults was.faults faults)

-- the fault tells the version of the store, which is another than the two; it is empty where no text `version` is there that is one
abbrev pub TellsOther : Trees → StoreFault → Type 0
TellsOther db fault =
    (found : List ℕ) × (fault ≡ Version found) × (¬ Says db (codes "1")) × (¬ Says db (codes "2")) × (Says db found ⊎ ((found ≡ []) × ((text : List ℕ) → Says db text → IsUtf8 text → ⊥)))
