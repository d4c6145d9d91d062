-- A store that is taken by a keeper, or is not.
use Rattle.std.specs.Prelude.{◌≡◌, ◌≢◌, ◌⊎◌, Bool, true, false, List, [], ◌∷◌, ℕ, Some, IsSome, codes, IsUtf8, IsTrue, ⊤}
use Rattle.std.specs.FinMap.{get}
use Rattle.sqlite.specs.Store.{Ghosts}
use Rattle.sqlite_disk.specs.Disk.{MoreFaults}
use Rattle.sqlite_value.specs.Order.{Row}
use Rattle.sqlite_value.specs.declared.value.Value.TheVariants.{Text as Words}
use Rattle.sqlite_rules.specs.Lists.{Has}
use Rattle.sqlite.specs.Table.{Table}
use Rattle.sqlite.specs.Schema.{Schema}
use Rattle.sqlite.specs.declared.error.ErrorCode.TheVariants as code
use Rattle.sqlite.specs.declared.error.Error.{Error}
use Rattle.sqlite.specs.declared.error.Error.TheVariants.{SqliteFailure}
use Rattle.sqlite.specs.Effect.{Database}
use Rattle.sqlite.specs.State.{HasCleanDisk, State}
use Rattle.sqlite.specs.Held.{Held, state}
use Rattle.budget_ports.specs.Contents.{nothing}
use Rattle.sqlite_keeper.specs.Contents.{Contents, Text, with_text, contents_of, contents_now, MayLeave, Rests, Rises, IsFirst, Inside}
use Rattle.sqlite_keeper.specs.Tables.{IsOurs, first_schema, no_schema}
use Rattle.sqlite_keeper.specs.declared.keeper.AdoptFault.{AdoptFault}
use Rattle.sqlite_keeper.specs.declared.keeper.AdoptFault.TheVariants.{Version, Refused, NoMemory}

-- the text that tells the version of a store, the version before this one, and this one
abbrev pub version_name : Text
version_name = codes "version"

abbrev pub version_one : Text
version_one = codes "1"

abbrev pub version_two : Text
version_two = codes "2"

-- the same, told to be of this version
abbrev pub moved : Contents → Contents
moved k = with_text k version_name version_two

-- a new store has no group and the text `version`
abbrev pub new_contents : Contents
new_contents = moved nothing

-- the contents tell no version: they have none, or bytes that are no text
abbrev pub TellsNone : Contents → Type 0
TellsNone k = (t : Text) → get k.texts version_name ≡ Some t → IsUtf8 t → ⊥

-- the text is the version of the contents, or is empty where they tell none; where it is another than one of the two, so is theirs
pub record IsVersion (k : Contents) (t : Text) : Type 0 where
  pub is : (get k.texts version_name ≡ Some t) ⊎ ((t ≡ []) × TellsNone k)
  pub not_one : t ≢ version_one → get k.texts version_name ≢ Some version_one
  pub not_two : t ≢ version_two → get k.texts version_name ≢ Some version_two

-- the rows of each table rise
abbrev pub IsInOrder : {S : Type 0} → Ghosts S → Held S → Type 0
IsInOrder g h = HasCleanDisk (state g h) → IsTrue (state g h).is_open → (t : Table) → Has h.schema.tables t → Rises ((state g h).now.trees t.tree)

-- what a store becomes: one where nothing is listed a new store, and one of the first version the same, told to be of the second
abbrev pub IsReady : Bool → Database → Contents → Type 0
IsReady true d k = (d.schema ≡ no_schema) × (k ≡ new_contents)
IsReady false d k = IsFirst d × (k ≡ moved (contents_of d.trees))

-- while the connection is open and clean, nothing is pending, and this is what the store becomes
abbrev pub MayBecome : {S : Type 0} → Ghosts S → Bool → Held S → Contents → Type 0
MayBecome g is_new h k = HasCleanDisk (state g h) → IsTrue (state g h).is_open → Rests g h × IsReady is_new (state g h).now k

-- a transaction is open over a store that is to become this
pub record Begins {S : Type 0} (g : Ghosts S) (is_new : Bool) (h : Held S) (k : Contents) : Type 0 where
  pub is_open : IsTrue (state g h).is_open
  pub inside : h.in_transaction ≡ true
  pub ready : IsReady is_new (state g h).now k

-- within the transaction the store has the tables of the second version, with these contents; nothing more is committed
pub record Makes {S : Type 0} (g : Ghosts S) (old new : Held S) (k : Contents) : Type 0 where
  pub inside : Inside g new
  pub contents : contents_now g new ≡ k
  pub committed : (state g new).committed ≡ (state g old).committed

-- the first statement, and what is given to it
abbrev pub version_query : List ℕ
version_query = codes "SELECT body FROM named WHERE name = ?1"

abbrev pub version_row : Row
version_row = Words version_name ∷ []

-- the disk failed meanwhile, or there was a limit on the steps of a query
abbrev pub HasReason : State → State → Type 0
HasReason old new = MoreFaults old.faults new.faults ⊎ IsSome old.step_limit

-- memory was wanting, or there was such a reason
abbrev pub IsReason : State → State → Error → Type 0
IsReason old new e = (e ≡ SqliteFailure code.OutOfMemory) ⊎ HasReason old new

-- the tables are those of one of the two versions
abbrev pub HasVersion : Schema → Type 0
HasVersion s = IsOurs s ⊎ (s ≡ first_schema)

-- or nothing is listed
abbrev pub IsToTake : Schema → Type 0
IsToTake s = HasVersion s ⊎ (s ≡ no_schema)

-- the tables are those of one of the two versions and do not tell the one before, or nothing is listed
abbrev pub IsToKeep : Schema → Contents → Type 0
IsToKeep s k = (HasVersion s × (get k.texts version_name ≢ Some version_one)) ⊎ (s ≡ no_schema)

-- a stop leaves what it could leave before, or this
abbrev pub LeavesOr : {S : Type 0} → Ghosts S → Contents → Held S → Held S → Type 0
LeavesOr g made old new = (k : Contents) → MayLeave g new k → MayLeave g old k ⊎ (k ≡ made)

-- and a new store only where nothing was listed, one of the second version only where it was of the first
abbrev pub LeavesOrBegins : {S : Type 0} → Ghosts S → Held S → Held S → Type 0
LeavesOrBegins g old new = (k : Contents) → MayLeave g new k → MayLeave g old k ⊎ (((old.schema ≡ no_schema) × (k ≡ new_contents)) ⊎ ((old.schema ≡ first_schema) × (k ≡ moved (contents_now g old))))

-- memory was wanting, or a statement was refused where it is not known what stands there
abbrev pub IsStopped : Bool → AdoptFault → Type 0
IsStopped is_known fault = (fault ≡ NoMemory) ⊎ ((is_known ≡ false) × (e : Error) × (fault ≡ Refused e))

-- the fault tells another version than one of the two, or that none is told
abbrev pub TellsVersion : Contents → AdoptFault → Type 0
TellsVersion k (Version found) =
    (get k.texts version_name ≢ Some version_one) × (get k.texts version_name ≢ Some version_two) × ((get k.texts version_name ≡ Some found) ⊎ ((found ≡ []) × TellsNone k))
TellsVersion k (Refused e) = ⊥
TellsVersion k NoMemory = ⊤
