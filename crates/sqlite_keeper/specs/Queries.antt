-- The queries of the keeper, and what their rows are.
use Rattle.std.specs.Prelude.{◌≡◌, ◌⊎◌, ◌≤◌, IsTrue, Result, Ok, Err, length, ℕ, Bool, true, false, List, [], ◌∷◌, map}
use Rattle.std.specs.List.{AllByRecursion}
use Rattle.std.specs.Ordering.{is_lt}
use Rattle.std.specs.declared.cmp.Ordering.TheVariants.{Less}
use Rattle.sqlite_disk.specs.Disk.{MoreFaults}
use Rattle.sqlite_value.specs.Order.{Row, column, bytes}
use Rattle.sqlite_trees.specs.Tree.{Trees}
use Rattle.sqlite_schema.specs.declared.schema.Schema.{Schema}
use Rattle.sqlite_resolve.specs.declared.error.CompileError.{CompileError}
use Rattle.sqlite.specs.Store.{Ghosts}
use Rattle.sqlite.specs.State.{HasCleanDisk, IsUnchanged, IsRolledBack}
use Rattle.sqlite.specs.Effect.{Database, IsDatabase}
use Rattle.sqlite.specs.Held.{Held, state}
use Rattle.sqlite.specs.Given.{IsPlain}
use Rattle.sqlite.specs.Listing.{understood, reads_listing}
use Rattle.budget_ports.specs.declared.keeper.Record.{Record}
use Rattle.sqlite_typing.specs.Types.{accepts_program}
use Rattle.sqlite_resolve.specs.declared.compiled.Compiled.{Compiled}
use Rattle.store_tables.specs.Named.{NamedAt, IsNamed, NamedTexts, TellsText, texts_in, get_text, get_filter, get_project}
use Rattle.store_tables.specs.Texts.{query_of}
use Rattle.sqlite_keeper.specs.Adopting.{version_row}
use Rattle.store_tables.specs.Texts.{Tables}
use Rattle.store_tables.specs.Since.{FindsGroup}
use Rattle.sqlite_keeper.specs.Contents.{Contents, Text as Bytes, text_cmp, Rises, Rests, IsKept, contents_of}

-- over these tables the text is a statement without RETURNING, which reads neither the time nor the list of the tables
pub record IsQuery (schema : Schema) (sql : List ℕ) : Type 0 where
  pub is_plain : IsPlain (understood schema sql)
  pub unlisted : reads_listing schema sql ≡ false

-- while the connection is open and clean, nothing is pending, and the text is a query over its tables
abbrev pub MayAsk : {S : Type 0} → Ghosts S → List ℕ → Held S → Type 0
MayAsk g sql h = HasCleanDisk (state g h) → IsTrue (state g h).is_open → Rests g h × IsQuery h.schema sql

-- over these tables the text is no statement
abbrev pub IsUnread : Schema → List ℕ → Type 0
IsUnread schema sql = (fault : CompileError) × (understood schema sql ≡ Err fault)

-- nothing was changed, or what was not committed was rolled back; a stop leaves no more, and only a fault of the disk has shut the connection
pub record LeavesAll {S : Type 0} (g : Ghosts S) (old new : Held S) : Type 0 where
  pub back : IsUnchanged (state g old) (state g new) ⊎ IsRolledBack (state g old) (state g new)
  pub left : (db : Trees) → (state g new).may_leave db → (state g old).may_leave db
  pub counts : (state g old).faults ≤ (state g new).faults
  pub limit : (state g new).step_limit ≡ (state g old).step_limit
  pub closes : IsTrue (state g old).is_open → IsTrue (state g new).is_open ⊎ MoreFaults (state g old).faults (state g new).faults

-- the text has nothing behind it, and takes one value
abbrev pub TakesOne : List ℕ → Result Compiled CompileError → Type 0
TakesOne sql (Ok c) = (length sql ≤ c.tail) × (length c.names ≡ 1)
TakesOne sql (Err e) = ⊥

-- the text that asks for the version is a query of one value, which the table has the type for
pub record AsksVersion (spot : NamedAt) : Type 0 where
  pub takes : TakesOne get_text (understood spot.schema get_text)
  pub typed : accepts_program spot.schema [] (query_of spot.tree get_filter get_project []) version_row ≡ true

-- the table of texts is there, of whichever version the store is
pub record HasTexts (d : Database) : Type 0 where
  pub spot : NamedAt
  pub is : IsNamed spot
  pub texts : NamedTexts spot
  pub asks : AsksVersion spot
  pub schema : d.schema ≡ spot.schema
  pub sound : IsDatabase d
  pub rises : Rises (d.trees spot.tree)
  pub told : (contents_of d.trees).texts ≡ texts_in (d.trees spot.tree)

-- while the connection is open and clean, nothing is pending, and there is a table of texts
abbrev pub HasWords : {S : Type 0} → Ghosts S → Held S → Type 0
HasWords g h = HasCleanDisk (state g h) → IsTrue (state g h).is_open → Rests g h × HasTexts (state g h).now

-- rows that show the text of a name
abbrev pub ShowsText : Contents → Bytes → List Row → Type 0
ShowsText k name rows = TellsText k.texts name rows

-- the record that a row shows
abbrev pub record_in : Row → Record
record_in r = record { key = bytes (column r 0); body = bytes (column r 1) }

-- the name that a row shows
abbrev pub name_in : Row → Bytes
name_in r = bytes (column r 0)

-- the last of some names, or the empty text
abbrev pub last_name : List Bytes → Bytes
last_name [] = []
last_name (n ∷ []) = n
last_name (n ∷ m ∷ more) = last_name (m ∷ more)

-- the key of the last of some records, or the empty text
abbrev pub last_key : List Record → Bytes
last_key rs = last_name (map (λ r. r.key) rs)

-- the name may come after these
abbrev pub is_next : List Bytes → Bytes → Bool
is_next [] name = true
is_next (n ∷ more) name = is_lt (text_cmp (last_name (n ∷ more)) name)

-- each name is below each later one
abbrev pub Climb : List Bytes → Type 0
Climb [] = Unit {0}
Climb (n ∷ more) = AllByRecursion (λ m. text_cmp n m ≡ Less) more × Climb more

-- nothing is pending over these tables, and the rows show the id of the group with this name, or none where no group has it
pub record Finds (t : Tables) {S : Type 0} (g : Ghosts S) (h : Held S) (group : Bytes) (rows : List Row) : Type 0 where
  pub rests : Rests g h
  pub kept : IsKept t (state g h).now
  pub found : FindsGroup ((state g h).now.trees t.grps_tree) group rows
