-- What a store holds, and what a connection to it is like.
use Rattle.std.specs.Prelude.{◌≡◌, List, IsTrue, true, false}
use Rattle.sqlite_trees.specs.Tree.{Trees}
use Rattle.sqlite.specs.Store.{Ghosts}
use Rattle.sqlite.specs.State.{HasCleanDisk}
use Rattle.sqlite.specs.Effect.{Database, IsDatabase}
use Rattle.sqlite.specs.Held.{Held, state}
pub use Rattle.budget_ports.specs.Contents.{Contents, Text, text_cmp, Place, place_cmp, with_text, appended, with_records, with_record}
use Rattle.budget_ports.specs.declared.keeper.Record.{Record}
use Rattle.store_tables.specs.Texts.{Tables}
use Rattle.store_tables.specs.Known.{IsSecond}
pub use Rattle.store_tables.specs.Layout.{Rises}
pub use Rattle.store_tables.specs.Stored.{contents_of}
pub use Rattle.store_tables.specs.Within.{Within, Goes, Fell, records_now}
use Rattle.sqlite_keeper.specs.Tables.{first_schema}

-- the connection is open, no transaction is, and what it reads was committed
pub record Rests {S : Type 0} (g : Ghosts S) (h : Held S) : Type 0 where
  pub clean : HasCleanDisk (state g h)
  pub is_open : IsTrue (state g h).is_open
  pub autocommit : h.in_transaction ≡ false
  pub settled : (state g h).now ≡ (state g h).committed

-- the tables are those of the second version, and the rows of each rise
pub record IsKept (t : Tables) (d : Database) : Type 0 where
  pub second : IsSecond t
  pub schema : d.schema ≡ t.schema
  pub sound : IsDatabase d
  pub groups : Rises (d.trees t.grps_tree)
  pub entries : Rises (d.trees t.entries_tree)
  pub named : Rises (d.trees t.named_tree)

abbrev pub HasTables : Database → Type 0
HasTables d = (t : Tables) × IsKept t d

-- the tables are those of the first version, and the rows of each rise
pub record IsFirst (d : Database) : Type 0 where
  pub schema : d.schema ≡ first_schema
  pub sound : IsDatabase d
  pub items : Rises (d.trees 0)
  pub named : Rises (d.trees 2)

-- nothing is pending, over a store of the second version
pub record Stands {S : Type 0} (g : Ghosts S) (h : Held S) : Type 0 where
  pub rests : Rests g h
  pub kept : HasTables (state g h).now

-- while it is open and clean it stands
abbrev pub Sound : {S : Type 0} → Ghosts S → Held S → Type 0
Sound g h = HasCleanDisk (state g h) → IsTrue (state g h).is_open → Stands g h

abbrev pub contents_now : {S : Type 0} → Ghosts S → Held S → Contents
contents_now g h = contents_of (state g h).now.trees

-- what a stop at this moment may leave
abbrev pub MayLeave : {S : Type 0} → Ghosts S → Held S → Contents → Type 0
MayLeave g h c = (db : Trees) × (state g h).may_leave db × (c ≡ contents_of db)

-- a stop leaves what the store holds alone
pub record LeavesItself {S : Type 0} (g : Ghosts S) (h : Held S) : Type 0 where
  pub only : (k : Contents) → MayLeave g h k → k ≡ contents_now g h

-- after some records, those that are left give what all give; nothing more is committed, and the groups and the texts stay
pub record AddsOn (t : Tables) {S : Type 0} (g : Ghosts S) (old new : Held S) (group : Text) (all left : List Record) : Type 0 where
  pub within : Within t g new
  pub committed : (state g new).committed ≡ (state g old).committed
  pub texts : (state g new).now.trees t.named_tree ≡ (state g old).now.trees t.named_tree
  pub groups : (state g new).now.trees t.grps_tree ≡ (state g old).now.trees t.grps_tree
  pub records : with_records group (records_now t g new) left ≡ with_records group (records_now t g old) all

-- a transaction is open over a store of the second version
pub record Inside {S : Type 0} (g : Ghosts S) (h : Held S) : Type 0 where
  pub is_open : IsTrue (state g h).is_open
  pub inside : h.in_transaction ≡ true
  pub kept : HasTables (state g h).now

-- the records were added within the transaction
pub record Adds {S : Type 0} (g : Ghosts S) (old new : Held S) (group : Text) (batch : List Record) : Type 0 where
  pub inside : Inside g new
  pub contents : contents_now g new ≡ appended (contents_now g old) group batch
  pub committed : (state g new).committed ≡ (state g old).committed
