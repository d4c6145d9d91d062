-- A transaction is open over the two tables.
use Rattle.std.specs.Prelude.{◌≡◌, ℤ, List, true, IsTrue}
use Rattle.std.specs.FinMap.{FinMap}
use Rattle.sqlite_value.specs.declared.value.Value.TheVariants.{Int}
use Rattle.sqlite_value.specs.Order.{Row, column, bytes}
use Rattle.sqlite_trees.specs.Tree.{rowid}
use Rattle.sqlite_rules.specs.Lists.{Has}
use Rattle.sqlite.specs.Store.{Ghosts}
use Rattle.sqlite.specs.Effect.{IsDatabase}
use Rattle.sqlite.specs.Held.{Held, state}
use Rattle.store_tables.specs.Texts.{Tables}
use Rattle.store_tables.specs.Layout.{Rises, SparesOthers}
use Rattle.store_tables.specs.Joined.{Text, place_cmp, joined}

pub record Within (t : Tables) {S : Type 0} (g : Ghosts S) (h : Held S) : Type 0 where
  pub is_open : IsTrue (state g h).is_open
  pub inside : h.in_transaction ≡ true
  pub schema : h.schema ≡ t.schema
  pub sound : IsDatabase (state g h).now
  pub groups : Rises ((state g h).now.trees t.grps_tree)
  pub entries : Rises ((state g h).now.trees t.entries_tree)

abbrev pub records_now : (t : Tables) {S : Type 0} → Ghosts S → Held S → FinMap place_cmp Text
records_now t g h = joined ((state g h).now.trees t.grps_tree) ((state g h).now.trees t.entries_tree)

-- the id is that of a group with the name
pub record IsIdOf (rows : List Row) (id : ℤ) (name : Text) : Type 0 where
  pub row : Row
  pub there : Has rows row
  pub id_is : rowid row ≡ Int id
  pub named : bytes (column row 2) ≡ name

-- the transaction is still open over the tables, nothing more is committed, the texts and the other tables stay, and the records are these
pub record Goes (t : Tables) {S : Type 0} (g : Ghosts S) (old new : Held S) (records : FinMap place_cmp Text) : Type 0 where
  pub within : Within t g new
  pub committed : (state g new).committed ≡ (state g old).committed
  pub texts : (state g new).now.trees t.named_tree ≡ (state g old).now.trees t.named_tree
  pub others : SparesOthers t (state g old).now.trees (state g new).now.trees
  pub records_are : records_now t g new ≡ records

-- a row of FIND shows the id of a group with the name
abbrev pub ShowsGroups : List Row → Text → List Row → Type 0
ShowsGroups groups name rows = (x : Row) → Has rows x → (q : Row) × Has groups q × (bytes (column q 2) ≡ name) × (column x 0 ≡ rowid q)

-- where the connection is open after a failure, it was open before, and nothing more is committed
pub record Fell {S : Type 0} (g : Ghosts S) (old new : Held S) : Type 0 where
  pub was_open : IsTrue (state g new).is_open → IsTrue (state g old).is_open
  pub committed : IsTrue (state g new).is_open → (state g new).committed ≡ (state g old).committed
