-- What SINCE shows of a group whose id is known.
use Rattle.std.specs.Prelude.{◌≡◌, ℕ, ℤ, List, [], ◌∷◌, Some, codes}
use Rattle.std.specs.declared.cmp.Ordering.TheVariants.{Less}
use Rattle.std.specs.FinMap.{get}
use Rattle.sqlite_value.specs.declared.value.Value.TheVariants.{Int, Text}
use Rattle.sqlite_value.specs.Order.{Row, column, bytes}
use Rattle.sqlite_trees.specs.Tree.{Trees, rowid}
use Rattle.sqlite_rules.specs.Lists.{Has}
use Rattle.sqlite_sql.specs.declared.ops.BinaryOp.TheVariants.{Compare}
use Rattle.sqlite_sql.specs.declared.ops.CompareOp.TheVariants.{Eq, Gt}
use Rattle.sqlite_value.specs.declared.keys.Collation.TheVariants.{Binary}
use Rattle.sqlite.specs.Term.{Term, col, op2}
use Rattle.sqlite.specs.Effect.{Reads}
use Rattle.store_tables.specs.Texts.{Tables, select, query_of, by}
use Rattle.store_tables.specs.Layout.{Layout, Rules}
use Rattle.store_tables.specs.Within.{ShowsGroups}
use Rattle.sqlite.specs.Command.{Command}
use Rattle.store_tables.specs.Joined.{text_cmp, joined}
use Rattle.store_tables.specs.Entered.{Stand}

abbrev pub since_filter : List Term
since_filter = op2 (Compare Eq Binary) (col 1 1) (col 0 0) ∷ op2 (Compare Gt Binary) (col 1 2) (col 0 1) ∷ []

-- each row shows a record of the group above the key, and each such record is shown
pub record TellsSince (db : Trees) (t : Tables) (group after : List ℕ) (rows : List Row) : Type 0 where
  pub sound : (x : Row) → Has rows x → (get (joined (db t.grps_tree) (db t.entries_tree)) (group, bytes (column x 0)) ≡ Some (bytes (column x 1))) × (text_cmp after (bytes (column x 0)) ≡ Less)
  pub complete : (key body : List ℕ) → get (joined (db t.grps_tree) (db t.entries_tree)) (group, key) ≡ Some body → text_cmp after key ≡ Less → (x : Row) × Has rows x × (bytes (column x 0) ≡ key) × (bytes (column x 1) ≡ body)

abbrev pub AsksSince : Type 0
AsksSince = (t : Tables) → Layout t → (db : Trees) (id : ℤ) (group after : List ℕ) → Stand t db → (q : Row) → Has (db t.grps_tree) q → rowid q ≡ Int id → bytes (column q 2) ≡ group → (rows : List Row)
    → Reads (select (query_of t.entries_tree since_filter (col 1 2 ∷ col 1 3 ∷ []) (by 2 ∷ [])) (codes "stamp" ∷ codes "body" ∷ [])) (record { schema = t.schema; trees = db }) (Int id ∷ Text after ∷ []) rows
    → TellsSince db t group after rows

-- the rows show ids of groups with the name, and some row is shown where one has it
pub record FindsGroup (groups : List Row) (name : List ℕ) (rows : List Row) : Type 0 where
  pub sound : ShowsGroups groups name rows
  pub none : rows ≡ [] → (q : Row) → Has groups q → bytes (column q 2) ≡ name → ⊥

abbrev pub find_query : Tables → Command
find_query t = select (query_of t.grps_tree (op2 (Compare Eq Binary) (col 1 2) (col 0 0) ∷ []) (col 1 0 ∷ []) []) (codes "id" ∷ [])

abbrev pub AsksGroup : Type 0
AsksGroup = (t : Tables) → Layout t → (db : Trees) → Rules t.schema db → (name : List ℕ) (rows : List Row) → Reads (find_query t) (record { schema = t.schema; trees = db }) (Text name ∷ []) rows
    → FindsGroup (db t.grps_tree) name rows

-- a group that is not there has no record
abbrev pub AsksNobody : Type 0
AsksNobody = (t : Tables) → Layout t → (db : Trees) (group after : List ℕ) → Stand t db → ((q : Row) → Has (db t.grps_tree) q → bytes (column q 2) ≡ group → ⊥) → TellsSince db t group after []
