-- Where the table of texts stands, and what its statements mean there: the three layouts are three instances.
use Rattle.std.specs.Prelude.{◌≡◌, ◌≢◌, ◌+◌, map, ℕ, List, [], ◌∷◌, codes, true, false, Option, Some, None, Ok, ◌&&◌, ◌||◌, slice_get}
use Rattle.std.specs.FinMap.{FinMap, from_entries, insert, get}
use Rattle.sqlite_value.specs.Order.{Row, column, bytes}
use Rattle.sqlite_value.specs.declared.value.Value.TheVariants.{Text as Words}
use Rattle.sqlite_value.specs.declared.keys.Collation.TheVariants.{Binary}
use Rattle.sqlite_trees.specs.Tree.{Trees}
use Rattle.sqlite_sql.specs.Ops.{binary, is_true}
use Rattle.sqlite_sql.specs.Program.{overlay}
use Rattle.sqlite_sql.specs.declared.ops.BinaryOp.TheVariants.{Compare}
use Rattle.sqlite_sql.specs.declared.ops.CompareOp.TheVariants.{Eq}
use Rattle.sqlite_catalog.specs.Listing.{automatic}
use Rattle.sqlite_schema.specs.Rules.{guards}
use Rattle.sqlite_schema.specs.declared.schema.Keys.TheVariants.{Enforced}
use Rattle.sqlite_schema.specs.declared.command.Conflict.TheVariants.{Abort}
use Rattle.sqlite_schema.specs.declared.command.Upsert.{Upsert}
use Rattle.sqlite_rules.specs.Lists.{Has}
use Rattle.sqlite_rules.specs.Action.{works}
use Rattle.sqlite_rules.specs.Keys.{conflicts}
use Rattle.sqlite.specs.declared.types.Value.TheVariants.{Null}
use Rattle.sqlite.specs.Command.{Command}
use Rattle.sqlite.specs.Command.TheVariants.{InsertOr}
use Rattle.sqlite.specs.Source.{Source}
use Rattle.sqlite.specs.Source.TheVariants.{Values}
use Rattle.sqlite.specs.Term.{Term, lit, col, op2}
use Rattle.sqlite.specs.Query.{Query}
use Rattle.sqlite.specs.Schema.{Schema}
use Rattle.sqlite.specs.Table.{Table}
use Rattle.budget_ports.specs.Contents.{Text, text_cmp}
use Rattle.store_tables.specs.Layout.{Rises, Rules}
use Rattle.store_tables.specs.Grouped.{mode}
use Rattle.sqlite.specs.Effect.{Database, Reads}
use Rattle.sqlite.specs.Does.{Tally, Does}
use Rattle.sqlite.specs.Listing.{understood, reads_listing}
use Rattle.sqlite.specs.Given.{IsPlain}
use Rattle.store_tables.specs.Tables.{named, first_schema, made_schema, moved_schema}
use Rattle.store_tables.specs.Texts.{command_of, query_of, select, by}

abbrev pub get_text : List ℕ
get_text = codes "SELECT body FROM named WHERE name = ?1"

abbrev pub put_text : List ℕ
put_text = codes "INSERT INTO named (name, body) VALUES (?1, ?2) ON CONFLICT (name) DO UPDATE SET body = excluded.body"

abbrev pub names_text : List ℕ
names_text = codes "SELECT name FROM named ORDER BY name"

abbrev pub get_filter : List Term
get_filter = op2 (Compare Eq Binary) (col 1 1) (col 0 0) ∷ []

abbrev pub get_project : List Term
get_project = col 1 2 ∷ []

abbrev pub update_filter : List Term
update_filter = op2 (Compare Eq Binary) (col 1 0) (col 0 2) ∷ []

abbrev pub update_project : List Term
update_project = col 1 0 ∷ col 1 0 ∷ col 1 1 ∷ col 0 5 ∷ []

abbrev pub name_of : Row → Text
name_of r = bytes (column r 1)

abbrev pub text_of : Row → Text
text_of r = bytes (column r 2)

-- a name gives a text
abbrev pub texts_in : List Row → FinMap text_cmp Text
texts_in named = from_entries (map (λ r. (name_of r, text_of r)) named)

-- the schema, the place of the table in it, and the number of its tree
pub record NamedAt : Type 0 where
  pub schema : Schema
  pub at : ℕ
  pub tree : ℕ

abbrev pub named_first : NamedAt
named_first = record { schema = first_schema; at = 1; tree = 2 }

abbrev pub named_made : NamedAt
named_made = record { schema = made_schema; at = 3; tree = 5 }

abbrev pub named_moved : NamedAt
named_moved = record { schema = moved_schema; at = 1; tree = 2 }

abbrev pub update_query : ℕ → Query
update_query tree = query_of tree update_filter update_project []

abbrev pub put_source : Source
put_source = Values (lit Null ∷ col 0 0 ∷ col 0 1 ∷ []) 3

abbrev pub put_clauses : ℕ → List Upsert
put_clauses tree = record { target = Some (1 ∷ []); update = Some (record { lets = []; body = update_query tree }) } ∷ []

abbrev pub put_command : NamedAt → Command
put_command n = InsertOr n.at Abort put_source (put_clauses n.tree)

-- where the table stands, and its one index
pub record IsNamed (n : NamedAt) : Type 0 where
  pub there : slice_get n.schema.tables n.at ≡ Some (named n.tree)
  pub has : Has n.schema.tables (named n.tree)
  pub indexed : Has n.schema.indexes (automatic (named n.tree) 0 (1 ∷ []) (n.tree + 1))
  pub guarded : guards (automatic (named n.tree) 0 (1 ∷ []) (n.tree + 1)) (named n.tree) ≡ true
  pub reads : (db : Trees) → overlay db [] n.tree ≡ db n.tree
  -- no foreign key acts where its rows change
  pub unreferred : (olds news : List Row) → works n.schema Enforced 0 n.tree olds news ≡ []
  -- which row is in the way of a new one
  pub conflict_is : (new r : Row) → conflicts (Some (1 ∷ [])) n.schema.indexes (named n.tree) new r ≡ ((is_true (binary (Compare Eq Binary) (column r 1) (column new 1)) && true) || false)

-- what the three texts mean
pub record NamedTexts (n : NamedAt) : Type 0 where
  pub get_is : command_of (understood n.schema get_text) ≡ select (query_of n.tree get_filter get_project []) (codes "body" ∷ [])
  pub get_plain : IsPlain (understood n.schema get_text)
  pub get_unlisted : reads_listing n.schema get_text ≡ false
  pub put_is : command_of (understood n.schema put_text) ≡ put_command n
  pub put_plain : IsPlain (understood n.schema put_text)
  pub names_is : command_of (understood n.schema names_text) ≡ select (query_of n.tree [] (col 1 1 ∷ []) (by 1 ∷ [])) (codes "name" ∷ [])
  pub names_plain : IsPlain (understood n.schema names_text)
  pub names_unlisted : reads_listing n.schema names_text ≡ false

-- the text has changed, and nothing else
pub record Turned (n : NamedAt) (db next : Trees) (name text : Text) : Type 0 where
  pub texts : texts_in (next n.tree) ≡ insert (texts_in (db n.tree)) name text
  pub others : (t : Table) → Has n.schema.tables t → t.tree ≢ n.tree → next t.tree ≡ db t.tree
  pub rises : Rises (next n.tree)

-- what a row shows is the text of the name, and no row is shown where it has none
pub record TellsText (texts : FinMap text_cmp Text) (name : Text) (rows : List Row) : Type 0 where
  pub none : rows ≡ [] → get texts name ≡ None
  pub some : (x : Row) → Has rows x → (column x 0 ≡ Words (bytes (column x 0))) × (get texts name ≡ Some (bytes (column x 0)))

-- each row shows a name that has a text, and each such name is shown
pub record TellsNames (texts : FinMap text_cmp Text) (rows : List Row) : Type 0 where
  pub sound : (x : Row) → Has rows x → (text : Text) × (get texts (bytes (column x 0)) ≡ Some text)
  pub complete : (name text : Text) → get texts name ≡ Some text → (x : Row) × Has rows x × (bytes (column x 0) ≡ name)

abbrev pub PutsTexts : Type 0
PutsTexts = (n : NamedAt) → IsNamed n → (limit : Option ℕ) (db : Trees) (name text : Text) (tally : Tally) (after : Database) → Rules n.schema db → Rises (db n.tree)
    → Does limit mode (Words name ∷ Words text ∷ []) (record { schema = n.schema; trees = db }) put_text None (put_command n) (Ok (tally, after))
    → (after.schema ≡ n.schema) × Turned n db after.trees name text

abbrev pub AsksTexts : Type 0
AsksTexts = (n : NamedAt) → IsNamed n → (db : Trees) → Rules n.schema db → Rises (db n.tree) → (name : Text) (rows : List Row)
    → Reads (select (query_of n.tree get_filter get_project []) (codes "body" ∷ [])) (record { schema = n.schema; trees = db }) (Words name ∷ []) rows → TellsText (texts_in (db n.tree)) name rows

abbrev pub AsksNames : Type 0
AsksNames = (n : NamedAt) → IsNamed n → (db : Trees) → Rules n.schema db → Rises (db n.tree) → (rows : List Row)
    → Reads (select (query_of n.tree [] (col 1 1 ∷ []) (by 1 ∷ [])) (codes "name" ∷ [])) (record { schema = n.schema; trees = db }) [] rows → TellsNames (texts_in (db n.tree)) rows
