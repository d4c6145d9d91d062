-- The texts, and what each means.
use Rattle.std.specs.Prelude.{◌≡◌, ◌+◌, ℕ, pos, negsuc, List, [], ◌∷◌, codes, true, false, Some, None, Result, Ok, Err}
use Rattle.sqlite.specs.Compile.{table_defined_by}
use Rattle.sqlite.specs.Command.{Command}
use Rattle.sqlite.specs.Command.TheVariants.{Select, Insert, InsertOr, Delete, CreateTable, Nothing}
use Rattle.sqlite.specs.Source.TheVariants.{Values}
use Rattle.sqlite_schema.specs.declared.command.Conflict.TheVariants.{Abort}
use Rattle.sqlite_schema.specs.declared.command.Returning.{Returning}
use Rattle.sqlite.specs.Term.{Term, lit, col, op2}
use Rattle.sqlite.specs.declared.types.Value.TheVariants.{Null, Int}
use Rattle.sqlite.specs.Query.{Query, inner, end}
use Rattle.sqlite.specs.Schema.{Schema}
use Rattle.sqlite_value.specs.declared.keys.Key.{Key}
use Rattle.sqlite_value.specs.declared.keys.Collation.TheVariants.{Binary}
use Rattle.sqlite_sql.specs.declared.ops.BinaryOp.TheVariants.{Compare}
use Rattle.sqlite_sql.specs.declared.ops.CompareOp.TheVariants.{Eq, Gt}
use Rattle.sqlite_resolve.specs.declared.compiled.Compiled.{Compiled}
use Rattle.sqlite_resolve.specs.declared.error.CompileError.{CompileError}
use Rattle.sqlite.specs.Listing.{understood, reads_listing}
use Rattle.sqlite.specs.Does.{sequence_text, lacks_sequence}
use Rattle.sqlite.specs.Given.{IsPlain}
use Rattle.sqlite.specs.State.{text_of}
use Rattle.sqlite.specs.Rows.{sequence}
use Rattle.sqlite_catalog.specs.Change.{created}
use Rattle.store_tables.specs.Tables.{named, grps, counters, entries, no_schema, first_schema, with_groups, with_entries, made_schema, moved_schema}

abbrev pub grps_text : List ℕ
grps_text = codes "CREATE TABLE grps (id INTEGER PRIMARY KEY AUTOINCREMENT, name TEXT NOT NULL UNIQUE) STRICT"

abbrev pub entries_text : List ℕ
entries_text = codes "CREATE TABLE entries (grp INTEGER NOT NULL REFERENCES grps (id), stamp TEXT NOT NULL, body TEXT NOT NULL, PRIMARY KEY (grp, stamp)) STRICT"

abbrev pub find_text : List ℕ
find_text = codes "SELECT id FROM grps WHERE name = ?1"

abbrev pub group_text : List ℕ
group_text = codes "INSERT INTO grps (name) VALUES (?1) RETURNING id"

abbrev pub entry_text : List ℕ
entry_text = codes "INSERT INTO entries (grp, stamp, body) VALUES (?1, ?2, ?3) ON CONFLICT DO NOTHING"

abbrev pub since_text : List ℕ
since_text = codes "SELECT stamp, body FROM entries WHERE grp = ?1 AND stamp > ?2 ORDER BY stamp"

abbrev pub all_text : List ℕ
all_text = codes "SELECT grp, stamp, body FROM items ORDER BY grp, stamp"

abbrev pub empty_text : List ℕ
empty_text = codes "DELETE FROM items"

abbrev pub named_text : List ℕ
named_text = codes "CREATE TABLE named (name TEXT NOT NULL PRIMARY KEY, body TEXT NOT NULL) STRICT"

-- ---- what they mean

abbrev pub command_of : Result Compiled CompileError → Command
command_of (Ok c) = c.command
command_of (Err e) = Nothing

-- the text of the statement
abbrev pub statement_of : List ℕ → Result Compiled CompileError → List ℕ
statement_of sql (Ok c) = text_of sql c
statement_of sql (Err e) = []

-- it has this RETURNING, and does not read the time
abbrev pub IsReturning : Result Compiled CompileError → Returning → Type 0
IsReturning (Ok c) what = (c.returning ≡ Some what) × (c.formats ≡ [])
IsReturning (Err e) what = ⊥

abbrev pub query_of : ℕ → List Term → List Term → List (Term × Key) → Query
query_of tree filter project order = record {
  from = inner tree end;
  filter = filter;
  group = None;
  project = project;
  distinct = false;
  collations = [];
  order = order;
  limit = lit (Int (negsuc 0));
  offset = lit (Int (pos 0));
}

abbrev pub by : ℕ → Term × Key
by place = (col 1 place, record { collation = Binary; descending = false })

abbrev pub select : Query → List (List ℕ) → Command
select q names = Select (record { lets = []; body = q }) names

abbrev pub group_shown : Returning
group_shown = record { names = codes "id" ∷ []; row = Values (col 0 3 ∷ []) 1 }

-- where the tables stand: their places and their trees
pub record Tables : Type 0 where
  pub schema : Schema
  pub grps_at : ℕ
  pub grps_tree : ℕ
  pub entries_at : ℕ
  pub entries_tree : ℕ
  pub named_at : ℕ
  pub named_tree : ℕ

abbrev pub made_tables : Tables
made_tables = record { schema = made_schema; grps_at = 0; grps_tree = 0; entries_at = 2; entries_tree = 3; named_at = 3; named_tree = 5 }

abbrev pub moved_tables : Tables
moved_tables = record { schema = moved_schema; grps_at = 2; grps_tree = 4; entries_at = 4; entries_tree = 7; named_at = 1; named_tree = 2 }

pub record Texts (t : Tables) : Type 0 where
  pub find_is : command_of (understood t.schema find_text) ≡ select (query_of t.grps_tree (op2 (Compare Eq Binary) (col 1 2) (col 0 0) ∷ []) (col 1 0 ∷ []) []) (codes "id" ∷ [])
  pub find_plain : IsPlain (understood t.schema find_text)
  pub find_unlisted : reads_listing t.schema find_text ≡ false
  pub group_is : command_of (understood t.schema group_text) ≡ Insert t.grps_at (Values (lit Null ∷ lit Null ∷ col 0 0 ∷ []) 3)
  pub group_shows : IsReturning (understood t.schema group_text) group_shown
  pub entry_is : command_of (understood t.schema entry_text) ≡ InsertOr t.entries_at Abort (Values (lit Null ∷ col 0 0 ∷ col 0 1 ∷ col 0 2 ∷ []) 4) (record { target = None; update = None } ∷ [])
  pub entry_plain : IsPlain (understood t.schema entry_text)
  pub since_is : command_of (understood t.schema since_text)
      ≡ select (query_of t.entries_tree (op2 (Compare Eq Binary) (col 1 1) (col 0 0) ∷ op2 (Compare Gt Binary) (col 1 2) (col 0 1) ∷ []) (col 1 2 ∷ col 1 3 ∷ []) (by 2 ∷ [])) (codes "stamp" ∷ codes "body" ∷ [])
  pub since_plain : IsPlain (understood t.schema since_text)
  pub since_unlisted : reads_listing t.schema since_text ≡ false
  pub counts_in : sequence t.schema ≡ Some (counters (t.grps_tree + 2))

pub record TextsOfAll : Type 0 where
  pub grps_defined : table_defined_by grps_text ≡ Ok (grps 0)
  pub entries_defined : table_defined_by entries_text ≡ Ok (entries 0)
  pub counters_defined : table_defined_by sequence_text ≡ Ok (counters 0)
  pub first_lacks : lacks_sequence (created no_schema (grps 0)) ≡ true
  pub moved_lacks : lacks_sequence (created first_schema (grps 0)) ≡ true
  pub has : lacks_sequence moved_schema ≡ false
  pub made_has : lacks_sequence made_schema ≡ false
  pub grps_made : command_of (understood no_schema grps_text) ≡ CreateTable
  pub grps_moved : command_of (understood first_schema grps_text) ≡ CreateTable
  pub entries_made : command_of (understood (with_groups no_schema) entries_text) ≡ CreateTable
  pub entries_moved : command_of (understood (with_groups first_schema) entries_text) ≡ CreateTable
  pub named_made : command_of (understood (with_entries no_schema) named_text) ≡ CreateTable
  pub all_is : command_of (understood moved_schema all_text) ≡ select (query_of 0 [] (col 1 1 ∷ col 1 2 ∷ col 1 3 ∷ []) (by 1 ∷ by 2 ∷ [])) (codes "grp" ∷ codes "stamp" ∷ codes "body" ∷ [])
  pub all_plain : IsPlain (understood moved_schema all_text)
  pub all_unlisted : reads_listing moved_schema all_text ≡ false
  pub empty_is : command_of (understood moved_schema empty_text) ≡ Delete 0 (record { lets = []; body = query_of 0 [] (col 1 0 ∷ []) [] })
  pub empty_plain : IsPlain (understood moved_schema empty_text)

-- the texts that make the tables, and those of the copy, have nothing behind them
pub record TextsOfMaking : Type 0 where
  pub grps_made_plain : IsPlain (understood no_schema grps_text)
  pub grps_made_whole : statement_of grps_text (understood no_schema grps_text) ≡ grps_text
  pub grps_moved_plain : IsPlain (understood first_schema grps_text)
  pub grps_moved_whole : statement_of grps_text (understood first_schema grps_text) ≡ grps_text
  pub entries_made_plain : IsPlain (understood (with_groups no_schema) entries_text)
  pub entries_made_whole : statement_of entries_text (understood (with_groups no_schema) entries_text) ≡ entries_text
  pub entries_moved_plain : IsPlain (understood (with_groups first_schema) entries_text)
  pub entries_moved_whole : statement_of entries_text (understood (with_groups first_schema) entries_text) ≡ entries_text
  pub named_made_plain : IsPlain (understood (with_entries no_schema) named_text)
  pub named_made_whole : statement_of named_text (understood (with_entries no_schema) named_text) ≡ named_text
  pub named_defined : table_defined_by named_text ≡ Ok (named 0)
