-- The tables of the second version, and those that they stand beside.
use Rattle.std.specs.Prelude.{true, false, [], ◌∷◌, None, Some, codes, List, ℕ}
use Rattle.sqlite.specs.Collation.TheVariants.{Binary}
use Rattle.sqlite.specs.declared.types.Value.TheVariants.{Null}
use Rattle.sqlite_schema.specs.declared.schema.Column.{Column}
use Rattle.sqlite_schema.specs.declared.schema.Reference.{Reference}
use Rattle.sqlite_schema.specs.declared.schema.Action.TheVariants.{NoAction}
use Rattle.sqlite.specs.Table.{Table}
use Rattle.sqlite.specs.Schema.{Schema}
use Rattle.sqlite.specs.Kind.TheVariants.{Text, Integer, Any}
use Rattle.sqlite_value.specs.Keys.{plain}
use Rattle.sqlite_catalog.specs.Change.{created}

abbrev pub words : List ℕ → Column
words name = record { name = name; kind = Text; is_strict = true; not_null = true; default = Null; collation = Binary }

abbrev pub loose : List ℕ → Column
loose name = record { name = name; kind = Any; is_strict = false; not_null = false; default = Null; collation = Binary }

abbrev pub table_of : List ℕ → ℕ → List Column → List ℕ → Table
table_of name tree columns primary = record {
  name = name;
  tree = tree;
  columns = columns;
  key = None;
  primary = primary;
  uniques = primary ∷ [];
  orders = plain ∷ [];
  checks = [];
  references = [];
  computed = [];
  stamps = record { places = []; terms = []; formats = [] };
  is_counted = false;
}

abbrev pub items : ℕ → Table
items tree = table_of (codes "items") tree (words (codes "grp") ∷ words (codes "stamp") ∷ words (codes "body") ∷ []) (1 ∷ 2 ∷ [])

abbrev pub named : ℕ → Table
named tree = table_of (codes "named") tree (words (codes "name") ∷ words (codes "body") ∷ []) (1 ∷ [])

-- the id is the rowid, and the row keeps it as NULL
abbrev pub grps : ℕ → Table
grps tree = record {
  name = codes "grps";
  tree = tree;
  columns = record { name = codes "id"; kind = Integer; is_strict = true; not_null = false; default = Null; collation = Binary } ∷ words (codes "name") ∷ [];
  key = Some 0;
  primary = 0 ∷ [];
  uniques = (2 ∷ []) ∷ [];
  orders = plain ∷ [];
  checks = [];
  references = [];
  computed = [];
  stamps = record { places = []; terms = []; formats = [] };
  is_counted = true;
}

-- the table that SQLite makes for AUTOINCREMENT
abbrev pub counters : ℕ → Table
counters tree = record {
  name = codes "sqlite_sequence";
  tree = tree;
  columns = loose (codes "name") ∷ loose (codes "seq") ∷ [];
  key = None;
  primary = [];
  uniques = [];
  orders = [];
  checks = [];
  references = [];
  computed = [];
  stamps = record { places = []; terms = []; formats = [] };
  is_counted = false;
}

abbrev pub to_grps : Reference
to_grps = record { columns = 1 ∷ []; parent = codes "grps"; parent_columns = codes "id" ∷ []; on_delete = NoAction; on_update = NoAction; is_deferred = false }

abbrev pub entries : ℕ → Table
entries tree = record {
  name = codes "entries";
  tree = tree;
  columns = record { name = codes "grp"; kind = Integer; is_strict = true; not_null = true; default = Null; collation = Binary } ∷ words (codes "stamp") ∷ words (codes "body") ∷ [];
  key = None;
  primary = 1 ∷ 2 ∷ [];
  uniques = (1 ∷ 2 ∷ []) ∷ [];
  orders = plain ∷ [];
  checks = [];
  references = to_grps ∷ [];
  computed = [];
  stamps = record { places = []; terms = []; formats = [] };
  is_counted = false;
}

abbrev pub no_schema : Schema
no_schema = record { tables = []; indexes = []; views = [] }

-- version 1
abbrev pub first_schema : Schema
first_schema = created (created no_schema (items 0)) (named 0)

-- the tables of the second version, made behind others
abbrev pub with_groups : Schema → Schema
with_groups schema = created (created schema (grps 0)) (counters 0)

abbrev pub with_entries : Schema → Schema
with_entries schema = created (with_groups schema) (entries 0)

-- a store that was migrated, and a new one
abbrev pub moved_schema : Schema
moved_schema = with_entries first_schema

abbrev pub made_schema : Schema
made_schema = created (with_entries no_schema) (named 0)
