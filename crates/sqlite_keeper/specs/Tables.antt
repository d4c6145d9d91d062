-- The tables of a store, part by part.
use Rattle.std.specs.Prelude.{◌≡◌, ◌⊎◌, ◌-◌, Bool, true, false, [], ◌∷◌, None, List, ℕ}
use Rattle.std.specs.List.{AllByRecursion}
use Rattle.sqlite.specs.declared.types.Value.TheVariants.{Null}
use Rattle.sqlite.specs.Collation.TheVariants.{Binary}
use Rattle.sqlite_schema.specs.declared.schema.Column.{Column}
use Rattle.sqlite_schema.specs.declared.schema.Kind.{Kind}
use Rattle.sqlite.specs.Table.{Table}
use Rattle.sqlite_schema.specs.declared.schema.Index.{Index}
use Rattle.sqlite.specs.Schema.{Schema}
use Rattle.sqlite_value.specs.Keys.{plain}
pub use Rattle.store_tables.specs.Tables.{words, loose, items, named, grps, counters, entries, to_grps, no_schema, first_schema, made_schema, moved_schema}

-- the tables of the second version and nothing else, made new or beside the empty table of the first
abbrev pub IsOurs : Schema → Type 0
IsOurs s = (s ≡ made_schema) ⊎ (s ≡ moved_schema)

-- no default and no collation of its own
abbrev pub column_of : List ℕ → Kind → Bool → Bool → Column
column_of name kind is_strict not_null = record { name = name; kind = kind; is_strict = is_strict; not_null = not_null; default = Null; collation = Binary }

-- no check, and no default that is computed
pub record IsBare (t : Table) : Type 0 where
  pub checks : t.checks ≡ []
  pub computed : t.computed ≡ []
  pub places : t.stamps.places ≡ []
  pub terms : t.stamps.terms ≡ []
  pub formats : t.stamps.formats ≡ []

-- the rowid is no column, no foreign key is there, and no id is counted
pub record IsLone (t : Table) : Type 0 where
  pub key : t.key ≡ None
  pub references : t.references ≡ []
  pub uncounted : t.is_counted ≡ false

-- one unique key, in plain order
pub record IsKeyed (places : List ℕ) (t : Table) : Type 0 where
  pub uniques : t.uniques ≡ places ∷ []
  pub orders : t.orders ≡ plain ∷ []

-- the index that a table's key has, which stands behind the table
abbrev pub index_of : List ℕ → ℕ → List ℕ → Index
index_of name tree places = record { name = name; tree = tree; table = tree - 1; columns = places; order = plain; is_unique = true }

-- each table has one unique key, or none
abbrev pub IsSingle : List (List ℕ) → Type 0
IsSingle [] = Unit {0}
IsSingle (k ∷ []) = Unit {0}
IsSingle (k ∷ l ∷ more) = ⊥

abbrev pub AreSingle : List Table → Type 0
AreSingle = AllByRecursion (λ t. IsSingle t.uniques)

-- and there is no view
pub record IsSimple (s : Schema) : Type 0 where
  pub tables : AreSingle s.tables
  pub views : s.views ≡ []
