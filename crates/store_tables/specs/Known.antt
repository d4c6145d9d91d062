-- All that is known of a layout of the second version.
use Rattle.std.specs.Prelude.{◌≡◌, ◌⊎◌}
use Rattle.sqlite_trees.specs.Tree.{Trees}
use Rattle.sqlite_catalog.specs.Listing.{IsSound}
use Rattle.budget_ports.specs.Contents.{Contents}
use Rattle.store_tables.specs.Texts.{Tables, Texts, made_tables, moved_tables}
use Rattle.store_tables.specs.Layout.{Layout}
use Rattle.store_tables.specs.Joined.{joined}
use Rattle.store_tables.specs.Named.{NamedAt, IsNamed, NamedTexts, texts_in}
use Rattle.store_tables.specs.Stored.{contents_of}

-- the tables of a new store, or those of one that was taken over
abbrev pub IsSecond : Tables → Type 0
IsSecond t = (t ≡ made_tables) ⊎ (t ≡ moved_tables)

abbrev pub named_in : Tables → NamedAt
named_in t = record { schema = t.schema; at = t.named_at; tree = t.named_tree }

-- what the three tables hold
abbrev pub contents_in : Tables → Trees → Contents
contents_in t db = record { records = joined (db t.grps_tree) (db t.entries_tree); texts = texts_in (db t.named_tree) }

pub record Known (t : Tables) : Type 0 where
  pub layout : Layout t
  pub texts : Texts t
  pub named : IsNamed (named_in t)
  pub named_texts : NamedTexts (named_in t)
  pub reads : (db : Trees) → IsSound t.schema db → contents_of db ≡ contents_in t db
