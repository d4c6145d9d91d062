-- The rows of the items, copied one after the other.
use Rattle.std.specs.Prelude.{◌≡◌, List, [], ◌∷◌, codes}
use Rattle.std.specs.FinMap.{FinMap, from_entries, insert}
use Rattle.sqlite_value.specs.Order.{Row, column, bytes}
use Rattle.sqlite_value.specs.declared.value.Value.TheVariants.{Text as Words}
use Rattle.sqlite.specs.Store.{Ghosts}
use Rattle.sqlite.specs.Held.{Held}
use Rattle.sqlite.specs.Effect.{Reads}
use Rattle.sqlite.specs.Command.{Command}
use Rattle.sqlite.specs.Term.{col}
use Rattle.store_tables.specs.Texts.{Tables, select, query_of, by}
use Rattle.store_tables.specs.Layout.{Rises, Rules}
use Rattle.store_tables.specs.Within.{Goes, records_now}
use Rattle.sqlite_trees.specs.Tree.{Trees}
use Rattle.sqlite_rules.specs.Lists.{Has}
use Rattle.sqlite_catalog.specs.Listing.{IsSound}
use Rattle.store_tables.specs.Tables.{first_schema, moved_schema}
use Rattle.store_tables.specs.Joined.{Text, Place, place_cmp, joined, item_place, body_of, with_record}
use Rattle.store_tables.specs.Named.{texts_in}
use Rattle.store_tables.specs.Stored.{contents_of, first_records}

-- what a row of the query shows
abbrev pub shown_place : Row → Place
shown_place x = (bytes (column x 0), bytes (column x 1))

abbrev pub shown_body : Row → Text
shown_body x = bytes (column x 2)

abbrev pub with_shown : FinMap place_cmp Text → Row → FinMap place_cmp Text
with_shown m x = with_record (bytes (column x 0)) m (bytes (column x 1)) (bytes (column x 2))

abbrev pub copied : FinMap place_cmp Text → List Row → FinMap place_cmp Text
copied m [] = m
copied m (x ∷ xs) = copied (with_shown m x) xs

-- the rows show each item, and nothing else
pub record ShowsItems (items rows : List Row) : Type 0 where
  pub sound : (x : Row) → Has rows x → (r : Row) × Has items r × (shown_place x ≡ item_place r) × (shown_body x ≡ body_of r)
  pub complete : (r : Row) → Has items r → (x : Row) × Has rows x × (shown_place x ≡ item_place r) × (shown_body x ≡ body_of r)

abbrev pub all_query : Command
all_query = select (query_of 0 [] (col 1 1 ∷ col 1 2 ∷ col 1 3 ∷ []) (by 1 ∷ by 2 ∷ [])) (codes "grp" ∷ codes "stamp" ∷ codes "body" ∷ [])

-- in whatever order they come, the copies give what the items hold
abbrev pub CopiesAll : Type 0
CopiesAll = (items rows : List Row) → ((a b : Row) → Has items a → Has items b → item_place a ≡ item_place b → a ≡ b) → ShowsItems items rows → copied (from_entries []) rows ≡ first_records items

-- a store with these copies and the second version holds what the first one held, but for its version
abbrev pub MovesContents : Type 0
MovesContents = (before after : Trees) → IsSound first_schema before → IsSound moved_schema after → joined (after 4) (after 7) ≡ first_records (before 0)
    → texts_in (after 2) ≡ insert (texts_in (before 2)) (codes "version") (codes "2")
    → contents_of after ≡ record { records = (contents_of before).records; texts = insert (contents_of before).texts (codes "version") (codes "2") }

-- a row of three texts
pub record IsItemRow (x : Row) : Type 0 where
  pub group : column x 0 ≡ Words (bytes (column x 0))
  pub key : column x 1 ≡ Words (bytes (column x 1))
  pub body : column x 2 ≡ Words (bytes (column x 2))

-- after some rows, those that are left give what all give
pub record CopiesOn (t : Tables) {S : Type 0} (g : Ghosts S) (old new : Held S) (all left : List Row) : Type 0 where
  pub goes : Goes t g old new (records_now t g new)
  pub records : copied (records_now t g new) left ≡ copied (records_now t g old) all

-- what is asked of the items shows each of them, as three texts
abbrev pub AsksItems : Type 0
AsksItems = (db : Trees) → Rules moved_schema db → Rises (db 0) → (rows : List Row) → Reads all_query (record { schema = moved_schema; trees = db }) [] rows
    → ShowsItems (db 0) rows × ((x : Row) → Has rows x → IsItemRow x)
