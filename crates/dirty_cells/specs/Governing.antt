-- By which rows changes touch transactions, as the rows before them tell.
use Rattle.std.specs.Prelude.{◌≡◌, ℕ, ◌+◌, Bool, true, false, List, [], ◌∷◌, ◌++◌, flat_map, length, Option, Some, None, is_some, if◌then◌else◌}
use Rattle.std.specs.Ordering.{eq_by_cmp}
use Rattle.std.specs.FinMap as map
use Rattle.std.specs.BTreeSet as set
use Rattle.finite_sums.specs.Sums.{weight}
use Rattle.finite_sums.specs.Maps.{Text, text_cmp, is_among}
use Rattle.field_values.specs.declared.value.Value.{Value}
use Rattle.book_rows.specs.declared.rows.Rows.{Rows}
use Rattle.book_rows.specs.declared.column.Dataset.{Dataset}
use Rattle.book_rows.specs.declared.column.Dataset.TheVariants.{Accounts, Transactions, CategoryMapping}
use Rattle.book_rows.specs.declared.column.Column.{Column}
use Rattle.book_rows.specs.declared.column.Column.TheVariants.{Tombstone}
use Rattle.book_rows.specs.Columns.{dataset_of, column_of}
use Rattle.book_rows.specs.Rows.{dataset_kind}
use Rattle.book_rows.specs.Parts.{children_of, account_txs, category_txs}
use Rattle.dirty_cells.specs.Changes.{Change, account_governs, tx_governs, mapping_governs}
use Rattle.dirty_cells.specs.declared.touching.Governor.{Governor}
use Rattle.dirty_cells.specs.declared.touching.Governor.TheVariants.{Account, Parent, Mapping}
use Rattle.dirty_cells.specs.declared.touching.Touching.{Touching}

-- the transactions that a row governs: those of an account, the parts of a transaction, those whose category column is a mapping's id
abbrev pub governed : Rows → Governor → Text → List Text
governed r Account id = account_txs r id
governed r Parent id = children_of r id
governed r Mapping id = category_txs r id

-- the id, where a test passes
abbrev pub only_where : Bool → Text → List Text
only_where b id = if b then id ∷ [] else []

-- the transaction whose row a value sets
abbrev pub tx_set : Dataset → Text → List Text
tx_set Transactions id = id ∷ []
tx_set other id = []

-- the account, the transaction with parts and the mapping whose row governs others by a value
abbrev pub account_set : Rows → Dataset → Column → Text → Value → List Text
account_set r Accounts column id value = only_where (account_governs r id column value) id
account_set r other column id value = []

abbrev pub parent_set : Rows → Dataset → Column → Text → Value → List Text
parent_set r Transactions column id value = only_where (tx_governs r id column value) id
parent_set r other column id value = []

abbrev pub mapping_set : Rows → Dataset → Column → Text → Value → List Text
mapping_set r CategoryMapping column id value = only_where (mapping_governs r id column value) id
mapping_set r other column id value = []

-- of a field that a book knows, or else none
abbrev pub of_known : (Dataset → Column → List Text) → Option Dataset → Option Column → List Text
of_known f None column = []
of_known f (Some dataset) None = []
of_known f (Some dataset) (Some column) = if is_some (dataset_kind dataset column) then f dataset column else []

abbrev pub of_change : (Dataset → Column → Text → Value → List Text) → Change → List Text
of_change f c = of_known (λ (d : Dataset) (k : Column). f d k c.0.row c.1) (dataset_of c.0.dataset) (column_of c.0.column)

abbrev pub txs_by : Change → List Text
txs_by c = of_change (λ d k id v. tx_set d id) c

abbrev pub accounts_by : Rows → Change → List Text
accounts_by r c = of_change (account_set r) c

abbrev pub parents_by : Rows → Change → List Text
parents_by r c = of_change (parent_set r) c

abbrev pub mappings_by : Rows → Change → List Text
mappings_by r c = of_change (mapping_set r) c

-- ---- a change that touches no other transaction

-- the column is one of a transaction, and neither deletes nor restores it
abbrev pub is_plain : Dataset → Column → Bool
is_plain Transactions Tombstone = false
is_plain Transactions other = true
is_plain other column = false

-- ---- the transaction that was noted last

-- it is the row's, and the column's value neither deletes nor restores it
abbrev pub is_last : Option Text → Text → Column → Bool
is_last None id column = false
is_last (Some last) id Tombstone = false
is_last (Some last) id other = eq_by_cmp text_cmp last id

abbrev pub IsNoted : Rows → Option Text → (Text → Bool) → (Text → Bool) → Type 0
IsNoted r None txs parents = Unit {0}
IsNoted r (Some last) txs parents = (txs last ≡ true) × (map.get r.txs last ≡ None → parents last ≡ true)

-- it is among the transactions, and where it has no row, among those that govern their parts
abbrev pub KnowsLast : Rows → Touching → Type 0
KnowsLast r found = IsNoted r found.last (set.contains text_cmp found.txs) (set.contains text_cmp found.parents)

-- ---- all that is touched

-- the transactions that changes touch: those whose rows they set, and those that rows govern
abbrev pub touched_list : Rows → List Change → List Text
touched_list r cs =
    flat_map txs_by cs
    ++ flat_map (governed r Account) (flat_map (accounts_by r) cs)
    ++ flat_map (governed r Parent) (flat_map (parents_by r) cs)
    ++ flat_map (governed r Mapping) (flat_map (mappings_by r) cs)

-- the texts of a list, each once
abbrev pub distinct : List Text → List Text
distinct [] = []
distinct (x ∷ xs) = if is_among text_cmp xs x then distinct xs else x ∷ distinct xs

-- how many transactions rows govern, where each row is asked once
abbrev pub governed_by : Rows → Governor → List Text → ℕ
governed_by r g ids = weight (λ id. length (governed r g id)) (distinct ids)

abbrev pub listed_by : Rows → List Change → ℕ
listed_by r cs = governed_by r Account (flat_map (accounts_by r) cs) + governed_by r Parent (flat_map (parents_by r) cs) + governed_by r Mapping (flat_map (mappings_by r) cs)
