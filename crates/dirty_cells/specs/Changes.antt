-- Changes of fields, and which transactions they touch.
use Rattle.std.specs.Prelude.{◌≡◌, ℕ, Bool, true, false, ◌&&◌, not, ℤ, neg_ℤ, List, [], ◌∷◌, Option, Some, None, if◌then◌else◌}
use Rattle.std.specs.FinMap as map
use Rattle.std.specs.Ordering.{eq_by_cmp}
use Rattle.std.specs.List.{AllByRecursion, list_any}
use Rattle.field_values.specs.Value.{IsValue}
use Rattle.field_values.specs.declared.value.Value.{Value}
use Rattle.field_values.specs.Names.{FieldNames, names_eq}
use Rattle.finite_sums.specs.Maps.{Text, Texts, text_cmp, is_among, AreDistinct, value_or_zero}
use Rattle.book_rows.specs.declared.rows.Rows.{Rows}
use Rattle.book_rows.specs.declared.rows.TxRow.{TxRow}
use Rattle.book_rows.specs.declared.column.Column.{Column}
use Rattle.book_rows.specs.declared.column.Column.TheVariants.{Offbudget, Tombstone, TransferId}
use Rattle.book_rows.specs.Kinds.{flag_of, text_of}
use Rattle.book_rows.specs.Rows.{with_field}
use Rattle.book_rows.specs.Live.{is_on_budget, has_parent, category_of}
use Rattle.envelope_cells.specs.BudgetOf.{share}

-- a field and the value that it is given
abbrev pub Change : Type 0
Change = FieldNames × Value

-- the rows after changes, one after the other
abbrev pub with_fields : Rows → List Change → Rows
with_fields rows [] = rows
with_fields rows (c ∷ cs) = with_fields (with_field rows c.0 c.1) cs

-- two flags differ
abbrev pub differ : Bool → Bool → Bool
differ a b = if a then not b else b

-- the column says whether an account stands in the budget
abbrev pub sets_offbudget : Column → Bool
sets_offbudget Offbudget = true
sets_offbudget other = false

abbrev pub sets_tombstone : Column → Bool
sets_tombstone Tombstone = true
sets_tombstone other = false

-- the column says what a category is mapped to
abbrev pub sets_target : Column → Bool
sets_target TransferId = true
sets_target other = false

-- two texts that may not be there are the same, or neither is there
abbrev pub same_text : Option Text → Option Text → Bool
same_text None None = true
same_text None (Some b) = false
same_text (Some a) None = false
same_text (Some a) (Some b) = eq_by_cmp text_cmp a b

-- where the value of the column makes a row, or tells another thing than the row: then the row governs others
abbrev pub governs : {Row : Type 0} → (Column → Bool) → (Row → Value → Bool) → Texts Row → Text → Column → Value → Bool
governs sets turns rows id column value = elim (map.get rows id) as (λ _. Bool) [ None ↦ true | Some x ↦ sets column && turns x value ]

-- an account's row governs the transactions of the account, where it is new or comes into the budget or leaves it
abbrev pub account_governs : Rows → Text → Column → Value → Bool
account_governs r id column value = governs sets_offbudget (λ a v. differ a.offbudget (flag_of v)) r.accounts id column value

-- a transaction's row governs its parts, where it is new, or is deleted or restored
abbrev pub tx_governs : Rows → Text → Column → Value → Bool
tx_governs r id column value = governs sets_tombstone (λ x v. differ x.tombstone (flag_of v)) r.txs id column value

-- a mapping's row governs the transactions whose category column is its id, where it is new or has another target
abbrev pub mapping_governs : Rows → Text → Column → Value → Bool
mapping_governs r id column value = governs sets_target (λ m v. not (same_text m.transfer_id (text_of v))) r.category_mappings id column value

-- all of the first are among the others
pub record Within (xs ys : List Text) : Type 0 where
  pub each : (q : Text) → is_among text_cmp xs q ≡ true → is_among text_cmp ys q ≡ true

-- what a transaction adds to the sum of a category in a month
abbrev pub share_at : Rows → Text → ℕ → Text → ℤ
share_at r c month id = value_or_zero (share r c month) (map.get r.txs id)

-- two states of a book's rows tell the same of all transactions but for these, each of which is named once
pub record Spares (r s : Rows) (ids : List Text) : Type 0 where
  pub distinct : AreDistinct text_cmp ids
  pub rows : (q : Text) → is_among text_cmp ids q ≡ false → map.get r.txs q ≡ map.get s.txs q
  pub accounts : (q : Text) (x : TxRow) → is_among text_cmp ids q ≡ false → map.get r.txs q ≡ Some x → is_on_budget r x ≡ is_on_budget s x
  pub parents : (q : Text) (x : TxRow) → is_among text_cmp ids q ≡ false → map.get r.txs q ≡ Some x → has_parent r x ≡ has_parent s x
  pub categories : (q : Text) (x : TxRow) → is_among text_cmp ids q ≡ false → map.get r.txs q ≡ Some x → category_of r x ≡ category_of s x

-- each value is one that a value may be
abbrev pub AreValues : List Change → Type 0
AreValues cs = AllByRecursion (λ c. IsValue c.1) cs

-- a number that goes in, or one that goes out
abbrev pub signed : Bool → ℤ → ℤ
signed into z = if into then z else neg_ℤ z

-- no field is given two values
abbrev pub AreDifferent : List Change → Type 0
AreDifferent [] = Unit {0}
AreDifferent (c ∷ cs) = (list_any (λ d. names_eq c.0 d.0) cs ≡ false) × AreDifferent cs
