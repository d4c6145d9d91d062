-- Categories that are handed on, and payees that are merged.
use Rattle.std.specs.Prelude.{ℕ, pos, ◌+ℤ◌, Bool, not, ◌&&◌, List, [], ◌∷◌, ◌++◌, map as list_map, filter, flat_map, Option, Result, Ok, codes, if◌then◌else◌}
use Rattle.std.specs.List.{range_with_len}
use Rattle.std.specs.Ordering.{int_eq}
use Rattle.std.specs.FinMap as map
use Rattle.field_values.specs.declared.value.Value.TheVariants.{Number, Text as IsText}
use Rattle.finite_sums.specs.Maps.{Text, Texts, keys_where}
use Rattle.book_rows.specs.declared.rows.Rows.{Rows}
use Rattle.book_rows.specs.declared.rows.CategoryMappingRow.{CategoryMappingRow}
use Rattle.book_rows.specs.declared.rows.PayeeMappingRow.{PayeeMappingRow}
use Rattle.book_rows.specs.declared.write.RowName.TheVariants.{Given}
use Rattle.book_rows.specs.declared.write.Write.{Write}
use Rattle.book_rows.specs.declared.fault.EditFault.{EditFault}
use Rattle.book_rows.specs.Live.{is_income_category}
use Rattle.book_rows.specs.Ids.{budget_id}
use Rattle.book_rows.specs.Months.{is_month}
use Rattle.book_rows.specs.Parts.{is_text}
use Rattle.book_edits.specs.declared.gains.Gain.{Gain}
use Rattle.book_edits.specs.Faults.{◌>>=◌, Check, each}
use Rattle.book_edits.specs.Checks.{live_category, live_payee, two_ids, distinct, same_id, same_kind, no_transfer, an_amount, a_name}
use Rattle.book_edits.specs.Writing.{write}
use Rattle.book_edits.specs.Accounts.{payee_deletion}
use Rattle.book_edits.specs.Categories.{category_deletion}
use Rattle.book_edits.specs.Budgets.{budgeted, budget_writes}

-- ---- mappings

-- the ids, but for the id's own, whose rows have the id as their target, in order
abbrev pub mapped_to : {Row : Type 0} → (Row → Option Text) → Texts Row → Text → List Text
mapped_to target rows id = filter (λ other. not (same_id other id)) (keys_where (λ row. is_text id (target row)) (map.entries rows))

-- what is mapped to a category, and the category itself, are mapped to another one
abbrev pub category_mapped : Text → Text → Write
category_mapped to id = write (codes "category_mapping") (Given id) (codes "transferId") (IsText to)

abbrev pub categories_mapped : Rows → Text → Text → List Write
categories_mapped rows id to = list_map (category_mapped to) (mapped_to (λ (m : CategoryMappingRow). m.transfer_id) rows.category_mappings id) ++ category_mapped to id ∷ []

-- what is mapped to a payee, and the payee itself, are mapped to another one
abbrev pub payee_mapped : Text → Text → Write
payee_mapped to id = write (codes "payee_mapping") (Given id) (codes "targetId") (IsText to)

abbrev pub payees_mapped : Rows → Text → Text → List Write
payees_mapped rows to id = list_map (payee_mapped to) (mapped_to (λ (m : PayeeMappingRow). m.target_id) rows.payee_mappings id) ++ payee_mapped to id ∷ []

-- ---- what a deleted category was given

-- the numbers from January 1970 to December 2199, months and others
unfoldable pub calendar : List ℕ
calendar = range_with_len 197001 22912

-- a month in which a category is given more or less than nothing
abbrev pub is_given : Rows → Text → ℕ → Bool
is_given rows id month = is_month month && not (int_eq (budgeted rows id month) (pos 0))

-- the months in which it is, in order, which is that of the ids of its rows
abbrev pub given_months : Rows → Text → List ℕ
given_months rows id = filter (is_given rows id) calendar

-- what another category is given in a month, with what this one is given
abbrev pub month_gain : Rows → Text → Text → ℕ → Gain
month_gain rows id to month = record { month = month; amount = budgeted rows to month +ℤ budgeted rows id month }

-- an expense category hands on what it is given, month by month; what takes income is given nothing
abbrev pub gains : Rows → Text → Text → List Gain
gains rows id to = if is_income_category rows id then [] else list_map (month_gain rows id to) (given_months rows id)

abbrev pub gain_writes : Rows → Text → Gain → List Write
gain_writes rows to g = budget_writes rows to g.month (codes "amount") (Number g.amount)

-- ---- edits

-- two live categories of one kind
abbrev pub may_hand_on : Rows → Text → Text → Check
may_hand_on rows id to = do
  _ ← live_category rows id
  _ ← live_category rows to
  _ ← two_ids id to
  same_kind rows id to

-- a value holds each amount that the other category is then given, and its rows have names
abbrev pub may_gain : Rows → Text → Text → Check
may_gain rows id to = do
  _ ← each (λ (g : Gain). an_amount g.amount) (gains rows id to)
  each (λ (g : Gain). a_name (budget_id to g.month)) (gains rows id to)

-- a category is deleted, and all that it has goes to another one: what is mapped to it, its transactions with it, and what it is given
abbrev pub category_delete_to : Rows → Text → Text → Result (List Write) EditFault
category_delete_to rows id to = do
  _ ← may_hand_on rows id to
  _ ← may_gain rows id to
  Ok (categories_mapped rows id to ++ flat_map (gain_writes rows to) (gains rows id to) ++ category_deletion id ∷ [])

-- a payee becomes another one
abbrev pub payee_merged : Rows → Text → Text → List Write
payee_merged rows to id = payees_mapped rows to id ++ payee_deletion id ∷ []

-- payees become another one, each over the rows as they stand before
abbrev pub payee_merge : Rows → Text → List Text → Result (List Write) EditFault
payee_merge rows to ids = do
  _ ← live_payee rows to
  _ ← each (live_payee rows) ids
  _ ← each (two_ids to) ids
  _ ← no_transfer rows to
  _ ← each (no_transfer rows) ids
  Ok (flat_map (payee_merged rows to) (distinct ids))
