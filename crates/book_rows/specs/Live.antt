-- Which rows are live, and which transactions count.
use Rattle.std.specs.Prelude.{Bool, true, not, ◌&&◌, Option, None, Some, is_some, unwrap_or, if◌then◌else◌}
use Rattle.std.specs.Option.{option_map}
use Rattle.std.specs.FinMap as map
use Rattle.finite_sums.specs.Maps.{Text, Texts, some_and}
use Rattle.book_rows.specs.declared.rows.Rows.{Rows}
use Rattle.book_rows.specs.declared.rows.TxRow.{TxRow}
use Rattle.book_rows.specs.declared.rows.CategoryRow.{CategoryRow}

-- the row of the id is there and was not deleted
abbrev pub is_live_account : Rows → Text → Bool
is_live_account rows id = some_and (λ a. not a.tombstone) (map.get rows.accounts id)

abbrev pub is_live_group : Rows → Text → Bool
is_live_group rows id = some_and (λ g. not g.tombstone) (map.get rows.groups id)

abbrev pub is_live_payee : Rows → Text → Bool
is_live_payee rows id = some_and (λ p. not p.tombstone) (map.get rows.payees id)

abbrev pub is_live_rule : Rows → Text → Bool
is_live_rule rows id = some_and (λ r. not r.tombstone) (map.get rows.rules id)

abbrev pub is_live_schedule : Rows → Text → Bool
is_live_schedule rows id = some_and (λ s. not s.tombstone) (map.get rows.schedules id)

-- a category is live where neither it nor its group was deleted and its group is there
abbrev pub is_live_category_row : Rows → CategoryRow → Bool
is_live_category_row rows c = not c.tombstone && some_and (is_live_group rows) c.cat_group

abbrev pub is_live_category : Rows → Text → Bool
is_live_category rows id = some_and (is_live_category_row rows) (map.get rows.categories id)

-- the group of a category takes income: what the category itself says of it is not asked
abbrev pub has_income_group : Rows → CategoryRow → Bool
has_income_group rows c = some_and (λ g. some_and (λ row. row.is_income) (map.get rows.groups g)) c.cat_group

abbrev pub is_income_category : Rows → Text → Bool
is_income_category rows id = some_and (λ c. is_live_category_row rows c && has_income_group rows c) (map.get rows.categories id)

abbrev pub is_expense_category : Rows → Text → Bool
is_expense_category rows id = some_and (λ c. is_live_category_row rows c && not (has_income_group rows c)) (map.get rows.categories id)

-- a part of a split stands where the transaction that it is a part of is there and was not deleted; what that one is a part of isn't asked
abbrev pub has_parent : Rows → TxRow → Bool
has_parent rows x = if x.is_child then some_and (λ p. some_and (λ row. not row.tombstone) (map.get rows.txs p)) x.parent_id else true

-- a transaction that was not deleted, and what it is a part of, if anything, is there and was not deleted
abbrev pub is_live_tx : Rows → TxRow → Bool
is_live_tx rows x = not x.tombstone && has_parent rows x

-- whether the id is that of a live transaction
abbrev pub is_alive : Rows → Text → Bool
is_alive rows id = some_and (is_live_tx rows) (map.get rows.txs id)

-- its account is there and stands in the budget; it may be deleted or closed
abbrev pub is_on_budget : Rows → TxRow → Bool
is_on_budget rows x = some_and (λ a. some_and (λ row. not row.offbudget) (map.get rows.accounts a)) x.acct

-- a transaction that counts in the budget: live, not split, with a day, in an account of the budget
abbrev pub is_counted : Rows → TxRow → Bool
is_counted rows x = is_live_tx rows x && (not x.is_parent && (is_some x.date && is_on_budget rows x))

-- ---- mappings

-- the target of a row, if it is there and has one
abbrev pub target_of : {Row : Type 0} → (Row → Option Text) → Option Row → Option Text
target_of target None = None
target_of target (Some row) = target row

-- what an id is mapped to: the target of its own row, where that is there and has one, and else the id itself. It is one step: the row of the target is not asked
abbrev pub mapped : {Row : Type 0} → (Row → Option Text) → Texts Row → Text → Text
mapped target rows id = unwrap_or (target_of target (map.get rows id)) id

abbrev pub mapped_category : Rows → Text → Text
mapped_category rows id = mapped (λ m. m.transfer_id) rows.category_mappings id

abbrev pub mapped_payee : Rows → Text → Text
mapped_payee rows id = mapped (λ m. m.target_id) rows.payee_mappings id

-- the category and the payee of a transaction: what the ids in its columns are mapped to
abbrev pub category_of : Rows → TxRow → Option Text
category_of rows x = option_map (mapped_category rows) x.category

abbrev pub payee_of : Rows → TxRow → Option Text
payee_of rows x = option_map (mapped_payee rows) x.description
