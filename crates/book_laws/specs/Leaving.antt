-- What plain edits change in the rows, and that they change nothing else.
use Rattle.std.specs.Prelude.{◌≡◌, ◌&&◌, ℕ, ℤ, pos, ◌+ℤ◌, ◌-ℤ◌, Bool, true, false, List, [], ◌∷◌, Option, None, Some, Ok, unwrap_or, if◌then◌else◌}
use Rattle.std.specs.Option.{option_map}
use Rattle.std.specs.FinMap as map
use Rattle.field_values.specs.Names.{FieldNames}
use Rattle.field_values.specs.declared.value.Value.{Value}
use Rattle.finite_sums.specs.Maps.{Text, Texts, some_and}
use Rattle.book_rows.specs.declared.rows.Rows.{Rows}
use Rattle.book_rows.specs.declared.rows.BudgetRow.{BudgetRow}
use Rattle.book_rows.specs.declared.rows.CategoryRow.{CategoryRow}
use Rattle.book_rows.specs.declared.write.Write.{Write}
use Rattle.book_rows.specs.Ids.{budget_id, month_id}
use Rattle.book_rows.specs.Live.{is_live_category_row}
use Rattle.book_rows.specs.Parts.{is_text}
use Rattle.book_rows.specs.Rows.{with_field}
use Rattle.book_rows.specs.Rules.{account_table, group_table, category_table, payee_table, tx_table, month_table, note_table}
use Rattle.book_rows.specs.Tables.{Table, blank_row}
use Rattle.book_edits.specs.Edits.{set_writes}
use Rattle.book_edits.specs.Accounts.{account_add, account_rename, account_offbudget, account_reopen, account_close, payee_add, payee_rename, payee_delete}
use Rattle.book_edits.specs.Categories.{group_add, group_rename, group_delete, category_add, category_rename, category_move, category_delete}
use Rattle.book_edits.specs.Transactions.{tx_add, note}
use Rattle.book_edits.specs.Budgets.{budget, carryover, hold, move, track, track_carryover}
use Rattle.split_transfer.specs.After.{Ids, with_writes}
use Rattle.book_laws.specs.Doing.{new_id}

-- the rows of a dataset, of which the one with this id is changed; where it is not there it is made of a row of which no column is known
abbrev pub changed : {Row : Type 0} → Table Row → Texts Row → Text → (Row → Row) → Texts Row
changed table rows id change = map.insert rows id (change (unwrap_or (map.get rows id) (blank_row table id)))

-- a new row of what a category is given in a month, which says of what it is
abbrev pub new_budget : Text → ℕ → BudgetRow
new_budget category month = record { id = budget_id category month; month = pos month; category = Some category; amount = pos 0; carryover = false }

-- what a category is given in a month: the row, or a new one
abbrev pub budget_row : Rows → Text → ℕ → BudgetRow
budget_row rows category month = unwrap_or (map.get rows.budgets (budget_id category month)) (new_budget category month)

-- that row is changed, and no other
abbrev pub with_budget : Rows → Text → ℕ → (BudgetRow → BudgetRow) → Rows
with_budget rows category month change = record rows { budgets = map.insert rows.budgets (budget_id category month) (change (budget_row rows category month)) }

-- the same of the tracking budget
abbrev pub tracked_row : Rows → Text → ℕ → BudgetRow
tracked_row rows category month = unwrap_or (map.get rows.tracked (budget_id category month)) (new_budget category month)

abbrev pub with_tracked : Rows → Text → ℕ → (BudgetRow → BudgetRow) → Rows
with_tracked rows category month change = record rows { tracked = map.insert rows.tracked (budget_id category month) (change (tracked_row rows category month)) }

-- a live category of the group is deleted, and any other one stays as it is
abbrev pub without_group : Rows → Text → CategoryRow → CategoryRow
without_group rows group c = if is_live_category_row rows c && is_text group c.cat_group then record c { tombstone = true } else c

-- empty notes are none
abbrev pub notes_or_none : Text → Option Text
notes_or_none [] = None
notes_or_none (byte ∷ bytes) = Some (byte ∷ bytes)

-- the rows that a plain edit leaves which is accepted: those that were there, but for the fields that are said here
pub record PlainEditsDoNoMore (ids : Ids) (rows : Rows) (ws : List Write) : Type 0 where
  -- any field gets any value
  pub set : (field : FieldNames) (value : Value) → set_writes field value ≡ Ok ws → with_writes ids rows ws ≡ with_field rows field value
  -- accounts, and the payee that stands for one
  pub account_add : (id : Option Text) (name : Text) (off : Bool) → account_add rows id name off ≡ Ok ws → with_writes ids rows ws ≡ record rows {
    accounts = changed account_table rows.accounts (new_id ids id) (λ a. record a { name = Some name; offbudget = off });
    payees = changed payee_table rows.payees (ids 2) (λ p. record p { name = Some []; transfer_acct = Some (new_id ids id) });
  }
  pub account_rename : (id name : Text) → account_rename rows id name ≡ Ok ws → with_writes ids rows ws ≡ record rows { accounts = changed account_table rows.accounts id (λ a. record a { name = Some name }) }
  pub account_offbudget : (id : Text) (off : Bool) → account_offbudget rows id off ≡ Ok ws → with_writes ids rows ws ≡ record rows { accounts = changed account_table rows.accounts id (λ a. record a { offbudget = off }) }
  pub account_reopen : (id : Text) → account_reopen rows id ≡ Ok ws → with_writes ids rows ws ≡ record rows { accounts = changed account_table rows.accounts id (λ a. record a { closed = false }) }
  pub account_close : (id : Text) → account_close rows id ≡ Ok ws → with_writes ids rows ws ≡ record rows { accounts = changed account_table rows.accounts id (λ a. record a { closed = true }) }
  pub payee_add : (id : Option Text) (name : Text) → payee_add rows id name ≡ Ok ws → with_writes ids rows ws ≡ record rows { payees = changed payee_table rows.payees (new_id ids id) (λ p. record p { name = Some name }) }
  pub payee_rename : (id name : Text) → payee_rename rows id name ≡ Ok ws → with_writes ids rows ws ≡ record rows { payees = changed payee_table rows.payees id (λ p. record p { name = Some name }) }
  pub payee_delete : (id : Text) → payee_delete rows id ≡ Ok ws → with_writes ids rows ws ≡ record rows { payees = changed payee_table rows.payees id (λ p. record p { tombstone = true }) }
  -- groups, and the categories that are deleted with one
  pub group_add : (id : Option Text) (name : Text) (income : Bool) → group_add rows id name income ≡ Ok ws
      → with_writes ids rows ws ≡ record rows { groups = changed group_table rows.groups (new_id ids id) (λ g. record g { name = Some name; is_income = income }) }
  pub group_rename : (id name : Text) → group_rename rows id name ≡ Ok ws → with_writes ids rows ws ≡ record rows { groups = changed group_table rows.groups id (λ g. record g { name = Some name }) }
  pub group_delete : (id : Text) → group_delete rows id ≡ Ok ws → (categories : Texts CategoryRow)
      × (with_writes ids rows ws ≡ record rows { categories = categories; groups = changed group_table rows.groups id (λ g. record g { tombstone = true }) })
      × ((q : Text) → map.get categories q ≡ option_map (without_group rows id) (map.get rows.categories q))
  -- categories, which say of themselves what their group takes
  pub category_add : (id : Option Text) (group name : Text) → category_add rows id group name ≡ Ok ws
      → with_writes ids rows ws ≡ record rows { categories = changed category_table rows.categories (new_id ids id) (λ c. record c { name = Some name; cat_group = Some group; is_income = some_and (λ g. g.is_income) (map.get rows.groups group) }) }
  pub category_rename : (id name : Text) → category_rename rows id name ≡ Ok ws → with_writes ids rows ws ≡ record rows { categories = changed category_table rows.categories id (λ c. record c { name = Some name }) }
  pub category_move : (id group : Text) → category_move rows id group ≡ Ok ws
      → with_writes ids rows ws ≡ record rows { categories = changed category_table rows.categories id (λ c. record c { cat_group = Some group; is_income = some_and (λ g. g.is_income) (map.get rows.groups group) }) }
  pub category_delete : (id : Text) → category_delete rows id ≡ Ok ws → with_writes ids rows ws ≡ record rows { categories = changed category_table rows.categories id (λ c. record c { tombstone = true }) }
  -- a transaction, and a note
  pub tx_add : (id : Option Text) (account : Text) (date : ℕ) (amount : ℤ) (payee category : Option Text) (notes : Text) → tx_add rows id account date amount payee category notes ≡ Ok ws
      → with_writes ids rows ws ≡ record rows { txs = changed tx_table rows.txs (new_id ids id) (λ x. record x { acct = Some account; date = Some date; amount = amount; description = payee; category = category; notes = notes_or_none notes }) }
  pub note : (id text : Text) → note id text ≡ Ok ws → with_writes ids rows ws ≡ record rows { notes = changed note_table rows.notes id (λ n. record n { note = Some text }) }
  -- what a category is given in a month, and what is held back
  pub budget : (month : ℕ) (category : Text) (amount : ℤ) → budget rows month category amount ≡ Ok ws → with_writes ids rows ws ≡ with_budget rows category month (λ b. record b { amount = amount })
  pub carryover : (month : ℕ) (category : Text) (flag : Bool) → carryover rows month category flag ≡ Ok ws → with_writes ids rows ws ≡ with_budget rows category month (λ b. record b { carryover = flag })
  pub hold : (month : ℕ) (amount : ℤ) → hold month amount ≡ Ok ws → with_writes ids rows ws ≡ record rows { months = changed month_table rows.months (month_id month) (λ m. record m { buffered = amount }) }
  -- what the one category has less the other one has more
  pub move : (month : ℕ) (from to : Text) (amount : ℤ) → move rows month from to amount ≡ Ok ws
      → with_writes ids rows ws ≡ with_budget (with_budget rows from month (λ b. record b { amount = b.amount -ℤ amount })) to month (λ b. record b { amount = b.amount +ℤ amount })
  -- what it is given in the tracking budget, and whether it carries over there
  pub track : (month : ℕ) (category : Text) (amount : ℤ) → track rows month category amount ≡ Ok ws → with_writes ids rows ws ≡ with_tracked rows category month (λ b. record b { amount = amount })
  pub track_carryover : (month : ℕ) (category : Text) (flag : Bool) → track_carryover rows month category flag ≡ Ok ws → with_writes ids rows ws ≡ with_tracked rows category month (λ b. record b { carryover = flag })
