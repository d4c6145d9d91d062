-- What is asked of an edit. A check that fails tells a fault.
use Rattle.std.specs.Prelude.{ℕ, ℤ, pos, negsuc, unsigned_abs, nat_le, Bool, true, false, not, ◌&&◌, List, [], ◌∷◌, length, filter, Option, None, Some, is_some, Result, Ok, Err}
use Rattle.std.specs.Option.{is_none, option_map, option_and_then}
use Rattle.std.specs.Result.{is_err}
use Rattle.std.specs.List as list
use Rattle.std.specs.Ordering.{int_eq, eq_by_cmp}
use Rattle.std.specs.FinMap as map
use Rattle.field_values.specs.declared.name.NamePart.TheVariants.{Row}
use Rattle.field_values.specs.Names.{name_fault}
use Rattle.field_values.specs.Value.{largest_number}
use Rattle.hybrid_clock.specs.Reading.{read_stamp}
use Rattle.finite_sums.specs.Maps.{Text, text_cmp, some_and}
use Rattle.book_rows.specs.declared.rows.Rows.{Rows}
use Rattle.book_rows.specs.declared.rows.GroupRow.{GroupRow}
use Rattle.book_rows.specs.declared.rows.CategoryRow.{CategoryRow}
use Rattle.book_rows.specs.declared.write.RowName.{RowName}
use Rattle.book_rows.specs.declared.write.RowName.TheVariants.{Given, Made}
use Rattle.book_rows.specs.declared.fault.EditFault.{EditFault}
use Rattle.book_rows.specs.declared.fault.EditFault.TheVariants.{BadId, IdTaken, NoSuchAccount, NoSuchGroup, NoSuchCategory, NoSuchPayee, BadDate, BadAmount, BadMonth, SameAccount, ClosedAccount, IncomeCategory, NameTaken, CategoryType, TransferPayee}
use Rattle.book_rows.specs.Live.{is_live_account, is_live_group, is_live_payee, is_live_category, is_live_category_row, is_income_category}
use Rattle.book_rows.specs.Kinds.{is_day}
use Rattle.book_rows.specs.Months.{is_month}
use Rattle.book_rows.specs.Parts.{is_text}
use Rattle.book_rows.specs.Balances.{balance_of}
use Rattle.book_edits.specs.Faults.{◌>>=◌, Check, must}

-- ---- ids

-- a text that may be the name of a row
abbrev pub is_name : Text → Bool
is_name id = is_none (name_fault Row id)

abbrev pub a_name : Text → Check
a_name id = must (is_name id) (BadId id)

-- an id that a caller may choose: a name of at most 64 bytes that can't be taken for a timestamp, and so for a made id
abbrev pub may_be_chosen : Text → Bool
may_be_chosen id = is_name id && (nat_le (length id) 64 && is_err (read_stamp id))

-- the row of an id that is given for a new one: one that a caller may choose, and of which there is no row, dead or alive
abbrev pub given_row : Bool → Text → Result RowName EditFault
given_row there id = do
  _ ← must (may_be_chosen id) (BadId id)
  _ ← must (not there) (IdTaken id)
  Ok (Given id)

-- the row that an edit adds: where no id is given, a made one, under the timestamp of the edit's first write
abbrev pub new_row : (Text → Bool) → Option Text → Result RowName EditFault
new_row is_there None = Ok (Made 0)
new_row is_there (Some id) = given_row (is_there id) id

-- whether two ids are the same
abbrev pub same_id : Text → Text → Bool
same_id = eq_by_cmp text_cmp

-- each id once, at its first place
abbrev pub distinct : List Text → List Text
distinct [] = []
distinct (id ∷ ids) = id ∷ filter (λ other. not (same_id id other)) (distinct ids)

-- two ids that have to differ
abbrev pub two_ids : Text → Text → Check
two_ids a b = must (not (same_id a b)) (SameAccount a)

-- ---- rows that have to be live

abbrev pub live_account : Rows → Text → Check
live_account rows id = must (is_live_account rows id) (NoSuchAccount id)

abbrev pub live_group : Rows → Text → Check
live_group rows id = must (is_live_group rows id) (NoSuchGroup id)

abbrev pub live_category : Rows → Text → Check
live_category rows id = must (is_live_category rows id) (NoSuchCategory id)

abbrev pub live_payee : Rows → Text → Check
live_payee rows id = must (is_live_payee rows id) (NoSuchPayee id)

-- no live category that takes income
abbrev pub no_income : Rows → Text → Check
no_income rows id = must (not (is_income_category rows id)) (IncomeCategory id)

-- an account without a balance
abbrev pub without_balance : Rows → Text → Check
without_balance rows id = must (int_eq (balance_of rows id) (pos 0)) (ClosedAccount (balance_of rows id))

-- whether two flags are the same
abbrev pub same_flag : Bool → Bool → Bool
same_flag true b = b
same_flag false b = not b

-- two categories that both take income, or neither does
abbrev pub same_kind : Rows → Text → Text → Check
same_kind rows id to = must (same_flag (is_income_category rows id) (is_income_category rows to)) (CategoryType to)

-- whether a payee stands for an account in transfers
abbrev pub is_transfer_payee : Rows → Text → Bool
is_transfer_payee rows id = some_and (λ p. is_some p.transfer_acct) (map.get rows.payees id)

-- no payee that stands for an account
abbrev pub no_transfer : Rows → Text → Check
no_transfer rows id = must (not (is_transfer_payee rows id)) (TransferPayee id)

-- ---- names

-- the least id of a row that passes a test: entries stand in the order of their ids
abbrev pub least_where : {X : Type 0} → (X → Bool) → List (Text × X) → Option Text
least_where p es = option_map (λ e. e.0) (list.find (λ e. p e.1) es)

-- no row may have the name; else the least id of those that do is told
abbrev pub nobody : Option Text → Check
nobody None = Ok tt
nobody (Some id) = Err (NameTaken id)

-- a live group has the name. One without a name has none, not the empty one
abbrev pub is_group_named : Text → GroupRow → Bool
is_group_named name g = not g.tombstone && is_text name g.name

-- a name that no live group has
abbrev pub free_group_name : Rows → Text → Check
free_group_name rows name = nobody (least_where (is_group_named name) (map.entries rows.groups))

-- a live category of the group has the name
abbrev pub is_category_named : Rows → Text → Text → CategoryRow → Bool
is_category_named rows group name c = is_live_category_row rows c && (is_text group c.cat_group && is_text name c.name)

-- a name that no live category of the group has
abbrev pub free_category_name : Rows → Text → Text → Check
free_category_name rows group name = nobody (least_where (is_category_named rows group name) (map.entries rows.categories))

-- the group and the name of a category, as its row says
abbrev pub group_of : Rows → Text → Option Text
group_of rows id = option_and_then (λ (c : CategoryRow). c.cat_group) (map.get rows.categories id)

abbrev pub name_of : Rows → Text → Option Text
name_of rows id = option_and_then (λ (c : CategoryRow). c.name) (map.get rows.categories id)

-- ---- numbers

abbrev pub a_day : ℕ → Check
a_day n = must (is_day n) (BadDate n)

abbrev pub a_month : ℕ → Check
a_month n = must (is_month n) (BadMonth n)

-- an amount that a value may hold
abbrev pub is_amount : ℤ → Bool
is_amount z = nat_le (unsigned_abs z) largest_number

abbrev pub an_amount : ℤ → Check
an_amount z = must (is_amount z) (BadAmount z)

-- one that is not negative
abbrev pub is_held : ℤ → Bool
is_held (pos n) = nat_le n largest_number
is_held (negsuc n) = false

abbrev pub a_held : ℤ → Check
a_held z = must (is_held z) (BadAmount z)
