-- What plain edits ask for, and how they are refused.
use Rattle.std.specs.Prelude.{◌≡◌, ◌&&◌, ◌++◌, ◌∷◌, [], ℕ, ℤ, pos, negsuc, ◌+ℤ◌, ◌-ℤ◌, unsigned_abs, nat_le, not, Bool, List, length, map as list_map, Option, None, Some, is_some, Result, Ok, Err, if◌then◌else◌}
use Rattle.std.specs.Option.{is_none, option_map, option_and_then}
use Rattle.std.specs.Result.{is_err}
use Rattle.std.specs.Ordering.{int_eq, eq_by_cmp}
use Rattle.std.specs.FinMap as map
use Rattle.field_values.specs.declared.name.NamePart.TheVariants.{Row}
use Rattle.field_values.specs.Names.{field_of, name_fault, names_fault}
use Rattle.field_values.specs.Value.{largest_number}
use Rattle.hybrid_clock.specs.Reading.{read_stamp}
use Rattle.finite_sums.specs.Maps.{Text, text_cmp, some_and}
use Rattle.book_rows.specs.declared.rows.Rows.{Rows}
use Rattle.book_rows.specs.declared.rows.CategoryRow.{CategoryRow}
use Rattle.book_rows.specs.declared.fault.EditFault.{EditFault}
use Rattle.book_rows.specs.declared.fault.EditFault.TheVariants.{BadId, IdTaken, NoSuchAccount, NoSuchGroup, NoSuchCategory, NoSuchPayee, BadDate, BadAmount, BadMonth, SameAccount, ClosedAccount, IncomeCategory, CategoryType, TransferPayee}
use Rattle.book_rows.specs.Balances.{balance_of}
use Rattle.book_rows.specs.Ids.{budget_id}
use Rattle.book_rows.specs.Kinds.{is_day}
use Rattle.book_rows.specs.Live.{is_live_account, is_live_group, is_live_payee, is_live_category, is_income_category}
use Rattle.book_rows.specs.Months.{is_month}
use Rattle.book_edits.specs.declared.edit.BookEdit.{BookEdit}
use Rattle.book_edits.specs.declared.edit.BookEdit.TheVariants.{Set, AccountAdd, AccountRename, AccountOffbudget, AccountReopen, AccountClose, GroupAdd, GroupRename, GroupDelete, CategoryAdd, CategoryRename, CategoryMove, CategoryDelete, CategoryDeleteTo, PayeeAdd, PayeeRename, PayeeDelete, PayeeMerge, TxAdd, Budget, Carryover, Hold, Move, Track, TrackCarryover, Note}
use Rattle.book_edits.specs.declared.gains.Gain.{Gain}
use Rattle.book_edits.specs.Checks.{same_flag, free_group_name, free_category_name}
use Rattle.book_edits.specs.Edits.{bad_id, book_writes}
use Rattle.book_edits.specs.Mappings.{gains}
use Rattle.book_laws.specs.Leaving.{budget_row}

-- a fault, unless this is so
abbrev pub unless : Bool → EditFault → Option EditFault
unless so fault = if so then None else Some fault

-- the fault with which something is refused
abbrev pub fault_of : {A : Type 0} → Result A EditFault → Option EditFault
fault_of (Ok value) = None
fault_of (Err fault) = Some fault

-- the first fault of some
abbrev pub first_fault : List (Option EditFault) → Option EditFault
first_fault [] = None
first_fault (None ∷ others) = first_fault others
first_fault (Some fault ∷ others) = Some fault

-- the name of a row
abbrev pub named : Text → Option EditFault
named id = unless (is_none (name_fault Row id)) (BadId id)

-- an id that is given for a new row is a name of at most 64 bytes that no timestamp has as its text, and of which there is no row
abbrev pub new : (Text → Bool) → Option Text → List (Option EditFault)
new there None = []
new there (Some id) = unless (is_none (name_fault Row id) && (nat_le (length id) 64 && is_err (read_stamp id))) (BadId id) ∷ unless (not (there id)) (IdTaken id) ∷ []

-- rows that are live
abbrev pub account : Rows → Text → Option EditFault
account rows id = unless (is_live_account rows id) (NoSuchAccount id)

abbrev pub group : Rows → Text → Option EditFault
group rows id = unless (is_live_group rows id) (NoSuchGroup id)

abbrev pub category : Rows → Text → Option EditFault
category rows id = unless (is_live_category rows id) (NoSuchCategory id)

abbrev pub payee : Rows → Text → Option EditFault
payee rows id = unless (is_live_payee rows id) (NoSuchPayee id)

-- a category that takes no income
abbrev pub expense : Rows → Text → Option EditFault
expense rows id = unless (not (is_income_category rows id)) (IncomeCategory id)

-- two categories that both take income, or neither does
abbrev pub one_kind : Rows → Text → Text → Option EditFault
one_kind rows id to = unless (same_flag (is_income_category rows id) (is_income_category rows to)) (CategoryType to)

-- a payee that stands for no account
abbrev pub no_account : Rows → Text → Option EditFault
no_account rows id = unless (not (some_and (λ p. is_some p.transfer_acct) (map.get rows.payees id))) (TransferPayee id)

-- two ids that differ
abbrev pub apart : Text → Text → Option EditFault
apart a b = unless (not (eq_by_cmp text_cmp a b)) (SameAccount a)

-- numbers: a day, a month, an amount that a value may hold
abbrev pub day : ℕ → Option EditFault
day n = unless (is_day n) (BadDate n)

abbrev pub month_number : ℕ → Option EditFault
month_number n = unless (is_month n) (BadMonth n)

abbrev pub amount_number : ℤ → Option EditFault
amount_number z = unless (nat_le (unsigned_abs z) largest_number) (BadAmount z)

-- what an edit asks for, in this order, and the fault that is told where it isn't so
abbrev pub asked : Rows → BookEdit → List (Option EditFault)
asked rows (Set dataset row column value) = option_map (bad_id (field_of dataset row column)) (names_fault (field_of dataset row column)) ∷ []
asked rows (AccountAdd id name off) = new (λ q. is_some (map.get rows.accounts q)) id
asked rows (AccountRename id name) = account rows id ∷ []
asked rows (AccountOffbudget id off) = account rows id ∷ []
asked rows (AccountReopen id) = account rows id ∷ []
asked rows (AccountClose id) = account rows id ∷ unless (int_eq (balance_of rows id) (pos 0)) (ClosedAccount (balance_of rows id)) ∷ []
asked rows (GroupAdd id name income) = new (λ q. is_some (map.get rows.groups q)) id ++ fault_of (free_group_name rows name) ∷ []
asked rows (GroupRename id name) = group rows id ∷ fault_of (free_group_name rows name) ∷ []
asked rows (GroupDelete id) = group rows id ∷ []
asked rows (CategoryAdd id into name) = new (λ q. is_some (map.get rows.categories q)) id ++ group rows into ∷ fault_of (free_category_name rows into name) ∷ []
-- a name is free in the group in which the category stands, or to which it moves
asked rows (CategoryRename id name) = category rows id ∷ option_and_then (λ (c : CategoryRow). option_and_then (λ own. fault_of (free_category_name rows own name)) c.cat_group) (map.get rows.categories id) ∷ []
asked rows (CategoryMove id into) =
    category rows id ∷ group rows into ∷ option_and_then (λ (c : CategoryRow). option_and_then (λ own. fault_of (free_category_name rows into own)) c.name) (map.get rows.categories id) ∷ []
asked rows (CategoryDelete id) = category rows id ∷ []
-- a value has to hold each amount that the other category is given then, and its rows need names
asked rows (CategoryDeleteTo id to) =
    category rows id
    ∷ category rows to
    ∷ apart id to
    ∷ one_kind rows id to
    ∷ (list_map (λ (g : Gain). amount_number g.amount) (gains rows id to) ++ list_map (λ (g : Gain). named (budget_id to g.month)) (gains rows id to))
asked rows (PayeeAdd id name) = new (λ q. is_some (map.get rows.payees q)) id
asked rows (PayeeRename id name) = payee rows id ∷ []
asked rows (PayeeDelete id) = payee rows id ∷ []
asked rows (PayeeMerge to ids) = payee rows to ∷ (list_map (payee rows) ids ++ (list_map (apart to) ids ++ no_account rows to ∷ list_map (no_account rows) ids))
asked rows (TxAdd id own date amount to of notes) =
    new (λ q. is_some (map.get rows.txs q)) id ++ account rows own ∷ day date ∷ amount_number amount ∷ option_and_then (payee rows) to ∷ option_and_then (category rows) of ∷ []
asked rows (Budget month id amount) = month_number month ∷ category rows id ∷ expense rows id ∷ amount_number amount ∷ named (budget_id id month) ∷ []
asked rows (Carryover month id carries) = month_number month ∷ category rows id ∷ expense rows id ∷ named (budget_id id month) ∷ []
asked rows (Hold month (pos cents)) = month_number month ∷ amount_number (pos cents) ∷ []
asked rows (Hold month (negsuc cents)) = month_number month ∷ Some (BadAmount (negsuc cents)) ∷ []
asked rows (Move month from to amount) =
    month_number month
    ∷ category rows from
    ∷ category rows to
    ∷ expense rows from
    ∷ expense rows to
    ∷ apart from to
    ∷ amount_number amount
    ∷ amount_number ((budget_row rows from month).amount -ℤ amount)
    ∷ amount_number ((budget_row rows to month).amount +ℤ amount)
    ∷ named (budget_id from month)
    ∷ named (budget_id to month)
    ∷ []
asked rows (Track month id amount) = month_number month ∷ category rows id ∷ amount_number amount ∷ named (budget_id id month) ∷ []
asked rows (TrackCarryover month id carries) = month_number month ∷ category rows id ∷ named (budget_id id month) ∷ []
asked rows (Note id text) = named id ∷ []

-- a plain edit is refused with the first fault of what it asks for, and accepted where there is none
abbrev pub PlainEditsAreJudged : Type 0
PlainEditsAreJudged = (rows : Rows) (edit : BookEdit) → fault_of (book_writes rows edit) ≡ first_fault (asked rows edit)
