-- What is asked of an edit of a transaction. A check that fails tells a fault.
use Rattle.std.specs.Prelude.{ℤ, pos, ◌-ℤ◌, Bool, not, Option, None, Some, ok_or, Result, Ok, if◌then◌else◌}
use Rattle.std.specs.Option.{is_none}
use Rattle.std.specs.Ordering.{int_eq}
use Rattle.std.specs.FinMap as map
use Rattle.finite_sums.specs.Maps.{Text, some_and}
use Rattle.book_rows.specs.declared.rows.Rows.{Rows}
use Rattle.book_rows.specs.declared.rows.TxRow.{TxRow}
use Rattle.book_rows.specs.declared.fault.EditFault.{EditFault}
use Rattle.book_rows.specs.declared.fault.EditFault.TheVariants.{NoSuchTransaction, NoSuchSchedule, IsChild, IsTransferPart, SplitSum}
use Rattle.book_rows.specs.Live.{is_live_schedule}
use Rattle.book_edits.specs.Faults.{◌>>=◌, Check, must}
use Rattle.book_edits.specs.Checks.{live_category, same_flag}
use Rattle.split_transfer.specs.Pairs.{live_row, partner_of, parts_sum}

-- a transaction that is live
abbrev pub live_tx : Rows → Text → Result TxRow EditFault
live_tx rows id = ok_or (live_row rows id) (NoSuchTransaction id)

-- a schedule that is live
abbrev pub live_schedule : Rows → Text → Check
live_schedule rows id = must (is_live_schedule rows id) (NoSuchSchedule id)

-- no part of a split
abbrev pub no_child : Text → TxRow → Check
no_child id x = must (not x.is_child) (IsChild id)

-- not split itself
abbrev pub no_parent : Text → TxRow → Check
no_parent id x = must (not x.is_parent) (IsChild id)

-- no part of a pair
abbrev pub no_pair : Rows → Text → TxRow → Check
no_pair rows id x = must (is_none (partner_of rows id x)) (IsTransferPart id)

-- ---- categories

-- the account is there and stands outside the budget
abbrev pub is_off : Rows → Option Text → Bool
is_off rows account = some_and (λ id. some_and (λ a. a.offbudget) (map.get rows.accounts id)) account

-- the other transaction is there, and the accounts of both stand outside the budget, or neither does
abbrev pub is_beside : Rows → TxRow → Text → Bool
is_beside rows x other = some_and (λ (y : TxRow). same_flag (is_off rows x.acct) (is_off rows y.acct)) (map.get rows.txs other)

-- no part of a pair that moves nothing into the budget or out of it
abbrev pub no_even_pair : Rows → Text → TxRow → Check
no_even_pair rows id x = must (not (some_and (is_beside rows x) (partner_of rows id x))) (IsTransferPart id)

-- a category that the transaction may have. It may always have none
abbrev pub takes_category : Rows → Text → TxRow → Option Text → Check
takes_category rows id x None = Ok tt
takes_category rows id x (Some category) = do
  _ ← no_parent id x
  _ ← no_even_pair rows id x
  live_category rows category

-- ---- amounts

-- what is left of an amount, which has to be 0
abbrev pub no_rest : ℤ → Check
no_rest rest = must (int_eq rest (pos 0)) (SplitSum rest)

-- the amount of a transaction, which is that of its parts where it is split
abbrev pub stays_even : Rows → Text → TxRow → ℤ → Check
stays_even rows id x amount = if x.is_parent then no_rest (amount -ℤ parts_sum rows id) else Ok tt
