-- What edits of transactions ask for, and how they are refused.
use Rattle.std.specs.Prelude.{◌≡◌, ◌++◌, ◌∷◌, [], ℤ, pos, ◌-ℤ◌, not, List, map as list_map, Option, None, Some, if◌then◌else◌}
use Rattle.std.specs.Option.{is_none, option_and_then}
use Rattle.std.specs.Ordering.{int_eq, eq_by_cmp}
use Rattle.std.specs.FinMap as map
use Rattle.finite_sums.specs.Sums.{total}
use Rattle.finite_sums.specs.Maps.{Text, text_cmp, some_and}
use Rattle.book_rows.specs.declared.rows.Rows.{Rows}
use Rattle.book_rows.specs.declared.rows.TxRow.{TxRow}
use Rattle.book_rows.specs.declared.fault.EditFault.{EditFault}
use Rattle.book_rows.specs.declared.fault.EditFault.TheVariants.{NoSuchTransaction, NoSuchSchedule, IsChild, IsTransferPart, SameAccount, SplitSum}
use Rattle.book_rows.specs.Live.{is_live_tx, is_live_schedule}
use Rattle.split_transfer.specs.declared.edit.PairEdit.{PairEdit}
use Rattle.split_transfer.specs.declared.edit.PairEdit.TheVariants.{TxSet, TxDelete, Split, Transfer}
use Rattle.split_transfer.specs.declared.edit.SplitPart.{SplitPart}
use Rattle.split_transfer.specs.declared.edit.TxChange.{TxChange}
use Rattle.split_transfer.specs.declared.edit.TxChange.TheVariants.{Date, Amount, Account, Payee, Category, Notes, Cleared, Schedule}
use Rattle.split_transfer.specs.Pairs.{partner_of, parts_sum}
use Rattle.split_transfer.specs.Checks.{is_beside}
use Rattle.split_transfer.specs.Edits.{pair_writes}
use Rattle.book_laws.specs.Asking.{unless, fault_of, first_fault, account, payee, category, day, amount_number}

-- a transaction that is live, and what is asked of it
abbrev pub where_live : Rows → Text → (TxRow → List (Option EditFault)) → Option TxRow → List (Option EditFault)
where_live rows id more None = Some (NoSuchTransaction id) ∷ []
where_live rows id more (Some x) = if is_live_tx rows x then more x else Some (NoSuchTransaction id) ∷ []

-- one that is no part of a split
abbrev pub whole : Text → TxRow → Option EditFault
whole id x = unless (not x.is_child) (IsChild id)

-- and no part of a pair
abbrev pub single : Rows → Text → TxRow → Option EditFault
single rows id x = unless (is_none (partner_of rows id x)) (IsTransferPart id)

-- a category for one that is not split, and in no pair of two accounts in the budget, or of two outside
abbrev pub its_category : Rows → Text → TxRow → Option Text → List (Option EditFault)
its_category rows id x None = []
its_category rows id x (Some own) = unless (not x.is_parent) (IsChild id) ∷ unless (not (some_and (is_beside rows x) (partner_of rows id x))) (IsTransferPart id) ∷ category rows own ∷ []

-- nothing is left of an amount
abbrev pub no_rest : ℤ → Option EditFault
no_rest rest = unless (int_eq rest (pos 0)) (SplitSum rest)

-- the amount of one that is split is that of its parts
abbrev pub even : Rows → Text → TxRow → ℤ → Option EditFault
even rows id x z = if x.is_parent then no_rest (z -ℤ parts_sum rows id) else None

-- what a change asks for of the transaction, in this order
abbrev pub asked_of : Rows → Text → TxChange → TxRow → List (Option EditFault)
asked_of rows id (Date date) x = whole id x ∷ day date ∷ []
asked_of rows id (Amount z) x = whole id x ∷ amount_number z ∷ even rows id x z ∷ []
asked_of rows id (Account own) x = whole id x ∷ single rows id x ∷ account rows own ∷ []
asked_of rows id (Payee to) x = whole id x ∷ single rows id x ∷ option_and_then (payee rows) to ∷ []
asked_of rows id (Category of) x = its_category rows id x of
asked_of rows id (Notes text) x = []
asked_of rows id (Cleared set) x = []
asked_of rows id (Schedule by) x = option_and_then (λ q. unless (is_live_schedule rows q) (NoSuchSchedule q)) by ∷ []

-- what an edit asks for, in this order
abbrev pub asked_for : Rows → PairEdit → List (Option EditFault)
asked_for rows (TxSet id change) = where_live rows id (asked_of rows id change) (map.get rows.txs id)
asked_for rows (TxDelete id) = where_live rows id (λ x. whole id x ∷ []) (map.get rows.txs id)
asked_for rows (Split id parts) = where_live rows id (λ x.
    whole id x ∷ single rows id x
    ∷ (list_map (λ (p : SplitPart). amount_number p.amount) parts
    ++ (list_map (λ (p : SplitPart). option_and_then (category rows) p.category) parts
    ++ no_rest (x.amount -ℤ total (λ (p : SplitPart). p.amount) parts) ∷ []))) (map.get rows.txs id)
asked_for rows (Transfer from to date z notes) = account rows from ∷ account rows to ∷ unless (not (eq_by_cmp text_cmp from to)) (SameAccount from) ∷ day date ∷ amount_number z ∷ []

-- an edit of transactions is refused with the first fault of what it asks for, and accepted where there is none
abbrev pub PairEditsAreJudged : Type 0
PairEditsAreJudged = (rows : Rows) (edit : PairEdit) → fault_of (pair_writes rows edit) ≡ first_fault (asked_for rows edit)
