-- Writes that leave pairs and splits right, by dataset and column.
use Rattle.std.proofs.Common.{◌≡◌, Bool, true, false, List, [], ◌∷◌, ◌++◌, None, refl, codes}
use Rattle.std.specs.Prelude.{flat_map, if◌then◌else◌}
use Rattle.std.specs.FinMap.{get}
use Rattle.book_rows.specs.declared.column.Column.TheVariants as of
use Rattle.book_rows.specs.declared.column.Dataset.TheVariants.{Rules, Schedules, Payees}
use Rattle.book_rows.specs.declared.rows.Rows.{Rows}
use Rattle.book_rows.specs.declared.write.RowName.{RowName}
use Rattle.book_rows.specs.declared.write.WriteValue.{WriteValue}
use Rattle.book_rows.specs.declared.write.Write.{Write}
use Rattle.book_rows.specs.Columns.{column_name}
use Rattle.book_edits.proofs.Valid.{all_append}
use Rattle.split_transfer.specs.After.{Ids, row_of}
use Rattle.split_transfer.proofs.Columns.{TxColumn, Acct, Date, Amount, Description, Category, Notes, Cleared, Schedule}
use Rattle.split_transfer.proofs.Elsewhere.{IsOther}
use Rattle.kept_pairs.proofs.Harmless.{IsPlain, IsLoose, IsHarmless, AreHarmless, into_any, into_new}

-- ---- other datasets

pub rules : IsOther (codes "rules")
rules = record { dataset = Rules; named = refl; other = λ id c v r. refl }

pub schedules : IsOther (codes "schedules")
schedules = record { dataset = Schedules; named = refl; other = λ id c v r. refl }

pub payees : IsOther (codes "payees")
payees = record { dataset = Payees; named = refl; other = λ id c v r. refl }

-- ---- columns of transactions

abbrev pub Imported : TxColumn
Imported = (of.ImportedDescription, refl)

abbrev pub Financial : TxColumn
Financial = (of.FinancialId, refl)

pub account : IsPlain Acct
account = record { same = λ v x. record { transferred = refl; child = refl; parent = refl; dead = refl; split = refl; amount = refl; day = refl } }

pub payee : IsPlain Description
payee = record { same = λ v x. record { transferred = refl; child = refl; parent = refl; dead = refl; split = refl; amount = refl; day = refl } }

pub category : IsPlain Category
category = record { same = λ v x. record { transferred = refl; child = refl; parent = refl; dead = refl; split = refl; amount = refl; day = refl } }

pub notes : IsPlain Notes
notes = record { same = λ v x. record { transferred = refl; child = refl; parent = refl; dead = refl; split = refl; amount = refl; day = refl } }

pub cleared : IsPlain Cleared
cleared = record { same = λ v x. record { transferred = refl; child = refl; parent = refl; dead = refl; split = refl; amount = refl; day = refl } }

pub schedule : IsPlain Schedule
schedule = record { same = λ v x. record { transferred = refl; child = refl; parent = refl; dead = refl; split = refl; amount = refl; day = refl } }

pub imported : IsPlain Imported
imported = record { same = λ v x. record { transferred = refl; child = refl; parent = refl; dead = refl; split = refl; amount = refl; day = refl } }

pub financial : IsPlain Financial
financial = record { same = λ v x. record { transferred = refl; child = refl; parent = refl; dead = refl; split = refl; amount = refl; day = refl } }

pub day : IsLoose Date
day = record { alone = λ v x a. record { transferred = a.transferred; child = a.child; split = a.split } }

pub amount : IsLoose Amount
amount = record { alone = λ v x a. record { transferred = a.transferred; child = a.child; split = a.split } }

-- the write of a value into a column of a transaction
abbrev pub into : RowName → TxColumn → WriteValue → Write
into row c value = record { dataset = codes "transactions"; row = row; column = column_name c.0; value = value }

pub tx_plain : (ids : Ids) (r : Rows) (row : RowName) (c : TxColumn) (value : WriteValue) → IsPlain c → IsHarmless ids r (into row c value)
tx_plain ids r row c value plain = into_any ids r (record { row = row; column = c; value = value }) plain

pub tx_new : (ids : Ids) (r : Rows) (row : RowName) (c : TxColumn) (value : WriteValue) → IsLoose c → get r.txs (row_of ids row) ≡ None → IsHarmless ids r (into row c value)
tx_new ids r row c value loose none = into_new ids r (record { row = row; column = c; value = value }) loose none

-- ---- lists

pub both : (ids : Ids) (r : Rows) (ws vs : List Write) → AreHarmless ids r ws → AreHarmless ids r vs → AreHarmless ids r (ws ++ vs)
both ids r ws vs h k = all_append (IsHarmless ids r) ws vs h k

-- a write that may be left out
pub unless : (ids : Ids) (r : Rows) (b : Bool) (w : Write) → IsHarmless ids r w → AreHarmless ids r (if b then [] else w ∷ [])
unless ids r true w h = tt
unless ids r false w h = (h, tt)

pub each_of : {A : Type 0} (ids : Ids) (r : Rows) (f : A → List Write) (as_ : List A) → ((a : A) → AreHarmless ids r (f a)) → AreHarmless ids r (flat_map f as_)
each_of ids r f [] h = tt
each_of ids r f (a ∷ rest) h = both ids r (f a) (flat_map f rest) (h a) (each_of ids r f rest h)
