-- The transactions of an account, in the order of their days, and the lines that tell them.
use Rattle.std.specs.Prelude.{ℕ, List, [], ◌∷◌, ◌++◌, map as list_map, codes, Option, None, Some, if◌then◌else◌}
use Rattle.std.specs.List.{flat_map}
use Rattle.std.specs.Fmt.{decimal, signed_decimal}
use Rattle.std.specs.FinMap as map
use Rattle.std.specs.BTreeMap.{insert_entry}
use Rattle.finite_sums.specs.Maps.{Text}
use Rattle.field_merge.specs.Escapes.{escaped}
use Rattle.book_rows.specs.declared.rows.Rows.{Rows}
use Rattle.book_rows.specs.declared.rows.TxRow.{TxRow}
use Rattle.book_rows.specs.Live.{is_live_tx, category_of, payee_of}
use Rattle.book_rows.specs.Parts.{account_txs}
use Rattle.book_rows.specs.Book.{dated_cmp}

-- a day, or a hyphen for none
abbrev pub day_text : Option ℕ → Text
day_text None = codes "-"
day_text (Some day) = decimal day

-- an id, escaped, or a hyphen for none
abbrev pub shown_id : Option Text → Text
shown_id None = codes "-"
shown_id (Some id) = escaped id

-- the line of a transaction: its id, day, amount, category and payee, with a TAB between them
abbrev pub register_line : Rows → Text → TxRow → Text
register_line rows id x =
    id ++ 9 ∷ day_text x.date ++ 9 ∷ signed_decimal x.amount ++ 9 ∷ shown_id (category_of rows x) ++ 9 ∷ shown_id (payee_of rows x)

-- the day by which a transaction stands in a register: one without a day stands before all others
abbrev pub day_or_first : Option ℕ → ℕ
day_or_first None = 0
day_or_first (Some day) = day

-- a day and an id, by which the lines of a register are ordered, and a line
abbrev pub Entry : Type 0
Entry = (ℕ × Text) × Text

-- the entry of the transaction of an id, if it is live
abbrev pub entry_of_row : Rows → Text → Option TxRow → List Entry
entry_of_row rows id None = []
entry_of_row rows id (Some x) = if is_live_tx rows x then ((day_or_first x.date, id), register_line rows id x) ∷ [] else []

abbrev pub entry_of : Rows → Text → List Entry
entry_of rows id = entry_of_row rows id (map.get rows.txs id)

-- each entry put in its place among those that are placed already
abbrev pub placed : List Entry → List Entry → List Entry
placed [] done = done
placed (e ∷ es) done = placed es (insert_entry dated_cmp done e.0 e.1)

-- the live transactions of an account, by day and id
abbrev pub register_of : Rows → Text → List Entry
register_of rows account = placed (flat_map (entry_of rows) (account_txs rows account)) []

-- the lines of a register
abbrev pub register_lines : Rows → Text → List Text
register_lines rows account = list_map (λ e. e.1) (register_of rows account)
