-- Which transaction each record of a statement matches.
use Rattle.std.specs.Prelude.{ℕ, nat_lt, nat_le, Bool, true, false, ◌&&◌, not, ℤ, ◌-ℤ◌, unsigned_abs, List, [], ◌∷◌, Option, Some, None, is_some, if◌then◌else◌, map, filter_map}
use Rattle.std.specs.List.{list_any}
use Rattle.std.specs.Option.{option_map, option_and_then}
use Rattle.std.specs.Ordering.{int_eq}
use Rattle.finite_sums.specs.Maps.{Text}
use Rattle.book_rows.specs.declared.rows.Rows.{Rows}
use Rattle.book_rows.specs.declared.rows.TxRow.{TxRow}
use Rattle.book_rows.specs.Live.{payee_of}
use Rattle.book_rows.specs.Parts.{account_txs}
use Rattle.book_edits.specs.Checks.{same_id}
use Rattle.split_transfer.specs.Pairs.{live_row}
use Rattle.rule_engine.specs.Days.{numbered}
use Rattle.bank_import.specs.declared.facts.Facts.{Facts}
use Rattle.bank_import.specs.declared.facts.Candidate.{Candidate}
use Rattle.bank_import.specs.declared.facts.Pass.{Pass}
use Rattle.bank_import.specs.declared.facts.Pass.TheVariants.{ById, ByPayee, ByAmount}

-- ---- what is compared

-- the number of its day
abbrev pub day_of : TxRow → Option ℤ
day_of x = option_and_then numbered x.date

-- its payee is the one that its own stands for
abbrev pub facts_of : Rows → TxRow → Facts
facts_of rows x = record { day = day_of x; amount = x.amount; payee = payee_of rows x; financial_id = x.financial_id }

-- both are there and equal
abbrev pub are_same : Option Text → Option Text → Bool
are_same None b = false
are_same (Some a) None = false
are_same (Some a) (Some b) = same_id a b

-- how many days two are apart: where one is not there, more than any two are that a book may have
abbrev pub days_apart : Option ℤ → Option ℤ → ℕ
days_apart None b = 4_294_967_296
days_apart (Some a) None = 4_294_967_296
days_apart (Some a) (Some b) = unsigned_abs (a -ℤ b)

abbrev pub distance : Facts → Candidate → ℕ
distance r c = days_apart r.day c.day

-- the amount is the same, they are at most seven days apart, and not both have an id of a statement
abbrev pub is_near : Facts → Candidate → Bool
is_near r c = int_eq r.amount c.amount && nat_le (distance r c) 7 && not (is_some r.financial_id && is_some c.financial_id)

-- a record and a transaction agree as a pass asks
abbrev pub meets : Pass → Facts → Candidate → Bool
meets ById r c = are_same r.financial_id c.financial_id
meets ByPayee r c = is_near r c && are_same r.payee c.payee
meets ByAmount r c = is_near r c

-- ---- candidates

abbrev pub candidate_of : Rows → Text → TxRow → Candidate
candidate_of rows id x = record { id = id; day = day_of x; amount = x.amount; payee = payee_of rows x; financial_id = x.financial_id }

abbrev pub candidate_in : Rows → Text → TxRow → Option Candidate
candidate_in rows id x = if x.is_child then None else Some (candidate_of rows id x)

-- the transaction of an id, where it is live and no part of a split
abbrev pub candidate_at : Rows → Text → Option Candidate
candidate_at rows id = option_and_then (candidate_in rows id) (live_row rows id)

-- the transactions of an account that a record may match, in the order of their ids
unfoldable pub candidates : Rows → Text → List Candidate
candidates rows account = filter_map (candidate_at rows) (account_txs rows account)

-- ---- one record

abbrev pub is_nearer : Facts → Option Candidate → Candidate → Bool
is_nearer r None c = true
is_nearer r (Some best) c = nat_lt (distance r c) (distance r best)

-- of those that pass a test the nearest, and of equally near ones the first
abbrev pub nearest : Facts → (Candidate → Bool) → Option Candidate → List Candidate → Option Candidate
nearest r can best [] = best
nearest r can best (c ∷ cs) = nearest r can (if can c && is_nearer r best c then Some c else best) cs

-- the candidate agrees, and nobody took it
abbrev pub is_open : Pass → Facts → (Text → Bool) → Candidate → Bool
is_open p r taken c = meets p r c && not (taken c.id)

-- the transaction that a record takes in a pass
abbrev pub turn : Pass → Facts → (Text → Bool) → List Candidate → Option Candidate
turn p r taken cs = nearest r (is_open p r taken) None cs

abbrev pub id_of : Option Candidate → Option Text
id_of o = option_map (λ c. c.id) o

abbrev pub with_taken : Option Text → (Text → Bool) → Text → Bool
with_taken None taken q = taken q
with_taken (Some id) taken q = if same_id id q then true else taken q

-- ---- all records

-- one pass over the records, in order: those that have a match keep it
abbrev pub run_pass : Pass → List Candidate → (Text → Bool) → List Facts → List (Option Text) → List (Option Text)
run_pass p cs taken [] ms = []
run_pass p cs taken (r ∷ rs) [] = []
run_pass p cs taken (r ∷ rs) (Some m ∷ ms) = Some m ∷ run_pass p cs taken rs ms
run_pass p cs taken (r ∷ rs) (None ∷ ms) = id_of (turn p r taken cs) ∷ run_pass p cs (with_taken (id_of (turn p r taken cs)) taken) rs ms

-- the ids that are matched
abbrev pub somes : List (Option Text) → List Text
somes [] = []
somes (None ∷ ms) = somes ms
somes (Some m ∷ ms) = m ∷ somes ms

abbrev pub is_among : List Text → Text → Bool
is_among ids q = list_any (λ id. same_id id q) ids

-- one pass more
abbrev pub next_pass : Pass → List Candidate → List Facts → List (Option Text) → List (Option Text)
next_pass p cs rs ms = run_pass p cs (is_among (somes ms)) rs ms

abbrev pub no_match : List Facts → List (Option Text)
no_match rs = map (λ r. None) rs

-- for each record the candidate that it matches: first by the id, then by the payee, then by the amount alone
abbrev pub matched_among : List Candidate → List Facts → List (Option Text)
matched_among cs rs = next_pass ByAmount cs rs (next_pass ByPayee cs rs (next_pass ById cs rs (no_match rs)))

-- for each record, as the transaction that it makes, the transaction of the account that it matches
unfoldable pub matched : Rows → Text → List TxRow → List (Option Text)
matched rows account xs = matched_among (candidates rows account) (map (facts_of rows) xs)
