-- What records ask of a transaction that is to match one of them.
use Rattle.std.specs.Prelude.{◌≡◌, ℤ, Bool, false, ◌||◌, List, Option, None, Some, if◌then◌else◌}
use Rattle.std.specs.List.{list_any}
use Rattle.std.specs.Option.{option_and_then}
use Rattle.std.specs.Ordering.{int_cmp, int_eq}
use Rattle.std.specs.BTreeSet as set
use Rattle.std.specs.BTreeSet.{BTreeSet}
use Rattle.finite_sums.specs.Maps.{Text, text_cmp}
use Rattle.book_rows.specs.declared.rows.Rows.{Rows}
use Rattle.bank_import.specs.Matching.{are_same, candidate_at}
use Rattle.bank_import.specs.declared.facts.Facts.{Facts}
use Rattle.bank_import.specs.declared.facts.Candidate.{Candidate}

-- one of the records has the amount
abbrev pub has_amount : List Facts → ℤ → Bool
has_amount rs amount = list_any (λ r. int_eq r.amount amount) rs

-- one of them has the id of a statement
abbrev pub has_id : List Facts → Text → Bool
has_id rs id = list_any (λ r. are_same r.financial_id (Some id)) rs

-- the amounts and the ids of records
pub record AreAsked (amounts : BTreeSet ℤ) (ids : BTreeSet Text) (rs : List Facts) : Type 0 where
  pub has_amounts : (amount : ℤ) → set.contains int_cmp amounts amount ≡ has_amount rs amount
  pub has_ids : (id : Text) → set.contains text_cmp ids id ≡ has_id rs id

-- it is one of these ids
abbrev pub has_asked_id : BTreeSet Text → Option Text → Bool
has_asked_id ids None = false
has_asked_id ids (Some id) = set.contains text_cmp ids id

-- the amount is one of these, or the id is
abbrev pub is_asked : BTreeSet ℤ → BTreeSet Text → ℤ → Option Text → Bool
is_asked amounts ids amount id = set.contains int_cmp amounts amount || has_asked_id ids id

-- the candidate, where its amount or its id is asked for
abbrev pub asked_one : BTreeSet ℤ → BTreeSet Text → Candidate → Option Candidate
asked_one amounts ids c = if is_asked amounts ids c.amount c.financial_id then Some c else None

-- the transaction of an id, where it is a candidate and has one of these
abbrev pub asked_at : Rows → BTreeSet ℤ → BTreeSet Text → Text → Option Candidate
asked_at rows amounts ids id = option_and_then (asked_one amounts ids) (candidate_at rows id)
