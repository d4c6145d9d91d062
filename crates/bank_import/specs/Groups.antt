-- Candidates by a key.
use Rattle.std.specs.Prelude.{◌≡◌, ℕ, ◌&&◌, ℤ, List, [], Option, Some, None, filter}
use Rattle.std.specs.declared.cmp.Ordering.{Ordering}
use Rattle.std.specs.Ordering.{int_cmp, int_eq, nat_cmp, ordering_then}
use Rattle.std.specs.BTreeMap as tree
use Rattle.std.specs.BTreeMap.{BTreeMap}
use Rattle.std.specs.Global.{Vec}
use Rattle.finite_sums.specs.Maps.{Text, text_cmp}
use Rattle.bank_import.specs.Matching.{are_same}
use Rattle.bank_import.specs.Spans.{reaches, span}
use Rattle.bank_import.specs.declared.facts.Candidate.{Candidate}

abbrev pub items_of : Option (Vec Candidate) → List Candidate
items_of None = []
items_of (Some v) = v.items

abbrev pub group : {K : Type 0} → (K → K → Ordering) → BTreeMap K (Vec Candidate) → K → List Candidate
group cmp m k = items_of (tree.get cmp m k)

-- those with this id of a statement
abbrev pub with_id : Text → List Candidate → List Candidate
with_id k cs = filter (λ c. are_same c.financial_id (Some k)) cs

-- those of this amount whose day is at most seven from one of a span
abbrev pub of_span : ℤ → ℕ → List Candidate → List Candidate
of_span amount at cs = filter (λ c. int_eq c.amount amount && reaches c.day at) cs

abbrev pub AreById : BTreeMap Text (Vec Candidate) → List Candidate → Type 0
AreById m cs = (k : Text) → group text_cmp m k ≡ with_id k cs

-- amounts, and spans of days
abbrev pub SpanKey : Type 0
SpanKey = ℤ × ℕ

abbrev pub span_cmp : SpanKey → SpanKey → Ordering
span_cmp x y = ordering_then (int_cmp x.0 y.0) (nat_cmp x.1 y.1)

abbrev pub AreBySpan : BTreeMap SpanKey (Vec Candidate) → List Candidate → Type 0
AreBySpan m cs = (amount : ℤ) (at : ℕ) → group span_cmp m (amount, at) ≡ of_span amount at cs

-- of all, those of a record's amount whose day is at most seven from one of the span of the record's day; none, where the record has no day
abbrev pub near_in : ℤ → Option ℤ → List Candidate → List Candidate
near_in amount None cs = []
near_in amount (Some day) cs = of_span amount (span day) cs
