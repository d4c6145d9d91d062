-- A second import of a statement, with nothing between.
use Rattle.std.specs.Prelude.{◌≡◌, ℕ, ℤ, ◌<◌, false, List, Option, Some, None, length, map, ◌⊎◌}
use Rattle.std.specs.List.{slice_get}
use Rattle.std.specs.declared.cmp.Ordering.TheVariants.{Less}
use Rattle.finite_sums.specs.Maps.{Text, text_cmp}
use Rattle.bank_import.specs.Matching.{somes, is_among, matched_among}
use Rattle.bank_import.specs.Laws.{IsIn, Rising}
use Rattle.bank_import.specs.declared.facts.Facts.{Facts}
use Rattle.bank_import.specs.declared.facts.Candidate.{Candidate}

abbrev pub or_else : Option Text → Option Text → Option Text
or_else None b = b
or_else (Some a) b = Some a

-- what a match leaves, and what a record without a match makes
abbrev pub filled : Facts → Candidate → Candidate
filled r c = record c { payee = or_else c.payee r.payee; financial_id = or_else c.financial_id r.financial_id }

abbrev pub made : Text → Facts → Candidate
made x r = record { id = x; day = r.day; amount = r.amount; payee = r.payee; financial_id = r.financial_id }

-- what is compared of a record but for its payee. That may be another one when the record comes again, since its first import may have made it
abbrev pub but_payee : Facts → Facts
but_payee r = record r { payee = None }

-- the row that the i-th record matched or made, by the payees that records have when they come again
pub record IsOwn (cs : List Candidate) (rs : List Facts) (ms : List (Option Text)) (os : List Text) (i : ℕ) (d : Candidate) : Type 0 where
  pub entry : Facts
  pub at : slice_get rs i ≡ Some entry
  pub own : slice_get os i ≡ Some d.id
  pub how : ((slice_get ms i ≡ Some None) × (d ≡ made d.id entry)) ⊎ ((c : Candidate) × IsIn cs c × (slice_get ms i ≡ Some (Some c.id)) × (d ≡ filled entry c))

-- the candidates after an import with these matches: the own row of each record, and others that nobody took
pub record IsAfter (cs : List Candidate) (rs : List Facts) (ms : List (Option Text)) (os : List Text) (after : List Candidate) : Type 0 where
  pub rising : Rising after
  pub len : length os ≡ length rs
  pub apart : (i j : ℕ) (x : Text) → slice_get os i ≡ Some x → slice_get os j ≡ Some x → i ≡ j
  pub owned : (i : ℕ) (r : Facts) → slice_get rs i ≡ Some r → (d : Candidate) × IsIn after d × IsOwn cs rs ms os i d
  pub from : (d : Candidate) → IsIn after d → (IsIn cs d × (is_among (somes ms) d.id ≡ false)) ⊎ ((i : ℕ) × IsOwn cs rs ms os i d)

-- each record has an id of its own
pub record HaveIds (rs : List Facts) : Type 0 where
  pub some : (i : ℕ) (r : Facts) → slice_get rs i ≡ Some r → (k : Text) × (r.financial_id ≡ Some k)
  pub apart : (i j : ℕ) (r s : Facts) (k : Text) → slice_get rs i ≡ Some r → slice_get rs j ≡ Some s → r.financial_id ≡ Some k → s.financial_id ≡ Some k → i ≡ j

-- each record then finds its own row again
abbrev pub LawOfSecond : Type 0
LawOfSecond = (cs : List Candidate) → Rising cs → (rs ss : List Facts) → map but_payee ss ≡ map but_payee rs → HaveIds ss → (os : List Text) (after : List Candidate)
    → IsAfter cs ss (matched_among cs rs) os after → matched_among after ss ≡ map (λ x. Some x) os

-- each record has a day, and an id of its own, or no id and matched nothing, so that it made a row
pub record HaveIdsOrRows (rs : List Facts) (ms : List (Option Text)) : Type 0 where
  pub each : (i : ℕ) (r : Facts) → slice_get rs i ≡ Some r → ((k : Text) × (r.financial_id ≡ Some k)) ⊎ ((r.financial_id ≡ None) × (slice_get ms i ≡ Some None))
  pub days : (i : ℕ) (r : Facts) → slice_get rs i ≡ Some r → (day : ℤ) × (r.day ≡ Some day)
  pub apart : (i j : ℕ) (r s : Facts) (k : Text) → slice_get rs i ≡ Some r → slice_get rs j ≡ Some s → r.financial_id ≡ Some k → s.financial_id ≡ Some k → i ≡ j

-- the ids of the made rows rise in the order of the records
abbrev pub MadeRise : List (Option Text) → List Text → Type 0
MadeRise ms os = (i j : ℕ) (x y : Text) → i < j → slice_get os i ≡ Some x → slice_get os j ≡ Some y → slice_get ms i ≡ Some None → slice_get ms j ≡ Some None → text_cmp x y ≡ Less

abbrev pub LawOfRows : Type 0
LawOfRows = (cs : List Candidate) → Rising cs → (rs ss : List Facts) → map but_payee ss ≡ map but_payee rs → HaveIdsOrRows ss (matched_among cs rs)
    → (os : List Text) → MadeRise (matched_among cs rs) os → (after : List Candidate) → IsAfter cs ss (matched_among cs rs) os after
    → matched_among after ss ≡ map (λ x. Some x) os
