-- What holds of the matches of any statement.
use Rattle.std.specs.Prelude.{◌≡◌, ◌↔◌, ℕ, ◌<◌, true, false, List, [], ◌∷◌, Option, Some, None, length, ◌⊎◌}
use Rattle.std.specs.List.{slice_get}
use Rattle.std.specs.FinMap as map
use Rattle.std.specs.declared.cmp.Ordering.TheVariants.{Less}
use Rattle.finite_sums.specs.Maps.{Text, text_cmp}
use Rattle.book_rows.specs.declared.rows.Rows.{Rows}
use Rattle.book_rows.specs.declared.rows.TxRow.{TxRow}
use Rattle.bank_import.specs.Matching.{distance, meets, somes, is_among, matched_among, candidate_of, candidates}
use Rattle.bank_import.specs.declared.facts.Facts.{Facts}
use Rattle.bank_import.specs.declared.facts.Candidate.{Candidate}
use Rattle.bank_import.specs.declared.facts.Pass.{Pass}
use Rattle.bank_import.specs.declared.facts.Pass.TheVariants.{ById, ByPayee, ByAmount}

abbrev pub IsIn : {X : Type 0} → List X → X → Type 0
IsIn [] x = ⊥
IsIn (y ∷ ys) x = (y ≡ x) ⊎ IsIn ys x

-- ---- any candidates, any records

-- the match of a record agrees with it in some pass
pub record IsMatch (cs : List Candidate) (r : Facts) (x : Text) : Type 0 where
  pub by : Pass
  pub candidate : Candidate
  pub is_in : IsIn cs candidate
  pub id : candidate.id ≡ x
  pub agrees : meets by r candidate ≡ true

pub record AreMatches (cs : List Candidate) (rs : List Facts) (ms : List (Option Text)) : Type 0 where
  -- each record has one answer, so none is matched twice
  pub len : length ms ≡ length rs
  -- no transaction is matched twice
  pub apart : (i j : ℕ) (x : Text) → slice_get ms i ≡ Some (Some x) → slice_get ms j ≡ Some (Some x) → i ≡ j
  pub match : (i : ℕ) (r : Facts) (x : Text) → slice_get rs i ≡ Some r → slice_get ms i ≡ Some (Some x) → IsMatch cs r x
  -- a record without a match agrees in no pass with a candidate that is left
  pub left : (i : ℕ) (r : Facts) → slice_get rs i ≡ Some r → slice_get ms i ≡ Some None
      → (p : Pass) (c : Candidate) → IsIn cs c → is_among (somes ms) c.id ≡ false → meets p r c ≡ false

abbrev pub LawOfMatches : Type 0
LawOfMatches = (cs : List Candidate) (rs : List Facts) → AreMatches cs rs (matched_among cs rs)

-- ---- candidates whose ids rise

abbrev pub AllAbove : Text → List Candidate → Type 0
AllAbove a [] = Unit {0}
AllAbove a (c ∷ cs) = (text_cmp a c.id ≡ Less) × AllAbove a cs

abbrev pub Rising : List Candidate → Type 0
Rising [] = Unit {0}
Rising (c ∷ cs) = AllAbove c.id cs × Rising cs

-- the first is nearer, or as near and of no greater id
abbrev pub NoWorse : Facts → Candidate → Candidate → Type 0
NoWorse r c d = (distance r c < distance r d) ⊎ ((distance r c ≡ distance r d) × ((c ≡ d) ⊎ (text_cmp c.id d.id ≡ Less)))

abbrev pub rank : Pass → ℕ
rank ById = 0
rank ByPayee = 1
rank ByAmount = 2

-- a match is the nearest of those that are left and agree in its pass, and none that is left agrees in an earlier pass
pub record IsBest (cs : List Candidate) (r : Facts) (ms : List (Option Text)) (x : Text) : Type 0 where
  pub by : Pass
  pub candidate : Candidate
  pub is_in : IsIn cs candidate
  pub id : candidate.id ≡ x
  pub agrees : meets by r candidate ≡ true
  pub best : (d : Candidate) → IsIn cs d → is_among (somes ms) d.id ≡ false → meets by r d ≡ true → NoWorse r candidate d
  pub earlier : (p : Pass) → rank p < rank by → (d : Candidate) → IsIn cs d → is_among (somes ms) d.id ≡ false → meets p r d ≡ false

abbrev pub LawOfBest : Type 0
LawOfBest = (cs : List Candidate) → Rising cs → (rs : List Facts) (i : ℕ) (r : Facts) (x : Text) → slice_get rs i ≡ Some r → slice_get (matched_among cs rs) i ≡ Some (Some x)
    → IsBest cs r (matched_among cs rs) x

-- ---- the candidates of a book

-- a transaction of the account that was not deleted, and is no part of a split
pub record IsWhole (rows : Rows) (account id : Text) (x : TxRow) : Type 0 where
  pub there : map.get rows.txs id ≡ Some x
  pub here : x.acct ≡ Some account
  pub kept : x.tombstone ≡ false
  pub whole : x.is_child ≡ false

pub record LawOfCandidates : Type 0 where
  -- they come in the order of their ids
  pub rise : (rows : Rows) (account : Text) → Rising (candidates rows account)
  -- each such transaction is one, and no other is
  pub told : (rows : Rows) (account : Text) (c : Candidate) → IsIn (candidates rows account) c ↔ ((x : TxRow) × IsWhole rows account c.id x × (c ≡ candidate_of rows c.id x))
