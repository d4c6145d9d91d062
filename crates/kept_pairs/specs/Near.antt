-- When a record of a statement and a transaction agree, and which of two transactions is taken.
use Rattle.std.specs.Prelude.{◌≡◌, ◌⊎◌, ◌≤◌, ◌<◌, ℕ, ◌-ℤ◌, unsigned_abs, true, List, [], ◌∷◌, Option, None, Some}
use Rattle.finite_sums.specs.Maps.{Text}
use Rattle.book_rows.specs.declared.rows.Rows.{Rows}
use Rattle.book_rows.specs.declared.rows.TxRow.{TxRow}
use Rattle.book_rows.specs.Kinds.{is_day}
use Rattle.book_rows.specs.Live.{payee_of}
use Rattle.rule_engine.specs.Days.{day_number}
use Rattle.bank_import.specs.Matching.{facts_of, candidate_of, matched_among}

-- both are there, and the same
abbrev pub AreSame : Option Text → Option Text → Type 0
AreSame a b = (t : Text) × (a ≡ Some t) × (b ≡ Some t)

-- two transactions have days of the calendar, and these are so many days apart
pub record AreApart (x y : TxRow) (n : ℕ) : Type 0 where
  pub first : ℕ
  pub second : ℕ
  pub one : x.date ≡ Some first
  pub other : y.date ≡ Some second
  pub is_first : is_day first ≡ true
  pub is_second : is_day second ≡ true
  pub apart : n ≡ unsigned_abs (day_number first -ℤ day_number second)

-- the amounts are the same, there are at most seven days between them, and not both have an id of a statement
pub record AreNear (x y : TxRow) : Type 0 where
  pub amounts : x.amount ≡ y.amount
  pub days : (n : ℕ) × AreApart x y n × (n ≤ 7)
  pub ids : (a b : Text) → x.financial_id ≡ Some a → y.financial_id ≡ Some b → ⊥

-- a record, as the transaction that it makes, and a transaction agree: by their ids, or by their amounts and days
abbrev pub Agree : TxRow → TxRow → Type 0
Agree x y = AreSame x.financial_id y.financial_id ⊎ AreNear x y

-- what a record takes of one transaction, and of two
abbrev pub taken_of : Rows → Text → TxRow → TxRow → List (Option Text)
taken_of rows id y x = matched_among (candidate_of rows id y ∷ []) (facts_of rows x ∷ [])

abbrev pub taken_of_two : Rows → Text → TxRow → Text → TxRow → TxRow → List (Option Text)
taken_of_two rows a y b z x = matched_among (candidate_of rows a y ∷ candidate_of rows b z ∷ []) (facts_of rows x ∷ [])

-- which transactions a record takes, where payees stand for what the mappings of these rows say
pub record NearnessIsTold (rows : Rows) : Type 0 where
  -- one with which it agrees, and no other
  pub agrees : (x y : TxRow) (id : Text) → Agree x y → taken_of rows id y x ≡ Some id ∷ []
  pub differs : (x y : TxRow) (id : Text) → (Agree x y → ⊥) → taken_of rows id y x ≡ None ∷ []
  -- of two first the one with its id
  pub by_id : (x y z : TxRow) (a b : Text) → AreSame x.financial_id y.financial_id → (AreSame x.financial_id z.financial_id → ⊥)
      → (taken_of_two rows a y b z x ≡ Some a ∷ []) × (taken_of_two rows b z a y x ≡ Some a ∷ [])
  -- then, of near ones, the one whose payee stands for the same as its own
  pub by_payee : (x y z : TxRow) (a b : Text) → (AreSame x.financial_id y.financial_id → ⊥) → (AreSame x.financial_id z.financial_id → ⊥)
      → AreNear x y → AreSame (payee_of rows x) (payee_of rows y) → (AreSame (payee_of rows x) (payee_of rows z) → ⊥)
      → (taken_of_two rows a y b z x ≡ Some a ∷ []) × (taken_of_two rows b z a y x ≡ Some a ∷ [])
  -- and then the one that is fewer days away
  pub nearest : (x y z : TxRow) (a b : Text) (m n : ℕ) → (AreSame x.financial_id y.financial_id → ⊥) → (AreSame x.financial_id z.financial_id → ⊥)
      → AreNear x y → AreNear x z → (AreSame (payee_of rows x) (payee_of rows y) → ⊥) → (AreSame (payee_of rows x) (payee_of rows z) → ⊥)
      → AreApart x y m → AreApart x z n → m < n
      → (taken_of_two rows a y b z x ≡ Some a ∷ []) × (taken_of_two rows b z a y x ≡ Some a ∷ [])
  -- of two with its id, one that has a day is taken before one that has none
  pub dated : (x y z : TxRow) (a b : Text) (m : ℕ) → AreSame x.financial_id y.financial_id → AreSame x.financial_id z.financial_id → AreApart x y m → z.date ≡ None
      → (taken_of_two rows a y b z x ≡ Some a ∷ []) × (taken_of_two rows b z a y x ≡ Some a ∷ [])
