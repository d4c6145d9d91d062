-- What the generated messages are, worked out by hand.
use Rattle.std.specs.Prelude.{◌≡◌, ◌⊎◌, ℕ, ◌+◌, ◌*◌, ◌<◌, ◌≤◌, ℤ, pos, neg_ℤ, List, [], ◌∷◌, ◌++◌, codes, Some}
use Rattle.std.specs.Fmt.{decimal}
use Rattle.std.specs.List.{slice_get}
use Rattle.hybrid_clock.specs.declared.stamp.Stamp.{Stamp}
use Rattle.hybrid_clock.specs.Stamp.{stamp_text}
use Rattle.field_merge.specs.declared.message.Message.{Message}
use Rattle.generated_books.specs.Generated.{Content, text, number, day, amount, transaction, generated}

-- the four messages of a transaction of the account `bank`, in the row with this id
abbrev pub written_out : List ℕ → ℕ → ℤ → List ℕ → List Content
written_out row date cents category =
    text (codes "transactions") row (codes "acct") (codes "bank")
    ∷ number (codes "transactions") row (codes "date") (pos date)
    ∷ number (codes "transactions") row (codes "amount") cents
    ∷ text (codes "transactions") row (codes "category") category
    ∷ []

-- a day YYYYMMDD among the first 28 of a month of 2024
pub record IsDayOf2024 (date : ℕ) : Type 0 where
  pub month : ℕ
  pub place : ℕ
  pub months : (1 ≤ month) × (month ≤ 12)
  pub places : (1 ≤ place) × (place ≤ 28)
  pub is : date ≡ 20_240_000 + 100 * month + place

-- the transaction that follows k others is pay: up to 1000.00 come in
pub record IsPay (k : ℕ) : Type 0 where
  pub date : ℕ
  pub cents : ℕ
  pub dated : IsDayOf2024 date
  pub range : (1 ≤ cents) × (cents ≤ 100_000)
  pub is : transaction k ≡ written_out (codes "t" ++ decimal (k + 1)) date (pos cents) (codes "pay")

-- or up to 100.00 go out, in the category of a digit
pub record IsExpense (k : ℕ) : Type 0 where
  pub date : ℕ
  pub cents : ℕ
  pub digit : ℕ
  pub dated : IsDayOf2024 date
  pub range : (1 ≤ cents) × (cents ≤ 10_000)
  pub digits : digit < 10
  pub is : transaction k ≡ written_out (codes "t" ++ decimal (k + 1)) date (neg_ℤ (pos cents)) (codes "c" ++ decimal digit)

-- the timestamp of so many seconds after the start of 2024
abbrev pub second_of_2024 : ℕ → Stamp
second_of_2024 j = record { millis = 1_704_067_200_000 + 1000 * j; counter = 0; node = codes "0000000000000gen" }

pub record GeneratedAreWorkedOut : Type 0 where
  -- the second, the third and the fourth transaction, which is pay
  pub second : transaction 1 ≡ written_out (codes "t2") 20_241_201 (neg_ℤ (pos 9439)) (codes "c0")
  pub third : transaction 2 ≡ written_out (codes "t3") 20_240_910 (neg_ℤ (pos 8597)) (codes "c3")
  pub fourth : transaction 3 ≡ written_out (codes "t4") 20_241_113 (pos 91_244) (codes "pay")
  -- the eleventh, which is of a day 28
  pub eleventh : transaction 10 ≡ written_out (codes "t11") 20_240_628 (neg_ℤ (pos 626)) (codes "c4")
  -- each transaction is pay, or goes out
  pub either : (k : ℕ) → IsPay k ⊎ IsExpense k
  -- each of these days is drawn by some two draws, and each amount by some two
  pub days : (date : ℕ) → IsDayOf2024 date → (a : ℕ) × (b : ℕ) × (a < 12) × (b < 28) × (day a b ≡ date)
  pub pays : (cents : ℕ) → 1 ≤ cents → cents ≤ 100_000 → (c : ℕ) × (d : ℕ) × (c < 11) × (d < 100_000) × (amount c d ≡ pos cents)
  pub expenses : (cents : ℕ) → 1 ≤ cents → cents ≤ 10_000 → (c : ℕ) × (d : ℕ) × (c < 11) × (d < 10_000) × (amount c d ≡ neg_ℤ (pos cents))
  -- the timestamp of the message with a number, however many there are, and the text of the first one
  pub timed : (n j : ℕ) (m : Message) → slice_get (generated n) j ≡ Some m → m.stamp ≡ second_of_2024 j
  pub first : stamp_text (second_of_2024 0) ≡ codes "2024-01-01T00:00:00.000Z-0000-0000000000000gen"
