-- The generated messages by their numbers.
use Rattle.std.specs.Prelude.{◌≡◌, ℕ, ◌+◌, ◌-◌, ◌*◌, ◌/◌, ◌%◌, ◌≤◌, ◌<◌, nat_lt, List, [], ◌∷◌, length, map, ℤ, pos, neg_ℤ, codes, slice_index_or, if◌then◌else◌}
use Rattle.std.specs.List.{range_with_len}
use Rattle.field_merge.specs.declared.message.Message.{Message}
use Rattle.field_merge.specs.Log.{IsRising}
use Rattle.field_merge.specs.Messages.{AreMessages}
use Rattle.generated_books.specs.Draws.{draw, number_drawn}
use Rattle.generated_books.specs.Generated.{Content, text, number, row, beginnings, transaction, contents, message, generated}

-- how many messages there are
abbrev pub count_of : ℕ → ℕ
count_of n = 15 + 4 * n

-- what stands for no content
abbrev pub no_content : Content
no_content = text [] [] [] []

-- what the message with a number writes
unfoldable pub content_at : ℕ → Content
content_at j = if nat_lt j 15 then slice_index_or beginnings j no_content else slice_index_or (transaction ((j - 15) / 4)) ((j - 15) % 4) no_content

-- the message with a number
unfoldable pub message_at : ℕ → Message
message_at j = message j (content_at j)

-- messages with numbers in a row: so many from a first number on
abbrev pub messages_at : ℕ → ℕ → List Message
messages_at first count = map message_at (range_with_len first count)

-- the messages of n transactions from a number on
abbrev pub messages_from : ℕ → ℕ → List Message
messages_from first n = messages_at first (count_of n - first)

-- the draws of so many transactions
abbrev pub AreDraws : List ℕ → ℕ → Type 0
AreDraws ds n = ds ≡ map draw (range_with_len 1 (4 * n))

-- what holds of the generated messages
pub record AreGenerated (n : ℕ) : Type 0 where
  -- they are 15, and four of each transaction
  pub count : length (generated n) ≡ 15 + 4 * n
  -- each is later than those before it
  pub rising : IsRising (generated n)
  -- and they are valid, of as many transactions as can be asked for
  pub valid : n ≤ 100_000 → AreMessages (generated n)

-- the first transaction, worked out by hand
pub record IsWorkedOut : Type 0 where
  pub numbers : map number_drawn (range_with_len 1 4) ≡ 1_103_527_590 ∷ 377_401_575 ∷ 662_824_084 ∷ 1_147_902_781 ∷ []
  pub first : transaction 0 ≡
      text (codes "transactions") (codes "t1") (codes "acct") (codes "bank")
      ∷ number (codes "transactions") (codes "t1") (codes "date") (pos 20_240_325)
      ∷ number (codes "transactions") (codes "t1") (codes "amount") (neg_ℤ (pos 3996))
      ∷ text (codes "transactions") (codes "t1") (codes "category") (codes "c9")
      ∷ []
