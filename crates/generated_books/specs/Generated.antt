-- The messages that are generated: an account, two groups with their categories, and transactions.
use Rattle.std.specs.Prelude.{ℕ, zero, suc, ◌+◌, ◌*◌, ◌%◌, ◌==◌, ℤ, pos, neg_ℤ, List, [], ◌∷◌, ◌++◌, map, codes, if◌then◌else◌}
use Rattle.std.specs.Fmt.{decimal}
use Rattle.std.specs.List.{range_with_len}
use Rattle.field_values.specs.declared.value.Value.{Value}
use Rattle.field_values.specs.declared.value.Value.TheVariants.{Number, Text}
use Rattle.field_values.specs.Names.{FieldNames, field_of}
use Rattle.hybrid_clock.specs.declared.stamp.Stamp.{Stamp}
use Rattle.field_merge.specs.declared.message.Message.{Message}
use Rattle.generated_books.specs.Draws.{draw}

-- a field, and what a message writes into it
abbrev pub Content : Type 0
Content = FieldNames × Value

-- a text, and a number
abbrev pub text : List ℕ → List ℕ → List ℕ → List ℕ → Content
text dataset row column t = (field_of dataset row column, Text t)

abbrev pub number : List ℕ → List ℕ → List ℕ → ℤ → Content
number dataset row column n = (field_of dataset row column, Number n)

-- the category of a digit: `c0` to `c9`
abbrev pub category : ℕ → List ℕ
category digit = 99 ∷ (48 + digit) ∷ []

-- an account, a group of income with its category, and a group with the categories of all digits
unfoldable pub beginnings : List Content
beginnings =
    text (codes "accounts") (codes "bank") (codes "name") (codes "Bank")
    ∷ text (codes "category_groups") (codes "gi") (codes "name") (codes "Income")
    ∷ number (codes "category_groups") (codes "gi") (codes "is_income") (pos 1)
    ∷ text (codes "categories") (codes "pay") (codes "cat_group") (codes "gi")
    ∷ text (codes "category_groups") (codes "g") (codes "name") (codes "Usual")
    ∷ map (λ digit. text (codes "categories") (category digit) (codes "cat_group") (codes "g")) (range_with_len 0 10)

-- a day of 2024, from two draws
abbrev pub day : ℕ → ℕ → ℕ
day a b = 20_240_000 + 100 * (1 + a % 12) + (1 + b % 28)

-- one transaction of eleven is pay
abbrev pub amount : ℕ → ℕ → ℤ
amount c d = if c % 11 == 10 then pos (1 + d % 100_000) else neg_ℤ (pos (1 + d % 10_000))

abbrev pub category_of : ℕ → List ℕ
category_of c = if c % 11 == 10 then codes "pay" else category (c % 11)

-- a row of a transaction: `t`, and its number
abbrev pub row : ℕ → List ℕ
row k = codes "t" ++ decimal k

-- the transaction that follows k others, by four draws in turn
unfoldable pub transaction : ℕ → List Content
transaction k =
    text (codes "transactions") (row (k + 1)) (codes "acct") (codes "bank")
    ∷ number (codes "transactions") (row (k + 1)) (codes "date") (pos (day (draw (4 * k + 1)) (draw (4 * k + 2))))
    ∷ number (codes "transactions") (row (k + 1)) (codes "amount") (amount (draw (4 * k + 3)) (draw (4 * k + 4)))
    ∷ text (codes "transactions") (row (k + 1)) (codes "category") (category_of (draw (4 * k + 3)))
    ∷ []

-- what the messages of so many transactions write, in their order
unfoldable pub contents : ℕ → List Content
contents zero = beginnings
contents (suc k) = contents k ++ transaction k

-- the timestamp of the message with a number, counted from 0: each is a second behind the one before it
abbrev pub stamp : ℕ → Stamp
stamp j = record { millis = 1_704_067_200_000 + 1000 * j; counter = 0; node = codes "0000000000000gen" }

-- the message with a number
abbrev pub message : ℕ → Content → Message
message j c = record { stamp = stamp j; field = c.0; value = c.1 }

-- the messages with numbers in a row
abbrev pub numbered : ℕ → List Content → List Message
numbered j [] = []
numbered j (c ∷ cs) = message j c ∷ numbered (j + 1) cs

-- the messages of so many transactions
unfoldable pub generated : ℕ → List Message
generated n = numbered 0 (contents n)
