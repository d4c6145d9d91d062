-- The generated messages are valid.
use Rattle.std.proofs.Common.{rules, ◌≡◌, ◌≢◌, ℕ, zero, suc, ◌+◌, ◌-◌, ◌*◌, ◌/◌, ◌%◌, ◌^◌, ◌<◌, ◌≤◌, Bool, true, false, cond, None, ℤ, pos, List, [], ◌∷◌, ◌++◌, All, length, map, refl, sym, ap, ◌∙◌, subst, inl, inr, arith}
use Rattle.std.specs.Prelude.{neg_ℤ, unsigned_abs, ◌==◌, codes}
use Rattle.std.specs.Fmt.{decimal}
use Rattle.std.specs.List.{AllByRecursion, range_with_len}
use Rattle.std.specs.Str.Parse.{AllDigits}
use Rattle.std.proofs.lemmas.Bool.{cases_lt}
use Rattle.std.proofs.lemmas.Fmt.{decimal_is_IsNumeral, length-decimal-le}
use Rattle.std.proofs.lemmas.List.Elements.{All-cons, All-nil}
use Rattle.std.proofs.lemmas.Str.Parse.{digit_from_value}
use Rattle.field_values.specs.Names.{FieldNames, names_fault, field_of, IsName, IsNameByte, AreNames}
use Rattle.field_values.specs.Value.{HoldsNumber, IsValue}
use Rattle.field_values.specs.declared.value.Value.{Value}
use Rattle.field_values.specs.declared.value.Value.TheVariants.{Null, Number, Text, Other}
use Rattle.field_values.proofs.NameLemmas.{names_without_fault}
use Rattle.hybrid_clock.specs.Node.{IsNode}
use Rattle.hybrid_clock.specs.Stamp.{IsStamp, window}
use Rattle.field_merge.specs.declared.message.Message.{Message}
use Rattle.field_merge.specs.Messages.{IsMessage, AreMessages}
use Rattle.generated_books.specs.Draws.{draw}
use Rattle.generated_books.specs.Generated.{Content, text, category, row, day, amount, beginnings, transaction, stamp, generated}
use Rattle.generated_books.specs.Numbers.{count_of, no_content, content_at, message_at, messages_at}
use Rattle.generated_books.proofs.Ranges.{all_in, at_place, all_append}
use Rattle.generated_books.proofs.Numbers.{content_in, content_before, generated_numbered}

-- ---- names

name_digits : (ds : List ℕ) → AllDigits 10 ds → All IsNameByte ds
name_digits [] h = All-nil IsNameByte
name_digits (c ∷ cs) h =
    let digit = digit_from_value c h.0 in
    All-cons IsNameByte c cs (omega arith, λ e. omega arith) (name_digits cs h.1)

-- `t` and a number is a name
pub row_named : (k : ℕ) → k < 2 ^ 32 → IsName (row k)
row_named k small =
    let long : length (decimal k) ≤ 10 = length-decimal-le 10 k (omega arith) (omega arith) (omega arith) in
    record {
      some = omega arith;
      short = omega arith;
      bytes = All-cons IsNameByte 116 (decimal k) (omega arith, λ e. omega arith) (name_digits (decimal k) (decimal_is_IsNumeral k (omega arith)).0.1);
    }

pub row_fields : (k : ℕ) (column : List ℕ) → k < 2 ^ 32 → AreNames (field_of (codes "transactions") (codes "t") column) → AreNames (field_of (codes "transactions") (row k) column)
row_fields k column small are = record { dataset = are.dataset; row = row_named k small; column = are.column }

pub acct_named : AreNames (field_of (codes "transactions") (codes "t") (codes "acct"))
acct_named = names_without_fault _ refl

pub date_named : AreNames (field_of (codes "transactions") (codes "t") (codes "date"))
date_named = names_without_fault _ refl

pub amount_named : AreNames (field_of (codes "transactions") (codes "t") (codes "amount"))
amount_named = names_without_fault _ refl

pub category_named : AreNames (field_of (codes "transactions") (codes "t") (codes "category"))
category_named = names_without_fault _ refl

-- ---- numbers

pub held : (z : ℤ) → unsigned_abs z < 1_000_000_000 → HoldsNumber z
held z small = search (rules, arith)

negated : (n : ℕ) → unsigned_abs (neg_ℤ (pos n)) ≡ n
negated zero = refl
negated (suc n) = refl

amount_held : (c d : ℕ) → HoldsNumber (amount c d)
amount_held c d = by (c % 11 == 10)
  where
    by : (b : Bool) → HoldsNumber (cond b (pos (1 + d % 100_000)) (neg_ℤ (pos (1 + d % 10_000))))
    by true = let same : unsigned_abs (pos (1 + d % 100_000)) ≡ 1 + d % 100_000 = refl in held (pos (1 + d % 100_000)) (omega arith)
    by false = let same : unsigned_abs (neg_ℤ (pos (1 + d % 10_000))) ≡ 1 + d % 10_000 = negated (1 + d % 10_000) in held (neg_ℤ (pos (1 + d % 10_000))) (omega arith)

day_held : (a b : ℕ) → HoldsNumber (pos (day a b))
day_held a b = let same : unsigned_abs (pos (day a b)) ≡ day a b = refl in held (pos (day a b)) (omega arith)

-- ---- what is written

-- the field has names, and the value is valid
pub record IsContent (c : Content) : Type 0 where
  pub field : AreNames c.0
  pub value : IsValue c.1

written : (c : Content) → AreNames c.0 → IsValue c.1 → IsContent c
written c names value = record { field = names; value = value }

-- the value is a text
abbrev HasText : Value → Type 0
HasText (Text t) = Unit {0}
HasText other = ⊥

text_value : (v : Value) → HasText v → IsValue v
text_value (Text t) h = tt
text_value Null h = absurd h
text_value (Number n) h = absurd h
text_value (Other t) h = absurd h

text_valid : (c : Content) → names_fault c.0 ≡ None → HasText c.1 → IsContent c
text_valid c none text = written c (names_without_fault c.0 none) (text_value c.1 text)

beginnings_valid : AllByRecursion IsContent beginnings
unfolding beginnings
beginnings_valid = (
  text_valid _ refl tt,
  (
    text_valid _ refl tt,
    (
      written _ (names_without_fault _ refl) (held (pos 1) (omega arith)),
      (
        text_valid _ refl tt,
        (
          text_valid _ refl tt,
          (
            text_valid _ refl tt,
            (
              text_valid _ refl tt,
              (
                text_valid _ refl tt,
                (
                  text_valid _ refl tt,
                  (
                    text_valid _ refl tt,
                    (text_valid _ refl tt, (text_valid _ refl tt, (text_valid _ refl tt, (text_valid _ refl tt, (text_valid _ refl tt, tt))))),
                  ),
                ),
              ),
            ),
          ),
        ),
      ),
    ),
  ),
)

transaction_valid : (k : ℕ) → k < 100_000 → AllByRecursion IsContent (transaction k)
unfolding transaction
transaction_valid k few = (
  written _ (row_fields (k + 1) (codes "acct") (omega arith) acct_named) tt,
  (
    written _ (row_fields (k + 1) (codes "date") (omega arith) date_named) (day_held (draw (4 * k + 1)) (draw (4 * k + 2))),
    (
      written _ (row_fields (k + 1) (codes "amount") (omega arith) amount_named) (amount_held (draw (4 * k + 3)) (draw (4 * k + 4))),
      (written _ (row_fields (k + 1) (codes "category") (omega arith) category_named) tt, tt),
    ),
  ),
)

transaction_length : (k : ℕ) → length (transaction k) ≡ 4
unfolding transaction
transaction_length k = refl

beginnings_length : length beginnings ≡ 15
unfolding beginnings
beginnings_length = refl

pub content_valid : (j : ℕ) → j < 400_015 → IsContent (content_at j)
content_valid j few = elim (cases_lt j 15) [
  | inl low ↦ subst IsContent (sym (content_before j low)) (at_place IsContent beginnings beginnings_valid j no_content (omega (arith, beginnings_length)))
  | inr high ↦
      let k : ℕ = (j - 15) / 4 in
      let i : ℕ = (j - 15) % 4 in
      subst IsContent (sym (content_in ((j - 15) / 4) ((j - 15) % 4) j (omega arith) (omega arith)))
      (at_place IsContent (transaction ((j - 15) / 4)) (transaction_valid ((j - 15) / 4) (omega arith)) ((j - 15) % 4) no_content (omega (arith, transaction_length ((j - 15) / 4))))
]

-- ---- messages

node_valid : IsNode (codes "0000000000000gen")
node_valid = record { sixteen = refl; characters = refl; nonzero = refl }

stamp_valid : (j : ℕ) → j < 400_015 → IsStamp (stamp j)
stamp_valid j few = record { within = omega arith; counter = omega arith; node = node_valid }

pub message_valid : (j : ℕ) → j < 400_015 → IsMessage (message_at j)
unfolding message_at
message_valid j few = let c = content_valid j few in record { stamp = stamp_valid j few; field = c.field; value = c.value }

pub valid_at : (a n : ℕ) → a + n ≤ 400_015 → AreMessages (messages_at a n)
valid_at a n few = all_in message_at IsMessage a n (λ j low high. message_valid j (omega arith))

pub generated_valid : (n : ℕ) → n ≤ 100_000 → AreMessages (generated n)
generated_valid n few = subst AreMessages (sym (generated_numbered n)) (valid_at 0 (count_of n) (omega arith))
