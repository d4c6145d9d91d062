-- A schema from its parts.
use Rattle.std.proofs.Common.{◌≡◌, ℕ, ◌<◌, ◌≤◌, true, IsTrue, List, [], ◌∷◌, length, slice_index_or, codes, refl, sym, ap, ◌∙◌, arith}
use Rattle.std.specs.Prelude.{◌==◌}
use Rattle.std.proofs.lemmas.Bool.{eqb-true}
use Rattle.sqlite_tied.specs.Compute.{everything}
use Rattle.sqlite.specs.Listing.{understood}
use Rattle.sqlite_value.specs.Keys.{plain}
use Rattle.sqlite_value.specs.declared.keys.Order.{Order}
use Rattle.sqlite.specs.Table.{Table}
use Rattle.sqlite_keeper.specs.Tables.{index_of, IsKeyed, first_schema, made_schema, moved_schema}

one : {X : Type 0} (xs : List X) (d : X) → 1 ≤ length xs → length xs < 2 → xs ≡ slice_index_or xs 0 d ∷ []
one [] d some few = absurd (omega arith)
one (x ∷ []) d some few = refl
one (x ∷ y ∷ xs) d some few = absurd (omega arith)

two : {X : Type 0} (xs : List X) (a b : X) → 2 ≤ length xs → length xs < 3 → xs ≡ slice_index_or xs 0 a ∷ slice_index_or xs 1 b ∷ []
two [] a b some few = absurd (omega arith)
two (x ∷ xs) a b some few = ap (λ l. x ∷ l) (one xs b (omega arith) (omega arith))

three : {X : Type 0} (xs : List X) (a b c : X) → 3 ≤ length xs → length xs < 4 → xs ≡ slice_index_or xs 0 a ∷ slice_index_or xs 1 b ∷ slice_index_or xs 2 c ∷ []
three [] a b c some few = absurd (omega arith)
three (x ∷ xs) a b c some few = ap (λ l. x ∷ l) (two xs b c (omega arith) (omega arith))

four : {X : Type 0} (xs : List X) (a b c d : X) → 4 ≤ length xs → length xs < 5 → xs ≡ slice_index_or xs 0 a ∷ slice_index_or xs 1 b ∷ slice_index_or xs 2 c ∷ slice_index_or xs 3 d ∷ []
four [] a b c d some few = absurd (omega arith)
four (x ∷ xs) a b c d some few = ap (λ l. x ∷ l) (three xs b c d (omega arith) (omega arith))

five : {X : Type 0} (xs : List X) (a b c d e : X) → 5 ≤ length xs → length xs < 6 → xs ≡ slice_index_or xs 0 a ∷ slice_index_or xs 1 b ∷ slice_index_or xs 2 c ∷ slice_index_or xs 3 d ∷ slice_index_or xs 4 e ∷ []
five [] a b c d e some few = absurd (omega arith)
five (x ∷ xs) a b c d e some few = ap (λ l. x ∷ l) (four xs b c d e (omega arith) (omega arith))

-- each element found at its place is what it was shown to be
pub two_are : {X : Type 0} (xs : List X) (a b k l : X) → 2 ≤ length xs → length xs < 3 → a ≡ slice_index_or xs 0 a → b ≡ slice_index_or xs 1 b → a ≡ k → b ≡ l → xs ≡ k ∷ l ∷ []
two_are xs a b k l some few p q s t = two xs a b some few ∙ (λ i. (sym p ∙ s) i ∷ (sym q ∙ t) i ∷ [])

pub three_are : {X : Type 0} (xs : List X) (a b c k l m : X) → 3 ≤ length xs → length xs < 4 → a ≡ slice_index_or xs 0 a → b ≡ slice_index_or xs 1 b → c ≡ slice_index_or xs 2 c → a ≡ k → b ≡ l → c ≡ m → xs ≡ k ∷ l ∷ m ∷ []
three_are xs a b c k l m some few p q r s t u = three xs a b c some few ∙ (λ i. (sym p ∙ s) i ∷ (sym q ∙ t) i ∷ (sym r ∙ u) i ∷ [])

pub four_are : {X : Type 0} (xs : List X) (a b c d k l m n : X) → 4 ≤ length xs → length xs < 5 → a ≡ slice_index_or xs 0 a → b ≡ slice_index_or xs 1 b → c ≡ slice_index_or xs 2 c → d ≡ slice_index_or xs 3 d
    → a ≡ k → b ≡ l → c ≡ m → d ≡ n → xs ≡ k ∷ l ∷ m ∷ n ∷ []
four_are xs a b c d k l m n some few p q r o s t u v = four xs a b c d some few ∙ (λ i. (sym p ∙ s) i ∷ (sym q ∙ t) i ∷ (sym r ∙ u) i ∷ (sym o ∙ v) i ∷ [])

pub five_are : {X : Type 0} (xs : List X) (a b c d e k l m n o : X) → 5 ≤ length xs → length xs < 6 → a ≡ slice_index_or xs 0 a → b ≡ slice_index_or xs 1 b → c ≡ slice_index_or xs 2 c → d ≡ slice_index_or xs 3 d → e ≡ slice_index_or xs 4 e
    → a ≡ k → b ≡ l → c ≡ m → d ≡ n → e ≡ o → xs ≡ k ∷ l ∷ m ∷ n ∷ o ∷ []
five_are xs a b c d e k l m n o some few p q r x y s t u v w = five xs a b c d e some few ∙ (λ i. (sym p ∙ s) i ∷ (sym q ∙ t) i ∷ (sym r ∙ u) i ∷ (sym x ∙ v) i ∷ (sym y ∙ w) i ∷ [])

pub none_left : {X : Type 0} (xs : List X) → true ≡ (length xs == 0) → xs ≡ []
none_left [] h = refl
none_left (x ∷ xs) h = absurd (omega (arith, eqb-true (length (x ∷ xs)) 0 (sym h)))

in_order : (o : Order) → o.digits ≡ 0 → o ≡ plain
in_order o none = λ i. record { digits = none i }

pub keyed : (t : Table) (places unique : List ℕ) (order : Order) → 1 ≤ length t.uniques → length t.uniques < 2 → unique ≡ slice_index_or t.uniques 0 unique → unique ≡ places
    → 1 ≤ length t.orders → length t.orders < 2 → (slice_index_or t.orders 0 order).digits ≡ 0 → IsKeyed places t
keyed t places unique order some few is same any low none = record {
  uniques = one t.uniques unique some few ∙ ap (λ u. u ∷ []) (sym is ∙ same);
  orders = one t.orders order any low ∙ ap (λ o. o ∷ []) (in_order _ none);
}

pub first_indexes : first_schema.indexes ≡ index_of (codes "sqlite_autoindex_items_1") 1 (1 ∷ 2 ∷ []) ∷ index_of (codes "sqlite_autoindex_named_1") 3 (1 ∷ []) ∷ []
unfolding understood everything
first_indexes = refl

pub made_indexes : made_schema.indexes
    ≡ index_of (codes "sqlite_autoindex_grps_1") 1 (2 ∷ []) ∷ index_of (codes "sqlite_autoindex_entries_1") 4 (1 ∷ 2 ∷ []) ∷ index_of (codes "sqlite_autoindex_named_1") 6 (1 ∷ []) ∷ []
unfolding understood everything
made_indexes = refl

pub moved_indexes : moved_schema.indexes
    ≡ index_of (codes "sqlite_autoindex_items_1") 1 (1 ∷ 2 ∷ []) ∷ index_of (codes "sqlite_autoindex_named_1") 3 (1 ∷ []) ∷ index_of (codes "sqlite_autoindex_grps_1") 5 (2 ∷ []) ∷ index_of (codes "sqlite_autoindex_entries_1") 8 (1 ∷ 2 ∷ []) ∷ []
unfolding understood everything
moved_indexes = refl

pub is_zero : (n : ℕ) → IsTrue (n == 0) → n ≡ 0
is_zero n h = eqb-true n 0 h
