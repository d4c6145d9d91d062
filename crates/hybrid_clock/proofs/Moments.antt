-- Where the text of a moment stands among those of timestamps.
use Rattle.std.proofs.Common.{◌≡◌, ℕ, zero, suc, ◌≤◌, true, false, ◌==◌, nat_le, List, [], ◌∷◌, length, replicate, arith, refl, inl, inr}
use Rattle.std.proofs.lemmas.Bool.{cases_order, and_parts, eq-eqb, le-leb, lt-leb}
use Rattle.std.proofs.lemmas.Bool.Decides.{nat_tests}
use Rattle.std.specs.List.{list_all}
use Rattle.std.specs.Char.{is_ascii_alphanumeric}
use Rattle.std.specs.Ordering.{nat_cmp, ordering_then}
use Rattle.std.specs.Cmp.Lexicographic.{slice_cmp}
use Rattle.std.specs.declared.cmp.Ordering.TheVariants.{Greater}
use Rattle.hybrid_clock.specs.Node.{is_zeros}
use Rattle.hybrid_clock.specs.Clock.{stands_at}
use Rattle.hybrid_clock.specs.Moments.{MomentsAreInOrder}
use Rattle.hybrid_clock.proofs.TextOrder.{nat_cmp-lt, nat_cmp-gt, equal_cmp, order_within}

letter_low : (b : ℕ) → is_ascii_alphanumeric b ≡ true → 48 ≤ b
letter_low b h = grind (arith, nat_tests)

-- letters and digits that are not all `0` are above as many `0`
above_zeros : (n : ℕ) (xs : List ℕ) → length xs ≡ n → list_all is_ascii_alphanumeric xs ≡ true → is_zeros xs ≡ false → slice_cmp nat_cmp xs (replicate n 48) ≡ Greater
above_zeros zero [] l h z = absurd (cc)
above_zeros zero (x ∷ xs) l h z = absurd (omega arith)
above_zeros (suc n) [] l h z = absurd (omega arith)
above_zeros (suc n) (x ∷ xs) l h z =
    let both = and_parts (is_ascii_alphanumeric x) (list_all is_ascii_alphanumeric xs) h in
    elim (cases_order x 48) [
      | inl e ↦ (let level = equal_cmp x 48 e in
          let zero_first : (x == 48) ≡ true = eq-eqb x 48 e in
          let rest : is_zeros xs ≡ false = rw zero_first at z in
          rw level (above_zeros n xs (omega arith) both.1 rest))
      | inr o ↦ elim o [
        | inl lt ↦ absurd (omega (arith, letter_low x both.0, lt))
        | inr gt ↦ (let above = nat_cmp-gt x 48 gt in rw above refl)
      ]
    ]

-- a timestamp is after a moment of its time
after_own : (c : ℕ) (node : List ℕ) → length node ≡ 16 → list_all is_ascii_alphanumeric node ≡ true → is_zeros node ≡ false → ordering_then (nat_cmp c 0) (slice_cmp nat_cmp node (replicate 16 48)) ≡ Greater
after_own c node l h z = elim (cases_order c 0) [
  | inl e ↦ (let level = equal_cmp c 0 e in rw level (above_zeros 16 node l h z))
  | inr o ↦ elim o [
    | inl lt ↦ absurd (omega (arith, lt))
    | inr gt ↦ (let above = nat_cmp-gt c 0 gt in rw above refl)
  ]
]

pub moments_are_in_order_lem : MomentsAreInOrder
moments_are_in_order_lem s t is within =
    let same = order_within s (stands_at (replicate 16 48) t 0) is.within within in
    rw same (elim (cases_order s.millis t) [
      | inl e ↦ (let level = equal_cmp s.millis t e in
          let own = after_own s.counter s.node is.node.sixteen is.node.characters is.node.nonzero in
          let yes : nat_le t s.millis ≡ true = le-leb t s.millis (omega arith) in
          rw (level, own, yes) refl)
      | inr o ↦ elim o [
        | inl lt ↦ (let below = nat_cmp-lt s.millis t lt in
            let no : nat_le t s.millis ≡ false = lt-leb _ _ lt in
            rw (below, no) refl)
        | inr gt ↦ (let above = nat_cmp-gt s.millis t gt in
            let yes : nat_le t s.millis ≡ true = le-leb t s.millis (omega arith) in
            rw (above, yes) refl)
      ]
    ])
