-- The characters of a node, and what padding keeps.
use Rattle.std.proofs.Common.{◌≡◌, ℕ, zero, suc, ◌+◌, ◌-◌, ◌≤◌, Bool, true, false, not, ◌==◌, cond, List, [], ◌∷◌, length, replicate, Option, None, Some, arith, refl, sym, ◌∙◌, ap, length-append}
use Rattle.std.specs.List.{list_all, position_from}
use Rattle.std.specs.Prelude.{position}
use Rattle.std.specs.Char.{is_ascii_alphanumeric}
use Rattle.std.proofs.lemmas.Bool.{and_from, and_right}
use Rattle.std.proofs.lemmas.List.Folds.{list_all-append}
use Rattle.std.proofs.lemmas.Iterator.Adapters.{position_from-zero}
use Rattle.hybrid_clock.specs.Node.{is_zeros, IsNode, padded}

pub all_replicate : (p : ℕ → Bool) (n x : ℕ) → p x ≡ true → list_all p (replicate n x) ≡ true
all_replicate p zero x h = refl
all_replicate p (suc n) x h = and_from _ _ h (all_replicate p n x h)

none_fails : (p : ℕ → Bool) (a : Bool) (n : ℕ) (rest : Option ℕ) → cond (not a) (Some n) rest ≡ None → (a ≡ true) × (rest ≡ None)
none_fails p true n rest e = (refl, e)
none_fails p false n rest e = absurd (cc)

all_from : (p : ℕ → Bool) (n : ℕ) (xs : List ℕ) → position_from (λ b. not (p b)) n xs ≡ None → list_all p xs ≡ true
all_from p n [] e = refl
all_from p n (x ∷ xs) e =
    let s = none_fails p (p x) n (position_from (λ b. not (p b)) (n + 1) xs) e in
    and_from _ _ s.0 (all_from p (n + 1) xs s.1)

-- no first character fails, so all pass
pub all_pass : (xs : List ℕ) → position (λ b. not (is_ascii_alphanumeric b)) xs ≡ None → list_all is_ascii_alphanumeric xs ≡ true
all_pass xs e = all_from is_ascii_alphanumeric 0 xs (sym (position_from-zero (λ b. not (is_ascii_alphanumeric b)) xs) ∙ e)

length-replicate : (n x : ℕ) → length (replicate n x) ≡ n
length-replicate zero x = refl
length-replicate (suc n) x = ap suc (length-replicate n x)

-- a padded text is a node
pub padded_node : (text : List ℕ) → length text ≤ 16 → list_all is_ascii_alphanumeric text ≡ true → is_zeros text ≡ false → IsNode (padded text)
padded_node text short pass zeros = record {
  sixteen = length-append (replicate (16 - length text) 48) text ∙ omega (arith, length-replicate (16 - length text) 48);
  characters = list_all-append is_ascii_alphanumeric (replicate (16 - length text) 48) text ∙ and_from _ _ (all_replicate is_ascii_alphanumeric (16 - length text) 48 refl) pass;
  nonzero = list_all-append (λ b. b == 48) (replicate (16 - length text) 48) text ∙ and_right _ _ zeros;
}
