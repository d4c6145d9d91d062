-- The nodes of the first devices: they are nodes, and they differ.
use Rattle.std.proofs.Common.{◌≡◌, ◌⊎◌, inl, inr, ℕ, zero, suc, ◌-◌, ◌≤◌, ◌<◌, ◌^◌, List, [], ◌∷◌, ◌++◌, None, Some, Result, Ok, Err, length, refl, sym, ap, ◌∙◌, arith}
use Rattle.std.specs.Prelude.{replicate}
use Rattle.std.specs.Fmt.{decimal, digits}
use Rattle.std.specs.List.{slice_get}
use Rattle.std.specs.Str.Parse.{digits_value}
use Rattle.std.proofs.lemmas.Fmt.{decimal_is_IsNumeral}
use Rattle.hybrid_clock.specs.declared.node.NodeFault.{NodeFault}
use Rattle.hybrid_clock.specs.Node.{node_of}
use Rattle.sync_world.specs.Right.{AreDifferent}
use Rattle.world_lines.specs.Session.{first_nodes, node_numbered}

-- the numbers from 1 to 16 name nodes
pub named : (n : ℕ) → n < 16 → node_of (decimal (suc n)) ≡ Ok (node_numbered (suc n))
unfolding node_of digits
named zero h = refl
named (suc zero) h = refl
named (suc (suc zero)) h = refl
named (suc (suc (suc zero))) h = refl
named (suc (suc (suc (suc zero)))) h = refl
named (suc (suc (suc (suc (suc zero))))) h = refl
named (suc (suc (suc (suc (suc (suc zero)))))) h = refl
named (suc (suc (suc (suc (suc (suc (suc zero))))))) h = refl
named (suc (suc (suc (suc (suc (suc (suc (suc zero)))))))) h = refl
named (suc (suc (suc (suc (suc (suc (suc (suc (suc zero))))))))) h = refl
named (suc (suc (suc (suc (suc (suc (suc (suc (suc (suc zero)))))))))) h = refl
named (suc (suc (suc (suc (suc (suc (suc (suc (suc (suc (suc zero))))))))))) h = refl
named (suc (suc (suc (suc (suc (suc (suc (suc (suc (suc (suc (suc zero)))))))))))) h = refl
named (suc (suc (suc (suc (suc (suc (suc (suc (suc (suc (suc (suc (suc zero))))))))))))) h = refl
named (suc (suc (suc (suc (suc (suc (suc (suc (suc (suc (suc (suc (suc (suc zero)))))))))))))) h = refl
named (suc (suc (suc (suc (suc (suc (suc (suc (suc (suc (suc (suc (suc (suc (suc zero))))))))))))))) h = refl
named (suc (suc (suc (suc (suc (suc (suc (suc (suc (suc (suc (suc (suc (suc (suc (suc n)))))))))))))))) h = absurd (omega (arith, h))

named_from : (n : ℕ) → 1 ≤ n → n ≤ 16 → node_of (decimal n) ≡ Ok (node_numbered n)
named_from zero some few = absurd (omega (arith, some))
named_from (suc n) some few = named n (omega (arith, few))

pub never : (n : ℕ) (bytes : List ℕ) (r : Result (List ℕ) NodeFault) (fault : NodeFault) → 1 ≤ n → n ≤ 16 → bytes ≡ decimal n → r ≡ node_of bytes → r ≡ Err fault → ⊥
never n bytes r fault some few same is bad =
    let path : Ok (node_numbered n) ≡ Err fault = sym (named_from n some few) ∙ ap node_of (sym same) ∙ sym is ∙ bad in
    cc

pub node_is : (n : ℕ) (bytes : List ℕ) (r : Result (List ℕ) NodeFault) (node : List ℕ) → 1 ≤ n → n ≤ 16 → bytes ≡ decimal n → r ≡ node_of bytes → r ≡ Ok node → node ≡ node_numbered n
node_is n bytes r node some few same is good =
    let path : Ok (node_numbered n) ≡ Ok node = sym (named_from n some few) ∙ ap node_of (sym same) ∙ sym is ∙ good in
    cc

-- ---- the number of a node is read from its digits

zeros : (k : ℕ) (text : List ℕ) → digits_value 10 (replicate k 48 ++ text) ≡ digits_value 10 text
zeros zero text = refl
zeros (suc k) text = zeros k text

number_of_node : (n : ℕ) → n < 2 ^ 64 → digits_value 10 (node_numbered n) ≡ n
number_of_node n h = zeros (16 - length (decimal n)) (decimal n) ∙ (decimal_is_IsNumeral n h).1

get_end : {A : Type 0} (xs : List A) (x y : A) (i : ℕ) → slice_get (xs ++ x ∷ []) i ≡ Some y → (slice_get xs i ≡ Some y) ⊎ ((i ≡ length xs) × (y ≡ x))
get_end [] x y zero h = inr (refl, let e : Some x ≡ Some y = h in cc)
get_end [] x y (suc i) h = absurd (let e : None ≡ Some y = h in cc)
get_end (z ∷ xs) x y zero h = inl h
get_end (z ∷ xs) x y (suc i) h = by (get_end xs x y i h)
  where
    by : (slice_get xs i ≡ Some y) ⊎ ((i ≡ length xs) × (y ≡ x)) → (slice_get xs i ≡ Some y) ⊎ ((suc i ≡ suc (length xs)) × (y ≡ x))
    by (inl there) = inl there
    by (inr end) = inr (ap suc end.0, end.1)

length_end : {A : Type 0} (xs : List A) (x : A) → length (xs ++ x ∷ []) ≡ suc (length xs)
length_end [] x = refl
length_end (z ∷ xs) x = ap suc (length_end xs x)

how_many : (count : ℕ) → length (first_nodes count) ≡ count
how_many zero = refl
how_many (suc count) = length_end (first_nodes count) (node_numbered (suc count)) ∙ ap suc (how_many count)

at_end : (count i : ℕ) (node : List ℕ) → suc count < 2 ^ 64 → ((k : ℕ) (y : List ℕ) → slice_get (first_nodes count) k ≡ Some y → digits_value 10 y ≡ suc k)
    → (slice_get (first_nodes count) i ≡ Some node) ⊎ ((i ≡ length (first_nodes count)) × (node ≡ node_numbered (suc count))) → digits_value 10 node ≡ suc i
at_end count i node small before (inl there) = before i node there
at_end count i node small before (inr end) = ap (digits_value 10) end.1 ∙ number_of_node (suc count) small ∙ ap suc (sym (how_many count)) ∙ ap suc (sym end.0)

number_at : (count : ℕ) → count < 2 ^ 64 → (i : ℕ) (node : List ℕ) → slice_get (first_nodes count) i ≡ Some node → digits_value 10 node ≡ suc i
number_at zero small i node h = absurd (let e : None ≡ Some node = h in cc)
number_at (suc count) small i node h =
    at_end count i node small (λ k y there. number_at count (omega (arith, small)) k y there) (get_end (first_nodes count) (node_numbered (suc count)) node i h)

pub different : (count : ℕ) → count ≤ 16 → AreDifferent (first_nodes count)
different count few i j node a b =
    let p = number_at count (omega (arith, few)) i node a in
    let q = number_at count (omega (arith, few)) j node b in
    omega (arith, p, q)
