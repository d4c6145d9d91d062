-- Which texts name a node.
use Rattle.std.proofs.Common.{◌≡◌, ℕ, ◌-◌, ◌<◌, ◌≤◌, Bool, true, false, not, ◌==◌, nat_lt, cond, List, ◌++◌, length, replicate, Option, None, Some, Result, Ok, Err, arith, refl, sym, ◌∙◌, ap, subst}
use Rattle.std.specs.Prelude.{position}
use Rattle.std.specs.List.{list_all, position_or_len}
use Rattle.std.specs.Char.{is_ascii_alphanumeric}
use Rattle.std.proofs.lemmas.Bool.{le-ltb, ltb-false, ne_eqb}
use Rattle.std.proofs.lemmas.List.Sums.{position_or_len_is, AllPass-from_list_all}
use Rattle.hybrid_clock.specs.declared.node.NodeFault.{NodeFault}
use Rattle.hybrid_clock.specs.declared.node.NodeFault.TheVariants.{Zero}
use Rattle.hybrid_clock.specs.Node.{is_zeros, IsNode, padded, node_unless_bad, node_of}
use Rattle.hybrid_clock.specs.Laws.{NodesAreNamed}
use Rattle.hybrid_clock.proofs.Nodes.{all_replicate, all_pass, padded_node}

-- what a text that names a node has
record Named (text node : List ℕ) : Type 0 where
  short : length text ≤ 16
  characters : list_all is_ascii_alphanumeric text ≡ true
  nonzero : is_zeros text ≡ false
  is : node ≡ padded text

ok_unless : (b : Bool) (f : NodeFault) (r n : List ℕ) → cond b (Err f) (Ok r) ≡ Ok n → (b ≡ false) × (n ≡ r)
ok_unless true f r n e = absurd (cc)
ok_unless false f r n e = (refl, cc)

ok_after : (b : Bool) (f : NodeFault) (r : Result (List ℕ) NodeFault) (n : List ℕ) → cond b (Err f) r ≡ Ok n → (b ≡ false) × (r ≡ Ok n)
ok_after true f r n e = absurd (cc)
ok_after false f r n e = (refl, e)

ok_none : (text : List ℕ) (o : Option ℕ) (n : List ℕ) → node_unless_bad text o ≡ Ok n → (o ≡ None) × (cond (is_zeros text) (Err Zero) (Ok (padded text)) ≡ Ok n)
ok_none text None n e = (refl, e)
ok_none text (Some at) n e = absurd (cc)

named : (text node : List ℕ) → node_of text ≡ Ok node → Named text node
unfolding node_of
named text node e =
    let some = ok_after _ _ _ _ e in
    let short = ok_after _ _ _ _ some.1 in
    let good = ok_none text _ node short.1 in
    let last = ok_unless _ _ _ _ good.1 in
    record {
      short = ltb-false 16 (length text) short.0;
      characters = all_pass text good.0;
      nonzero = last.0;
      is = last.1;
    }

-- no first character fails where all pass
no_place : (text : List ℕ) → list_all is_ascii_alphanumeric text ≡ true → position (λ b. not (is_ascii_alphanumeric b)) text ≡ None
no_place text pass =
    let each = AllPass-from_list_all is_ascii_alphanumeric text pass in
    let at : position_or_len (λ b. not (is_ascii_alphanumeric b)) text ≡ length text =
    position_or_len_is (λ b. not (is_ascii_alphanumeric b)) text (length text) 0 (omega arith)
    (λ k h. ap not (each k 0 h)) (λ h. absurd (omega arith)) in
    let none : nat_lt (position_or_len (λ b. not (is_ascii_alphanumeric b)) text) (length text) ≡ false = le-ltb _ _ (omega arith) in
    rw none

names_it : (text : List ℕ) → 0 < length text → length text ≤ 16 → list_all is_ascii_alphanumeric text ≡ true → is_zeros text ≡ false → node_of text ≡ Ok (padded text)
unfolding node_of
names_it text some short pass nonzero =
    let first : (length text == 0) ≡ false = ne_eqb (length text) 0 (λ e. omega (arith, e)) in
    let second : nat_lt 16 (length text) ≡ false = le-ltb 16 (length text) short in
    let good = no_place text pass in
    rw (first, second, good, nonzero) refl

-- sixteen characters get no `0` on their left
padded_whole : (node : List ℕ) → length node ≡ 16 → padded node ≡ node
padded_whole node long = let none : 16 - length node ≡ 0 = omega arith in ap (λ n. replicate n 48 ++ node) none

pub nodes_are_named_lem : NodesAreNamed
nodes_are_named_lem = record {
  names = λ text node e.
      let is = named text node e in
      (subst IsNode (sym is.is) (padded_node text is.short is.characters is.nonzero), (16 - length text, is.is));
  all = λ text some short pass nonzero. (padded text, names_it text some short pass nonzero);
  no_zeros = λ zeros node e.
      let is = named (replicate zeros 48) node e in
      let yes : is_zeros (replicate zeros 48) ≡ true = all_replicate (λ b. b == 48) zeros 48 refl in
      let no : ⊥ = cc in no;
  reads_back = λ node is.
      names_it node (omega (arith, is.sixteen)) (omega (arith, is.sixteen)) is.characters is.nonzero
      ∙ ap (λ (n : List ℕ). Ok n) (padded_whole node is.sixteen);
}
