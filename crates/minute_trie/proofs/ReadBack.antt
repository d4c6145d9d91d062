-- The value of a map holds what the map does, and has no fault.
use Rattle.std.proofs.Common.{◌≡◌, ℕ, zero, suc, ◌<◌, ◌^◌, List, [], ◌∷◌, length, Option, Some, None, true, w32, to_z, option_and_then, refl, sym, ap, ◌∙◌, lit≤, arith}
use Rattle.std.proofs.Math.Path.{fun_ext}
use Rattle.std.specs.Ordering.{nat_cmp, match_ordering}
use Rattle.std.specs.Cmp.Lexicographic.{slice_cmp}
use Rattle.std.specs.declared.cmp.Ordering.TheVariants.{Less, Equal, Greater}
use Rattle.serde_json.specs.Data.{Data, number, object, Members}
use Rattle.serde_json.specs.Find.{of_integer, get, get_member}
use Rattle.minute_trie.specs.declared.key.Digit.{Digit}
use Rattle.minute_trie.specs.declared.key.Digit.TheVariants.{Zero, One, Two}
use Rattle.minute_trie.specs.Held.{Held, after, or_zero, IsMap}
use Rattle.minute_trie.specs.Names.{child_name, hash_name}
use Rattle.minute_trie.specs.Json.{trie_text}
use Rattle.minute_trie.specs.Faults.{first_fault, of_child, all_known, held_at, fault_of_value, fault_of_text, map_of_text}
use Rattle.minute_trie.proofs.Hashes.{hash_facts}
use Rattle.minute_trie.proofs.RoundTrip.{hash_data, child_data, node_data, map_data, map_below, hash_fits, IfThere, if_there, text_read}

abbrev data_child : Data → Option ℕ → Option Data
data_child e None = None
data_child e (Some h) = Some e

skip_less : (k : List ℕ) (d : Digit) (e : Data) (o : Option ℕ) (rest : Members) → slice_cmp nat_cmp k (child_name d) ≡ Less → get_member k (child_data d e o rest) ≡ get_member k rest
skip_less k d e None rest l = refl
skip_less k d e (Some h) rest l = ap (λ o. match_ordering o (get_member k rest) (Some e) (get_member k rest)) l

skip_greater : (k : List ℕ) (d : Digit) (e : Data) (o : Option ℕ) (rest : Members) → slice_cmp nat_cmp k (child_name d) ≡ Greater → get_member k (child_data d e o rest) ≡ get_member k rest
skip_greater k d e None rest l = refl
skip_greater k d e (Some h) rest l = ap (λ o. match_ordering o (get_member k rest) (Some e) (get_member k rest)) l

found : (d : Digit) (e : Data) (o : Option ℕ) (rest : Members) → slice_cmp nat_cmp (child_name d) (child_name d) ≡ Equal → get_member (child_name d) rest ≡ None → get_member (child_name d) (child_data d e o rest) ≡ data_child e o
found d e None rest l h = h
found d e (Some x) rest l h = ap (λ o. match_ordering o (get_member (child_name d) rest) (Some e) (get_member (child_name d) rest)) l

module _ (x y z : Data) (a b c : Option ℕ) (h : ℕ) where
  get_zero : get (child_name Zero) (node_data x y z a b c h) ≡ data_child x a
  get_zero = found Zero x a _ refl (skip_less (child_name Zero) One y b _ refl ∙ skip_less (child_name Zero) Two z c _ refl)

  get_one : get (child_name One) (node_data x y z a b c h) ≡ data_child y b
  get_one = skip_greater (child_name One) Zero x a _ refl ∙ found One y b _ refl (skip_less (child_name One) Two z c _ refl)

  get_two : get (child_name Two) (node_data x y z a b c h) ≡ data_child z c
  get_two = skip_greater (child_name Two) Zero x a _ refl ∙ skip_greater (child_name Two) One y b _ refl ∙ found Two z c _ refl refl

  get_hash : get hash_name (node_data x y z a b c h) ≡ Some (number (of_integer (to_z w32 h)))
  get_hash = skip_greater hash_name Zero x a _ refl ∙ skip_greater hash_name One y b _ refl ∙ skip_greater hash_name Two z c _ refl

known_child : (d : Digit) (e : Data) (o : Option ℕ) (rest : Members) → all_known (child_data d e o rest) ≡ all_known rest
known_child d e None rest = refl
known_child Zero e (Some h) rest = refl
known_child One e (Some h) rest = refl
known_child Two e (Some h) rest = refl

known_hash : (h : ℕ) → h < 2 ^ 32 → all_known (hash_data h) ≡ true
known_hash h l = rw ((hash_facts h l).fits) refl

faultless_child : (l : ℕ) (e : Data) (o : Option ℕ) → IfThere (first_fault l e ≡ None) o → of_child (first_fault l) (data_child e o) ≡ None
faultless_child l e None s = refl
faultless_child l e (Some h) s = s

faultless_object : (l : ℕ) (x y z : Data) (a b c : Option ℕ) (h : ℕ) → h < 2 ^ 32 → IfThere (first_fault l x ≡ None) a → IfThere (first_fault l y ≡ None) b → IfThere (first_fault l z ≡ None) c →
    first_fault (suc l) (node_data x y z a b c h) ≡ None
faultless_object l x y z a b c h few p q r =
    let known = known_child Zero x a (child_data One y b (child_data Two z c (hash_data h))) ∙ known_child One y b (child_data Two z c (hash_data h)) ∙ known_child Two z c (hash_data h) ∙ known_hash h few in
    rw (known, get_zero x y z a b c h, get_one x y z a b c h, get_two x y z a b c h, faultless_child l x a p, faultless_child l y b q, faultless_child l z c r) refl

faultless_leaf : (h : ℕ) → h < 2 ^ 32 → first_fault 1 (object (hash_data h)) ≡ None
faultless_leaf h l = rw (known_hash h l) refl

faultless : (n : ℕ) (f : Held) → IsMap n f → first_fault (suc n) (map_data n f) ≡ None
unfolding map_data
faultless zero f m = faultless_leaf (or_zero (f [])) (hash_fits zero f m)
faultless (suc n) f m =
    faultless_object (suc n) (map_data n (after Zero f)) (map_data n (after One f)) (map_data n (after Two f)) (f (Zero ∷ [])) (f (One ∷ [])) (f (Two ∷ [])) (or_zero (f [])) (hash_fits (suc n) f m)
    (if_there _ n Zero f (f (Zero ∷ [])) refl m (faultless n (after Zero f)))
    (if_there _ n One f (f (One ∷ [])) refl m (faultless n (after One f)))
    (if_there _ n Two f (f (Two ∷ [])) refl m (faultless n (after Two f)))

-- ---- what the value holds

root_back : (n : ℕ) (f : Held) → IsMap n f → Some (or_zero (f [])) ≡ f []
root_back n f m = ap (λ o. Some (or_zero o)) m.root.1 ∙ sym m.root.1

leaf_held : (h : ℕ) → h < 2 ^ 32 → held_at [] (object (hash_data h)) ≡ Some h
leaf_held h l = ap Some (hash_facts h l).back

node_held : (x y z : Data) (a b c : Option ℕ) (h : ℕ) → h < 2 ^ 32 → held_at [] (node_data x y z a b c h) ≡ Some h
node_held x y z a b c h l = rw (get_hash x y z a b c h) (ap Some (hash_facts h l).back)

child_held : (n : ℕ) (d : Digit) (f : Held) (e : Data) (o : Option ℕ) (p : List Digit) → f (d ∷ []) ≡ o → IsMap (suc n) f → (IsMap n (after d f) → held_at p e ≡ f (d ∷ p)) →
    option_and_then (held_at p) (data_child e o) ≡ f (d ∷ p)
child_held n d f e None p none m next = sym (m.closed (d ∷ []) p none)
child_held n d f e (Some h) p some m next = next (map_below n d f h some m)

no_child : (h : ℕ) (d : Digit) (p : List Digit) → held_at (d ∷ p) (object (hash_data h)) ≡ None
no_child h Zero p = refl
no_child h One p = refl
no_child h Two p = refl

held_map : (n : ℕ) (f : Held) → IsMap n f → (p : List Digit) → held_at p (map_data n f) ≡ f p
unfolding map_data
held_map zero f m [] = leaf_held (or_zero (f [])) (hash_fits zero f m) ∙ root_back zero f m
held_map zero f m (d ∷ p) = let k : 0 < length (d ∷ p) = omega arith in no_child (or_zero (f [])) d p ∙ sym (m.short (d ∷ p) k)
held_map (suc n) f m [] =
    node_held (map_data n (after Zero f)) (map_data n (after One f)) (map_data n (after Two f)) (f (Zero ∷ [])) (f (One ∷ [])) (f (Two ∷ [])) (or_zero (f [])) (hash_fits (suc n) f m) ∙ root_back (suc n) f m
held_map (suc n) f m (Zero ∷ p) =
    ap (option_and_then (held_at p)) (get_zero (map_data n (after Zero f)) (map_data n (after One f)) (map_data n (after Two f)) (f (Zero ∷ [])) (f (One ∷ [])) (f (Two ∷ [])) (or_zero (f [])))
    ∙ child_held n Zero f (map_data n (after Zero f)) (f (Zero ∷ [])) p refl m (λ k. held_map n (after Zero f) k p)
held_map (suc n) f m (One ∷ p) =
    ap (option_and_then (held_at p)) (get_one (map_data n (after Zero f)) (map_data n (after One f)) (map_data n (after Two f)) (f (Zero ∷ [])) (f (One ∷ [])) (f (Two ∷ [])) (or_zero (f [])))
    ∙ child_held n One f (map_data n (after One f)) (f (One ∷ [])) p refl m (λ k. held_map n (after One f) k p)
held_map (suc n) f m (Two ∷ p) =
    ap (option_and_then (held_at p)) (get_two (map_data n (after Zero f)) (map_data n (after One f)) (map_data n (after Two f)) (f (Zero ∷ [])) (f (One ∷ [])) (f (Two ∷ [])) (or_zero (f [])))
    ∙ child_held n Two f (map_data n (after Two f)) (f (Two ∷ [])) p refl m (λ k. held_map n (after Two f) k p)

pub right : (f : Held) → IsMap 16 f → fault_of_text (trie_text f) ≡ None
right f m = ap fault_of_value (text_read 16 f (lit≤ tt) m) ∙ faultless 16 f m

pub same : (f : Held) → IsMap 16 f → map_of_text (trie_text f) ≡ f
same f m = fun_ext (λ p. ap (option_and_then (held_at p)) (text_read 16 f (lit≤ tt) m) ∙ held_map 16 f m p)
