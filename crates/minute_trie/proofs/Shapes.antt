-- What a trie holds is a map of at most 16 digits.
use Rattle.std.proofs.Common.{◌≡◌, ℕ, zero, suc, ◌-◌, ◌<◌, ◌≤◌, ◌^◌, ℤ, pos, negsuc, List, [], ◌∷◌, ◌++◌, map, filter, length, Option, Some, None, Bool, true, false, ◌&&◌, cond, is_some, bit_xor, FitsSigned, w32, of_z, option_and_then, refl, sym, ap, ◌∙◌, subst, lit<, lit≤, arith}
use Rattle.std.proofs.lemmas.Nat.{xor_lt}
use Rattle.std.proofs.lemmas.Bool.Decides.{nat_tests}
use Rattle.serde_json.specs.Data.{Data}
use Rattle.serde_json.specs.Find.{get}
use Rattle.serde_json.specs.Read.{read}
use Rattle.minute_trie.specs.declared.key.Digit.{Digit}
use Rattle.minute_trie.specs.declared.key.Digit.TheVariants.{Zero, One, Two}
use Rattle.minute_trie.specs.declared.read.TrieFault.{TrieFault}
use Rattle.minute_trie.specs.declared.read.TrieFault.TheVariants.{BadNode}
use Rattle.minute_trie.specs.Key.{key, same_digit}
use Rattle.minute_trie.specs.Pruned.{Entry, xor_all, hash_of, lies_below, xor, stays, kept, pruned}
use Rattle.minute_trie.specs.Held.{Held, after, or_zero, IsMap}
use Rattle.minute_trie.specs.Trie.{Pair, IsPair, stamp_pair, entries_of, trie_of, ArePairs}
use Rattle.minute_trie.specs.Adding.{xored, instead, with_two_greatest, added, with_pair}
use Rattle.minute_trie.specs.Names.{child_name, hash_name}
use Rattle.minute_trie.specs.Faults.{is_node, first_fault, of_child, or_else, hash_of_number, whole_number, held_at, fault_of_value, fault_of_text, map_of_text}
use Rattle.std.proofs.Math.Facts.{sfits_to_z}
use Rattle.hybrid_clock.specs.declared.stamp.Stamp.{Stamp}
use Rattle.hybrid_clock.specs.Stamp.{IsStamp, stamp_text}
use Rattle.minute_trie.proofs.Blocks.{murmur_fits}
use Rattle.minute_trie.proofs.Pruning.{below, behind, has, kept_below, present_one}

-- ---- of pairs

abbrev AreFit : ℕ → List Entry → Type 0
AreFit n [] = Unit {0}
AreFit n (e ∷ es) = (length e.0 ≤ n) × ((e.1 < 2 ^ 32) × AreFit n es)

fit_behind : (d : Digit) (n : ℕ) (key : List Digit) (hash : ℕ) (es : List Entry) → length key ≤ suc n → hash < 2 ^ 32 → AreFit n es → AreFit n (behind d key hash es)
fit_behind d n [] hash es k h f = f
fit_behind d n (c ∷ key) hash es k h f = elim (same_digit c d) as (λ b. AreFit n (cond b ((key, hash) ∷ es) es)) [ true ↦ (omega arith, (h, f)) | false ↦ f ]

fit_below : (d : Digit) (n : ℕ) (es : List Entry) → AreFit (suc n) es → AreFit n (below d es)
fit_below d n [] f = tt
fit_below d n (e ∷ es) f = fit_behind d n e.0 e.1 (below d es) f.0 f.1.0 (fit_below d n es f.1.1)

picked_fits : (b : Bool) (e : Entry) (rest : List Entry) → e.1 < 2 ^ 32 → xor_all (map hash_of rest) < 2 ^ 32 → xor_all (map hash_of (cond b (e ∷ rest) rest)) < 2 ^ 32
picked_fits true e rest h r = xor_lt 32 e.1 (xor_all (map hash_of rest)) h r
picked_fits false e rest h r = r

xor_fits : (t : Entry → Bool) (n : ℕ) (es : List Entry) → AreFit n es → xor_all (map hash_of (filter t es)) < 2 ^ 32
xor_fits t n [] f = lit< tt
xor_fits t n (e ∷ es) f = picked_fits (t e) e (filter t es) f.1.0 (xor_fits t n es f.1.1)

and_false : (a b c : Bool) → (a && b) ≡ false → (b ≡ false → c ≡ false) → (a && c) ≡ false
and_false true b c h next = next h
and_false false b c h next = refl

last_false : (a b : Bool) → b ≡ false → (a && b) ≡ false
last_false true b h = h
last_false false b h = refl

kept_prefix : (es : List Entry) (p q : List Digit) → kept es p ≡ false → kept es (p ++ q) ≡ false
kept_prefix es [] q h = absurd (cc)
kept_prefix es (d ∷ p) q h =
    kept_below es d (p ++ q) ∙ and_false (stays es (d ∷ [])) (kept (below d es) p) (kept (below d es) (p ++ q)) (sym (kept_below es d p) ∙ h) (kept_prefix (below d es) p q)

none_behind : (d : Digit) (key : List Digit) (hash : ℕ) (es : List Entry) → length key ≤ 0 → es ≡ [] → behind d key hash es ≡ []
none_behind d [] hash es k h = h
none_behind d (c ∷ key) hash es k h = absurd (omega arith)

none_below : (d : Digit) (es : List Entry) → AreFit 0 es → below d es ≡ []
none_below d [] f = refl
none_below d (e ∷ es) f = none_behind d e.0 e.1 (below d es) f.0 (none_below d es f.1.1)

first_false : (a b c : Bool) → a ≡ false → ((a && b) && c) ≡ false
first_false a b c h = ap (λ x. (x && b) && c) h

kept_short : (n : ℕ) (es : List Entry) (p : List Digit) → AreFit n es → n < length p → kept es p ≡ false
kept_short n es [] f l = absurd (omega arith)
kept_short zero es (d ∷ p) f l = kept_below es d p ∙ first_false _ _ (kept (below d es) p) (present_one es d ∙ ap has (none_below d es f))
kept_short (suc n) es (d ∷ p) f l = let k : n < length p = omega arith in kept_below es d p ∙ last_false (stays es (d ∷ [])) _ (kept_short n (below d es) p (fit_below d n es f) k)

none_is : (b : Bool) (x : ℕ) → cond b (Some x) None ≡ None → b ≡ false
none_is true x h = absurd (cc)
none_is false x h = refl

some_is : (b : Bool) (x h : ℕ) → cond b (Some x) None ≡ Some h → x ≡ h
some_is true x h e = cc
some_is false x h e = absurd (cc)

entries_map : (n : ℕ) (es : List Entry) → AreFit n es → IsMap n (pruned es)
entries_map n es f = record {
  root = (xor es [], refl);
  fits = λ p h e. subst (λ x. x < 2 ^ 32) (some_is (kept es p) (xor es p) h e) (xor_fits (lies_below p) n es f);
  closed = λ p q h. ap (λ b. cond b (Some (xor es (p ++ q))) None) (kept_prefix es p q (none_is (kept es p) (xor es p) h));
  short = λ p l. ap (λ b. cond b (Some (xor es p)) None) (kept_short n es p f l);
}

key_length : (minute : ℕ) → length (key minute) ≤ 16
unfolding key
key_length minute = lit≤ tt

cast_fits : (z : ℤ) → FitsSigned w32 z → of_z w32 z < 2 ^ 32
cast_fits (pos n) f = omega (arith, f.sfits)
cast_fits (negsuc n) f = omega arith

fit_pairs : (pairs : List Pair) → ArePairs pairs → AreFit 16 (entries_of pairs)
fit_pairs [] f = tt
fit_pairs (e ∷ pairs) f = (key_length e.0, (cast_fits e.1 f.0.fits, fit_pairs pairs f.1))

pub of_pairs : (pairs : List Pair) → ArePairs pairs → IsMap 16 (trie_of pairs)
of_pairs pairs f = entries_map 16 (entries_of pairs) (fit_pairs pairs f)

-- ---- of a text

hash_small : (o : Option ℤ) → hash_of_number o < 2 ^ 32
hash_small None = lit< tt
hash_small (Some (pos n)) = grind (arith, nat_tests)
hash_small (Some (negsuc n)) = grind (arith, nat_tests)

through_fits : (p : List Digit) (o : Option Data) (h : ℕ) → ((d : Data) (h : ℕ) → held_at p d ≡ Some h → h < 2 ^ 32) → option_and_then (held_at p) o ≡ Some h → h < 2 ^ 32
through_fits p None h next e = absurd (cc)
through_fits p (Some d) h next e = next d h e

held_fits : (p : List Digit) (d : Data) (h : ℕ) → held_at p d ≡ Some h → h < 2 ^ 32
held_fits [] d h e = let k : hash_of_number (option_and_then whole_number (get hash_name d)) ≡ h = cc in subst (λ x. x < 2 ^ 32) k (hash_small (option_and_then whole_number (get hash_name d)))
held_fits (c ∷ p) d h e = through_fits p (get (child_name c) d) h (held_fits p) e

through_closed : (p q : List Digit) (o : Option Data) → ((d : Data) → held_at p d ≡ None → held_at (p ++ q) d ≡ None) → option_and_then (held_at p) o ≡ None → option_and_then (held_at (p ++ q)) o ≡ None
through_closed p q None next e = refl
through_closed p q (Some d) next e = next d e

held_closed : (p q : List Digit) (d : Data) → held_at p d ≡ None → held_at (p ++ q) d ≡ None
held_closed [] q d e = absurd (cc)
held_closed (c ∷ p) q d e = through_closed p q (get (child_name c) d) (held_closed p q) e

right_parts : (b : Bool) (x y z : Option TrieFault) (f : TrieFault) → cond b (or_else x (or_else y z)) (Some f) ≡ None → (x ≡ None) × (y ≡ None) × (z ≡ None)
right_parts false x y z f h = absurd (cc)
right_parts true None None None f h = (refl, refl, refl)
right_parts true None None (Some g) f h = absurd (cc)
right_parts true None (Some g) z f h = absurd (cc)
right_parts true (Some g) y z f h = absurd (cc)

parts : (n : ℕ) (d : Data) → first_fault (suc n) d ≡ None →
    (of_child (first_fault n) (get (child_name Zero) d) ≡ None) × (of_child (first_fault n) (get (child_name One) d) ≡ None) × (of_child (first_fault n) (get (child_name Two) d) ≡ None)
parts n d h = right_parts (is_node d) (of_child (first_fault n) (get (child_name Zero) d)) (of_child (first_fault n) (get (child_name One) d)) (of_child (first_fault n) (get (child_name Two) d)) (BadNode (16 - n)) h

child_right : (n : ℕ) (d : Data) (c : Digit) → first_fault (suc n) d ≡ None → of_child (first_fault n) (get (child_name c) d) ≡ None
child_right n d Zero h = (parts n d h).0
child_right n d One h = (parts n d h).1
child_right n d Two h = (parts n d h).2

too_deep : (p : List Digit) (o : Option Data) → of_child (first_fault 0) o ≡ None → option_and_then (held_at p) o ≡ None
too_deep p None h = refl
too_deep p (Some d) h = absurd (cc)

through_short : (n : ℕ) (p : List Digit) (o : Option Data) → ((d : Data) → first_fault n d ≡ None → held_at p d ≡ None) → of_child (first_fault n) o ≡ None → option_and_then (held_at p) o ≡ None
through_short n p None next h = refl
through_short n p (Some d) next h = next d h

held_short : (n : ℕ) (p : List Digit) (d : Data) → n < length p → first_fault (suc n) d ≡ None → held_at p d ≡ None
held_short n [] d l h = absurd (omega arith)
held_short zero (c ∷ p) d l h = too_deep p (get (child_name c) d) (child_right 0 d c h)
held_short (suc n) (c ∷ p) d l h =
    let k : n < length p = omega arith in
    through_short (suc n) p (get (child_name c) d) (λ e. held_short n p e k) (child_right (suc n) d c h)

of_value : (o : Option Data) → fault_of_value o ≡ None → IsMap 16 (λ p. option_and_then (held_at p) o)
of_value None h = absurd (cc)
of_value (Some d) h = record {
  root = (_, refl);
  fits = λ p x e. held_fits p d x e;
  closed = λ p q e. held_closed p q d e;
  short = λ p l. held_short 16 p d l h;
}

pub of_text : (text : List ℕ) → fault_of_text text ≡ None → IsMap 16 (map_of_text text)
of_text text h = of_value (read text) h

-- ---- after an insertion

abbrev AllFit : Held → Type 0
AllFit f = (p : List Digit) (h : ℕ) → f p ≡ Some h → h < 2 ^ 32

abbrev IsClosed : Held → Type 0
IsClosed f = (p q : List Digit) → f p ≡ None → f (p ++ q) ≡ None

abbrev IsShort : ℕ → Held → Type 0
IsShort n f = (p : List Digit) → n < length p → f p ≡ None

or_zero_fits : (f : Held) (o : Option ℕ) → f [] ≡ o → AllFit f → or_zero o < 2 ^ 32
or_zero_fits f None e a = lit< tt
or_zero_fits f (Some h) e a = a [] h e

some_inj : (x h : ℕ) → Some x ≡ Some h → x ≡ h
some_inj x h e = cc

xored_fits : (hash : ℕ) (f : Held) → hash < 2 ^ 32 → AllFit f → AllFit (xored hash f)
xored_fits hash f l a [] h e = subst (λ x. x < 2 ^ 32) (some_inj (bit_xor (or_zero (f [])) hash) h e) (xor_lt 32 (or_zero (f [])) hash (or_zero_fits f (f []) refl a) l)
xored_fits hash f l a (d ∷ p) h e = a (d ∷ p) h e

drop_fits : (b : Bool) (o : Option ℕ) (h : ℕ) → cond b None o ≡ Some h → o ≡ Some h
drop_fits true o h e = absurd (cc)
drop_fits false o h e = e

thin_fits : (f : Held) → AllFit f → AllFit (with_two_greatest f)
thin_fits f a [] h e = a [] h e
thin_fits f a (Zero ∷ p) h e = a (Zero ∷ p) h (drop_fits (is_some (f (One ∷ [])) && is_some (f (Two ∷ []))) (f (Zero ∷ p)) h e)
thin_fits f a (One ∷ p) h e = a (One ∷ p) h e
thin_fits f a (Two ∷ p) h e = a (Two ∷ p) h e

either_fits : (b : Bool) (x y : Option ℕ) (h : ℕ) → (x ≡ Some h → h < 2 ^ 32) → (y ≡ Some h → h < 2 ^ 32) → cond b x y ≡ Some h → h < 2 ^ 32
either_fits true x y h f g e = f e
either_fits false x y h f g e = g e

instead_fits : (c : Digit) (g f : Held) → AllFit g → AllFit f → AllFit (instead c g f)
instead_fits c g f a b [] h e = b [] h e
instead_fits c g f a b (d ∷ p) h e = either_fits (same_digit c d) (g p) (f (d ∷ p)) h (a p h) (b (d ∷ p) h) e

added_fits : (key : List Digit) (hash : ℕ) (f : Held) → hash < 2 ^ 32 → AllFit f → AllFit (added key hash f)
added_fits [] hash f l a = xored_fits hash f l a
added_fits (c ∷ key) hash f l a = thin_fits _ (instead_fits c _ _ (added_fits key hash (after c f) l (λ p. a (c ∷ p))) (xored_fits hash f l a))

xored_closed : (hash : ℕ) (f : Held) → IsClosed f → IsClosed (xored hash f)
xored_closed hash f a [] q e = absurd (cc)
xored_closed hash f a (d ∷ p) q e = a (d ∷ p) q e

drop_closed : (b : Bool) (x y : Option ℕ) → (x ≡ None → y ≡ None) → cond b None x ≡ None → cond b None y ≡ None
drop_closed true x y f e = refl
drop_closed false x y f e = f e

thin_closed : (f : Held) → (f [] ≡ None → ⊥) → IsClosed f → IsClosed (with_two_greatest f)
thin_closed f r a [] q e = absurd (r e)
thin_closed f r a (Zero ∷ p) q e = drop_closed (is_some (f (One ∷ [])) && is_some (f (Two ∷ []))) (f (Zero ∷ p)) (f (Zero ∷ (p ++ q))) (a (Zero ∷ p) q) e
thin_closed f r a (One ∷ p) q e = a (One ∷ p) q e
thin_closed f r a (Two ∷ p) q e = a (Two ∷ p) q e

either_closed : (b : Bool) (x y u v : Option ℕ) → (x ≡ None → u ≡ None) → (y ≡ None → v ≡ None) → cond b x y ≡ None → cond b u v ≡ None
either_closed true x y u v f g e = f e
either_closed false x y u v f g e = g e

instead_closed : (c : Digit) (g f : Held) → (f [] ≡ None → ⊥) → IsClosed g → IsClosed f → IsClosed (instead c g f)
instead_closed c g f r a b [] q e = absurd (r e)
instead_closed c g f r a b (d ∷ p) q e = either_closed (same_digit c d) (g p) (f (d ∷ p)) (g (p ++ q)) (f (d ∷ (p ++ q))) (a p q) (b (d ∷ p) q) e

rooted : (hash : ℕ) (f : Held) → xored hash f [] ≡ None → ⊥
rooted hash f e = cc

added_closed : (key : List Digit) (hash : ℕ) (f : Held) → IsClosed f → IsClosed (added key hash f)
added_closed [] hash f a = xored_closed hash f a
added_closed (c ∷ key) hash f a =
    thin_closed _ (rooted hash f) (instead_closed c _ _ (rooted hash f) (added_closed key hash (after c f) (λ p q. a (c ∷ p) q)) (xored_closed hash f a))

xored_short : (n hash : ℕ) (f : Held) → IsShort n f → IsShort n (xored hash f)
xored_short n hash f a [] l = absurd (omega arith)
xored_short n hash f a (d ∷ p) l = a (d ∷ p) l

drop_short : (b : Bool) (x : Option ℕ) → x ≡ None → cond b None x ≡ None
drop_short true x e = refl
drop_short false x e = e

thin_short : (n : ℕ) (f : Held) → IsShort n f → IsShort n (with_two_greatest f)
thin_short n f a [] l = absurd (omega arith)
thin_short n f a (Zero ∷ p) l = drop_short (is_some (f (One ∷ [])) && is_some (f (Two ∷ []))) (f (Zero ∷ p)) (a (Zero ∷ p) l)
thin_short n f a (One ∷ p) l = a (One ∷ p) l
thin_short n f a (Two ∷ p) l = a (Two ∷ p) l

either_none : (b : Bool) (x y : Option ℕ) → x ≡ None → y ≡ None → cond b x y ≡ None
either_none true x y f g = f
either_none false x y f g = g

instead_short : (n : ℕ) (c : Digit) (g f : Held) → IsShort n g → IsShort (suc n) f → IsShort (suc n) (instead c g f)
instead_short n c g f a b [] l = absurd (omega arith)
instead_short n c g f a b (d ∷ p) l = let k : n < length p = omega arith in either_none (same_digit c d) (g p) (f (d ∷ p)) (a p k) (b (d ∷ p) l)

added_short : (n : ℕ) (key : List Digit) (hash : ℕ) (f : Held) → length key ≤ n → IsShort n f → IsShort n (added key hash f)
added_short n [] hash f l a = xored_short n hash f a
added_short zero (c ∷ key) hash f l a = absurd (omega arith)
added_short (suc n) (c ∷ key) hash f l a =
    let k : length key ≤ n = omega arith in
    let b : IsShort n (after c f) = λ p i. let j : suc n < length (c ∷ p) = omega arith in a (c ∷ p) j in
    thin_short (suc n) _ (instead_short n c _ _ (added_short n key hash (after c f) k b) (xored_short (suc n) hash f a))

added_root : (key : List Digit) (hash : ℕ) (f : Held) → (h : ℕ) × (added key hash f [] ≡ Some h)
added_root [] hash f = (_, refl)
added_root (c ∷ key) hash f = (_, refl)

of_more : (key : List Digit) (hash : ℕ) (f : Held) → length key ≤ 16 → hash < 2 ^ 32 → IsMap 16 f → IsMap 16 (added key hash f)
of_more key hash f k l m = record {
  root = added_root key hash f;
  fits = added_fits key hash f l m.fits;
  closed = added_closed key hash f m.closed;
  short = added_short 16 key hash f k m.short;
}

pub of_added : (pair : Pair) (f : Held) → IsPair pair → IsMap 16 f → IsMap 16 (with_pair pair f)
of_added pair f p m = of_more (key pair.0) (of_z w32 pair.1) f (key_length pair.0) (cast_fits pair.1 p.fits) m

pub of_stamp : (s : Stamp) → IsStamp s → IsPair (stamp_pair s)
of_stamp s is = record { within = (let k = is.within in omega arith); fits = sfits_to_z record { fits = murmur_fits (stamp_text s) } }
