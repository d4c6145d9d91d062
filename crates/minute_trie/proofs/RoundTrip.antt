-- The text of a map reads as a value.
use Rattle.std.proofs.Common.{◌≡◌, ℕ, zero, suc, ◌<◌, ◌≤◌, ◌^◌, List, [], ◌∷◌, ◌++◌, length, Option, Some, None, true, false, codes, w32, to_z, option_and_then, refl, sym, ap, ap₂, ◌∙◌, subst, append_assoc, append-nil, arith}
use Rattle.std.specs.Fmt.{signed_decimal}
use Rattle.json.specs.Token.{Token}
use Rattle.json.specs.Lex.{tokens}
use Rattle.json.specs.Json as json
use Rattle.json.specs.Tree.{json_tokens, members_tokens, HasNumbers, MembersHaveNumbers}
use Rattle.json.specs.Tree as tree
use Rattle.json.specs.Print.{print, print_from, quoted, escape_byte}
use Rattle.json.proofs.Printed.Tokens.{tokens-print}
use Rattle.json.proofs.Printed.Trees.{value-json_tokens, ArePrintable-json_tokens}
use Rattle.serde_json.specs.Data.{Data, number, object, Members, no_members, member}
use Rattle.serde_json.specs.Find.{of_integer}
use Rattle.serde_json.specs.Read.{read, of_json, max_depth}
use Rattle.minute_trie.specs.declared.key.Digit.{Digit}
use Rattle.minute_trie.specs.declared.key.Digit.TheVariants.{Zero, One, Two}
use Rattle.minute_trie.specs.Held.{Held, after, or_zero, IsMap}
use Rattle.minute_trie.specs.Json.{key_text, child_text, members_text, map_text}
use Rattle.minute_trie.specs.Names.{child_name, hash_name}
use Rattle.minute_trie.proofs.Hashes.{hash_facts}

-- ---- maps below a digit

pub map_below : (n : ℕ) (d : Digit) (f : Held) (h : ℕ) → f (d ∷ []) ≡ Some h → IsMap (suc n) f → IsMap n (after d f)
map_below n d f h e m = record {
  root = (h, e);
  fits = λ p. m.fits (d ∷ p);
  closed = λ p q. m.closed (d ∷ p) q;
  short = λ p l. let k : suc n < suc (length p) = omega arith in m.short (d ∷ p) k;
}

pub hash_fits : (n : ℕ) (f : Held) → IsMap n f → or_zero (f []) < 2 ^ 32
hash_fits n f m = subst (λ x. x < 2 ^ 32) (sym (ap or_zero m.root.1)) (m.fits [] m.root.0 m.root.1)

-- ---- the value, as JSON

abbrev hash_json : ℕ → json.Members
hash_json h = json.member hash_name (json.number (signed_decimal (to_z w32 h))) json.no_members

abbrev child_json : Digit → json.Json → Option ℕ → json.Members → json.Members
child_json d j None rest = rest
child_json d j (Some h) rest = json.member (child_name d) j rest

unfoldable map_json : ℕ → Held → json.Json
map_json zero f = json.object (hash_json (or_zero (f [])))
map_json (suc n) f =
    json.object (child_json Zero (map_json n (after Zero f)) (f (Zero ∷ [])) (child_json One (map_json n (after One f)) (f (One ∷ []))
    (child_json Two (map_json n (after Two f)) (f (Two ∷ [])) (hash_json (or_zero (f []))))))

abbrev IsFilled : json.Members → Type 0
IsFilled json.no_members = ⊥
IsFilled (json.member k j ms) = Unit {0}

filled : (d : Digit) (j : json.Json) (o : Option ℕ) (ms : json.Members) → IsFilled ms → IsFilled (child_json d j o ms)
filled d j None ms h = h
filled d j (Some x) ms h = tt

comma : (ms : json.Members) (rest : List Token) → IsFilled ms → print_from true (members_tokens ms ++ rest) ≡ 44 ∷ print_from false (members_tokens ms ++ rest)
unfolding print_from
comma json.no_members rest h = absurd h
comma (json.member k j ms) rest h = refl

key_first : (k : List ℕ) (j : json.Json) (ms : json.Members) (rest : List Token) →
    print_from false (members_tokens (json.member k j ms) ++ rest) ≡ (quoted k ++ 58 ∷ []) ++ print_from false (json_tokens j ++ (members_tokens ms ++ rest))
unfolding print_from
key_first k j ms rest = ap (λ ts. (quoted k ++ 58 ∷ []) ++ print_from false ts) (append_assoc (json_tokens j) (members_tokens ms) rest)

quoted_hash : (quoted hash_name ++ 58 ∷ []) ≡ key_text hash_name
unfolding escape_byte
quoted_hash = refl

hash_printed : (h : ℕ) (key : List ℕ) (rest : List Token) → (quoted hash_name ++ 58 ∷ []) ≡ key →
    print_from false (members_tokens (hash_json h) ++ rest) ≡ key ++ (signed_decimal (to_z w32 h) ++ 125 ∷ print_from true rest)
unfolding print_from
hash_printed h key rest q = ap (λ k. k ++ (signed_decimal (to_z w32 h) ++ 125 ∷ print_from true rest)) q

quoted_key : (d : Digit) → (quoted (child_name d) ++ 58 ∷ []) ≡ key_text (child_name d)
unfolding escape_byte
quoted_key Zero = refl
quoted_key One = refl
quoted_key Two = refl

begun : (ts : List Token) → print_from false (Token.begin_object ∷ ts) ≡ 123 ∷ print_from false ts
unfolding print_from
begun ts = refl

regroup_leaf : (d e f g : List ℕ) → d ++ (e ++ (f ++ g)) ≡ ((d ++ e) ++ f) ++ g
regroup_leaf d e f g = simp append_assoc

regroup : (a b c d e f g : List ℕ) → a ++ (b ++ (c ++ (d ++ (e ++ (f ++ g))))) ≡ ((a ++ (b ++ c)) ++ ((d ++ e) ++ f)) ++ g
regroup a b c d e f g = simp append_assoc

printed_child : (d : Digit) (j : json.Json) (text : List ℕ) (o : Option ℕ) (ms : json.Members) (rest : List Token) → ((rest : List Token) → print_from false (json_tokens j ++ rest) ≡ text ++ print_from true rest) → IsFilled ms →
    print_from false (members_tokens (child_json d j o ms) ++ rest) ≡ child_text d text o ++ print_from false (members_tokens ms ++ rest)
printed_child d j text None ms rest next h = refl
printed_child d j text (Some x) ms rest next h =
    key_first (child_name d) j ms rest
    ∙ ap₂ (λ a b. a ++ b) (quoted_key d) (next (members_tokens ms ++ rest) ∙ ap (λ t. text ++ t) (comma ms rest h) ∙ sym (append_assoc text (44 ∷ []) (print_from false (members_tokens ms ++ rest))))
    ∙ sym (append_assoc (key_text (child_name d)) (text ++ 44 ∷ []) (print_from false (members_tokens ms ++ rest)))

printed_object : (x y z : json.Json) (u v w : List ℕ) (a b c : Option ℕ) (h : ℕ) (rest : List Token) →
    ((rest : List Token) → print_from false (json_tokens x ++ rest) ≡ u ++ print_from true rest) →
    ((rest : List Token) → print_from false (json_tokens y ++ rest) ≡ v ++ print_from true rest) →
    ((rest : List Token) → print_from false (json_tokens z ++ rest) ≡ w ++ print_from true rest) →
    print_from false (json_tokens (json.object (child_json Zero x a (child_json One y b (child_json Two z c (hash_json h))))) ++ rest)
    ≡ (123 ∷ ((child_text Zero u a ++ (child_text One v b ++ child_text Two w c)) ++ ((key_text hash_name ++ signed_decimal (to_z w32 h)) ++ codes "}"))) ++ print_from true rest
printed_object x y z u v w a b c h rest px py pz =
    begun _ ∙ ap (λ text. 123 ∷ text)
    (printed_child Zero x u a _ rest px (filled One y b _ (filled Two z c (hash_json h) tt))
    ∙ ap (λ text. child_text Zero u a ++ text) (printed_child One y v b _ rest py (filled Two z c (hash_json h) tt)
    ∙ ap (λ text. child_text One v b ++ text) (printed_child Two z w c (hash_json h) rest pz tt
    ∙ ap (λ text. child_text Two w c ++ text) (hash_printed h (key_text hash_name) rest quoted_hash)))
    ∙ regroup (child_text Zero u a) (child_text One v b) (child_text Two w c) (key_text hash_name) (signed_decimal (to_z w32 h)) (codes "}") (print_from true rest))

printed : (n : ℕ) (f : Held) (rest : List Token) → print_from false (json_tokens (map_json n f) ++ rest) ≡ map_text n f ++ print_from true rest
unfolding map_json members_text
printed zero f rest =
    begun _ ∙ ap (λ text. 123 ∷ text) (hash_printed (or_zero (f [])) (key_text hash_name) rest quoted_hash ∙ regroup_leaf (key_text hash_name) (signed_decimal (to_z w32 (or_zero (f [])))) (codes "}") (print_from true rest))
printed (suc n) f rest =
    printed_object (map_json n (after Zero f)) (map_json n (after One f)) (map_json n (after Two f)) (map_text n (after Zero f)) (map_text n (after One f)) (map_text n (after Two f))
    (f (Zero ∷ [])) (f (One ∷ [])) (f (Two ∷ [])) (or_zero (f [])) rest (printed n (after Zero f)) (printed n (after One f)) (printed n (after Two f))

-- ---- the value, as it is read

abbrev pub hash_data : ℕ → Members
hash_data h = member hash_name (number (of_integer (to_z w32 h))) no_members

abbrev pub child_data : Digit → Data → Option ℕ → Members → Members
child_data d e None rest = rest
child_data d e (Some h) rest = member (child_name d) e rest

abbrev pub node_data : Data → Data → Data → Option ℕ → Option ℕ → Option ℕ → ℕ → Data
node_data x y z a b c h = object (child_data Zero x a (child_data One y b (child_data Two z c (hash_data h))))

unfoldable pub map_data : ℕ → Held → Data
map_data zero f = object (hash_data (or_zero (f [])))
map_data (suc n) f = node_data (map_data n (after Zero f)) (map_data n (after One f)) (map_data n (after Two f)) (f (Zero ∷ [])) (f (One ∷ [])) (f (Two ∷ [])) (or_zero (f []))

-- a fact of a child that is there
abbrev pub IfThere : Type 0 → Option ℕ → Type 0
IfThere P None = Unit {0}
IfThere P (Some h) = P

pub if_there : (P : Type 0) (n : ℕ) (d : Digit) (f : Held) (o : Option ℕ) → f (d ∷ []) ≡ o → IsMap (suc n) f → (IsMap n (after d f) → P) → IfThere P o
if_there P n d f None e m next = tt
if_there P n d f (Some h) e m next = next (map_below n d f h e m)

read_object : (x y z : json.Json) (u v w : Data) (a b c : Option ℕ) (h : ℕ) → IfThere (of_json x ≡ Some u) a → IfThere (of_json y ≡ Some v) b → IfThere (of_json z ≡ Some w) c → h < 2 ^ 32 →
    of_json (json.object (child_json Zero x a (child_json One y b (child_json Two z c (hash_json h))))) ≡ Some (node_data u v w a b c h)
read_object x y z u v w None None None h p q r l = rw ((hash_facts h l).reads) refl
read_object x y z u v w (Some i) None None h p q r l = rw (p, (hash_facts h l).reads) refl
read_object x y z u v w None (Some j) None h p q r l = rw (q, (hash_facts h l).reads) refl
read_object x y z u v w None None (Some k) h p q r l = rw (r, (hash_facts h l).reads) refl
read_object x y z u v w (Some i) (Some j) None h p q r l = rw (p, q, (hash_facts h l).reads) refl
read_object x y z u v w (Some i) None (Some k) h p q r l = rw (p, r, (hash_facts h l).reads) refl
read_object x y z u v w None (Some j) (Some k) h p q r l = rw (q, r, (hash_facts h l).reads) refl
read_object x y z u v w (Some i) (Some j) (Some k) h p q r l = rw (p, q, r, (hash_facts h l).reads) refl

read_leaf : (h : ℕ) → h < 2 ^ 32 → of_json (json.object (hash_json h)) ≡ Some (object (hash_data h))
read_leaf h l = rw ((hash_facts h l).reads) refl

read_map : (n : ℕ) (f : Held) → IsMap n f → of_json (map_json n f) ≡ Some (map_data n f)
unfolding map_json map_data
read_map zero f m = read_leaf (or_zero (f [])) (hash_fits zero f m)
read_map (suc n) f m =
    read_object (map_json n (after Zero f)) (map_json n (after One f)) (map_json n (after Two f)) (map_data n (after Zero f)) (map_data n (after One f)) (map_data n (after Two f))
    (f (Zero ∷ [])) (f (One ∷ [])) (f (Two ∷ [])) (or_zero (f []))
    (if_there _ n Zero f (f (Zero ∷ [])) refl m (read_map n (after Zero f)))
    (if_there _ n One f (f (One ∷ [])) refl m (read_map n (after One f)))
    (if_there _ n Two f (f (Two ∷ [])) refl m (read_map n (after Two f)))
    (hash_fits (suc n) f m)

-- ---- depths and numbers

shallow_child : (d : Digit) (j : json.Json) (o : Option ℕ) (l : ℕ) (ms : json.Members) → tree.depth j ≤ l → tree.members_depth ms ≤ l → tree.members_depth (child_json d j o ms) ≤ l
shallow_child d j None l ms g h = h
shallow_child d j (Some x) l ms g h = omega arith

shallow : (n : ℕ) (f : Held) → tree.depth (map_json n f) ≤ suc n
unfolding map_json
shallow zero f = omega arith
shallow (suc n) f =
    let base : tree.members_depth (hash_json (or_zero (f []))) ≤ suc n = omega arith in
    let d = shallow_child Zero (map_json n (after Zero f)) (f (Zero ∷ [])) (suc n) _ (shallow n (after Zero f))
    (shallow_child One (map_json n (after One f)) (f (One ∷ [])) (suc n) _ (shallow n (after One f))
    (shallow_child Two (map_json n (after Two f)) (f (Two ∷ [])) (suc n) (hash_json (or_zero (f []))) (shallow n (after Two f)) base)) in
    omega arith

numbers_child : (d : Digit) (j : json.Json) (o : Option ℕ) (ms : json.Members) → IfThere (HasNumbers j) o → MembersHaveNumbers ms → MembersHaveNumbers (child_json d j o ms)
numbers_child d j None ms g h = h
numbers_child d j (Some x) ms g h = (g, h)

numbers : (n : ℕ) (f : Held) → IsMap n f → HasNumbers (map_json n f)
unfolding map_json
numbers zero f m = ((hash_facts (or_zero (f [])) (hash_fits zero f m)).number, tt)
numbers (suc n) f m =
    numbers_child Zero (map_json n (after Zero f)) (f (Zero ∷ [])) _ (if_there _ n Zero f (f (Zero ∷ [])) refl m (numbers n (after Zero f)))
    (numbers_child One (map_json n (after One f)) (f (One ∷ [])) _ (if_there _ n One f (f (One ∷ [])) refl m (numbers n (after One f)))
    (numbers_child Two (map_json n (after Two f)) (f (Two ∷ [])) (hash_json (or_zero (f []))) (if_there _ n Two f (f (Two ∷ [])) refl m (numbers n (after Two f)))
    ((hash_facts (or_zero (f [])) (hash_fits (suc n) f m)).number, tt)))

print_nil : print_from true [] ≡ []
unfolding print_from
print_nil = refl

abbrev whole : Option (json.Json × List Token) → Option Data
whole o = option_and_then of_json (option_and_then (λ p. json.if_last p.0 p.1) o)

-- the text reads as the value
pub text_read : (n : ℕ) (f : Held) → n ≤ 126 → IsMap n f → read (map_text n f) ≡ Some (map_data n f)
text_read n f few m =
    let nil : print_from true [] ≡ [] = print_nil in
    let text : map_text n f ≡ print (json_tokens (map_json n f)) =
    sym (append-nil (map_text n f)) ∙ ap (λ x. map_text n f ++ x) (sym nil) ∙ sym (printed n f []) ∙ ap (λ ts. print_from false ts) (append-nil (json_tokens (map_json n f))) in
    let same : tokens (map_text n f) ≡ json_tokens (map_json n f) = ap tokens text ∙ tokens-print (json_tokens (map_json n f)) (ArePrintable-json_tokens (map_json n f) (numbers n f m)) in
    let deep = shallow n f in
    ap whole (ap (json.value max_depth) (same ∙ sym (append-nil _)) ∙ value-json_tokens (map_json n f) max_depth [] (omega arith)) ∙ read_map n f m
