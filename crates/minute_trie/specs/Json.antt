-- The JSON text of a trie.
use Rattle.std.specs.Prelude.{ℕ, zero, suc, Option, Some, None, List, [], ◌∷◌, ◌++◌, codes}
use Rattle.std.specs.Int.{w32, cast_signed}
use Rattle.std.specs.Fmt.{signed_decimal}
use Rattle.minute_trie.specs.declared.key.Digit.{Digit}
use Rattle.minute_trie.specs.declared.key.Digit.TheVariants.{Zero, One, Two}
use Rattle.minute_trie.specs.Names.{child_name, hash_name}
use Rattle.minute_trie.specs.Held.{Held, after, or_zero}

-- what stands before the value of a member: its name in quotes, and a colon
abbrev pub key_text : List ℕ → List ℕ
key_text name = codes "\"" ++ (name ++ codes "\":")

-- the member of a hash, as a signed number
abbrev pub hash_text : ℕ → List ℕ
hash_text hash = key_text hash_name ++ signed_decimal (cast_signed w32 hash)

-- an object of these members and then the hash that stands at the empty string
abbrev pub object_text : List ℕ → Held → List ℕ
object_text members f = codes "{" ++ (members ++ (hash_text (or_zero (f [])) ++ codes "}"))

-- the member of a child with this text, and its comma, where the child is there
abbrev pub child_text : Digit → List ℕ → Option ℕ → List ℕ
child_text d text None = []
child_text d text (Some h) = key_text (child_name d) ++ (text ++ codes ",")

-- the members of the children, ascending, with so many digits below
unfoldable pub members_text : ℕ → Held → List ℕ
members_text zero f = []
members_text (suc n) f =
    child_text Zero (object_text (members_text n (after Zero f)) (after Zero f)) (f (Zero ∷ []))
    ++ (child_text One (object_text (members_text n (after One f)) (after One f)) (f (One ∷ []))
    ++ child_text Two (object_text (members_text n (after Two f)) (after Two f)) (f (Two ∷ [])))

-- the object of a map with so many digits below its root
abbrev pub map_text : ℕ → Held → List ℕ
map_text n f = object_text (members_text n f) f

-- the text of a trie that holds this
abbrev pub trie_text : Held → List ℕ
trie_text f = map_text 16 f
