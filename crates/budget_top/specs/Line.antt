-- What a command line is: one mode word, and options with one value each.
use Rattle.std.specs.Prelude.{ℕ, ◌&&◌, ◌||◌, ◌==◌, List, [], ◌∷◌, Bool, true, false, not, Option, Some, None, option_map, codes, bytes_eq, if◌then◌else◌}
use Rattle.std.specs.List.{list_any, before_first, after_first}

-- the names of the options
abbrev pub option_names : List (List ℕ)
option_names = codes "store" ∷ codes "node" ∷ codes "token" ∷ codes "file" ∷ codes "group" ∷ codes "count" ∷ codes "listen" ∷ codes "peer" ∷ []

-- whether a name is that of an option
abbrev pub is_option : List ℕ → Bool
is_option name = list_any (λ option. bytes_eq option name) option_names

-- the name under which the mode word stands
abbrev pub mode : List ℕ
mode = codes "mode"

-- an option's name with its value, or `mode` with the mode word
abbrev pub Pair : Type 0
Pair = List ℕ × List ℕ

-- what a word looks like: `--`; `--name` or `--name=value`; another word of more than one character that begins with a hyphen; or any other word
pub data Look : Type 0 where
  dashes : Look
  long : List ℕ → Option (List ℕ) → Look
  short : Look
  plain : Look

-- `=`
abbrev pub is_equals : ℕ → Bool
is_equals byte = byte == 61

-- the value of `name=value`; there is none without `=`
abbrev pub value_after : List ℕ → Option (List ℕ)
value_after text = if list_any is_equals text then Some (after_first is_equals text) else None

-- by what follows two hyphens
abbrev pub look_long : List ℕ → Look
look_long [] = dashes
look_long (byte ∷ rest) = long (before_first is_equals (byte ∷ rest)) (value_after (byte ∷ rest))

-- by what follows a hyphen
abbrev pub look_short : List ℕ → Look
look_short [] = plain
look_short (byte ∷ rest) = if byte == 45 then look_long rest else short

-- what a word looks like
abbrev pub look : List ℕ → Look
look [] = plain
look (byte ∷ rest) = if byte == 45 then look_short rest else plain

-- where a word stands: anywhere, after an option that wants its value, or after `--`
pub data Place : Type 0 where
  anywhere : Place
  value_of : List ℕ → Place
  after_dashes : Place

-- a pair before those of the words to come
abbrev pub pair_then : Pair → Option (List Pair) → Option (List Pair)
pair_then pair rest = option_map (λ more. pair ∷ more) rest

-- the pairs of a word at a place, and of the words after it; none where the word may not stand there
abbrev pub part : Place → Look → List ℕ → (Place → Option (List Pair)) → Option (List Pair)
part after_dashes shape word rest = pair_then (mode, word) (rest after_dashes)
part anywhere dashes word rest = rest after_dashes
part anywhere (long name (Some value)) word rest = if is_option name then pair_then (name, value) (rest anywhere) else None
part anywhere (long name None) word rest = if is_option name then rest (value_of name) else None
part anywhere short word rest = None
part anywhere plain word rest = pair_then (mode, word) (rest anywhere)
part (value_of name) plain word rest = if bytes_eq word (codes "-") then None else pair_then (name, word) (rest anywhere)
part (value_of name) shape word rest = None

-- the pairs of the words from a place on
abbrev pub parts : Place → List (List ℕ) → Option (List Pair)
parts anywhere [] = Some []
parts after_dashes [] = Some []
parts (value_of name) [] = None
parts place (word ∷ words) = part place (look word) word (λ next. parts next words)

-- whether a pair has this name
abbrev pub has : List ℕ → List Pair → Bool
has name [] = false
has name (pair ∷ pairs) = bytes_eq pair.0 name || has name pairs

-- whether no name comes twice
abbrev pub each_once : List Pair → Bool
each_once [] = true
each_once (pair ∷ pairs) = not (has pair.0 pairs) && each_once pairs

-- one mode word, and each option at most once
abbrev pub is_line : List Pair → Bool
is_line pairs = each_once pairs && has mode pairs

-- the pairs, where they are those of a command line
abbrev pub if_line : List Pair → Option (List Pair)
if_line pairs = if is_line pairs then Some pairs else None

-- the same of pairs that there may be
abbrev pub line_of : Option (List Pair) → Option (List Pair)
line_of None = None
line_of (Some pairs) = if_line pairs

-- the pairs of a command line; other words are none
abbrev pub line : List (List ℕ) → Option (List Pair)
line words = line_of (parts anywhere words)

-- the value that stands under a name
abbrev pub value_in : List Pair → List ℕ → Option (List ℕ)
value_in [] name = None
value_in (pair ∷ pairs) name = if bytes_eq pair.0 name then Some pair.1 else value_in pairs name
