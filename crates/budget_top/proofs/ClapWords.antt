-- The words that `clap` takes: those of a line, and a hyphen alone behind an option as well.
use Rattle.std.proofs.Common.{◌≡◌, ℕ, ◌==◌, List, [], ◌∷◌, Bool, true, false, Option, Some, None, refl, ap}
use Rattle.std.specs.Prelude.{if◌then◌else◌, bytes_eq}
use Rattle.std.specs.List.{slice_get}
use Rattle.std.specs.Str.{chars}
use Rattle.clap.specs.Lexer.{long_of, short_of}
use Rattle.budget_top.specs.Line.{Pair, Look, dashes, long, short, plain, look, Place, anywhere, value_of, after_dashes, pair_then, is_option, mode}

abbrev pub Text : Type 0
Text = List ℕ

-- ---- what a word looks like, as `clap` has it

abbrev pub short_or_plain : Option Text → Look
short_or_plain (Some flags) = short
short_or_plain None = plain

abbrev pub long_or_other : Option (Text × Option Text) → Text → Look
long_or_other (Some p) word = long p.0 p.1
long_or_other None word = short_or_plain (short_of word)

abbrev pub kind : Text → Look
kind word = if bytes_eq word (45 ∷ 45 ∷ []) then dashes else long_or_other (long_of word) word

abbrev pub taken_part : Place → Look → Text → (Place → Option (List Pair)) → Option (List Pair)
taken_part after_dashes k word rest = pair_then (mode, word) (rest after_dashes)
taken_part anywhere dashes word rest = rest after_dashes
taken_part anywhere (long n (Some v)) word rest = if is_option n then pair_then (n, v) (rest anywhere) else None
taken_part anywhere (long n None) word rest = if is_option n then rest (value_of n) else None
taken_part anywhere short word rest = None
taken_part anywhere plain word rest = pair_then (mode, word) (rest anywhere)
taken_part (value_of n) plain word rest = pair_then (n, word) (rest anywhere)
taken_part (value_of n) k word rest = None

abbrev pub taken : Place → List Text → Option (List Pair)
taken anywhere [] = Some []
taken after_dashes [] = Some []
taken (value_of n) [] = None
taken p (word ∷ words) = taken_part p (kind word) word (λ next. taken next words)

-- a text that follows a hyphen begins with a character, as in each text of UTF-8
abbrev pub IsSpelled : Text → Type 0
IsSpelled word = (flags : Text) → short_of word ≡ Some flags → (y : ℕ) × (ys : Text) × (x : ℕ) × (flags ≡ y ∷ ys) × (slice_get (chars flags) 0 ≡ Some x)

abbrev pub AreSpelled : List Text → Type 0
AreSpelled [] = Unit {0}
AreSpelled (word ∷ words) = IsSpelled word × AreSpelled words

-- ---- it looks the same

no_short : (a : ℕ) (rest : Text) → (a == 45) ≡ false → None ≡ short_of (a ∷ rest)
no_short a rest e = rw e refl

lone_short : (a : ℕ) → (a == 45) ≡ true → None ≡ short_of (a ∷ [])
lone_short a e = rw e refl

one_short : (a b : ℕ) (rest : Text) → (a == 45) ≡ true → (b == 45) ≡ false → Some (b ∷ rest) ≡ short_of (a ∷ b ∷ rest)
one_short a b rest e f = rw (e, f) refl

look_third : (a b c : ℕ) (rest : Text) (s t : Bool) → (a == 45) ≡ s → (b == 45) ≡ t → look (a ∷ b ∷ c ∷ rest) ≡ kind (a ∷ b ∷ c ∷ rest)
look_third a b c rest true true e f = rw (e, f) refl
look_third a b c rest true false e f = rw (e, f) (ap short_or_plain (one_short a b (c ∷ rest) e f))
look_third a b c rest false t e f = rw e (ap short_or_plain (no_short a (b ∷ c ∷ rest) e))

look_second : (a b : ℕ) (s t : Bool) → (a == 45) ≡ s → (b == 45) ≡ t → look (a ∷ b ∷ []) ≡ kind (a ∷ b ∷ [])
look_second a b true true e f = rw (e, f) refl
look_second a b true false e f = rw (e, f) (ap short_or_plain (one_short a b [] e f))
look_second a b false t e f = rw e (ap short_or_plain (no_short a (b ∷ []) e))

look_first : (a : ℕ) (s : Bool) → (a == 45) ≡ s → look (a ∷ []) ≡ kind (a ∷ [])
look_first a true e = rw e (ap short_or_plain (lone_short a e))
look_first a false e = rw e (ap short_or_plain (no_short a [] e))

pub look_is : (word : Text) → look word ≡ kind word
look_is [] = refl
look_is (a ∷ []) = look_first a (a == 45) refl
look_is (a ∷ b ∷ []) = look_second a b (a == 45) (b == 45) refl refl
look_is (a ∷ b ∷ c ∷ rest) = look_third a b c rest (a == 45) (b == 45) refl refl
