-- How a part of a line writes the bytes that may not stand in it: by a backslash and a letter.
use Rattle.std.specs.Prelude.{◌≡◌, false, ℕ, ◌+◌, List, [], ◌∷◌, ◌++◌, Bool, ◌&&◌, ◌||◌, ◌==◌, if◌then◌else◌, Option, None, Some}
use Rattle.std.specs.List.{flat_map, list_any}

-- a byte as a part writes it: 0 is `\0`, TAB `\t`, LF `\n`, a backslash `\\`, and any other byte itself
abbrev pub escaped_byte : ℕ → List ℕ
escaped_byte b =
    if b == 0 then 92 ∷ 48 ∷ []
    else if b == 9 then 92 ∷ 116 ∷ []
    else if b == 10 then 92 ∷ 110 ∷ []
    else if b == 92 then 92 ∷ 92 ∷ []
    else b ∷ []

-- a text as a part writes it
abbrev pub escaped : List ℕ → List ℕ
escaped text = flat_map escaped_byte text

-- a byte of a line, where a byte 0 or LF that stands as it is gets its escape, and any other byte is left
abbrev pub raw_escaped : ℕ → List ℕ
raw_escaped b =
    if b == 0 then 92 ∷ 48 ∷ []
    else if b == 10 then 92 ∷ 110 ∷ []
    else b ∷ []

-- whether a part writes the byte by an escape
abbrev pub is_special : ℕ → Bool
is_special b = (b == 0) || ((b == 9) || ((b == 10) || (b == 92)))

-- what stands behind a backslash in an escape: `0`, `t`, `n` or a backslash
abbrev pub is_letter : ℕ → Bool
is_letter b = (b == 48) || ((b == 116) || ((b == 110) || (b == 92)))

-- whether a text has a backslash
abbrev pub has_backslash : List ℕ → Bool
has_backslash text = list_any (λ b. b == 92) text

-- whether two bytes are an escape
abbrev pub is_escape : ℕ → ℕ → Bool
is_escape b c = (b == 92) && is_letter c

-- the byte that an escape with this letter stands for
abbrev pub meaning : ℕ → ℕ
meaning letter =
    if letter == 48 then 0
    else if letter == 116 then 9
    else if letter == 110 then 10
    else 92

-- the text that a part stands for; a backslash that begins no escape stands for itself
abbrev pub unescaped : List ℕ → List ℕ
unescaped [] = []
unescaped (b ∷ []) = b ∷ []
unescaped (b ∷ c ∷ rest) =
    if is_escape b c then meaning c ∷ unescaped rest
    else b ∷ unescaped (c ∷ rest)

-- a place that is counted from behind the first n bytes, counted from before them
abbrev pub place_after : ℕ → Option ℕ → Option ℕ
place_after n None = None
place_after n (Some at) = Some (n + at)

-- the place of the first backslash that begins no escape
abbrev pub bad_escape : List ℕ → Option ℕ
bad_escape [] = None
bad_escape (b ∷ []) = if b == 92 then Some 0 else None
bad_escape (b ∷ c ∷ rest) =
    if is_escape b c then place_after 2 (bad_escape rest)
    else if b == 92 then Some 0
    else place_after 1 (bad_escape (c ∷ rest))

-- the second text is the first, and more behind it or nothing
abbrev pub BeginsWith : List ℕ → List ℕ → Type 0
BeginsWith front text = (more : List ℕ) × (text ≡ front ++ more)

-- none of five texts has a backslash
pub record ArePlain (a b c d e : List ℕ) : Type 0 where
  pub first : has_backslash a ≡ false
  pub second : has_backslash b ≡ false
  pub third : has_backslash c ≡ false
  pub fourth : has_backslash d ≡ false
  pub fifth : has_backslash e ≡ false
