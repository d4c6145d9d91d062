-- How a text is cut into the fields of its lines, however it is spelled.
use Rattle.std.specs.Prelude.{◌≡◌, ◌≢◌, ◌⊎◌, ◌==◌, ℕ, List, [], ◌∷◌, ◌++◌, map, flat_map, if◌then◌else◌}
use Rattle.std.specs.List.{Contains}
use Rattle.finite_sums.specs.Maps.{Text}
use Rattle.bank_import.specs.Statement.{rows_in}
use Rattle.kept_pairs.specs.Columns.{IsPlain}

-- each quote twice
abbrev pub doubled : Text → Text
doubled [] = []
doubled (b ∷ bs) = if b == 34 then 34 ∷ 34 ∷ doubled bs else b ∷ doubled bs

-- a field as it stands in a text, and what it says: a plain one may stand as it is, and any one in quotes, each of its own quotes twice
pub record Spelled : Type 0 where
  pub text : Text
  pub says : Text
  pub spelled : (IsPlain says × (text ≡ says)) ⊎ (text ≡ 34 ∷ doubled says ++ 34 ∷ [])

-- fields with commas between them
abbrev pub joined : Spelled → List Spelled → Text
joined f fs = f.text ++ flat_map (λ (g : Spelled). 44 ∷ g.text) fs

abbrev pub said : Spelled → List Spelled → List Text
said f fs = f.says ∷ map (λ (g : Spelled). g.says) fs

-- carriage returns and line feeds alone
abbrev pub AreBreaks : Text → Type 0
AreBreaks e = (b : ℕ) → Contains e b → (b ≡ 13) ⊎ (b ≡ 10)

-- a line that isn't empty, and the line breaks behind it, one or more
pub record Line : Type 0 where
  pub first : Spelled
  pub rest : List Spelled
  pub some : joined first rest ≢ []
  pub end : Text
  pub ended : end ≢ []
  pub breaks : AreBreaks end

-- lines one after the other
abbrev pub text_of : List Line → Text
text_of ls = flat_map (λ (l : Line). joined l.first l.rest ++ l.end) ls

abbrev pub rows_of : List Line → List (List Text)
rows_of ls = map (λ (l : Line). said l.first l.rest) ls

-- a text begins with a byte order mark
abbrev pub HasMark : Text → Type 0
HasMark t = (rest : Text) × (t ≡ 239 ∷ 187 ∷ 191 ∷ rest)

-- how texts are cut
pub record TextsAreCut : Type 0 where
  -- lines are the rows of their fields, whatever line breaks stand before the first
  pub lines : (front : Text) (ls : List Line) → AreBreaks front → (HasMark (front ++ text_of ls) → ⊥) → rows_in (front ++ text_of ls) ≡ rows_of ls
  -- the last one needs no line break
  pub unended : (front : Text) (ls : List Line) (f : Spelled) (fs : List Spelled) → AreBreaks front → joined f fs ≢ [] → (HasMark (front ++ text_of ls ++ joined f fs) → ⊥)
      → rows_in (front ++ text_of ls ++ joined f fs) ≡ rows_of ls ++ said f fs ∷ []
  -- a byte order mark in front is passed over
  pub marked : (t : Text) → (HasMark t → ⊥) → rows_in (239 ∷ 187 ∷ 191 ∷ t) ≡ rows_in t
