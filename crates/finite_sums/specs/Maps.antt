-- Finite maps, mostly from texts, and sums over their values.
use Rattle.std.specs.Prelude.{ℕ, Bool, false, ◌≡◌, ◌||◌, ℤ, pos, List, [], ◌∷◌, map, filter, Option, None, Some}
use Rattle.std.specs.declared.cmp.Ordering.{Ordering}
use Rattle.std.specs.Ordering.{nat_cmp, eq_by_cmp}
use Rattle.std.specs.Cmp.Lexicographic.{slice_cmp}
use Rattle.std.specs.BTreeMap.{BTreeMap}
use Rattle.std.specs.FinMap.{FinMap, from_entries, entries}
use Rattle.finite_sums.specs.Sums.{total}

-- the bytes of a text
abbrev pub Text : Type 0
Text = List ℕ

-- texts are ordered byte by byte
abbrev pub text_cmp : Text → Text → Ordering
text_cmp = slice_cmp nat_cmp

-- texts give values
abbrev pub Texts : Type 0 → Type 0
Texts X = FinMap text_cmp X

-- a map in order, as a finite map
abbrev pub map_of : {X : Type 0} → BTreeMap Text X → Texts X
map_of m = from_entries m.entries

-- f of the value, or 0 where there is none
abbrev pub value_or_zero : {X : Type 0} → (X → ℤ) → Option X → ℤ
value_or_zero f None = pos 0
value_or_zero f (Some x) = f x

-- f of each value of a map, added up
abbrev pub total_of : {K X : Type 0} {R : K → K → Ordering} → (X → ℤ) → FinMap R X → ℤ
total_of f m = total (λ e. f e.1) (entries m)

-- there is one, and it passes the test
abbrev pub some_and : {X : Type 0} → (X → Bool) → Option X → Bool
some_and p None = false
some_and p (Some x) = p x

-- the keys of the entries whose values pass a test
abbrev pub keys_where : {K X : Type 0} → (X → Bool) → List (K × X) → List K
keys_where p es = map (λ e. e.0) (filter (λ e. p e.1) es)

-- whether a key is one of some keys
abbrev pub is_among : {K : Type 0} → (K → K → Ordering) → List K → K → Bool
is_among R [] q = false
is_among R (k ∷ ks) q = eq_by_cmp R q k || is_among R ks q

-- no key stands twice
abbrev pub AreDistinct : {K : Type 0} → (K → K → Ordering) → List K → Type 0
AreDistinct R [] = Unit {0}
AreDistinct R (k ∷ ks) = (is_among R ks k ≡ false) × AreDistinct R ks
