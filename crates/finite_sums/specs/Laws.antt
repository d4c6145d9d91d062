-- What the laws say.
use Rattle.std.specs.Prelude.{◌≡◌, ◌≤◌, Bool, false, ℤ, ◌+ℤ◌, unsigned_abs, List, Some}
use Rattle.std.specs.BTreeMap as tree
use Rattle.std.specs.BTreeMap.{BTreeMap}
use Rattle.std.specs.FinMap as map
use Rattle.finite_sums.specs.Sums.{total, only_if, weight, hits}
use Rattle.finite_sums.specs.Maps.{Text, Texts, text_cmp, map_of, value_or_zero, total_of, is_among, AreDistinct}

-- a map in order, and the finite map that it is seen as
pub record TreesAreMaps (V : Type 0) : Type 0 where
  -- they have the same entries, in the order of the texts
  pub entries : (m : BTreeMap Text V) → tree.IsOrdered text_cmp m → map.entries (map_of m) ≡ m.entries
  -- they find the same
  pub finds : (m : BTreeMap Text V) (q : Text) → map.get (map_of m) q ≡ tree.get text_cmp m q

-- how a sum changes with one entry
pub record SumsFollowEntries (V : Type 0) : Type 0 where
  -- an entry that is put takes the place of what was there
  pub put : (f : V → ℤ) (m : Texts V) (k : Text) (v : V) → total_of f (map.insert m k v) +ℤ value_or_zero f (map.get m k) ≡ total_of f m +ℤ f v
  -- an entry that is taken out
  pub out : (f : V → ℤ) (m : Texts V) (k : Text) → total_of f (map.remove m k) +ℤ value_or_zero f (map.get m k) ≡ total_of f m
  -- addends that agree at each value make the same sum
  pub same : (f g : V → ℤ) (m : Texts V) → ((q : Text) (x : V) → map.get m q ≡ Some x → f x ≡ g x) → total_of f m ≡ total_of g m

-- two maps and two addends, which agree off some keys
pub record AgreeOff (V : Type 0) (f g : V → ℤ) (m n : Texts V) (ks : List Text) : Type 0 where
  pub distinct : AreDistinct text_cmp ks
  pub values : (q : Text) → is_among text_cmp ks q ≡ false → map.get m q ≡ map.get n q
  pub addends : (q : Text) (x : V) → is_among text_cmp ks q ≡ false → map.get m q ≡ Some x → f x ≡ g x

-- their sums differ by what the entries at these keys add
abbrev pub SumsFollowBatches : Type 0 → Type 0
SumsFollowBatches V =
    (f g : V → ℤ) (m n : Texts V) (ks : List Text) → AgreeOff V f g m n ks
    → total_of f m +ℤ total (λ k. value_or_zero g (map.get n k)) ks ≡ total_of g n +ℤ total (λ k. value_or_zero f (map.get m k)) ks

-- where each addend is of at most one class, as the test says, the sums of all classes weigh no more than all addends together
abbrev pub ClassesCountOnce : Type 0 → Type 0
ClassesCountOnce V =
    (t : Text → V → Bool) (a : V → ℤ) (ks : List Text) (xs : List V) → ((x : V) → hits (λ k. t k x) ks ≤ 1)
    → weight (λ k. unsigned_abs (total (λ x. only_if (t k x) (a x)) xs)) ks ≤ weight (λ x. unsigned_abs (a x)) xs
