-- Maps in order, as finite maps.
use Rattle.std.proofs.Common.{◌≡◌, cond, List, [], ◌∷◌, map, Some, None, length, arith, refl, sym, ap, ◌∙◌, Ordering, Less}
use Rattle.std.specs.List.{AllByRecursion}
use Rattle.std.specs.Cmp.{IsTotalOrder, eq_by_cmp_equiv}
use Rattle.std.specs.BTreeMap.{is_at}
use Rattle.std.specs.Map.{lookup, keys_of}
use Rattle.std.specs.List.Sorted.{IsStrictlySortedBy}
use Rattle.std.proofs.lemmas.Map.Keys.{sorted_head, sorted_tail}
use Rattle.std.specs.FinMap.{FinMap, IsAntisymmetric, put, find, entries, from_entries, get, insert, remove, get-from_entries, same_map, get-insert, get-remove, entries-insert, empty, len-entries, len-empty}

-- each key is below each later one
abbrev pub IsRising : {K V : Type 0} → (K → K → Ordering) → List (K × V) → Type 0
IsRising R [] = Unit {0}
IsRising R (e ∷ es) = AllByRecursion (λ f. R e.0 f.0 ≡ Less) es × IsRising R es

module _ {K V : Type 0} (R : K → K → Ordering) where
  lower : (k : K) (es : List (K × V)) → AllByRecursion (λ y. R k y ≡ Less) (keys_of es) → AllByRecursion (λ f. R k f.0 ≡ Less) es
  lower k [] all = tt
  lower k (e ∷ es) all = (all.0, lower k es all.1)

  pub rising : (es : List (K × V)) → IsStrictlySortedBy R (keys_of es) → IsRising R es
  rising [] sorted = tt
  rising (e ∷ es) sorted = (lower e.0 es (sorted_head R e.0 (keys_of es) sorted), rising es (sorted_tail R e.0 (keys_of es) sorted))

module _ {K V : Type 0} {R : K → K → Ordering} (total : IsTotalOrder R) (same : IsAntisymmetric R) where
  find_is : (es : List (K × V)) (q : K) → find R q es ≡ lookup (is_at (R q)) es
  find_is [] q = refl
  find_is (e ∷ es) q = ap (cond (is_at (R q) e.0) (Some e.1)) (find_is es q)

  pub get_is : (es : List (K × V)) (q : K) → get (from_entries {R = R} es) q ≡ lookup (is_at (R q)) es
  get_is es q = get-from_entries total es q ∙ find_is es q

  -- a map that has a value at one more key
  pub one_put : (es fs : List (K × V)) (k : K) (v : V) → ((q : K) → lookup (is_at (R q)) fs ≡ cond (is_at (R k) q) (Some v) (lookup (is_at (R q)) es)) → from_entries {R = R} fs ≡ insert (from_entries es) k v
  one_put es fs k v h = same_map total same _ _ (λ q.
      get_is fs q ∙ h q ∙ ap (λ b. cond b (Some v) (lookup (is_at (R q)) es)) ((eq_by_cmp_equiv total).symm k q)
      ∙ sym (get-insert total (from_entries es) k v q ∙ ap (cond (is_at (R q) k) (Some v)) (get_is es q)))

  -- a map without a key
  pub one_out : (es fs : List (K × V)) (k : K) → ((q : K) → lookup (is_at (R q)) fs ≡ cond (is_at (R k) q) None (lookup (is_at (R q)) es)) → from_entries {R = R} fs ≡ remove (from_entries es) k
  one_out es fs k h = same_map total same _ _ (λ q.
      get_is fs q ∙ h q ∙ ap (λ b. cond b None (lookup (is_at (R q)) es)) ((eq_by_cmp_equiv total).symm k q)
      ∙ sym (get-remove total (from_entries es) k q ∙ ap (cond (is_at (R q) k) None) (get_is es q)))

  head_first : (e : K × V) (es : List (K × V)) → AllByRecursion (λ f. R e.0 f.0 ≡ Less) es → put R e.0 e.1 es ≡ e ∷ es
  head_first e [] all = refl
  head_first e (f ∷ es) all = rw all.0 refl

  -- a list in order has the entries of its map
  pub entries_are : (es : List (K × V)) → IsRising R es → entries (from_entries {R = R} es) ≡ es
  entries_are [] up = none _ (sym (len-entries (empty {X = V} {R = R})) ∙ len-empty R V)
    where
      none : {A : Type 0} (xs : List A) → length xs ≡ 0 → xs ≡ []
      none [] h = refl
      none (x ∷ xs) h = absurd (omega arith)
  entries_are (e ∷ es) up = entries-insert total (from_entries es) e.0 e.1 ∙ ap (put R e.0 e.1) (entries_are es up.1) ∙ head_first e es up.0

  -- the keys of a map in order
  pub keys_are : (es : List (K × V)) (m : FinMap R V) → from_entries es ≡ m → IsStrictlySortedBy R (keys_of es) → keys_of es ≡ map (λ e. e.0) (entries m)
  keys_are es m is sorted = ap (map (λ (e : K × V). e.0)) (sym (entries_are es (rising R es sorted)) ∙ ap entries is)
