-- Maps in order, as finite maps.
use Rattle.std.proofs.Common.{◌≡◌, Bool, true, false, cond, List, [], ◌∷◌, map, Option, Some, None, is_some, length, arith, refl, sym, ap, ◌∙◌, true≢false, Ordering, Less, Equal, Greater}
use Rattle.std.specs.Prelude.{T}
use Rattle.std.specs.Ordering.{is_eq, is_lt, eq_by_cmp}
use Rattle.std.proofs.lemmas.Bool.{and_parts}
use Rattle.std.specs.List.{AllByRecursion}
use Rattle.std.specs.Cmp.{IsTotalOrder, eq_by_cmp_equiv}
use Rattle.std.specs.BTreeMap.{is_at}
use Rattle.std.specs.Map.{lookup, keys_of}
use Rattle.std.specs.List.Sorted.{IsStrictlySortedBy}
use Rattle.std.proofs.lemmas.Map.Keys.{sorted_head, sorted_tail}
use Rattle.std.specs.FinMap.{FinMap, IsAntisymmetric, put, find, entries, from_entries, get, insert, remove, contains_key, get-from_entries, same_map, get-insert, get-remove, entries-insert, empty, len-entries, len-empty, is_sorted, entries_sorted}
use Rattle.std.specs.FinMap.Entries.{below_all}

-- each key is below each later one
abbrev pub IsRising : {K V : Type 0} → (K → K → Ordering) → List (K × V) → Type 0
IsRising R [] = Unit {0}
IsRising R (e ∷ es) = AllByRecursion (λ f. R e.0 f.0 ≡ Less) es × IsRising R es

pub less_is : (o : Ordering) → is_lt o ≡ true → o ≡ Less
less_is Less h = refl
less_is Equal h = absurd (true≢false (sym h))
less_is Greater h = absurd (true≢false (sym h))

pub equal_is : (o : Ordering) → is_eq o ≡ true → o ≡ Equal
equal_is Less h = absurd (true≢false (sym h))
equal_is Equal h = refl
equal_is Greater h = absurd (true≢false (sym h))

pub none_of : {X : Type 0} (o : Option X) → is_some o ≡ false → o ≡ None
none_of None h = refl
none_of (Some x) h = absurd (true≢false h)

so : (b : Bool) → T b → b ≡ true
so true t = refl
so false t = absurd t

module _ {K V : Type 0} (R : K → K → Ordering) where
  lower : (k : K) (es : List (K × V)) → AllByRecursion (λ y. R k y ≡ Less) (keys_of es) → AllByRecursion (λ f. R k f.0 ≡ Less) es
  lower k [] all = tt
  lower k (e ∷ es) all = (all.0, lower k es all.1)

  pub rising : (es : List (K × V)) → IsStrictlySortedBy R (keys_of es) → IsRising R es
  rising [] sorted = tt
  rising (e ∷ es) sorted = (lower e.0 es (sorted_head R e.0 (keys_of es) sorted), rising es (sorted_tail R e.0 (keys_of es) sorted))

  below : (k : K) (es : List (K × V)) → below_all R k es ≡ true → AllByRecursion (λ f. R k f.0 ≡ Less) es
  below k [] h = tt
  below k (e ∷ es) h = let parts = and_parts _ _ h in (less_is _ parts.0, below k es parts.1)

  up : (es : List (K × V)) → is_sorted R es ≡ true → IsRising R es
  up [] h = tt
  up (e ∷ es) h = let parts = and_parts _ _ h in (below e.0 es parts.0, up es parts.1)

  -- the entries of a map rise
  pub entries_rise : (m : FinMap R V) → IsRising R (entries m)
  entries_rise m = up (entries m) (so _ (entries_sorted m))

module _ {K V : Type 0} {R : K → K → Ordering} (total : IsTotalOrder R) (same : IsAntisymmetric R) where
  find_is : (es : List (K × V)) (q : K) → find R q es ≡ lookup (is_at (R q)) es
  find_is [] q = refl
  find_is (e ∷ es) q = ap (cond (is_at (R q) e.0) (Some e.1)) (find_is es q)

  pub get_is : (es : List (K × V)) (q : K) → get (from_entries {R = R} es) q ≡ lookup (is_at (R q)) es
  get_is es q = get-from_entries total es q ∙ find_is es q

  -- a map that has a value at one more key
  pub one_put : (es fs : List (K × V)) (k : K) (v : V) → ((q : K) → lookup (is_at (R q)) fs ≡ cond (is_at (R k) q) (Some v) (lookup (is_at (R q)) es)) → from_entries {R = R} fs ≡ insert (from_entries es) k v
  one_put es fs k v h = same_map total same _ _ (λ q.
      get_is fs q ∙ h q ∙ ap (λ b. cond b (Some v) (lookup (is_at (R q)) es)) ((eq_by_cmp_equiv total).symm k q)
      ∙ sym (get-insert total (from_entries es) k v q ∙ ap (cond (is_at (R q) k) (Some v)) (get_is es q)))

  -- a map without a key
  pub one_out : (es fs : List (K × V)) (k : K) → ((q : K) → lookup (is_at (R q)) fs ≡ cond (is_at (R k) q) None (lookup (is_at (R q)) es)) → from_entries {R = R} fs ≡ remove (from_entries es) k
  one_out es fs k h = same_map total same _ _ (λ q.
      get_is fs q ∙ h q ∙ ap (λ b. cond b None (lookup (is_at (R q)) es)) ((eq_by_cmp_equiv total).symm k q)
      ∙ sym (get-remove total (from_entries es) k q ∙ ap (cond (is_at (R q) k) None) (get_is es q)))

  -- a key without a value, where its tie has none
  gone : (m : FinMap R V) (k q : K) → contains_key m k ≡ false → cond (eq_by_cmp R q k) None (get m q) ≡ get m q
  gone m k q new = elim (eq_by_cmp R q k) as (λ b. (b ≡ true → get m q ≡ None) → cond b None (get m q) ≡ get m q) [
    | true ↦ λ h. sym (h refl)
    | false ↦ λ h. refl
  ] (λ tied. ap (get m) (same q k (equal_is _ tied)) ∙ none_of (get m k) new)

  shadowed : (b : Bool) (o p : Option V) → cond b None (cond b o p) ≡ cond b None p
  shadowed true o p = refl
  shadowed false o p = refl

  -- an entry that was added under a new key and is taken out again
  pub in_and_out : (m : FinMap R V) (k : K) (v : V) → contains_key m k ≡ false → remove (insert m k v) k ≡ m
  in_and_out m k v new = same_map total same _ _ (λ q.
      get-remove total (insert m k v) k q ∙ ap (cond (eq_by_cmp R q k) None) (get-insert total m k v q)
      ∙ shadowed (eq_by_cmp R q k) (Some v) (get m q) ∙ gone m k q new)

  head_first : (e : K × V) (es : List (K × V)) → AllByRecursion (λ f. R e.0 f.0 ≡ Less) es → put R e.0 e.1 es ≡ e ∷ es
  head_first e [] all = refl
  head_first e (f ∷ es) all = rw all.0 refl

  -- a list in order has the entries of its map
  pub entries_are : (es : List (K × V)) → IsRising R es → entries (from_entries {R = R} es) ≡ es
  entries_are [] up = none _ (sym (len-entries (empty {X = V} {R = R})) ∙ len-empty R V)
    where
      none : {A : Type 0} (xs : List A) → length xs ≡ 0 → xs ≡ []
      none [] h = refl
      none (x ∷ xs) h = absurd (omega arith)
  entries_are (e ∷ es) up = entries-insert total (from_entries es) e.0 e.1 ∙ ap (put R e.0 e.1) (entries_are es up.1) ∙ head_first e es up.0

  -- a map without entries
  pub no_entries : entries (empty {X = V} {R = R}) ≡ []
  no_entries = entries_are [] tt

  -- the keys of a map in order
  pub keys_are : (es : List (K × V)) (m : FinMap R V) → from_entries es ≡ m → IsStrictlySortedBy R (keys_of es) → keys_of es ≡ map (λ e. e.0) (entries m)
  keys_are es m is sorted = ap (map (λ (e : K × V). e.0)) (sym (entries_are es (rising R es sorted)) ∙ ap entries is)
