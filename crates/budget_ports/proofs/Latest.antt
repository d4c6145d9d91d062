-- A map whose keys are texts from the greatest on.
use Rattle.std.proofs.Common.{◌≡◌, Bool, true, false, not, ◌&&◌, ◌||◌, cond, List, [], ◌∷◌, ◌++◌, map, filter, reverse, Option, None, Some, is_some, true≢false, refl, sym, ap, ◌∙◌, Ordering, Less, Equal, Greater}
use Rattle.std.specs.Ordering.{is_eq, is_lt, is_le, is_gt, ordering_reverse, match_ordering}
use Rattle.std.specs.Bool.{OnFalse}
use Rattle.std.specs.List.{AllByRecursion, list_any}
use Rattle.std.specs.List.Sorted.{IsStrictlySortedBy}
use Rattle.std.specs.Cmp.{eq_by_cmp_equiv}
use Rattle.std.specs.BTreeMap.{is_at}
use Rattle.std.specs.BTreeSet.{insert_key}
use Rattle.std.specs.Set.{remove_key}
use Rattle.std.specs.FinMap.{put, entries, from_entries, insert, remove, contains_key, entries-insert}
use Rattle.std.proofs.lemmas.List.{append-nil, append_assoc, reverse-append, map_push}
use Rattle.std.proofs.lemmas.List.Elements.{filter-append}
use Rattle.std.proofs.lemmas.Map.Keys.{sorted_head, sorted_tail}
use Rattle.budget_ports.specs.declared.keeper.Record.{Record}
use Rattle.budget_ports.specs.Contents.{Text, text_cmp}
use Rattle.budget_ports.specs.Groups.{Bodies, bodies_after, with_body}
use Rattle.budget_ports.specs.Latest.{Roomy, latest_first, by_text}
use Rattle.budget_ports.proofs.Maps.{equal_is, no_entries, one_put, one_out}
use Rattle.budget_ports.proofs.Places.{text_total, text_same}
use Rattle.budget_ports.proofs.Bodies.{of_pair, at_key, has, one_added, there_already}

or_is : (a : Bool) (v : Text) (o : Option Text) → is_some (cond a (Some v) o) ≡ (a || is_some o)
or_is true v o = refl
or_is false v o = refl

turned : (a b : Text) → is_eq (text_cmp a b) ≡ is_eq (text_cmp b a)
turned a b = (eq_by_cmp_equiv text_total).symm a b

-- a set has a key where something is found under its text
any_text : (ks : List Roomy) (k : Roomy) → list_any (is_at (latest_first k)) ks ≡ is_some (at_key (by_text ks) k.0)
any_text [] k = refl
any_text (x ∷ ks) k =
    ap (λ b. b || list_any (is_at (latest_first k)) ks) (turned x.0 k.0) ∙ ap (λ b. is_at (text_cmp k.0) x.0 || b) (any_text ks k)
    ∙ sym (or_is (is_at (text_cmp k.0) x.0) x.1.0 (at_key (by_text ks) k.0))

pub has_key : (ks : List Roomy) (m : Bodies) (k : Roomy) → from_entries (by_text ks) ≡ m → contains_key m k.0 ≡ list_any (is_at (latest_first k)) ks
has_key ks m k is = has (by_text ks) m k.0 is ∙ sym (any_text ks k)

-- two tests that don't hold of one key may be asked in either order
swapped : {X : Type 0} (a b : Bool) (x y z : X) → (a ≡ true → b ≡ true → ⊥) → cond a x (cond b y z) ≡ cond b y (cond a x z)
swapped true true x y z apart = absurd (apart refl refl)
swapped true false x y z apart = refl
swapped false true x y z apart = refl
swapped false false x y z apart = refl

-- keys that both tests hold of are the same
met : (q k x : Text) → is_at (text_cmp q) x ≡ true → is_at (text_cmp k) q ≡ true → x ≡ k
met q k x one other = sym (text_same q x (equal_is _ one)) ∙ sym (text_same k q (equal_is _ other))

same_level : (k : Text) → text_cmp k k ≡ Equal
same_level k = self_equal (text_cmp k k) (text_total.antisymm k k)
  where
    self_equal : (o : Ordering) → o ≡ ordering_reverse o → o ≡ Equal
    self_equal Less h = absurd (true≢false (ap is_lt h))
    self_equal Equal h = refl
    self_equal Greater h = absurd (true≢false (ap is_gt h))

not_level : Greater ≡ Equal → ⊥
not_level h = true≢false (ap is_gt h)

inserted_by : (x : Roomy) (ks more : List Roomy) (k : Roomy) (q : Text) → at_key (by_text more) q ≡ cond (is_at (text_cmp k.0) q) (Some k.1.0) (at_key (by_text ks) q)
    → (o : Ordering) → latest_first k x ≡ o → (is_eq o || list_any (is_at (latest_first k)) ks) ≡ false
    → at_key (by_text (match_ordering o (k ∷ x ∷ ks) (x ∷ ks) (x ∷ more))) q ≡ cond (is_at (text_cmp k.0) q) (Some k.1.0) (at_key (by_text (x ∷ ks)) q)
inserted_by x ks more k q found Less e none = ap (λ b. cond b (Some k.1.0) (at_key (by_text (x ∷ ks)) q)) (turned q k.0)
inserted_by x ks more k q found Equal e none = absurd (true≢false none)
inserted_by x ks more k q found Greater e none =
    ap (cond (is_at (text_cmp q) x.0) (Some x.1.0)) found
    ∙ swapped (is_at (text_cmp q) x.0) (is_at (text_cmp k.0) q) (Some x.1.0) (Some k.1.0) (at_key (by_text ks) q)
    (λ one other. not_level (sym e ∙ ap (λ t. text_cmp t k.0) (met q k.0 x.0 one other) ∙ same_level k.0))

none_behind : (a b : Bool) → (a || b) ≡ false → b ≡ false
none_behind true b h = absurd (true≢false h)
none_behind false b h = h

-- a key that is not there is found behind its insertion
inserted : (ks : List Roomy) (k : Roomy) → list_any (is_at (latest_first k)) ks ≡ false → (q : Text)
    → at_key (by_text (insert_key latest_first ks k)) q ≡ cond (is_at (text_cmp k.0) q) (Some k.1.0) (at_key (by_text ks) q)
inserted [] k none q = ap (λ b. cond b (Some k.1.0) None) (turned q k.0)
inserted (x ∷ ks) k none q = inserted_by x ks (insert_key latest_first ks k) k q (inserted ks k (none_behind _ _ none) q) (latest_first k x) refl none

-- behind a key nothing is found under it
behind_none : (x : Roomy) (ks : List Roomy) → AllByRecursion (λ y. latest_first x y ≡ Less) ks → (q : Text) → is_at (text_cmp q) x.0 ≡ true → at_key (by_text ks) q ≡ None
behind_none x [] low q at = refl
behind_none x (y ∷ ks) low q at =
    let here : text_cmp q y.0 ≡ Greater = ap (λ t. text_cmp t y.0) (text_same q x.0 (equal_is _ at)) ∙ text_total.antisymm x.0 y.0 ∙ ap ordering_reverse low.0 in
    rw here (behind_none x ks low.1 q at)

neither : {X : Type 0} (b : Bool) (x : X) → x ≡ cond b x x
neither true x = refl
neither false x = refl

removed_by : (x : Roomy) (ks less : List Roomy) (k : Roomy) (q : Text) → IsStrictlySortedBy latest_first (x ∷ ks) → at_key (by_text less) q ≡ cond (is_at (text_cmp k.0) q) None (at_key (by_text ks) q)
    → (a : Bool) → is_at (latest_first k) x ≡ a → at_key (by_text (cond a ks (x ∷ less))) q ≡ cond (is_at (text_cmp k.0) q) None (at_key (by_text (x ∷ ks)) q)
removed_by x ks less k q sorted found true e = taken (is_at (text_cmp k.0) q) refl
  where
    at : is_at (text_cmp q) x.0 ≡ is_at (text_cmp k.0) q
    at = ap (λ t. is_at (text_cmp q) t) (text_same x.0 k.0 (equal_is _ e)) ∙ turned q k.0

    taken : (b : Bool) → is_at (text_cmp k.0) q ≡ b → at_key (by_text ks) q ≡ cond b None (cond (is_at (text_cmp q) x.0) (Some x.1.0) (at_key (by_text ks) q))
    taken true here = behind_none x ks (sorted_head latest_first x ks sorted) q (at ∙ here)
    taken false here = sym (ap (λ b. cond b (Some x.1.0) (at_key (by_text ks) q)) (at ∙ here))
removed_by x ks less k q sorted found false e =
    ap (cond (is_at (text_cmp q) x.0) (Some x.1.0)) found
    ∙ swapped (is_at (text_cmp q) x.0) (is_at (text_cmp k.0) q) (Some x.1.0) None (at_key (by_text ks) q)
    (λ one other. true≢false (sym (ap (λ t. is_eq (text_cmp t k.0)) (met q k.0 x.0 one other) ∙ ap is_eq (same_level k.0)) ∙ e))

-- a key that is taken out is not found
removed : (ks : List Roomy) (k : Roomy) → IsStrictlySortedBy latest_first ks → (q : Text)
    → at_key (by_text (remove_key (is_at (latest_first k)) ks)) q ≡ cond (is_at (text_cmp k.0) q) None (at_key (by_text ks) q)
removed [] k sorted q = neither (is_at (text_cmp k.0) q) None
removed (x ∷ ks) k sorted q =
    removed_by x ks (remove_key (is_at (latest_first k)) ks) k q sorted (removed ks k (sorted_tail latest_first x ks sorted) q) (is_at (latest_first k) x) refl

unless : (b : Bool) → true ≡ not b → b ≡ false
unless true h = absurd (true≢false h)
unless false h = refl

there : (b : Bool) → false ≡ not b → b ≡ true
there true h = refl
there false h = absurd (true≢false (sym h))

module _ (ks : List Roomy) (m : Bodies) (k : Roomy) where
  -- a record that is put among others whose key is not there
  record_put : from_entries (by_text ks) ≡ m → list_any (is_at (latest_first k)) ks ≡ false → from_entries {R = text_cmp} (by_text (insert_key latest_first ks k)) ≡ insert m k.0 k.1.0
  record_put is none = one_put text_total text_same (by_text ks) (by_text (insert_key latest_first ks k)) k.0 k.1.0 (inserted ks k none) ∙ ap (λ n. insert n k.0 k.1.0) is

  -- a record that is added where its key is not there
  pub record_added : (ls : List Roomy) (added : Bool) → from_entries (by_text ks) ≡ m → added ≡ not (list_any (is_at (latest_first k)) ks) → ls ≡ insert_key latest_first ks k → OnFalse added (ls ≡ ks)
      → from_entries {R = text_cmp} (by_text ls) ≡ with_body m (of_pair (k.0, k.1.0))
  record_added ls true is new put same =
      let none = unless _ new in
      one_added m _ (of_pair (k.0, k.1.0)) (has_key ks m k is ∙ none) (ap (λ l. from_entries {R = text_cmp} (by_text l)) put ∙ record_put is none)
  record_added ls false is new put same =
      ap (λ l. from_entries {R = text_cmp} (by_text l)) same ∙ is ∙ there_already m (of_pair (k.0, k.1.0)) (has_key ks m k is ∙ there _ new)

  -- a record that is taken out
  pub record_out : from_entries (by_text ks) ≡ m → IsStrictlySortedBy latest_first ks → from_entries {R = text_cmp} (by_text (remove_key (is_at (latest_first k)) ks)) ≡ remove m k.0
  record_out is sorted = one_out text_total text_same (by_text ks) (by_text (remove_key (is_at (latest_first k)) ks)) k.0 (removed ks k sorted) ∙ ap (λ n. remove n k.0) is

-- ---- the records of a map are in it from the last on

-- each key of the list is below k
abbrev IsBehind : Text → List (Text × Text) → Type 0
IsBehind k es = AllByRecursion (λ f. text_cmp k f.0 ≡ Greater) es

behind_both : (k : Text) (es fs : List (Text × Text)) → IsBehind k es → IsBehind k fs → IsBehind k (es ++ fs)
behind_both k [] fs low lower = lower
behind_both k (e ∷ es) fs low lower = (low.0, behind_both k es fs low.1 lower)

one_back : (e : Text × Text) (es : List (Text × Text)) → reverse (e ∷ es) ≡ reverse es ++ e ∷ []
one_back e es = reverse-append (e ∷ []) es

behind_back : (k : Text) (es : List (Text × Text)) → IsBehind k es → IsBehind k (reverse es)
behind_back k [] low = tt
behind_back k (e ∷ es) low = rw (one_back e es) (behind_both k (reverse es) (e ∷ []) (behind_back k es low.1) (low.0, tt))

put_last : (e : Text × Text) (es : List (Text × Text)) → IsBehind e.0 es → put text_cmp e.0 e.1 es ≡ es ++ e ∷ []
put_last e [] low = refl
put_last e (f ∷ es) low = rw low.0 (ap (λ l. f ∷ l) (put_last e es low.1))

above_is : (k q : Text) → text_cmp q k ≡ Less → text_cmp k q ≡ Greater
above_is k q low = text_total.antisymm k q ∙ ap ordering_reverse low

behind_is : (k : Roomy) (es : List Roomy) → AllByRecursion (λ f. latest_first k f ≡ Less) es → IsBehind k.0 (by_text es)
behind_is k [] low = tt
behind_is k (e ∷ es) low = (above_is k.0 e.0 low.0, behind_is k es low.1)

entries_back : (es : List Roomy) → IsStrictlySortedBy latest_first es → entries (from_entries {R = text_cmp} (by_text es)) ≡ reverse (by_text es)
entries_back [] up = no_entries text_total text_same
entries_back (e ∷ es) up =
    entries-insert text_total (from_entries (by_text es)) e.0 e.1.0 ∙ ap (put text_cmp e.0 e.1.0) (entries_back es (sorted_tail latest_first e es up))
    ∙ put_last (e.0, e.1.0) (reverse (by_text es)) (behind_back e.0 (by_text es) (behind_is e es (sorted_head latest_first e es up)))
    ∙ sym (one_back (e.0, e.1.0) (by_text es))

-- which records a range up to a key has: those above its text
abbrev pub is_before : Roomy → Roomy → Bool
is_before k e = true && not (is_le (latest_first k e))

before_is : (k q : Text) → not (is_le (text_cmp q k)) ≡ is_lt (text_cmp k q)
before_is k q = ap (λ o. not (is_le o)) (text_total.antisymm q k) ∙ turned (text_cmp k q)
  where
    turned : (o : Ordering) → not (is_le (ordering_reverse o)) ≡ is_lt o
    turned Less = refl
    turned Equal = refl
    turned Greater = refl

same_scan : (k : Roomy) (es : List Roomy) → by_text (filter (is_before k) es) ≡ filter (λ e. is_lt (text_cmp k.0 e.0)) (by_text es)
same_scan k [] = refl
same_scan k (e ∷ es) = rw (before_is k.0 e.0) (elim (is_lt (text_cmp k.0 e.0)) as (λ b. by_text (cond b (e ∷ filter (is_before k) es) (filter (is_before k) es)) ≡ cond b ((e.0, e.1.0) ∷ filter (λ f. is_lt (text_cmp k.0 f.0)) (by_text es)) (filter (λ f. is_lt (text_cmp k.0 f.0)) (by_text es))) [
  | true ↦ ap (λ l. (e.0, e.1.0) ∷ l) (same_scan k es)
  | false ↦ same_scan k es
])

filter_back : (p : Text × Text → Bool) (es : List (Text × Text)) → reverse (filter p es) ≡ filter p (reverse es)
filter_back p [] = refl
filter_back p (e ∷ es) = rw (one_back e es) (elim (p e) as (λ b. reverse (cond b (e ∷ filter p es) (filter p es)) ≡ filter p (reverse es) ++ cond b (e ∷ []) []) [
  | true ↦ one_back e (filter p es) ∙ ap (λ l. l ++ e ∷ []) (filter_back p es)
  | false ↦ filter_back p es ∙ sym (append-nil _)
] ∙ sym (filter-append p (reverse es) (e ∷ [])))

-- the records of a range, the last of its entries first
abbrev pub records_back : List Roomy → List Record
records_back es = map of_pair (reverse (by_text es))

pub scan_back : (k : Roomy) (es : List Roomy) (m : Bodies) → from_entries (by_text es) ≡ m → IsStrictlySortedBy latest_first es → records_back (filter (is_before k) es) ≡ bodies_after m k.0
scan_back k es m is sorted =
    ap (λ l. map of_pair (reverse l)) (same_scan k es) ∙ ap (map of_pair) (filter_back _ (by_text es))
    ∙ ap (λ l. map of_pair (filter (λ e. is_lt (text_cmp k.0 e.0)) l)) (sym (entries_back es sorted) ∙ ap entries is)

-- the last entry is the next record
pub one_read_back : (es fs : List Roomy) (e : Roomy) → es ≡ fs ++ e ∷ [] → records_back es ≡ of_pair (e.0, e.1.0) ∷ records_back fs
one_read_back es fs e last =
    ap records_back last ∙ ap (λ l. map of_pair (reverse l)) (map_push (λ (f : Roomy). (f.0, f.1.0)) fs e) ∙ ap (map of_pair) (reverse-append (by_text fs) ((e.0, e.1.0) ∷ []))

pub next_back : (found pushed : List Record) (es fs : List Roomy) (e : Roomy) (r : Record) → pushed ≡ found ++ r ∷ [] → es ≡ fs ++ e ∷ [] → r ≡ of_pair (e.0, e.1.0) → pushed ++ records_back fs ≡ found ++ records_back es
next_back found pushed es fs e r push last is =
    ap (λ l. l ++ records_back fs) push ∙ append_assoc found (r ∷ []) (records_back fs) ∙ ap (λ x. found ++ (x ∷ records_back fs)) is ∙ sym (ap (◌++◌ found) (one_read_back es fs e last))

pub all_back : (found : List Record) (es : List Roomy) → es ≡ [] → found ++ records_back es ≡ found
all_back found es none = ap (λ l. found ++ records_back l) none ∙ append-nil found
