-- Entries that are read one after the other.
use Rattle.std.proofs.Common.{◌≡◌, ℕ, ◌+◌, ◌<◌, ◌≤◌, List, [], ◌∷◌, ◌++◌, length, get_or, drop, map, Option, Some, None, Result, Ok, Err, arith, refl, ap, sym, ◌∙◌, subst, add-one, drop-cons, append_assoc, append-nil}
use Rattle.std.specs.Option.{option_map, is_none}
use Rattle.std.specs.List.{filter_map, cons_option}
use Rattle.std.proofs.lemmas.List.{drop_all}
use Rattle.serde_json.specs.Data.{Data}
use Rattle.serde_json.specs.View.{view, items_of, items_view}
use Rattle.serde_json.specs.declared.value.Value.{Value}
use Rattle.rule_engine.specs.Reading.{entries_of, first_bad, unless_bad, all_read}
use Rattle.rule_engine.proofs.Places.{at_front, behind}

pub entries_back : (ds : List Data) → entries_of (items_of ds) ≡ ds
entries_back [] = refl
entries_back (d ∷ ds) = ap (λ xs. d ∷ xs) (entries_back ds)

pub entries_are : (vs : List Value) → entries_of (items_view vs) ≡ map view vs
entries_are vs = entries_back (map view vs)

-- entries before others
abbrev pub ahead : {A : Type 0} → List A → Result (List A) ℕ → Result (List A) ℕ
ahead before (Err at) = Err at
ahead before (Ok more) = Ok (before ++ more)

abbrev pub one_ahead : {A : Type 0} → ℕ → Option A → Result (List A) ℕ → Result (List A) ℕ
one_ahead at None rest = Err at
one_ahead at (Some a) rest = ahead (a ∷ []) rest

-- what entries are read as, the first of which has the place n
unfoldable pub all_from : {A : Type 0} → (Data → Option A) → ℕ → List Data → Result (List A) ℕ
all_from f n [] = Ok []
all_from f n (d ∷ ds) = one_ahead n (f d) (all_from f (n + 1) ds)

shifted : {A : Type 0} (f : Data → Option A) (n : ℕ) (a : A) (at : Option ℕ) (more : List A) → ahead (a ∷ []) (unless_bad (option_map (λ i. n + 1 + i) at) more) ≡ unless_bad (option_map (λ i. n + i) (option_map (λ i. 1 + i) at)) (a ∷ more)
shifted f n a None more = refl
shifted f n a (Some i) more = ap (λ (k : ℕ). Err k) (let e : n + 1 + i ≡ n + (1 + i) = omega arith in e)

from_place : {A : Type 0} (f : Data → Option A) (n : ℕ) (ds : List Data) → all_from f n ds ≡ unless_bad (option_map (λ i. n + i) (first_bad f ds)) (filter_map f ds)
unfolding all_from
from_place f n [] = refl
from_place {A} f n (d ∷ ds) =
    elim (f d) as (λ o. f d ≡ o → one_ahead n o (all_from f (n + 1) ds) ≡ unless_bad (option_map (λ i. n + i) (first_bad f (d ∷ ds))) (cons_option o (filter_map f ds))) [
      | None ↦ λ e.
          let front : first_bad f (d ∷ ds) ≡ Some 0 = at_front (λ x. is_none (f x)) d ds (ap is_none e) in
          let same : n ≡ n + 0 = omega arith in
          ap (λ (k : ℕ). Err k) same ∙ ap (λ at. unless_bad (option_map (λ i. n + i) at) (filter_map f ds)) (sym front)
      | Some a ↦ λ e.
          let rest : first_bad f (d ∷ ds) ≡ option_map (λ i. 1 + i) (first_bad f ds) = behind (λ x. is_none (f x)) d ds (ap is_none e) in
          ap (ahead (a ∷ [])) (from_place f (n + 1) ds) ∙ shifted f n a (first_bad f ds) (filter_map f ds)
          ∙ ap (λ at. unless_bad (option_map (λ i. n + i) at) (a ∷ filter_map f ds)) (sym rest)
    ] refl

none_added : (at : Option ℕ) → option_map (λ i. 0 + i) at ≡ at
none_added None = refl
none_added (Some i) = ap (λ (k : ℕ). Some k) (let e : 0 + i ≡ i = omega arith in e)

pub from_read : {A : Type 0} (f : Data → Option A) (ds : List Data) → all_from f 0 ds ≡ all_read f ds
unfolding all_read
from_read f ds = from_place f 0 ds ∙ ap (λ at. unless_bad at (filter_map f ds)) (none_added (first_bad f ds))

entries_from : {A : Type 0} (f : Data → Option A) (vs : List Value) (i : ℕ) (v : Value) → v ≡ get_or vs i v → i < length vs → all_from f i (map view (drop i vs)) ≡ one_ahead i (f (view v)) (all_from f (i + 1) (map view (drop (i + 1) vs)))
unfolding all_from
entries_from f vs i v e h =
    let F : Value → Type 0 = λ x. all_from f i (map view (drop i vs)) ≡ one_ahead i (f (view x)) (all_from f (i + 1) (map view (drop (i + 1) vs))) in
    let next : drop i vs ≡ get_or vs i v ∷ drop (i + 1) vs = rw add-one (drop-cons vs i v h) in
    subst F (sym e) (ap (λ (xs : List Value). all_from f i (map view xs)) next)

joined : {A : Type 0} (before : List A) (a : A) (rest : Result (List A) ℕ) → ahead (before ++ a ∷ []) rest ≡ ahead before (ahead (a ∷ []) rest)
joined before a (Err n) = refl
joined {A} before a (Ok more) = ap (λ (x : List A). Ok x) (append_assoc before (a ∷ []) more)

-- a good entry
pub entry_read : {A : Type 0} (f : Data → Option A) (vs ws : List Value) (i : ℕ) (v : Value) (done : List A) (a : A) → ws ≡ vs → v ≡ get_or ws i v → i < length ws → Some a ≡ f (view v) → ahead (done ++ a ∷ []) (all_from f (i + 1) (map view (drop (i + 1) vs))) ≡ ahead done (all_from f i (map view (drop i vs)))
entry_read {A} f vs ws i v done a same e h is =
    let P : List Value → Type 0 = λ xs. (v ≡ get_or xs i v) × (i < length xs) in
    let at : P vs = subst P same (e, h) in
    let rest = all_from f (i + 1) (map view (drop (i + 1) vs)) in
    joined done a rest ∙ ap (λ (o : Option A). ahead done (one_ahead i o rest)) is ∙ ap (ahead done) (sym (entries_from f vs i v at.0 at.1))

-- a bad entry
pub entry_bad : {A : Type 0} (f : Data → Option A) (vs ws : List Value) (i : ℕ) (v : Value) (done : List A) → ws ≡ vs → v ≡ get_or ws i v → i < length ws → None ≡ f (view v) → Err i ≡ ahead done (all_from f i (map view (drop i vs)))
entry_bad {A} f vs ws i v done same e h is =
    let P : List Value → Type 0 = λ xs. (v ≡ get_or xs i v) × (i < length xs) in
    let at : P vs = subst P same (e, h) in
    let rest = all_from f (i + 1) (map view (drop (i + 1) vs)) in
    ap (λ (o : Option A). ahead done (one_ahead i o rest)) is ∙ ap (ahead done) (sym (entries_from f vs i v at.0 at.1))

pub entries_over : {A : Type 0} (f : Data → Option A) (vs ws : List Value) (i : ℕ) (done : List A) → ws ≡ vs → length ws ≤ i → Ok done ≡ ahead done (all_from f i (map view (drop i vs)))
unfolding all_from
entries_over {A} f vs ws i done same h =
    let P : List Value → Type 0 = λ xs. length xs ≤ i in
    ap (λ (x : List A). Ok x) (sym (append-nil done)) ∙ ap (λ (xs : List Value). ahead done (all_from f i (map view xs))) (sym (drop_all i vs (subst P same h)))

-- what has been read and what is left is all
abbrev pub Reads : {A : Type 0} → (Data → Option A) → List Value → ℕ → List A → Type 0
Reads f vs i done = ahead done (all_from f i (map view (drop i vs))) ≡ all_read f (entries_of (items_view vs))

pub reads_none : {A : Type 0} (f : Data → Option A) (vs : List Value) (done : List A) → done ≡ [] → Reads f vs 0 done
reads_none {A} f vs done none = ap (λ (xs : List A). ahead xs (all_from f 0 (map view vs))) none ∙ nothing (all_from f 0 (map view vs)) ∙ from_read f (map view vs) ∙ ap (all_read f) (sym (entries_are vs))
  where
    nothing : (r : Result (List A) ℕ) → ahead [] r ≡ r
    nothing (Ok xs) = refl
    nothing (Err n) = refl

-- a good entry more
pub reads_more : {A : Type 0} (f : Data → Option A) (vs ws : List Value) (i : ℕ) (v : Value) (done more : List A) (a : A) → ws ≡ vs → v ≡ get_or ws i v → i < length ws → Some a ≡ f (view v) → more ≡ done ++ a ∷ [] → Reads f vs i done → Reads f vs (i + 1) more
reads_more {A} f vs ws i v done more a same e h is pushed reads =
    ap (λ (xs : List A). ahead xs (all_from f (i + 1) (map view (drop (i + 1) vs)))) pushed ∙ entry_read f vs ws i v done a same e h is ∙ reads
