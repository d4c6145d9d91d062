-- Entries of a list of JSON values.
use Rattle.std.proofs.Common.{◌≡◌, ℕ, ◌+◌, ◌<◌, ◌≤◌, Bool, true, false, cond, List, length, ◌++◌, get_or, drop, Some, None, refl, ap, sym, ◌∙◌, subst, add-one, drop-cons, append_assoc}
use Rattle.std.specs.Prelude.{◌&&◌, ◌||◌}
use Rattle.std.proofs.lemmas.List.{drop_all}
use Rattle.serde_json.specs.Data.{Data, item}
use Rattle.serde_json.specs.View.{view, items_view}
use Rattle.serde_json.specs.Written.{has_float, items_have_float}
use Rattle.serde_json.specs.declared.value.Value.{Value}
use Rattle.schedules.specs.Conditions.{all_of}
use Rattle.schedules.specs.Terms.{first_where}

entry_at : (vs : List Value) (i : ℕ) (v : Value) → v ≡ get_or vs i v → i < length vs → items_view (drop i vs) ≡ item (view v) (items_view (drop (i + 1) vs))
entry_at vs i v e h =
    let F : Value → Type 0 = λ x. items_view (drop i vs) ≡ item (view x) (items_view (drop (i + 1) vs)) in
    subst F (sym e) (rw (add-one, drop-cons vs i v) refl)

both : (vs ws : List Value) (i : ℕ) (v : Value) → ws ≡ vs → v ≡ get_or ws i v → i < length ws → (v ≡ get_or vs i v) × (i < length vs)
both vs ws i v same e h = let P : List Value → Type 0 = λ xs. (v ≡ get_or xs i v) × (i < length xs) in subst P same (e, h)

-- ---- all of them

pub all_next : (test : Data → Bool) (vs ws : List Value) (i : ℕ) (v : Value) → ws ≡ vs → v ≡ get_or ws i v → i < length ws → test (view v) ≡ true
    → all_of test (items_view (drop i vs)) ≡ all_of test (items_view vs) → all_of test (items_view (drop (i + 1) vs)) ≡ all_of test (items_view vs)
all_next test vs ws i v same e h t inv =
    let at = both vs ws i v same e h in
    sym (ap (all_of test) (entry_at vs i v at.0 at.1) ∙ ap (λ b. b && all_of test (items_view (drop (i + 1) vs))) t) ∙ inv

pub all_cut : (test : Data → Bool) (vs ws : List Value) (i : ℕ) (v : Value) → ws ≡ vs → v ≡ get_or ws i v → i < length ws → test (view v) ≡ false
    → all_of test (items_view (drop i vs)) ≡ all_of test (items_view vs) → false ≡ all_of test (items_view vs)
all_cut test vs ws i v same e h f inv =
    let at = both vs ws i v same e h in
    sym (ap (all_of test) (entry_at vs i v at.0 at.1) ∙ ap (λ b. b && all_of test (items_view (drop (i + 1) vs))) f) ∙ inv

pub all_over : (test : Data → Bool) (vs ws : List Value) (i : ℕ) → ws ≡ vs → length ws ≤ i → all_of test (items_view (drop i vs)) ≡ all_of test (items_view vs) → true ≡ all_of test (items_view vs)
all_over test vs ws i same h inv =
    let P : List Value → Type 0 = λ xs. length xs ≤ i in
    sym (ap (λ (xs : List Value). all_of test (items_view xs)) (drop_all i vs (subst P same h))) ∙ inv

-- ---- the first of them

pub first_next : (test : Data → Bool) (vs ws : List Value) (i : ℕ) (v : Value) → ws ≡ vs → v ≡ get_or ws i v → i < length ws → test (view v) ≡ false
    → first_where test (items_view (drop i vs)) ≡ first_where test (items_view vs) → first_where test (items_view (drop (i + 1) vs)) ≡ first_where test (items_view vs)
first_next test vs ws i v same e h f inv =
    let at = both vs ws i v same e h in
    sym (ap (first_where test) (entry_at vs i v at.0 at.1) ∙ ap (λ b. cond b (Some (view v)) (first_where test (items_view (drop (i + 1) vs)))) f) ∙ inv

pub first_found : (test : Data → Bool) (vs ws : List Value) (i : ℕ) (v : Value) → ws ≡ vs → v ≡ get_or ws i v → i < length ws → test (view v) ≡ true
    → first_where test (items_view (drop i vs)) ≡ first_where test (items_view vs) → Some (view v) ≡ first_where test (items_view vs)
first_found test vs ws i v same e h t inv =
    let at = both vs ws i v same e h in
    sym (ap (first_where test) (entry_at vs i v at.0 at.1) ∙ ap (λ b. cond b (Some (view v)) (first_where test (items_view (drop (i + 1) vs)))) t) ∙ inv

pub first_over : (test : Data → Bool) (vs ws : List Value) (i : ℕ) → ws ≡ vs → length ws ≤ i → first_where test (items_view (drop i vs)) ≡ first_where test (items_view vs) → None ≡ first_where test (items_view vs)
first_over test vs ws i same h inv =
    let P : List Value → Type 0 = λ xs. length xs ≤ i in
    sym (ap (λ (xs : List Value). first_where test (items_view xs)) (drop_all i vs (subst P same h))) ∙ inv

-- ---- numbers that are read as floats

pub float_next : (vs ws : List Value) (i : ℕ) (v : Value) → ws ≡ vs → v ≡ get_or ws i v → i < length ws → has_float (view v) ≡ false
    → items_have_float (items_view (drop i vs)) ≡ items_have_float (items_view vs) → items_have_float (items_view (drop (i + 1) vs)) ≡ items_have_float (items_view vs)
float_next vs ws i v same e h f inv =
    let at = both vs ws i v same e h in
    sym (ap items_have_float (entry_at vs i v at.0 at.1) ∙ ap (λ b. b || items_have_float (items_view (drop (i + 1) vs))) f) ∙ inv

pub float_found : (vs ws : List Value) (i : ℕ) (v : Value) → ws ≡ vs → v ≡ get_or ws i v → i < length ws → has_float (view v) ≡ true
    → items_have_float (items_view (drop i vs)) ≡ items_have_float (items_view vs) → true ≡ items_have_float (items_view vs)
float_found vs ws i v same e h t inv =
    let at = both vs ws i v same e h in
    sym (ap items_have_float (entry_at vs i v at.0 at.1) ∙ ap (λ b. b || items_have_float (items_view (drop (i + 1) vs))) t) ∙ inv

pub float_over : (vs ws : List Value) (i : ℕ) → ws ≡ vs → length ws ≤ i → items_have_float (items_view (drop i vs)) ≡ items_have_float (items_view vs) → false ≡ items_have_float (items_view vs)
float_over vs ws i same h inv =
    let P : List Value → Type 0 = λ xs. length xs ≤ i in
    sym (ap (λ (xs : List Value). items_have_float (items_view xs)) (drop_all i vs (subst P same h))) ∙ inv

-- ---- texts

pub three_more : (xs p q r a b c : List ℕ) → p ≡ xs ++ a → q ≡ p ++ b → r ≡ q ++ c → r ≡ xs ++ (a ++ (b ++ c))
three_more xs p q r a b c e f g = g ∙ ap (λ t. t ++ c) (f ∙ ap (λ t. t ++ b) e) ∙ append_assoc (xs ++ a) b c ∙ append_assoc xs a (b ++ c)
