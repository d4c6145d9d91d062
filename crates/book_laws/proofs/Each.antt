-- A change of some of the rows, and lists of texts.
use Rattle.std.proofs.Common.{◌≡◌, Bool, true, false, cond, List, [], ◌∷◌, ◌++◌, filter, Some, refl, ap, sym, ◌∙◌}
use Rattle.std.specs.Prelude.{◌&&◌, ◌||◌, not, unwrap_or, flat_map}
use Rattle.std.specs.FinMap.{get, insert, get-insert}
use Rattle.finite_sums.specs.Maps.{Text, Texts, text_cmp, is_among}
use Rattle.finite_sums.proofs.Texts.{text_total}
use Rattle.book_edits.specs.Checks.{same_id, distinct}
use Rattle.split_transfer.proofs.Basics.{same_refl, same_is, bool_cases, true_false, or_left, or_right, either, and_both, among-append}

-- ---- rows of some ids, which are changed or made of a blank one

module _ {Row : Type 0} (blank : Text → Row) (change : Row → Row) where
  abbrev pub each_changed : List Text → Texts Row → Texts Row
  each_changed [] m = m
  each_changed (k ∷ ks) m = each_changed ks (insert m k (change (unwrap_or (get m k) (blank k))))

  pub each-append : (ks ls : List Text) (m : Texts Row) → each_changed (ks ++ ls) m ≡ each_changed ls (each_changed ks m)
  each-append [] ls m = refl
  each-append (k ∷ ks) ls m = each-append ks ls (insert m k (change (unwrap_or (get m k) (blank k))))

  pub get-each : ((x : Row) → change (change x) ≡ change x) → (ks : List Text) (m : Texts Row) (q : Text)
      → get (each_changed ks m) q ≡ cond (is_among text_cmp ks q) (Some (change (unwrap_or (get m q) (blank q)))) (get m q)
  get-each twice [] m q = refl
  get-each twice (k ∷ ks) m q =
      get-each twice ks (insert m k (change (unwrap_or (get m k) (blank k)))) q
      ∙ ap (λ o. cond (is_among text_cmp ks q) (Some (change (unwrap_or o (blank q)))) o) (get-insert text_total m k (change (unwrap_or (get m k) (blank k))) q)
      ∙ by (same_id q k) refl (is_among text_cmp ks q)
    where
      x : Text → Row
      x t = change (unwrap_or (get m t) (blank t))

      by : (a : Bool) → same_id q k ≡ a → (b : Bool)
          → cond b (Some (change (unwrap_or (cond a (Some (x k)) (get m q)) (blank q)))) (cond a (Some (x k)) (get m q)) ≡ cond (a || b) (Some (x q)) (get m q)
      by true e true = ap Some (twice (unwrap_or (get m k) (blank k)) ∙ ap x (sym (same_is q k e)))
      by true e false = ap (λ t. Some (x t)) (sym (same_is q k e))
      by false e b = refl

-- ---- which texts are listed

pub among-filter : (p : Text → Bool) (ks : List Text) (q : Text) → is_among text_cmp (filter p ks) q ≡ (p q && is_among text_cmp ks q)
among-filter p [] q = none (p q)
  where
    none : (b : Bool) → false ≡ (b && false)
    none true = refl
    none false = refl
among-filter p (k ∷ ks) q = by (among-filter p ks q) (p k) refl (same_id q k) refl
  where
    rest : Bool
    rest = is_among text_cmp ks q

    by : is_among text_cmp (filter p ks) q ≡ (p q && rest) → (b : Bool) → p k ≡ b → (s : Bool) → same_id q k ≡ s → is_among text_cmp (cond b (k ∷ filter p ks) (filter p ks)) q ≡ (p q && (s || rest))
    by h true e true t = or_left (same_id q k) (is_among text_cmp (filter p ks) q) t ∙ sym (and_both (p q) true (ap p (same_is q k t) ∙ e) refl)
    by h true e false t = ap (λ c. c || is_among text_cmp (filter p ks) q) t ∙ h
    by h false e true t = h ∙ ap (λ c. c && rest) (ap p (same_is q k t) ∙ e) ∙ sym (ap (λ c. c && true) (ap p (same_is q k t) ∙ e))
    by h false e false t = h

pub among-distinct : (ks : List Text) (q : Text) → is_among text_cmp (distinct ks) q ≡ is_among text_cmp ks q
among-distinct [] q = refl
among-distinct (k ∷ ks) q =
    ap (λ b. same_id q k || b) (among-filter (λ other. not (same_id k other)) (distinct ks) q ∙ ap (λ b. not (same_id k q) && b) (among-distinct ks q))
    ∙ by (same_id q k) refl
  where
    by : (s : Bool) → same_id q k ≡ s → (s || (not (same_id k q) && is_among text_cmp ks q)) ≡ (s || is_among text_cmp ks q)
    by true e = refl
    by false e = bool_cases (same_id k q)
        (λ t. true_false (same_id q k) (ap (same_id q) (same_is k q t) ∙ same_refl q) e)
        (λ f. ap (λ b. not b && is_among text_cmp ks q) f)

-- one of those that stand for one of some
pub in_flat : (f : Text → List Text) (ds : List Text) (d q : Text) → is_among text_cmp ds d ≡ true → is_among text_cmp (f d) q ≡ true → is_among text_cmp (flat_map f ds) q ≡ true
in_flat f [] d q h k = true_false false h refl
in_flat f (x ∷ ds) d q h k =
    among-append (f x) (flat_map f ds) q
    ∙ either (same_id d x) (is_among text_cmp ds d) h
    (λ s. or_left (is_among text_cmp (f x) q) (is_among text_cmp (flat_map f ds) q) (ap (λ t. is_among text_cmp (f t) q) (sym (same_is d x s)) ∙ k))
    (λ t. or_right (is_among text_cmp (f x) q) (is_among text_cmp (flat_map f ds) q) (in_flat f ds d q t k))

pub of_flat : (f : Text → List Text) (ds : List Text) (q : Text) → is_among text_cmp (flat_map f ds) q ≡ true → (d : Text) × (is_among text_cmp ds d ≡ true) × (is_among text_cmp (f d) q ≡ true)
of_flat f [] q h = true_false false h refl
of_flat f (x ∷ ds) q h = either (is_among text_cmp (f x) q) (is_among text_cmp (flat_map f ds) q) (sym (among-append (f x) (flat_map f ds) q) ∙ h)
    (λ t. (x, or_left (same_id x x) (is_among text_cmp ds x) (same_refl x), t))
    (λ t. let r = of_flat f ds q t in (r.0, or_right (same_id r.0 x) (is_among text_cmp ds r.0) r.1, r.2))
