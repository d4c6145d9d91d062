-- Days that are at most seven apart lie in spans that reach one another.
use Rattle.std.proofs.Common.{◌≡◌, ℕ, ◌+◌, ◌-◌, ◌/◌, ◌≤◌, Bool, true, false, cond, List, [], ◌∷◌, ◌++◌, append-nil, Option, Some, None, ℤ, refl, sym, ap, ◌∙◌, arith, ⊎_elim, inl, inr, ◌⊎◌}
use Rattle.std.specs.Prelude.{◌&&◌, ◌||◌, pos, negsuc, unsigned_abs, ◌-ℤ◌}
use Rattle.std.specs.Ordering.{is_eq, int_cmp, int_eq, nat_cmp}
use Rattle.std.specs.declared.cmp.Ordering.{Ordering}
use Rattle.std.specs.declared.cmp.Ordering.TheVariants.{Less, Equal, Greater}
use Rattle.std.specs.BTreeMap.{BTreeMap, is_at}
use Rattle.std.specs.Global.{Vec}
use Rattle.std.specs.Cmp.{tied_then, eq_by_cmp_equiv}
use Rattle.std.proofs.lemmas.Map.Lookups.{exact_unsigned}
use Rattle.std.proofs.lemmas.Cmp.{nat_cmp_total}
use Rattle.std.proofs.lemmas.Int.{ints}
use Rattle.std.proofs.lemmas.Bool.{and_parts, and_from, le-leb, leb-true}
use Rattle.bank_import.specs.Matching.{days_apart}
use Rattle.bank_import.specs.Spans.{counted, span, first_span, last_span, reaches}
use Rattle.bank_import.specs.Groups.{SpanKey, group, of_span, span_cmp}
use Rattle.bank_import.specs.declared.facts.Candidate.{Candidate}

is_equal : (r : Ordering) → is_eq r ≡ true → r ≡ Equal
is_equal Less h = cc
is_equal Equal h = refl
is_equal Greater h = cc

-- ---- near days

near_numbers : (a b : ℤ) → unsigned_abs (a -ℤ b) ≤ 7 → (counted a ≤ counted b + 7) × (counted b ≤ counted a + 7)
near_numbers (pos a) (pos b) h = (omega (arith, ints), omega (arith, ints))
near_numbers (pos a) (negsuc b) h = (omega (arith, ints), omega (arith, ints))
near_numbers (negsuc a) (pos b) h = (omega (arith, ints), omega (arith, ints))
near_numbers (negsuc a) (negsuc b) h = (omega arith, omega arith)

near_spans : (x y : ℕ) → x ≤ y + 7 → y ≤ x + 7 → ((y - 7) / 16 ≤ x / 16) × (x / 16 ≤ (y + 7) / 16)
near_spans x y a b = (omega arith, omega arith)

pub near_reaches : (day : ℤ) (o : Option ℤ) → days_apart (Some day) o ≤ 7 → reaches o (span day) ≡ true
near_reaches day None h = absurd (omega arith)
near_reaches day (Some b) h =
    let near = near_numbers day b h in
    let at = near_spans (counted day) (counted b) near.0 near.1 in
    and_from _ _ (le-leb (first_span b) (span day) at.0) (le-leb (span day) (last_span b) at.1)

-- ---- what is entered

abbrev same : ℕ → ℕ → Bool
same x y = is_eq (nat_cmp x y)

same_is : (x y : ℕ) → same x y ≡ true → x ≡ y
same_is x y h = exact_unsigned x y (is_equal (nat_cmp x y) h)

is_same : (x y : ℕ) → x ≡ y → same x y ≡ true
is_same x y e = ap (same x) (sym e) ∙ (eq_by_cmp_equiv nat_cmp_total).refl x

key_is : (x y : ℤ) (s t : ℕ) → is_eq (span_cmp (x, s) (y, t)) ≡ (int_eq x y && same s t)
key_is x y s t = sym (tied_then (int_cmp x y) (nat_cmp s t))

same_bool : (p q : Bool) → (p ≡ true → q ≡ true) → (q ≡ true → p ≡ true) → p ≡ q
same_bool true q f g = sym (f refl)
same_bool false true f g = g refl
same_bool false false f g = refl

order : (x y : ℕ) → x ≤ y → y ≤ x + 1 → (x ≡ y) ⊎ (y ≡ x + 1)
order x y a b = by_bool (same x y) (λ t. inl (same_is x y t)) (λ f. inr (omega (arith, differ f)))
  where
    by_bool : {P : Type 0} (b : Bool) → (b ≡ true → P) → (b ≡ false → P) → P
    by_bool true f g = f refl
    by_bool false f g = g refl

    differ : same x y ≡ false → ¬ (x ≡ y)
    differ f e = let t = is_same x y e in let bad : true ≡ false = sym t ∙ f in cc

or_left : (a b : Bool) → a ≡ true → (a || b) ≡ true
or_left true b h = refl
or_left false b h = cc

or_right : (a b : Bool) → b ≡ true → (a || b) ≡ true
or_right true b h = refl
or_right false b h = h

or_cases : (a b : Bool) → (a || b) ≡ true → (a ≡ true) ⊎ (b ≡ true)
or_cases true b h = inl refl
or_cases false b h = inr h

-- a day is in reach of its first and of its last span, and of no other
by_ends : (day : ℤ) (at : ℕ) → (same (first_span day) at || same (last_span day) at) ≡ reaches (Some day) at
by_ends day at = same_bool _ _ forth back
  where
    next : (x : ℕ) → ((x - 7) / 16 ≤ (x + 7) / 16) × ((x + 7) / 16 ≤ (x - 7) / 16 + 1)
    next x = (omega arith, omega arith)

    forth : (same (first_span day) at || same (last_span day) at) ≡ true → reaches (Some day) at ≡ true
    forth h =
        let k = next (counted day) in
        ⊎_elim (λ t. let e = same_is (first_span day) at t in and_from _ _ (le-leb (first_span day) at (omega (arith, e))) (le-leb at (last_span day) (omega (arith, k.0, e))))
        (λ t. let e = same_is (last_span day) at t in and_from _ _ (le-leb (first_span day) at (omega (arith, k.0, e))) (le-leb at (last_span day) (omega (arith, e))))
        (or_cases _ _ h)

    back : reaches (Some day) at ≡ true → (same (first_span day) at || same (last_span day) at) ≡ true
    back h =
        let k = next (counted day) in
        let p = and_parts _ _ h in
        let from : first_span day ≤ at = leb-true (first_span day) at p.0 in
        let to : at ≤ last_span day = leb-true at (last_span day) p.1 in
        ⊎_elim (λ (e : first_span day ≡ at). or_left _ _ (is_same (first_span day) at e)) (λ (e : at ≡ first_span day + 1). or_right _ _ (is_same (last_span day) at (omega (arith, k.1)))) (order (first_span day) at from (omega (arith, k.1)))

put_one : (b : Bool) (g : List Candidate) (c : Candidate) → cond b (g ++ c ∷ []) g ≡ g ++ cond b (c ∷ []) []
put_one true g c = refl
put_one false g c = sym (append-nil g)

put_two : (a x y : Bool) (g : List Candidate) (c : Candidate) → (x ≡ true → y ≡ false)
    → cond (a && y) (cond (a && x) (g ++ c ∷ []) g ++ c ∷ []) (cond (a && x) (g ++ c ∷ []) g) ≡ g ++ cond (a && (x || y)) (c ∷ []) []
put_two false x y g c h = sym (append-nil g)
put_two true true y g c h = rw (h refl) refl
put_two true false true g c h = refl
put_two true false false g c h = sym (append-nil g)

or_itself : (b : Bool) → (b || b) ≡ b
or_itself true = refl
or_itself false = refl

module _ (c : Candidate) (day : ℤ) (is : c.day ≡ Some day) where
  reach : (at : ℕ) → (same (first_span day) at || same (last_span day) at) ≡ reaches c.day at
  reach at = by_ends day at ∙ ap (λ o. reaches o at) (sym is)

  -- a candidate of one span
  pub entered_once : (m once : BTreeMap SpanKey (Vec Candidate)) (d : Candidate) (first : ℕ) → d ≡ c → first ≡ first_span day → first ≡ last_span day
      → ((k : SpanKey) → group span_cmp once k ≡ cond (is_at (span_cmp (c.amount, first)) k) (group span_cmp m k ++ d ∷ []) (group span_cmp m k))
      → (amount : ℤ) (at : ℕ) → group span_cmp once (amount, at) ≡ group span_cmp m (amount, at) ++ of_span amount at (c ∷ [])
  entered_once m once d first e f l put amount at =
      let g = group span_cmp m (amount, at) in
      let one : same first at ≡ reaches c.day at = sym (or_itself (same first at)) ∙ ap (λ s. same s at || same first at) f ∙ ap (λ s. same (first_span day) at || same s at) l ∙ reach at in
      put (amount, at)
      ∙ ap (λ x. cond (is_at (span_cmp (c.amount, first)) (amount, at)) (g ++ x ∷ []) g) e
      ∙ ap (λ b. cond b (g ++ c ∷ []) g) (key_is c.amount amount first at)
      ∙ ap (λ b. cond (int_eq c.amount amount && b) (g ++ c ∷ []) g) one
      ∙ put_one (int_eq c.amount amount && reaches c.day at) g c

  -- and of two
  pub entered_twice : (m once twice : BTreeMap SpanKey (Vec Candidate)) (d d2 : Candidate) (first last : ℕ) → d ≡ c → d2 ≡ c → first ≡ first_span day → last ≡ last_span day → ¬ (last ≡ first)
      → ((k : SpanKey) → group span_cmp once k ≡ cond (is_at (span_cmp (c.amount, first)) k) (group span_cmp m k ++ d ∷ []) (group span_cmp m k))
      → ((k : SpanKey) → group span_cmp twice k ≡ cond (is_at (span_cmp (c.amount, last)) k) (group span_cmp once k ++ d2 ∷ []) (group span_cmp once k))
      → (amount : ℤ) (at : ℕ) → group span_cmp twice (amount, at) ≡ group span_cmp m (amount, at) ++ of_span amount at (c ∷ [])
  entered_twice m once twice d d2 first last e e2 f l differ put put2 amount at =
      let g = group span_cmp m (amount, at) in
      let a = int_eq c.amount amount in
      let here : group span_cmp once (amount, at) ≡ cond (a && same first at) (g ++ c ∷ []) g =
      put (amount, at) ∙ ap (λ x. cond (is_at (span_cmp (c.amount, first)) (amount, at)) (g ++ x ∷ []) g) e ∙ ap (λ b. cond b (g ++ c ∷ []) g) (key_is c.amount amount first at) in
      let not_both : same first at ≡ true → same last at ≡ false = λ t. apart (same last at) (λ u. differ (same_is last at u ∙ sym (same_is first at t))) in
      put2 (amount, at)
      ∙ ap (λ x. cond (is_at (span_cmp (c.amount, last)) (amount, at)) (group span_cmp once (amount, at) ++ x ∷ []) (group span_cmp once (amount, at))) e2
      ∙ ap (λ b. cond b (group span_cmp once (amount, at) ++ c ∷ []) (group span_cmp once (amount, at))) (key_is c.amount amount last at)
      ∙ ap (λ x. cond (a && same last at) (x ++ c ∷ []) x) here
      ∙ put_two a (same first at) (same last at) g c not_both
      ∙ ap (λ b. g ++ cond (a && b) (c ∷ []) []) (ap (λ s. same s at || same last at) f ∙ ap (λ s. same (first_span day) at || same s at) l ∙ reach at)
    where
      apart : (b : Bool) → (b ≡ true → ⊥) → b ≡ false
      apart true f = absurd (f refl)
      apart false f = refl

-- one candidate more
pub more_near : (amount : ℤ) (at : ℕ) (c : Candidate) (rest : List Candidate) → of_span amount at (c ∷ rest) ≡ of_span amount at (c ∷ []) ++ of_span amount at rest
more_near amount at c rest = by (int_eq c.amount amount && reaches c.day at) (of_span amount at rest)
  where
    by : (b : Bool) (xs : List Candidate) → cond b (c ∷ xs) xs ≡ cond b (c ∷ []) [] ++ xs
    by true xs = refl
    by false xs = refl

pub none_near : (amount : ℤ) (at : ℕ) (c : Candidate) → c.day ≡ None → of_span amount at (c ∷ []) ≡ []
none_near amount at c e = ap (λ o. cond (int_eq c.amount amount && reaches o at) (c ∷ []) []) e ∙ by (int_eq c.amount amount)
  where
    by : (b : Bool) → cond (b && false) (c ∷ []) [] ≡ []
    by true = refl
    by false = refl
