-- What a pass does to the matches.
use Rattle.std.proofs.Common.{◌≡◌, ℕ, zero, suc, Bool, true, false, cond, List, [], ◌∷◌, length, Option, Some, None, refl, sym, ap, ◌∙◌, inl, inr, ◌⊎◌, ⊎_elim}
use Rattle.std.specs.Prelude.{◌||◌}
use Rattle.std.specs.List.{slice_get}
use Rattle.finite_sums.specs.Maps.{Text}
use Rattle.book_edits.specs.Checks.{same_id}
use Rattle.bank_import.specs.Matching.{turn, id_of, meets, with_taken, run_pass, somes, is_among, next_pass, no_match}
use Rattle.bank_import.specs.Laws.{IsIn, IsMatch, LawOfMatches}
use Rattle.bank_import.proofs.Passes.{Test}
use Rattle.bank_import.proofs.Nearest.{id_itself, turn_took, turn_none}
use Rattle.bank_import.specs.declared.facts.Facts.{Facts}
use Rattle.bank_import.specs.declared.facts.Candidate.{Candidate}
use Rattle.bank_import.specs.declared.facts.Pass.{Pass}
use Rattle.bank_import.specs.declared.facts.Pass.TheVariants.{ById, ByPayee, ByAmount}

abbrev pub Matches : Type 0
Matches = List (Option Text)

clash : (b : Bool) → b ≡ true → b ≡ false → ⊥
clash true h e = cc
clash false h e = cc

or_cases : (a b : Bool) → (a || b) ≡ true → (a ≡ true) ⊎ (b ≡ true)
or_cases true b h = inl refl
or_cases false b h = inr h

or_right : (a b : Bool) → b ≡ true → (a || b) ≡ true
or_right true b h = refl
or_right false b h = h

or_left : (a b : Bool) → a ≡ true → (a || b) ≡ true
or_left true b h = refl
or_left false b h = cc

or_false : (a b : Bool) → (a || b) ≡ false → (a ≡ false) × (b ≡ false)
or_false true b h = cc
or_false false b h = (refl, h)

decide : (b : Bool) → (b ≡ true) ⊎ (b ≡ false)
decide true = inl refl
decide false = inr refl

pub not_then : (a b : Bool) → (a ≡ true → b ≡ true) → b ≡ false → a ≡ false
not_then true b h e = absurd (clash b (h refl) e)
not_then false b h e = refl

pub some_is : {A : Type 0} (x y : A) → Some x ≡ Some y → x ≡ y
some_is x y h = cc

pub none_some : (o : Option Text) → None ≡ Some o → ⊥
none_some o h = cc

-- tests before and after a taking
later_false : (o : Option Text) (taken : Test) (x : Text) → with_taken o taken x ≡ false → taken x ≡ false
later_false None taken x h = h
later_false (Some m) taken x h = by (same_id m x) h
  where
    by : (b : Bool) → cond b true (taken x) ≡ false → taken x ≡ false
    by true e = cc
    by false e = e

later_true : (o : Option Text) (taken : Test) (x : Text) → taken x ≡ true → with_taken o taken x ≡ true
later_true None taken x h = h
later_true (Some m) taken x h = by (same_id m x)
  where
    by : (b : Bool) → cond b true (taken x) ≡ true
    by true = refl
    by false = h

later_own : (m : Text) (taken : Test) (x : Text) → m ≡ x → with_taken (Some m) taken x ≡ true
later_own m taken x e = ap (λ b. cond b true (taken x)) (ap (λ y. same_id y x) e ∙ id_itself x)

pub later_other : (o : Option Text) (ms : Matches) (taken : Test) (x : Text) → taken x ≡ false → is_among (somes (o ∷ ms)) x ≡ false → with_taken o taken x ≡ false
later_other None ms taken x h e = h
later_other (Some m) ms taken x h e = ap (λ b. cond b true (taken x)) (or_false (same_id m x) (is_among (somes ms) x) e).0 ∙ h

pub rest_other : (o : Option Text) (ms : Matches) (x : Text) → is_among (somes (o ∷ ms)) x ≡ false → is_among (somes ms) x ≡ false
rest_other None ms x e = e
rest_other (Some m) ms x e = (or_false (same_id m x) (is_among (somes ms) x) e).1

pub among_at : (ms : Matches) (i : ℕ) (x : Text) → slice_get ms i ≡ Some (Some x) → is_among (somes ms) x ≡ true
among_at [] i x h = absurd (let bad : None ≡ Some (Some x) = h in cc)
among_at (o ∷ ms) zero x h = ap (λ k. is_among (somes (k ∷ ms)) x) (some_is o (Some x) h) ∙ or_left (same_id x x) (is_among (somes ms) x) (id_itself x)
among_at (None ∷ ms) (suc i) x h = among_at ms i x h
among_at (Some m ∷ ms) (suc i) x h = or_right (same_id m x) (is_among (somes ms) x) (among_at ms i x h)

module _ (p : Pass) (cs : List Candidate) where
  pub run_len : (rs : List Facts) (ms : Matches) (taken : Test) → length ms ≡ length rs → length (run_pass p cs taken rs ms) ≡ length rs
  run_len [] ms taken h = refl
  run_len (r ∷ rs) [] taken h = h
  run_len (r ∷ rs) (Some m ∷ ms) taken h = ap suc (run_len rs ms taken (pred h))
    where
      pred : suc (length ms) ≡ suc (length rs) → length ms ≡ length rs
      pred e = cc
  run_len (r ∷ rs) (None ∷ ms) taken h = ap suc (run_len rs ms (with_taken (id_of (turn p r taken cs)) taken) (pred h))
    where
      pred : suc (length ms) ≡ suc (length rs) → length ms ≡ length rs
      pred e = cc

  -- what a record newly takes
  pub record New (r : Facts) (taken : Test) (x : Text) : Type 0 where
    pub match : IsMatch cs r x
    pub free : taken x ≡ false

  pub run_new : (rs : List Facts) (ms : Matches) (taken : Test) (i : ℕ) (r : Facts) (x : Text) → slice_get rs i ≡ Some r → slice_get (run_pass p cs taken rs ms) i ≡ Some (Some x)
      → (slice_get ms i ≡ Some (Some x)) ⊎ New r taken x
  run_new [] ms taken i r x a h = absurd (let bad : None ≡ Some (Some x) = h in cc)
  run_new (s ∷ rs) [] taken i r x a h = absurd (let bad : None ≡ Some (Some x) = h in cc)
  run_new (s ∷ rs) (Some m ∷ ms) taken zero r x a h = inl h
  run_new (s ∷ rs) (Some m ∷ ms) taken (suc i) r x a h = run_new rs ms taken i r x a h
  run_new (s ∷ rs) (None ∷ ms) taken zero r x a h =
      let t = turn_took p r taken cs x (ap (λ e. id_of (turn p e taken cs)) (sym (some_is s r a)) ∙ some_is (id_of (turn p s taken cs)) (Some x) h) in
      inr (record { match = record { by = p; candidate = t.candidate; is_in = t.is_in; id = t.id; agrees = t.agrees }; free = t.free })
  run_new (s ∷ rs) (None ∷ ms) taken (suc i) r x a h =
      let o = id_of (turn p s taken cs) in
      ⊎_elim (λ k. inl k) (λ (n : New r (with_taken o taken) x). inr (record { match = n.match; free = later_false o taken x n.free })) (run_new rs ms (with_taken o taken) i r x a h)

  pub run_stay : (rs : List Facts) (ms : Matches) (taken : Test) (i : ℕ) → slice_get (run_pass p cs taken rs ms) i ≡ Some None → slice_get ms i ≡ Some None
  run_stay [] ms taken i h = absurd (none_some None h)
  run_stay (r ∷ rs) [] taken i h = absurd (none_some None h)
  run_stay (r ∷ rs) (Some m ∷ ms) taken zero h = h
  run_stay (r ∷ rs) (Some m ∷ ms) taken (suc i) h = run_stay rs ms taken i h
  run_stay (r ∷ rs) (None ∷ ms) taken zero h = refl
  run_stay (r ∷ rs) (None ∷ ms) taken (suc i) h = run_stay rs ms (with_taken (id_of (turn p r taken cs)) taken) i h

  push_among : (o : Option Text) (ms : Matches) (q : Text) → is_among (somes ms) q ≡ true → is_among (somes (o ∷ ms)) q ≡ true
  push_among None ms q h = h
  push_among (Some m) ms q h = or_right (same_id m q) (is_among (somes ms) q) h

  pub run_among : (rs : List Facts) (ms : Matches) (taken : Test) (q : Text) → length ms ≡ length rs → is_among (somes ms) q ≡ true → is_among (somes (run_pass p cs taken rs ms)) q ≡ true
  run_among [] [] taken q len h = h
  run_among [] (m ∷ ms) taken q len h = absurd (let bad : suc (length ms) ≡ zero = len in cc)
  run_among (r ∷ rs) [] taken q len h = h
  run_among (r ∷ rs) (Some m ∷ ms) taken q len h =
      ⊎_elim (λ e. or_left (same_id m q) (is_among (somes (run_pass p cs taken rs ms)) q) e)
      (λ e. or_right (same_id m q) (is_among (somes (run_pass p cs taken rs ms)) q) (run_among rs ms taken q (let l : suc (length ms) ≡ suc (length rs) = len in cc) e))
      (or_cases (same_id m q) (is_among (somes ms) q) h)
  run_among (r ∷ rs) (None ∷ ms) taken q len h =
      let o = id_of (turn p r taken cs) in
      push_among o (run_pass p cs (with_taken o taken) rs ms) q (run_among rs ms (with_taken o taken) q (let l : suc (length ms) ≡ suc (length rs) = len in cc) h)

  pub run_left : (rs : List Facts) (ms : Matches) (taken : Test) (i : ℕ) (r : Facts) (c : Candidate) → slice_get rs i ≡ Some r → slice_get (run_pass p cs taken rs ms) i ≡ Some None
      → IsIn cs c → taken c.id ≡ false → is_among (somes (run_pass p cs taken rs ms)) c.id ≡ false → meets p r c ≡ false
  run_left [] ms taken i r c a h in' t e = absurd (none_some None h)
  run_left (s ∷ rs) [] taken i r c a h in' t e = absurd (none_some None h)
  run_left (s ∷ rs) (Some m ∷ ms) taken zero r c a h in' t e = absurd (let bad : Some (Some m) ≡ Some None = h in cc)
  run_left (s ∷ rs) (Some m ∷ ms) taken (suc i) r c a h in' t e = run_left rs ms taken i r c a h in' t (rest_other (Some m) (run_pass p cs taken rs ms) c.id e)
  run_left (s ∷ rs) (None ∷ ms) taken zero r c a h in' t e =
      turn_none p r taken cs (ap (λ y. id_of (turn p y taken cs)) (sym (some_is s r a)) ∙ some_is (id_of (turn p s taken cs)) None h) c in' t
  run_left (s ∷ rs) (None ∷ ms) taken (suc i) r c a h in' t e =
      let o = id_of (turn p s taken cs) in
      run_left rs ms (with_taken o taken) i r c a h in' (later_other o (run_pass p cs (with_taken o taken) rs ms) taken c.id t e) (rest_other o (run_pass p cs (with_taken o taken) rs ms) c.id e)

  abbrev pub Apart : Matches → Type 0
  Apart ms = (i j : ℕ) (x : Text) → slice_get ms i ≡ Some (Some x) → slice_get ms j ≡ Some (Some x) → i ≡ j

  abbrev pub AllTaken : Matches → Test → Type 0
  AllTaken ms taken = (i : ℕ) (x : Text) → slice_get ms i ≡ Some (Some x) → taken x ≡ true

  -- there is a record wherever there is an answer
  pub run_has : (rs : List Facts) (ms : Matches) (taken : Test) (i : ℕ) (o : Option Text) → slice_get (run_pass p cs taken rs ms) i ≡ Some o → (r : Facts) × (slice_get rs i ≡ Some r)
  run_has [] ms taken i o h = absurd (let bad : None ≡ Some o = h in cc)
  run_has (r ∷ rs) [] taken i o h = absurd (let bad : None ≡ Some o = h in cc)
  run_has (r ∷ rs) (m ∷ ms) taken zero o h = (r, refl)
  run_has (r ∷ rs) (Some m ∷ ms) taken (suc i) o h = run_has rs ms taken i o h
  run_has (r ∷ rs) (None ∷ ms) taken (suc i) o h = run_has rs ms (with_taken (id_of (turn p r taken cs)) taken) i o h

  -- what stands later was there before, or was free
  later_at : (rs : List Facts) (ms : Matches) (taken : Test) (i : ℕ) (x : Text) → slice_get (run_pass p cs taken rs ms) i ≡ Some (Some x) → (slice_get ms i ≡ Some (Some x)) ⊎ (taken x ≡ false)
  later_at rs ms taken i x h =
      let r = run_has rs ms taken i (Some x) h in
      ⊎_elim (λ k. inl k) (λ (n : New r.0 taken x). inr n.free) (run_new rs ms taken i r.0 x r.1 h)

  tail_apart : (o : Option Text) (ms : Matches) → Apart (o ∷ ms) → Apart ms
  tail_apart o ms h i j x a b = let e : suc i ≡ suc j = h (suc i) (suc j) x a b in cc

  kept_apart : (rs : List Facts) (ms : Matches) (taken : Test) (m : Text) (j : ℕ) (x : Text) → Apart (Some m ∷ ms) → AllTaken (Some m ∷ ms) taken → m ≡ x
      → slice_get (run_pass p cs taken rs ms) j ≡ Some (Some x) → ⊥
  kept_apart rs ms taken m j x apart all e h =
      ⊎_elim (λ k. let bad : zero ≡ suc j = apart zero (suc j) x (ap (λ y. Some (Some y)) e) k in cc)
      (λ f. clash (taken x) (all zero x (ap (λ y. Some (Some y)) e)) f)
      (later_at rs ms taken j x h)

  new_apart : (rs : List Facts) (ms : Matches) (taken : Test) (r : Facts) (j : ℕ) (x : Text) → AllTaken (None ∷ ms) taken → id_of (turn p r taken cs) ≡ Some x
      → slice_get (run_pass p cs (with_taken (id_of (turn p r taken cs)) taken) rs ms) j ≡ Some (Some x) → ⊥
  new_apart rs ms taken r j x all e h =
      ⊎_elim (λ k. clash (taken x) (all (suc j) x k) (turn_took p r taken cs x e).free)
      (λ f. clash (with_taken (id_of (turn p r taken cs)) taken x) (ap (λ o. with_taken o taken x) e ∙ later_own x taken x refl) f)
      (later_at rs ms (with_taken (id_of (turn p r taken cs)) taken) j x h)

  pub run_apart : (rs : List Facts) (ms : Matches) (taken : Test) → Apart ms → AllTaken ms taken → Apart (run_pass p cs taken rs ms)
  run_apart [] ms taken h all i j x a b = absurd (let bad : None ≡ Some (Some x) = a in cc)
  run_apart (r ∷ rs) [] taken h all i j x a b = absurd (let bad : None ≡ Some (Some x) = a in cc)
  run_apart (r ∷ rs) (Some m ∷ ms) taken h all zero zero x a b = refl
  run_apart (r ∷ rs) (Some m ∷ ms) taken h all zero (suc j) x a b = absurd (kept_apart rs ms taken m j x h all (let e : Some (Some m) ≡ Some (Some x) = a in cc) b)
  run_apart (r ∷ rs) (Some m ∷ ms) taken h all (suc i) zero x a b = absurd (kept_apart rs ms taken m i x h all (let e : Some (Some m) ≡ Some (Some x) = b in cc) a)
  run_apart (r ∷ rs) (Some m ∷ ms) taken h all (suc i) (suc j) x a b = ap suc (run_apart rs ms taken (tail_apart (Some m) ms h) (λ k y t. all (suc k) y t) i j x a b)
  run_apart (r ∷ rs) (None ∷ ms) taken h all zero zero x a b = refl
  run_apart (r ∷ rs) (None ∷ ms) taken h all zero (suc j) x a b = absurd (new_apart rs ms taken r j x all (some_is (id_of (turn p r taken cs)) (Some x) a) b)
  run_apart (r ∷ rs) (None ∷ ms) taken h all (suc i) zero x a b = absurd (new_apart rs ms taken r i x all (some_is (id_of (turn p r taken cs)) (Some x) b) a)
  run_apart (r ∷ rs) (None ∷ ms) taken h all (suc i) (suc j) x a b =
      let o = id_of (turn p r taken cs) in
      ap suc (run_apart rs ms (with_taken o taken) (tail_apart None ms h) (λ k y t. later_true o taken y (all (suc k) y t)) i j x a b)

pub no_match_len : (rs : List Facts) → length (no_match rs) ≡ length rs
no_match_len [] = refl
no_match_len (r ∷ rs) = ap suc (no_match_len rs)

pub no_match_at : (rs : List Facts) (i : ℕ) (x : Text) → slice_get (no_match rs) i ≡ Some (Some x) → ⊥
no_match_at [] i x h = let bad : None ≡ Some (Some x) = h in cc
no_match_at (r ∷ rs) zero x h = let bad : Some None ≡ Some (Some x) = h in cc
no_match_at (r ∷ rs) (suc i) x h = no_match_at rs i x h

module _ (cs : List Candidate) (rs : List Facts) where
  abbrev pub m0 : Matches
  m0 = no_match rs

  abbrev pub m1 : Matches
  m1 = next_pass ById cs rs m0

  abbrev pub m2 : Matches
  m2 = next_pass ByPayee cs rs m1

  abbrev pub m3 : Matches
  m3 = next_pass ByAmount cs rs m2

  pub len1 : length m1 ≡ length rs
  len1 = run_len ById cs rs m0 (is_among (somes m0)) (no_match_len rs)

  pub len2 : length m2 ≡ length rs
  len2 = run_len ByPayee cs rs m1 (is_among (somes m1)) len1

  len3 : length m3 ≡ length rs
  len3 = run_len ByAmount cs rs m2 (is_among (somes m2)) len2

  abbrev IsApart : Matches → Type 0
  IsApart ms = (i j : ℕ) (x : Text) → slice_get ms i ≡ Some (Some x) → slice_get ms j ≡ Some (Some x) → i ≡ j

  apart0 : IsApart m0
  apart0 i j x a b = absurd (no_match_at rs i x a)

  apart1 : IsApart m1
  apart1 = run_apart ById cs rs m0 (is_among (somes m0)) apart0 (among_at m0)

  apart2 : IsApart m2
  apart2 = run_apart ByPayee cs rs m1 (is_among (somes m1)) apart1 (among_at m1)

  apart3 : IsApart m3
  apart3 = run_apart ByAmount cs rs m2 (is_among (somes m2)) apart2 (among_at m2)

  match3 : (i : ℕ) (r : Facts) (x : Text) → slice_get rs i ≡ Some r → slice_get m3 i ≡ Some (Some x) → IsMatch cs r x
  match3 i r x a h =
      ⊎_elim (λ h2. ⊎_elim (λ h1. ⊎_elim (λ h0. absurd (no_match_at rs i x h0)) (λ (n : New ById cs r (is_among (somes m0)) x). n.match)
      (run_new ById cs rs m0 (is_among (somes m0)) i r x a h1))
      (λ (n : New ByPayee cs r (is_among (somes m1)) x). n.match) (run_new ByPayee cs rs m1 (is_among (somes m1)) i r x a h2))
      (λ (n : New ByAmount cs r (is_among (somes m2)) x). n.match) (run_new ByAmount cs rs m2 (is_among (somes m2)) i r x a h)

  pub not2 : (q : Text) → is_among (somes m3) q ≡ false → is_among (somes m2) q ≡ false
  not2 q h = not_then (is_among (somes m2) q) (is_among (somes m3) q) (run_among ByAmount cs rs m2 (is_among (somes m2)) q len2) h

  pub not1 : (q : Text) → is_among (somes m2) q ≡ false → is_among (somes m1) q ≡ false
  not1 q h = not_then (is_among (somes m1) q) (is_among (somes m2) q) (run_among ByPayee cs rs m1 (is_among (somes m1)) q len1) h

  pub not0 : (q : Text) → is_among (somes m1) q ≡ false → is_among (somes m0) q ≡ false
  not0 q h = not_then (is_among (somes m0) q) (is_among (somes m1) q) (run_among ById cs rs m0 (is_among (somes m0)) q (no_match_len rs)) h

  left3 : (i : ℕ) (r : Facts) → slice_get rs i ≡ Some r → slice_get m3 i ≡ Some None → (p : Pass) (c : Candidate) → IsIn cs c → is_among (somes m3) c.id ≡ false → meets p r c ≡ false
  left3 i r a h ByAmount c in' e = run_left ByAmount cs rs m2 (is_among (somes m2)) i r c a h in' (not2 c.id e) e
  left3 i r a h ByPayee c in' e = run_left ByPayee cs rs m1 (is_among (somes m1)) i r c a (run_stay ByAmount cs rs m2 (is_among (somes m2)) i h) in' (not1 c.id (not2 c.id e)) (not2 c.id e)
  left3 i r a h ById c in' e =
      run_left ById cs rs m0 (is_among (somes m0)) i r c a (run_stay ByPayee cs rs m1 (is_among (somes m1)) i (run_stay ByAmount cs rs m2 (is_among (somes m2)) i h)) in'
      (not0 c.id (not1 c.id (not2 c.id e))) (not1 c.id (not2 c.id e))

pub law_of_matches : LawOfMatches
law_of_matches cs rs = record { len = len3 cs rs; apart = apart3 cs rs; match = match3 cs rs; left = left3 cs rs }
