-- A pass in which some of the records take their own rows and no other takes any.
use Rattle.std.proofs.Common.{◌≡◌, ℕ, zero, suc, ◌<◌, Bool, true, false, cond, List, [], ◌∷◌, length, map, Option, Some, None, refl, sym, ap, ◌∙◌, arith}
use Rattle.std.specs.Prelude.{◌||◌}
use Rattle.std.specs.List.{slice_get}
use Rattle.finite_sums.specs.Maps.{Text}
use Rattle.book_edits.specs.Checks.{same_id}
use Rattle.bank_import.specs.Matching.{turn, id_of, with_taken, run_pass, somes, is_among}
use Rattle.bank_import.proofs.Passes.{Test}
use Rattle.bank_import.proofs.Nearest.{id_same, id_itself}
use Rattle.bank_import.proofs.Runs.{Matches, some_is}
use Rattle.bank_import.specs.declared.facts.Facts.{Facts}
use Rattle.bank_import.specs.declared.facts.Candidate.{Candidate}
use Rattle.bank_import.specs.declared.facts.Pass.{Pass}

abbrev pub out : (Facts → Bool) → List Facts → List Text → Matches → Matches
out takes [] os ms = []
out takes (r ∷ rs) [] ms = []
out takes (r ∷ rs) (x ∷ os) [] = []
out takes (r ∷ rs) (x ∷ os) (Some m ∷ ms) = Some m ∷ out takes rs os ms
out takes (r ∷ rs) (x ∷ os) (None ∷ ms) = cond (takes r) (Some x) None ∷ out takes rs os ms

abbrev pub AreOwn : List Text → Matches → Type 0
AreOwn os ms = (i : ℕ) (m : Text) → slice_get ms i ≡ Some (Some m) → slice_get os i ≡ Some m

gone : {A : Type 0} (x : A) → None ≡ Some x → ⊥
gone x h = cc

pub among_from : (ms : Matches) (x : Text) → is_among (somes ms) x ≡ true → (i : ℕ) × (slice_get ms i ≡ Some (Some x))
among_from [] x h = absurd (let bad : false ≡ true = h in cc)
among_from (None ∷ ms) x h = let r = among_from ms x h in (suc r.0, r.1)
among_from (Some m ∷ ms) x h = by (same_id m x) refl h (λ k. among_from ms x k)
  where
    by : (b : Bool) → same_id m x ≡ b → (b || is_among (somes ms) x) ≡ true → (is_among (somes ms) x ≡ true → (i : ℕ) × (slice_get ms i ≡ Some (Some x)))
        → (i : ℕ) × (slice_get (Some m ∷ ms) i ≡ Some (Some x))
    by true e k f = (zero, ap (λ y. Some (Some y)) (id_same m x e))
    by false e k f = let r = f k in (suc r.0, r.1)

module _ (takes : Facts → Bool) where
  pub out_len : (rs : List Facts) (os : List Text) (ms : Matches) → length os ≡ length rs → length ms ≡ length rs → length (out takes rs os ms) ≡ length rs
  out_len [] os ms h k = refl
  out_len (r ∷ rs) [] ms h k = h
  out_len (r ∷ rs) (x ∷ os) [] h k = k
  out_len (r ∷ rs) (x ∷ os) (Some m ∷ ms) h k = ap suc (out_len rs os ms (let e : suc (length os) ≡ suc (length rs) = h in cc) (let e : suc (length ms) ≡ suc (length rs) = k in cc))
  out_len (r ∷ rs) (x ∷ os) (None ∷ ms) h k = ap suc (out_len rs os ms (let e : suc (length os) ≡ suc (length rs) = h in cc) (let e : suc (length ms) ≡ suc (length rs) = k in cc))

  pub out_some : (rs : List Facts) (os : List Text) (ms : Matches) (j : ℕ) (s : Facts) (y : Text) → slice_get rs j ≡ Some s → slice_get os j ≡ Some y → slice_get ms j ≡ Some None → takes s ≡ true
      → slice_get (out takes rs os ms) j ≡ Some (Some y)
  out_some [] os ms j s y a b c t = absurd (gone s a)
  out_some (r ∷ rs) [] ms j s y a b c t = absurd (gone y b)
  out_some (r ∷ rs) (x ∷ os) [] j s y a b c t = absurd (gone None c)
  out_some (r ∷ rs) (x ∷ os) (Some m ∷ ms) zero s y a b c t = absurd (let bad : Some (Some m) ≡ Some None = c in cc)
  out_some (r ∷ rs) (x ∷ os) (None ∷ ms) zero s y a b c t = ap Some (ap (λ e. cond e (Some x) None) (ap takes (some_is r s a) ∙ t) ∙ b)
  out_some (r ∷ rs) (x ∷ os) (Some m ∷ ms) (suc j) s y a b c t = out_some rs os ms j s y a b c t
  out_some (r ∷ rs) (x ∷ os) (None ∷ ms) (suc j) s y a b c t = out_some rs os ms j s y a b c t

  pub out_keep : (rs : List Facts) (os : List Text) (ms : Matches) (j : ℕ) (s : Facts) (y m : Text) → slice_get rs j ≡ Some s → slice_get os j ≡ Some y → slice_get ms j ≡ Some (Some m)
      → slice_get (out takes rs os ms) j ≡ Some (Some m)
  out_keep [] os ms j s y m a b c = absurd (gone s a)
  out_keep (r ∷ rs) [] ms j s y m a b c = absurd (gone y b)
  out_keep (r ∷ rs) (x ∷ os) [] j s y m a b c = absurd (gone (Some m) c)
  out_keep (r ∷ rs) (x ∷ os) (Some n ∷ ms) zero s y m a b c = c
  out_keep (r ∷ rs) (x ∷ os) (None ∷ ms) zero s y m a b c = absurd (let bad : Some None ≡ Some (Some m) = c in cc)
  out_keep (r ∷ rs) (x ∷ os) (Some n ∷ ms) (suc j) s y m a b c = out_keep rs os ms j s y m a b c
  out_keep (r ∷ rs) (x ∷ os) (None ∷ ms) (suc j) s y m a b c = out_keep rs os ms j s y m a b c

  not_taking : (b : Bool) (x : Text) → cond b (Some x) None ≡ None → b ≡ false
  not_taking true x h = cc
  not_taking false x h = refl

  pub out_none : (rs : List Facts) (os : List Text) (ms : Matches) (i : ℕ) (r : Facts) → slice_get rs i ≡ Some r → slice_get (out takes rs os ms) i ≡ Some None
      → (slice_get ms i ≡ Some None) × (takes r ≡ false)
  out_none [] os ms i r a h = absurd (gone r a)
  out_none (s ∷ rs) [] ms i r a h = absurd (gone None h)
  out_none (s ∷ rs) (x ∷ os) [] i r a h = absurd (gone None h)
  out_none (s ∷ rs) (x ∷ os) (Some m ∷ ms) zero r a h = absurd (let bad : Some (Some m) ≡ Some None = h in cc)
  out_none (s ∷ rs) (x ∷ os) (None ∷ ms) zero r a h = (refl, ap takes (sym (some_is s r a)) ∙ not_taking (takes s) x (some_is (cond (takes s) (Some x) None) None h))
  out_none (s ∷ rs) (x ∷ os) (Some m ∷ ms) (suc i) r a h = out_none rs os ms i r a h
  out_none (s ∷ rs) (x ∷ os) (None ∷ ms) (suc i) r a h = out_none rs os ms i r a h

  pub out_not : (rs : List Facts) (os : List Text) (ms : Matches) (j : ℕ) (s : Facts) (y : Text) → slice_get rs j ≡ Some s → slice_get os j ≡ Some y → slice_get ms j ≡ Some None → takes s ≡ false
      → slice_get (out takes rs os ms) j ≡ Some None
  out_not [] os ms j s y a b c t = absurd (gone s a)
  out_not (r ∷ rs) [] ms j s y a b c t = absurd (gone y b)
  out_not (r ∷ rs) (x ∷ os) [] j s y a b c t = absurd (gone None c)
  out_not (r ∷ rs) (x ∷ os) (Some m ∷ ms) zero s y a b c t = absurd (let bad : Some (Some m) ≡ Some None = c in cc)
  out_not (r ∷ rs) (x ∷ os) (None ∷ ms) zero s y a b c t = ap Some (ap (λ e. cond e (Some x) None) (ap takes (some_is r s a) ∙ t))
  out_not (r ∷ rs) (x ∷ os) (Some m ∷ ms) (suc j) s y a b c t = out_not rs os ms j s y a b c t
  out_not (r ∷ rs) (x ∷ os) (None ∷ ms) (suc j) s y a b c t = out_not rs os ms j s y a b c t

  own_here : (b : Bool) (x m : Text) → cond b (Some x) None ≡ Some m → x ≡ m
  own_here true x m h = cc
  own_here false x m h = cc

  pub out_own : (rs : List Facts) (os : List Text) (ms : Matches) → AreOwn os ms → AreOwn os (out takes rs os ms)
  out_own [] os ms own i m h = absurd (gone (Some m) h)
  out_own (s ∷ rs) [] ms own i m h = absurd (gone (Some m) h)
  out_own (s ∷ rs) (x ∷ os) [] own i m h = absurd (gone (Some m) h)
  out_own (s ∷ rs) (x ∷ os) (Some n ∷ ms) own zero m h = own zero m h
  out_own (s ∷ rs) (x ∷ os) (None ∷ ms) own zero m h = ap Some (own_here (takes s) x m (some_is (cond (takes s) (Some x) None) (Some m) h))
  out_own (s ∷ rs) (x ∷ os) (Some n ∷ ms) own (suc i) m h = out_own rs os ms (λ k y e. own (suc k) y e) i m h
  out_own (s ∷ rs) (x ∷ os) (None ∷ ms) own (suc i) m h = out_own rs os ms (λ k y e. own (suc k) y e) i m h

pub out_all : (rs : List Facts) (os : List Text) (ms : Matches) → length os ≡ length rs → length ms ≡ length rs → AreOwn os ms → out (λ _. true) rs os ms ≡ map (λ x. Some x) os
out_all [] [] ms h k own = refl
out_all [] (x ∷ os) ms h k own = absurd (let bad : suc (length os) ≡ zero = h in cc)
out_all (r ∷ rs) [] ms h k own = refl
out_all (r ∷ rs) (x ∷ os) [] h k own = absurd (let bad : zero ≡ suc (length rs) = k in cc)
out_all (r ∷ rs) (x ∷ os) (Some m ∷ ms) h k own =
    let e : Some x ≡ Some m = own zero m refl in
    ap (λ o. o ∷ out (λ _. true) rs os ms) (sym e)
    ∙ ap (λ t. Some x ∷ t) (out_all rs os ms (let e : suc (length os) ≡ suc (length rs) = h in cc) (let e : suc (length ms) ≡ suc (length rs) = k in cc) (λ i y q. own (suc i) y q))
out_all (r ∷ rs) (x ∷ os) (None ∷ ms) h k own =
    ap (λ t. Some x ∷ t) (out_all rs os ms (let e : suc (length os) ≡ suc (length rs) = h in cc) (let e : suc (length ms) ≡ suc (length rs) = k in cc) (λ i y q. own (suc i) y q))

later_kept : (o : Option Text) (taken : Test) (q : Text) → taken q ≡ true → with_taken o taken q ≡ true
later_kept None taken q h = h
later_kept (Some m) taken q h = by (same_id m q)
  where
    by : (b : Bool) → cond b true (taken q) ≡ true
    by true = refl
    by false = h

pub is_not : (b : Bool) → (b ≡ true → ⊥) → b ≡ false
is_not true h = absurd (h refl)
is_not false h = refl

module _ (p : Pass) (cs : List Candidate) (takes : Facts → Bool) where
  -- every earlier taker's row is taken
  abbrev pub Taken : List Facts → List Text → Matches → ℕ → Test → Type 0
  Taken rs os ms i t = (j : ℕ) (s : Facts) (y : Text) → j < i → slice_get rs j ≡ Some s → slice_get os j ≡ Some y → slice_get ms j ≡ Some None → takes s ≡ true → t y ≡ true

  abbrev pub Turns : List Facts → List Text → Matches → Test → Type 0
  Turns rs os ms taken = (i : ℕ) (r : Facts) (x : Text) → slice_get rs i ≡ Some r → slice_get os i ≡ Some x → slice_get ms i ≡ Some None → takes r ≡ true
      → (t : Test) → t x ≡ false → ((q : Text) → taken q ≡ true → t q ≡ true) → Taken rs os ms i t → id_of (turn p r t cs) ≡ Some x

  abbrev pub Others : List Facts → Matches → Type 0
  Others rs ms = (i : ℕ) (r : Facts) → slice_get rs i ≡ Some r → slice_get ms i ≡ Some None → takes r ≡ false → (t : Test) → id_of (turn p r t cs) ≡ None

  abbrev pub Free : List Facts → List Text → Matches → Test → Type 0
  Free rs os ms taken = (i : ℕ) (r : Facts) (x : Text) → slice_get rs i ≡ Some r → slice_get os i ≡ Some x → slice_get ms i ≡ Some None → takes r ≡ true → taken x ≡ false

  abbrev Apart : List Text → Type 0
  Apart os = (i j : ℕ) (x : Text) → slice_get os i ≡ Some x → slice_get os j ≡ Some x → i ≡ j

  tail_apart : (x : Text) (os : List Text) → Apart (x ∷ os) → Apart os
  tail_apart x os h i j y a b = let e : suc i ≡ suc j = h (suc i) (suc j) y a b in cc

  here : (r : Facts) (rs : List Facts) (x : Text) (os : List Text) (ms : Matches) (taken : Test) → Turns (r ∷ rs) (x ∷ os) (None ∷ ms) taken → Others (r ∷ rs) (None ∷ ms)
      → Free (r ∷ rs) (x ∷ os) (None ∷ ms) taken → (b : Bool) → takes r ≡ b → id_of (turn p r taken cs) ≡ cond b (Some x) None
  here r rs x os ms taken turns others free true e =
      turns zero r x refl refl refl e taken (free zero r x refl refl refl e) (λ q h. h) (λ j s y l. absurd (omega arith))
  here r rs x os ms taken turns others free false e = others zero r refl refl e taken

  pub run_takes : (rs : List Facts) (os : List Text) (ms : Matches) (taken : Test) → length os ≡ length rs → length ms ≡ length rs → Apart os
      → Turns rs os ms taken → Others rs ms → Free rs os ms taken → run_pass p cs taken rs ms ≡ out takes rs os ms
  run_takes [] os ms taken h k apart turns others free = refl
  run_takes (r ∷ rs) [] ms taken h k apart turns others free = absurd (let bad : zero ≡ suc (length rs) = h in cc)
  run_takes (r ∷ rs) (x ∷ os) [] taken h k apart turns others free = refl
  run_takes (r ∷ rs) (x ∷ os) (Some m ∷ ms) taken h k apart turns others free =
      ap (λ t. Some m ∷ t) (run_takes rs os ms taken (let e : suc (length os) ≡ suc (length rs) = h in cc) (let e : suc (length ms) ≡ suc (length rs) = k in cc) (tail_apart x os apart)
      (λ i s y a b c d t f keep past. turns (suc i) s y a b c d t f keep (over t past))
      (λ i s a c d. others (suc i) s a c d) (λ i s y a b c d. free (suc i) s y a b c d))
    where
      over : {i : ℕ} (t : Test) → Taken rs os ms i t → Taken (r ∷ rs) (x ∷ os) (Some m ∷ ms) (suc i) t
      over t past zero s y l a b c d = absurd (let bad : Some (Some m) ≡ Some None = c in cc)
      over t past (suc j) s y l a b c d = past j s y (omega arith) a b c d
  run_takes (r ∷ rs) (x ∷ os) (None ∷ ms) taken h k apart turns others free =
      ap (λ o. o ∷ run_pass p cs (with_taken o taken) rs ms) (here r rs x os ms taken turns others free (takes r) refl)
      ∙ ap (λ t. cond (takes r) (Some x) None ∷ t) (run_takes rs os ms (with_taken (cond (takes r) (Some x) None) taken)
      (let e : suc (length os) ≡ suc (length rs) = h in cc) (let e : suc (length ms) ≡ suc (length rs) = k in cc) (tail_apart x os apart)
      (λ i s y a b c d t f keep past. turns (suc i) s y a b c d t f (λ q g. keep q (later_kept (cond (takes r) (Some x) None) taken q g)) (over t keep past))
      (λ i s a c d. others (suc i) s a c d)
      (λ i s y a b c d. still (takes r) i y b (free (suc i) s y a b c d)))
    where
      own_taken : (b : Bool) (y : Text) → b ≡ true → x ≡ y → with_taken (cond b (Some x) None) taken y ≡ true
      own_taken true y e q = ap (λ b. cond b true (taken y)) (ap (λ z. same_id z y) q ∙ id_itself y)
      own_taken false y e q = absurd (let bad : false ≡ true = e in cc)

      over : {i : ℕ} (t : Test) → ((q : Text) → with_taken (cond (takes r) (Some x) None) taken q ≡ true → t q ≡ true) → Taken rs os ms i t → Taken (r ∷ rs) (x ∷ os) (None ∷ ms) (suc i) t
      over t keep past zero s y l a b c d = keep y (own_taken (takes r) y (ap takes (some_is r s a) ∙ d) (some_is x y b))
      over t keep past (suc j) s y l a b c d = past j s y (omega arith) a b c d

      still : (b : Bool) (i : ℕ) (y : Text) → slice_get os i ≡ Some y → taken y ≡ false → with_taken (cond b (Some x) None) taken y ≡ false
      still true i y e f = ap (λ b. cond b true (taken y)) (is_not (same_id x y) (λ g. let bad : zero ≡ suc i = apart zero (suc i) y (ap Some (id_same x y g)) e in cc)) ∙ f
      still false i y e f = f
