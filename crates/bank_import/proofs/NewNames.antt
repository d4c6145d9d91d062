-- The names of the payees that records want made.
use Rattle.std.proofs.Common.{◌≡◌, ℕ, zero, suc, ◌+◌, ◌<◌, Bool, true, false, cond, List, [], ◌∷◌, ◌++◌, length, Option, Some, None, refl, sym, ap, ◌∙◌, inl, inr, ◌⊎◌, ⊎_elim, arith}
use Rattle.std.specs.Prelude.{◌≢◌, is_some}
use Rattle.std.specs.Option.{option_or}
use Rattle.std.specs.List.{slice_get, fold}
use Rattle.finite_sums.specs.Maps.{Text}
use Rattle.book_edits.specs.Checks.{same_id}
use Rattle.rule_engine.specs.Conditions.{folded}
use Rattle.bank_import.specs.declared.drafts.Draft.{Draft}
use Rattle.bank_import.specs.Drafts.{place_from, place_of, with_name, new_names}
use Rattle.bank_import.specs.NewPayees.{IsFirst}
use Rattle.bank_import.proofs.Nearest.{id_same, id_itself}
use Rattle.bank_import.proofs.Outs.{is_not}
use Rattle.bank_import.proofs.Found.{behind}

no_some : {X P : Type 0} (x : X) → None ≡ Some x → P
no_some x h = absurd (clash h)
  where
    clash : None ≡ Some x → ⊥
    clash h = cc

pub some_is : {X : Type 0} (x y : X) → Some x ≡ Some y → x ≡ y
some_is x y h = cc

-- ---- places

-- at its place a name stands that folds to it
record IsAt (at : ℕ) (names : List Text) (key : Text) (p : ℕ) : Type 0 where
  k : ℕ
  name : Text
  place : p ≡ at + k
  there : slice_get names k ≡ Some name
  folds : folded name ≡ key

place_is : (at : ℕ) (names : List Text) (key : Text) (p : ℕ) → place_from at names key ≡ Some p → IsAt at names key p
place_is at [] key p h = no_some p h
place_is at (n ∷ names) key p h = by (same_id (folded n) key) refl (place_is (at + 1) names key p) h
  where
    by : (b : Bool) → same_id (folded n) key ≡ b → (place_from (at + 1) names key ≡ Some p → IsAt (at + 1) names key p) → cond b (Some at) (place_from (at + 1) names key) ≡ Some p → IsAt at (n ∷ names) key p
    by true e rest g = record { k = zero; name = n; place = (let q : at ≡ p = some_is at p g in omega arith); there = refl; folds = id_same (folded n) key e }
    by false e rest g = let w = rest g in record { k = suc w.k; name = w.name; place = (let q = w.place in omega (arith, q)); there = w.there; folds = w.folds }

pub place_name : (names : List Text) (key : Text) (k : ℕ) → place_of names key ≡ Some k → (name : Text) × (slice_get names k ≡ Some name) × (folded name ≡ key)
place_name names key k h =
    let w = place_is 0 names key k h in
    let e : w.k ≡ k = (let q = w.place in omega (arith, q)) in
    (w.name, ap (slice_get names) (sym e) ∙ w.there, w.folds)

-- ---- one name more

-- each name stands at its own place
abbrev pub AreOnce : List Text → Type 0
AreOnce names = (k : ℕ) (name : Text) → slice_get names k ≡ Some name → place_of names (folded name) ≡ Some k

at_end : (names : List Text) (n : Text) (k : ℕ) (name : Text) → slice_get (names ++ n ∷ []) k ≡ Some name → (slice_get names k ≡ Some name) ⊎ ((k ≡ length names) × (n ≡ name))
at_end [] n zero name h = inr (refl, some_is n name h)
at_end [] n (suc k) name h = no_some name h
at_end (m ∷ names) n zero name h = inl h
at_end (m ∷ names) n (suc k) name h = ⊎_elim (λ e. inl e) (λ w. inr (ap suc w.0, w.1)) (at_end names n k name h)

before_end : (names : List Text) (n : Text) (k : ℕ) (name : Text) → slice_get names k ≡ Some name → slice_get (names ++ n ∷ []) k ≡ Some name
before_end [] n k name h = no_some name h
before_end (m ∷ names) n zero name h = h
before_end (m ∷ names) n (suc k) name h = before_end names n k name h

or_some : (a b : Option ℕ) (p : ℕ) → a ≡ Some p → option_or a b ≡ Some p
or_some a b p h = ap (λ o. option_or o b) h

is_none : (o : Option ℕ) → is_some o ≡ false → o ≡ None
is_none None h = refl
is_none (Some p) h = cc

is_there : (o : Option ℕ) → is_some o ≡ true → (p : ℕ) × (o ≡ Some p)
is_there None h = cc
is_there (Some p) h = (p, refl)

-- the names with one more, whether it was among them or not
record IsMore (names more : List Text) (w : Option Text) : Type 0 where
  once : AreOnce names → AreOnce more
  kept : (key : Text) (p : ℕ) → place_of names key ≡ Some p → place_of more key ≡ Some p
  stays : (k : ℕ) (name : Text) → slice_get names k ≡ Some name → slice_get more k ≡ Some name
  found : (name : Text) → w ≡ Some name → (p : ℕ) × (place_of more (folded name) ≡ Some p)
  none : (key : Text) → place_of names key ≡ None → ((n : Text) → w ≡ Some n → folded n ≢ key) → place_of more key ≡ None
  from : (k : ℕ) (name : Text) → slice_get more k ≡ Some name → (slice_get names k ≡ Some name) ⊎ ((w ≡ Some name) × (k ≡ length names) × (place_of names (folded name) ≡ None))

no_more : (names : List Text) (w : Option Text) → ((name : Text) → w ≡ Some name → (p : ℕ) × (place_of names (folded name) ≡ Some p)) → IsMore names names w
no_more names w f = record { once = λ h. h; kept = λ key p h. h; stays = λ k name h. h; found = f; none = λ key h g. h; from = λ k name h. inl h }

at_last : (names : List Text) (n : Text) → place_of names (folded n) ≡ None → place_of (names ++ n ∷ []) (folded n) ≡ Some (length names)
at_last names n none =
    behind 0 names n (folded n)
    ∙ ap (λ o. option_or o (cond (same_id (folded n) (folded n)) (Some (0 + length names)) None)) none
    ∙ ap (λ b. cond b (Some (0 + length names)) None) (id_itself (folded n))
    ∙ ap Some (let e : 0 + length names ≡ length names = omega arith in e)

kept_place : (names : List Text) (n key : Text) (p : ℕ) → place_of names key ≡ Some p → place_of (names ++ n ∷ []) key ≡ Some p
kept_place names n key p h = behind 0 names n key ∙ or_some (place_of names key) (cond (same_id (folded n) key) (Some (0 + length names)) None) p h

one_more : (names : List Text) (n : Text) → place_of names (folded n) ≡ None → IsMore names (names ++ n ∷ []) (Some n)
one_more names n none = record {
  once = λ h k name e.
      ⊎_elim (λ was. kept_place names n (folded name) k (h k name was))
      (λ (is : (k ≡ length names) × (n ≡ name)). ap (λ t. place_of (names ++ n ∷ []) (folded t)) (sym is.1) ∙ at_last names n none ∙ ap Some (sym is.0)) (at_end names n k name e);
  kept = kept_place names n;
  stays = before_end names n;
  found = λ name e. (length names, ap (λ t. place_of (names ++ n ∷ []) (folded t)) (sym (some_is n name e)) ∙ at_last names n none);
  none = λ key h g.
      behind 0 names n key
      ∙ ap (λ o. option_or o (cond (same_id (folded n) key) (Some (0 + length names)) None)) h
      ∙ ap (λ b. cond b (Some (0 + length names)) None) (is_not (same_id (folded n) key) (λ e. g n refl (id_same (folded n) key e)));
  from = λ k name e. ⊎_elim (λ was. inl was) (λ (is : (k ≡ length names) × (n ≡ name)). inr (ap Some is.1, is.0, ap (λ t. place_of names (folded t)) (sym is.1) ∙ none)) (at_end names n k name e);
}

more : (names : List Text) (w : Option Text) → IsMore names (with_name names w) w
more names None = no_more names None (λ name h. no_some name h)
more names (Some n) = by (is_some (place_of names (folded n))) refl
  where
    by : (b : Bool) → is_some (place_of names (folded n)) ≡ b → IsMore names (cond b names (names ++ n ∷ [])) (Some n)
    by true e = no_more names (Some n) (λ name h. let w = is_there (place_of names (folded n)) e in (w.0, ap (λ t. place_of names (folded t)) (sym (some_is n name h)) ∙ w.1))
    by false e = one_more names n (is_none (place_of names (folded n)) e)

-- ---- all names

abbrev all_from : List Text → List Draft → List Text
all_from names ds = fold (λ names (d : Draft). with_name names d.wanted) names ds

all_once : (ds : List Draft) (names : List Text) → AreOnce names → AreOnce (all_from names ds)
all_once [] names h = h
all_once (d ∷ ds) names h = all_once ds (with_name names d.wanted) ((more names d.wanted).once h)

all_kept : (ds : List Draft) (names : List Text) (key : Text) (p : ℕ) → place_of names key ≡ Some p → place_of (all_from names ds) key ≡ Some p
all_kept [] names key p h = h
all_kept (d ∷ ds) names key p h = all_kept ds (with_name names d.wanted) key p ((more names d.wanted).kept key p h)

all_found : (ds : List Draft) (names : List Text) (i : ℕ) (d : Draft) (name : Text) → slice_get ds i ≡ Some d → d.wanted ≡ Some name → (p : ℕ) × (place_of (all_from names ds) (folded name) ≡ Some p)
all_found [] names i d name a w = no_some d a
all_found (e ∷ ds) names zero d name a w =
    let f = (more names e.wanted).found name (ap (λ (y : Draft). y.wanted) (some_is e d a) ∙ w) in
    (f.0, all_kept ds (with_name names e.wanted) (folded name) f.0 f.1)
all_found (e ∷ ds) names (suc i) d name a w = all_found ds (with_name names e.wanted) i d name a w

-- what was there stays at its place
all_stays : (ds : List Draft) (names : List Text) (k : ℕ) (name : Text) → slice_get names k ≡ Some name → slice_get (all_from names ds) k ≡ Some name
all_stays [] names k name h = h
all_stays (d ∷ ds) names k name h = all_stays ds (with_name names d.wanted) k name ((more names d.wanted).stays k name h)

not_before : (names : List Text) (w : Option Text) (key : Text) → place_of (with_name names w) key ≡ None → place_of names key ≡ None
not_before names w key h = by (place_of names key) refl
  where
    by : (o : Option ℕ) → place_of names key ≡ o → o ≡ None
    by None e = refl
    by (Some p) e = no_some p (sym h ∙ (more names w).kept key p e)

-- the first record that wants a name, among those behind a first one
later_first : (e : Draft) (ds : List Draft) (names : List Text) (i : ℕ) (name : Text) → place_of (with_name names e.wanted) (folded name) ≡ None → IsFirst ds i name → IsFirst (e ∷ ds) (suc i) name
later_first e ds names i name none f = record { draft = f.draft; at = f.at; wants = f.wants; before = before }
  where
    before : (j : ℕ) (d : Draft) (other : Text) → j < suc i → slice_get (e ∷ ds) j ≡ Some d → d.wanted ≡ Some other → folded other ≢ folded name
    before zero d other l a w same =
        let found = (more names e.wanted).found other (ap (λ (y : Draft). y.wanted) (some_is e d a) ∙ w) in
        no_some found.0 (sym none ∙ ap (place_of (with_name names e.wanted)) (sym same) ∙ found.1)
    before (suc j) d other l a w same = f.before j d other (omega arith) a w same

all_first : (ds : List Draft) (names : List Text) (k : ℕ) (name : Text) → slice_get (all_from names ds) k ≡ Some name
    → (slice_get names k ≡ Some name) ⊎ ((i : ℕ) × IsFirst ds i name × (place_of names (folded name) ≡ None))
all_first [] names k name h = inl h
all_first (e ∷ ds) names k name h =
    ⊎_elim (λ was. ⊎_elim (λ old. inl old)
    (λ w. inr (zero, record { draft = e; at = refl; wants = w.0; before = λ j d other l a v. absurd (omega arith) }, w.2)) ((more names e.wanted).from k name was))
    (λ w. inr (suc w.0, later_first e ds names w.0 name w.2 w.1, not_before names e.wanted (folded name) w.2))
    (all_first ds (with_name names e.wanted) k name h)

first_behind : (e : Draft) (ds : List Draft) (i : ℕ) (name : Text) → IsFirst (e ∷ ds) (suc i) name → IsFirst ds i name
first_behind e ds i name f = record { draft = f.draft; at = f.at; wants = f.wants; before = λ j d other l a w. f.before (suc j) d other (omega arith) a w }

still_none : (e : Draft) (ds : List Draft) (names : List Text) (i : ℕ) (name : Text) → place_of names (folded name) ≡ None → IsFirst (e ∷ ds) (suc i) name → place_of (with_name names e.wanted) (folded name) ≡ None
still_none e ds names i name h f = (more names e.wanted).none (folded name) h (λ n w. f.before zero e n (omega arith) refl w)

below : {X : Type 0} (xs : List X) (k n : ℕ) → k < n → length xs ≡ n → (x : X) × (slice_get xs k ≡ Some x)
below [] k n l h = absurd (omega arith)
below (x ∷ xs) zero n l h = (x, refl)
below (x ∷ xs) (suc k) n l h = below xs k (length xs) (omega (arith, h)) refl

all_order : (ds : List Draft) (names : List Text) (k l i j : ℕ) (name other : Text) → AreOnce names → k < l → slice_get (all_from names ds) k ≡ Some name → slice_get (all_from names ds) l ≡ Some other
    → place_of names (folded name) ≡ None → place_of names (folded other) ≡ None → IsFirst ds i name → IsFirst ds j other → i < j
all_order [] names k l i j name other once less a b p q f g = no_some f.draft f.at
all_order (e ∷ ds) names k l zero (suc j) name other once less a b p q f g = omega arith
all_order (e ∷ ds) names k l zero zero name other once less a b p q f g =
    let same : name ≡ other = some_is name other (sym f.wants ∙ ap (λ (y : Draft). y.wanted) (some_is f.draft g.draft (sym f.at ∙ g.at)) ∙ g.wants) in
    let all = all_once ds (with_name names e.wanted) ((more names e.wanted).once once) in
    let one : k ≡ l = some_is k l (sym (all k name a) ∙ ap (λ t. place_of (all_from names (e ∷ ds)) (folded t)) same ∙ all l other b) in
    absurd (omega arith)
all_order (e ∷ ds) names k l (suc i) zero name other once less a b p q f g =
    let wants : e.wanted ≡ Some other = ap (λ (y : Draft). y.wanted) (some_is e g.draft g.at) ∙ g.wants in
    let place : place_of (with_name names e.wanted) (folded other) ≡ Some (length names) = ap (λ w. place_of (with_name names w) (folded other)) wants ∙ ap (λ o. place_of (cond (is_some o) names (names ++ other ∷ [])) (folded other)) q ∙ at_last names other q in
    let all = all_once ds (with_name names e.wanted) ((more names e.wanted).once once) in
    let is : l ≡ length names = some_is l (length names) (sym (all l other b) ∙ all_kept ds (with_name names e.wanted) (folded other) (length names) place) in
    let was = below names k l less (sym is) in
    let same : was.0 ≡ name = some_is was.0 name (sym (all_stays (e ∷ ds) names k was.0 was.1) ∙ a) in
    no_some k (sym p ∙ ap (λ t. place_of names (folded t)) (sym same) ∙ once k was.0 was.1)
all_order (e ∷ ds) names k l (suc i) (suc j) name other once less a b p q f g =
    let h = all_order ds (with_name names e.wanted) k l i j name other ((more names e.wanted).once once) less a b (still_none e ds names i name p f) (still_none e ds names j other q g)
    (first_behind e ds i name f) (first_behind e ds j other g) in
    omega (arith, h)

-- each name stands at its own place
pub names_once : (ds : List Draft) → AreOnce (new_names ds)
unfolding new_names
names_once ds = all_once ds [] (λ k name h. no_some name h)

-- each that is wanted is there
pub names_found : (ds : List Draft) (i : ℕ) (d : Draft) (name : Text) → slice_get ds i ≡ Some d → d.wanted ≡ Some name → (p : ℕ) × (place_of (new_names ds) (folded name) ≡ Some p)
unfolding new_names
names_found ds i d name a w = all_found ds [] i d name a w

-- and each is as the first record has it that wants it
pub names_first : (ds : List Draft) (k : ℕ) (name : Text) → slice_get (new_names ds) k ≡ Some name → (i : ℕ) × IsFirst ds i name
unfolding new_names
names_first ds k name h = ⊎_elim (λ e. no_some name e) (λ w. (w.0, w.1)) (all_first ds [] k name h)

pub names_order : (ds : List Draft) (k l i j : ℕ) (name other : Text) → k < l → slice_get (new_names ds) k ≡ Some name → slice_get (new_names ds) l ≡ Some other → IsFirst ds i name → IsFirst ds j other → i < j
unfolding new_names
names_order ds k l i j name other less a b f g = all_order ds [] k l i j name other (λ k name h. no_some name h) less a b refl refl f g
