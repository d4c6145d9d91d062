-- What the writes of records, one after the other, leave of transactions.
use Rattle.std.proofs.Common.{◌≡◌, ℕ, zero, suc, ◌+◌, ◌<◌, ◌≤◌, Bool, true, false, cond, List, [], ◌∷◌, ◌++◌, length, Option, Some, None, refl, sym, ap, ◌∙◌, inl, inr, ◌⊎◌, ⊎_elim, arith}
use Rattle.std.specs.List.{slice_get}
use Rattle.std.specs.FinMap.{get}
use Rattle.std.proofs.lemmas.Bool.{eq-eqb}
use Rattle.finite_sums.specs.Maps.{Text}
use Rattle.book_rows.specs.declared.rows.Rows.{Rows}
use Rattle.book_rows.specs.declared.rows.TxRow.{TxRow}
use Rattle.book_rows.specs.declared.write.Write.{Write}
use Rattle.book_edits.specs.Checks.{same_id}
use Rattle.split_transfer.specs.After.{Ids, with_writes, makes}
use Rattle.split_transfer.proofs.After.{with_writes-append}
use Rattle.split_transfer.proofs.Basics.{either, or_left, or_right}
use Rattle.bank_import.specs.declared.drafts.Draft.{Draft}
use Rattle.bank_import.specs.Edits.{making, filling_at, record_writes, records_writes}
use Rattle.bank_import.proofs.Nearest.{id_same, id_itself}
use Rattle.bank_import.proofs.Outs.{is_not}
use Rattle.bank_import.proofs.Blocks.{Change, Changes, nothing, payee, category, notes, imported, financial, schedule, rest_change, filling_changes, making_change, making_changes}

some_is : {X : Type 0} (x y : X) → Some x ≡ Some y → x ≡ y
some_is x y h = cc

no_some : {X P : Type 0} (x : X) → None ≡ Some x → P
no_some x h = absurd (clash h)
  where
    clash : None ≡ Some x → ⊥
    clash h = cc

pub makes-append : (ws vs : List Write) (k : ℕ) → makes vs k ≡ true → makes (ws ++ vs) k ≡ true
makes-append [] vs k h = h
makes-append (w ∷ ws) vs k h = or_right _ _ (makes-append ws vs k h)

pub makes-first : (ws vs : List Write) (k : ℕ) → makes ws k ≡ true → makes (ws ++ vs) k ≡ true
makes-first [] vs k h = cc
makes-first (w ∷ ws) vs k h = either _ _ h (λ e. or_left _ _ e) (λ e. or_right _ _ (makes-first ws vs k e))

-- a row that a record makes is one that its writes make, and it has some
makes_its_row : (names : List Text) (at : ℕ) (d : Draft) → makes (making names at d) at ≡ true
unfolding making
makes_its_row names at d = or_left _ _ (eq-eqb at at refl)

making_some : (names : List Text) (at : ℕ) (d : Draft) → 0 < length (making names at d)
unfolding making
making_some names at d = omega arith

abbrev pub AreApart : List Text → Type 0
AreApart os = (i j : ℕ) (x : Text) → slice_get os i ≡ Some x → slice_get os j ≡ Some x → i ≡ j

tail_apart : (x : Text) (os : List Text) → AreApart (x ∷ os) → AreApart os
tail_apart x os h i j y a b = let e : suc i ≡ suc j = h (suc i) (suc j) y a b in cc

-- a text is one of some, or is none of them
pub find_text : (xs : List Text) (q : Text) → ((i : ℕ) × (slice_get xs i ≡ Some q)) ⊎ ((i : ℕ) → slice_get xs i ≡ Some q → ⊥)
find_text [] q = inr (λ i h. no_some q h)
find_text (x ∷ xs) q = by (same_id x q) refl (find_text xs q)
  where
    by : (b : Bool) → same_id x q ≡ b → (((i : ℕ) × (slice_get xs i ≡ Some q)) ⊎ ((i : ℕ) → slice_get xs i ≡ Some q → ⊥))
        → ((i : ℕ) × (slice_get (x ∷ xs) i ≡ Some q)) ⊎ ((i : ℕ) → slice_get (x ∷ xs) i ≡ Some q → ⊥)
    by true e r = inl (zero, ap Some (id_same x q e))
    by false e r = ⊎_elim (λ w. inl (suc w.0, w.1)) (λ n. inr (neither n)) r
      where
        clash : x ≡ q → ⊥
        clash g = let bad : true ≡ false = sym (ap (λ t. same_id t q) g ∙ id_itself q) ∙ e in cc

        neither : ((i : ℕ) → slice_get xs i ≡ Some q → ⊥) → (i : ℕ) → slice_get (x ∷ xs) i ≡ Some q → ⊥
        neither n zero h = clash (some_is x q h)
        neither n (suc i) h = n i h

-- where a list has an element, one of the same length has one
pub at_same : {X Y : Type 0} (xs : List X) (ys : List Y) (i : ℕ) (x : X) → length ys ≡ length xs → slice_get xs i ≡ Some x → (y : Y) × (slice_get ys i ≡ Some y)
at_same [] ys i x len h = no_some x h
at_same (x ∷ xs) [] i z len h = absurd (let bad : zero ≡ suc (length xs) = len in cc)
at_same (x ∷ xs) (y ∷ ys) zero z len h = (y, refl)
at_same (x ∷ xs) (y ∷ ys) (suc i) z len h = at_same xs ys i z (let e : suc (length ys) ≡ suc (length xs) = len in cc) h

module _ (ids : Ids) (rows : Rows) (names : List Text) where
  -- the id of the row that a record fills or makes
  abbrev pub own_of : ℕ → Option Text → Text
  own_of at None = ids at
  own_of at (Some id) = id

  abbrev pub filling_change : Text → Draft → Option TxRow → Change
  filling_change id d None o = o
  filling_change id d (Some x) o =
      rest_change ids (payee ids rows names id x d) (category ids rows names id x d) (notes ids rows names id x d) (imported ids rows names id x d) (financial ids rows names id x d)
      (schedule ids rows names id x d) x.cleared id o

  -- and what it makes of it
  abbrev pub change_of : ℕ → Draft → Option Text → Change
  change_of at d None o = making_change ids names at d o
  change_of at d (Some id) o = filling_change id d (get rows.txs id) o

  record_changes : (at : ℕ) (d : Draft) (m : Option Text) → Changes ids (record_writes rows names at d m) (own_of at m) (change_of at d m)
  record_changes at d None = making_changes ids names at d
  record_changes at d (Some id) = by (get rows.txs id)
    where
      by : (o : Option TxRow) → Changes ids (filling_at rows names id d o) id (filling_change id d o)
      by None = nothing ids id
      by (Some x) = filling_changes ids rows names id x d

  abbrev next : ℕ → Draft → Option Text → ℕ
  next at d m = at + length (record_writes rows names at d m)

  abbrev pub owns : ℕ → List Draft → List (Option Text) → List Text
  owns at [] ms = []
  owns at (d ∷ ds) [] = []
  owns at (d ∷ ds) (m ∷ ms) = own_of at m ∷ owns (next at d m) ds ms

  -- the places at which the writes of records begin
  abbrev pub places : ℕ → List Draft → List (Option Text) → List ℕ
  places at [] ms = []
  places at (d ∷ ds) [] = []
  places at (d ∷ ds) (m ∷ ms) = at ∷ places (next at d m) ds ms

  pub owns_len : (at : ℕ) (ds : List Draft) (ms : List (Option Text)) → length ms ≡ length ds → length (owns at ds ms) ≡ length ds
  owns_len at [] ms h = refl
  owns_len at (d ∷ ds) [] h = h
  owns_len at (d ∷ ds) (m ∷ ms) h = ap suc (owns_len (next at d m) ds ms (let e : suc (length ms) ≡ suc (length ds) = h in cc))

  places_from : (at : ℕ) (ds : List Draft) (ms : List (Option Text)) (i p : ℕ) → slice_get (places at ds ms) i ≡ Some p → at ≤ p
  places_from at [] ms i p h = no_some p h
  places_from at (d ∷ ds) [] i p h = no_some p h
  places_from at (d ∷ ds) (m ∷ ms) zero p h = let e : at ≡ p = some_is at p h in omega arith
  places_from at (d ∷ ds) (m ∷ ms) (suc i) p h = let l = places_from (next at d m) ds ms i p h in omega (arith, l)

  pub places_rise : (at : ℕ) (ds : List Draft) (ms : List (Option Text)) (i j p q : ℕ) → i < j → slice_get (places at ds ms) i ≡ Some p → slice_get (places at ds ms) j ≡ Some q
      → slice_get ms i ≡ Some None → p < q
  places_rise at [] ms i j p q l a b c = no_some p a
  places_rise at (d ∷ ds) [] i j p q l a b c = no_some p a
  places_rise at (d ∷ ds) (m ∷ ms) i zero p q l a b c = absurd (omega arith)
  places_rise at (d ∷ ds) (Some id ∷ ms) zero (suc j) p q l a b c = absurd (let bad : Some (Some id) ≡ Some None = c in cc)
  places_rise at (d ∷ ds) (None ∷ ms) zero (suc j) p q l a b c =
      let e : at ≡ p = some_is at p a in
      let from = places_from (next at d None) ds ms j q b in
      let some = making_some names at d in
      omega (arith, e, from, some)
  places_rise at (d ∷ ds) (m ∷ ms) (suc i) (suc j) p q l a b c = places_rise (next at d m) ds ms i j p q (omega arith) a b c

  -- a row that is no record's own stays
  pub other_row : (at : ℕ) (ds : List Draft) (ms : List (Option Text)) (r : Rows) (q : Text) → ((i : ℕ) → slice_get (owns at ds ms) i ≡ Some q → ⊥)
      → get (with_writes ids r (records_writes rows names at ds ms)).txs q ≡ get r.txs q
  other_row at [] ms r q h = refl
  other_row at (d ∷ ds) [] r q h = refl
  other_row at (d ∷ ds) (m ∷ ms) r q h =
      let first = record_writes rows names at d m in
      ap (λ (s : Rows). get s.txs q) (with_writes-append ids r first (records_writes rows names (next at d m) ds ms))
      ∙ other_row (next at d m) ds ms (with_writes ids r first) q (λ i e. h (suc i) e)
      ∙ (record_changes at d m).row r q
      ∙ ap (λ b. cond b (change_of at d m (get r.txs q)) (get r.txs q)) (is_not (same_id q (own_of at m)) (λ e. h zero (ap Some (sym (id_same q (own_of at m) e)))))

  -- where the writes of a record begin
  pub record IsBegun (at : ℕ) (ds : List Draft) (ms : List (Option Text)) (i : ℕ) (m : Option Text) (o : Text) : Type 0 where
    pub place : ℕ
    pub there : slice_get (places at ds ms) i ≡ Some place
    pub own : o ≡ own_of place m
    pub made : m ≡ None → makes (records_writes rows names at ds ms) place ≡ true

  head_makes : (at : ℕ) (d : Draft) (n m : Option Text) (rest : List Write) → n ≡ m → m ≡ None → makes (record_writes rows names at d n ++ rest) at ≡ true
  head_makes at d None m rest e g = makes-first (making names at d) rest at (makes_its_row names at d)
  head_makes at d (Some id) m rest e g = no_some id (sym (e ∙ g))

  pub begun : (at : ℕ) (ds : List Draft) (ms : List (Option Text)) (i : ℕ) (m : Option Text) (o : Text) → slice_get ms i ≡ Some m → slice_get (owns at ds ms) i ≡ Some o → IsBegun at ds ms i m o
  begun at [] ms i m o b c = no_some o c
  begun at (e ∷ ds) [] i m o b c = no_some m b
  begun at (e ∷ ds) (n ∷ ms) zero m o b c = record {
    place = at;
    there = refl;
    own = sym (some_is (own_of at n) o c) ∙ ap (own_of at) (some_is n m b);
    made = head_makes at e n m (records_writes rows names (next at e n) ds ms) (some_is n m b);
  }
  begun at (e ∷ ds) (n ∷ ms) (suc i) m o b c =
      let w = begun (next at e n) ds ms i m o b c in
      record {
        place = w.place;
        there = w.there;
        own = w.own;
        made = λ g. makes-append (record_writes rows names at e n) (records_writes rows names (next at e n) ds ms) w.place (w.made g);
      }

  -- what a record makes of its own row
  pub own_row : (at : ℕ) (ds : List Draft) (ms : List (Option Text)) (r : Rows) (i : ℕ) (d : Draft) (p : ℕ) (m : Option Text) (o : Text) → AreApart (owns at ds ms)
      → slice_get ds i ≡ Some d → slice_get (places at ds ms) i ≡ Some p → slice_get ms i ≡ Some m → slice_get (owns at ds ms) i ≡ Some o
      → get (with_writes ids r (records_writes rows names at ds ms)).txs o ≡ change_of p d m (get r.txs o)
  own_row at [] ms r i d p m o apart a l b c = no_some d a
  own_row at (e ∷ ds) [] r i d p m o apart a l b c = no_some m b
  own_row at (e ∷ ds) (n ∷ ms) r zero d p m o apart a l b c =
      let first = record_writes rows names at e n in
      let rest = records_writes rows names (next at e n) ds ms in
      ap (λ (s : Rows). get s.txs o) (with_writes-append ids r first rest)
      ∙ other_row (next at e n) ds ms (with_writes ids r first) o (λ j g. let bad : zero ≡ suc j = apart zero (suc j) o c g in cc)
      ∙ (record_changes at e n).row r o
      ∙ ap (λ b. cond b (change_of at e n (get r.txs o)) (get r.txs o)) (ap (λ t. same_id t (own_of at n)) (sym (some_is (own_of at n) o c)) ∙ id_itself (own_of at n))
      ∙ ap (λ t. change_of at t n (get r.txs o)) (some_is e d a)
      ∙ ap (λ t. change_of t d n (get r.txs o)) (some_is at p l)
      ∙ ap (λ t. change_of p d t (get r.txs o)) (some_is n m b)
  own_row at (e ∷ ds) (n ∷ ms) r (suc i) d p m o apart a l b c =
      let first = record_writes rows names at e n in
      let rest = records_writes rows names (next at e n) ds ms in
      let far : same_id o (own_of at n) ≡ false = is_not (same_id o (own_of at n)) (λ g. let bad : zero ≡ suc i = apart zero (suc i) o (ap Some (sym (id_same o (own_of at n) g))) c in cc) in
      ap (λ (s : Rows). get s.txs o) (with_writes-append ids r first rest)
      ∙ own_row (next at e n) ds ms (with_writes ids r first) i d p m o (tail_apart (own_of at n) (owns (next at e n) ds ms) apart) a l b c
      ∙ ap (change_of p d m) ((record_changes at e n).row r o ∙ ap (λ b. cond b (change_of at e n (get r.txs o)) (get r.txs o)) far)
