-- Which rows are read as entries, and where the first bad place is.
use Rattle.std.proofs.Common.{◌≡◌, ℕ, zero, suc, ◌+◌, ◌<◌, ◌≤◌, Bool, true, false, cond, List, [], ◌∷◌, Option, Some, None, Result, Ok, Err, refl, sym, subst, ap, ◌∙◌, inl, inr, ◌⊎◌, ⊎_elim, arith}
use lib.IntN.{ℤ, pos}
use Rattle.std.specs.Prelude.{◌↔◌, ◌&&◌, ◌||◌, ◌==◌, not, is_some, length, unwrap_or, codes}
use Rattle.std.specs.List.{slice_get}
use Rattle.std.specs.Str.{bytes_eq}
use Rattle.std.proofs.lemmas.Bool.{and_parts, eq-eqb, eqb-true, eqb-false, ne_eqb}
use Rattle.finite_sums.specs.Maps.{Text}
use Rattle.book_rows.specs.declared.fault.EditFault.{EditFault}
use Rattle.book_rows.proofs.Naming.{text_is, is_text_itself}
use Rattle.book_edits.specs.Faults.{◌>>=◌}
use Rattle.book_edits.proofs.Valid.{inside, passed}
use Rattle.rule_engine.specs.Days.{day_of_text}
use Rattle.bank_import.specs.declared.entry.Entry.{Entry}
use Rattle.bank_import.specs.declared.entry.Columns.{Columns}
use Rattle.bank_import.specs.Statement.{amount_of_text, column_from, column_of, columns_of, is_good, bad_from, bad_place, field, entry_of, entry_unless, read_record, read_records, read_under, read_rows}
use Rattle.bank_import.specs.Read.{IsEntry, AreEntries, IsBadAt, IsColumn, LawOfReading}

no_some : {X P : Type 0} (x : X) → None ≡ Some x → P
no_some x h = absurd (clash h)
  where
    clash : None ≡ Some x → ⊥
    clash h = cc

some_is : {X : Type 0} (x y : X) → Some x ≡ Some y → x ≡ y
some_is x y h = cc

false_true : {P : Type 0} → false ≡ true → P
false_true h = absurd (clash h)
  where
    clash : false ≡ true → ⊥
    clash h = cc

abbrev Reads : Type 0 → Type 0
Reads A = Result A EditFault

fault_ok : {A P : Type 0} (f : EditFault) (a : A) → ◌≡◌ {A = Reads A} (Err f) (Ok a) → P
fault_ok {A = A} f a h = absurd (clash h)
  where
    clash : ◌≡◌ {A = Reads A} (Err f) (Ok a) → ⊥
    clash h = cc

fault_is : {A : Type 0} (f g : EditFault) → ◌≡◌ {A = Reads A} (Err f) (Err g) → f ≡ g
fault_is {A = A} f g h = ap (told f) h
  where
    told : EditFault → Reads A → EditFault
    told d (Ok a) = d
    told d (Err f) = f

-- what a chain that fails tells: its first part failed, or the rest did
failed : {A B : Type 0} (r : Reads A) (next : A → Reads B) (f : EditFault) → (r >>= next) ≡ Err f → (r ≡ Err f) ⊎ ((a : A) × (r ≡ Ok a) × (next a ≡ Err f))
failed (Ok a) next f h = inr (a, refl, h)
failed (Err g) next f h = inl (ap Err (fault_is g f h))

-- ---- places of lists

index_at : (fs : List Text) (k : ℕ) → k < length fs → slice_get fs k ≡ Some (field fs k)
index_at [] k l = absurd (omega arith)
index_at (f ∷ fs) zero l = refl
index_at (f ∷ fs) (suc k) l = index_at fs k (omega arith)

index_is : (fs : List Text) (k : ℕ) (f : Text) → slice_get fs k ≡ Some f → field fs k ≡ f
index_is [] k f h = no_some f h
index_is (g ∷ fs) zero f h = some_is g f h
index_is (g ∷ fs) (suc k) f h = index_is fs k f h

-- ---- columns

abbrev IsFound : Text → ℕ → List Text → ℕ → Type 0
IsFound name k header n = (i : ℕ) × (n ≡ k + i) × (slice_get header i ≡ Some name) × ((j : ℕ) → slice_get header j ≡ Some name → i ≤ j)

column_is : (name : Text) (k : ℕ) (header : List Text) (n : ℕ) → column_from name k header ≡ Some n → IsFound name k header n
column_is name k [] n h = no_some n h
column_is name k (f ∷ fs) n h = by (bytes_eq f name) refl (column_is name (k + 1) fs n) h
  where
    by : (b : Bool) → bytes_eq f name ≡ b → (column_from name (k + 1) fs ≡ Some n → IsFound name (k + 1) fs n) → cond b (Some k) (column_from name (k + 1) fs) ≡ Some n → IsFound name k (f ∷ fs) n
    by true e rest g = (zero, (let s : k ≡ n = some_is k n g in omega arith), ap Some (text_is f name e), λ j a. omega arith)
    by false e rest g =
        let w = rest g in
        (suc w.0, (let s = w.1 in omega (arith, s)), w.2, first)
      where
        first : (j : ℕ) → slice_get (f ∷ fs) j ≡ Some name → suc (rest g).0 ≤ j
        first zero a = false_true (sym e ∙ ap (λ t. bytes_eq t name) (some_is f name a) ∙ is_text_itself name)
        first (suc j) a = let l = (rest g).3 j a in omega (arith, l)

column_found : (name : Text) (k : ℕ) (header : List Text) (i : ℕ) → slice_get header i ≡ Some name → ((j : ℕ) → slice_get header j ≡ Some name → i ≤ j) → column_from name k header ≡ Some (k + i)
column_found name k [] i h first = no_some name h
column_found name k (f ∷ fs) zero h first =
    ap (λ b. cond b (Some k) (column_from name (k + 1) fs)) (ap (λ t. bytes_eq t name) (some_is f name h) ∙ is_text_itself name) ∙ ap Some (let e : k ≡ k + 0 = omega arith in e)
column_found name k (f ∷ fs) (suc i) h first = by (bytes_eq f name) refl (column_found name (k + 1) fs i h (λ j a. let l = first (suc j) a in omega (arith, l)))
  where
    by : (b : Bool) → bytes_eq f name ≡ b → column_from name (k + 1) fs ≡ Some (k + 1 + i) → cond b (Some k) (column_from name (k + 1) fs) ≡ Some (k + suc i)
    by true e rest = absurd (let l = first zero (ap Some (text_is f name e)) in omega (arith, l))
    by false e rest = rest ∙ ap Some (let g : k + 1 + i ≡ k + suc i = omega arith in g)

column_iff : (name : Text) (header : List Text) (k : ℕ) → (column_of name header ≡ Some k) ↔ IsColumn name header k
column_iff name header k = (forth, back)
  where
    forth : column_of name header ≡ Some k → IsColumn name header k
    forth h =
        let w = column_is name 0 header k h in
        let e : w.0 ≡ k = (let s = w.1 in omega (arith, s)) in
        record { there = ap (slice_get header) (sym e) ∙ w.2; first = λ j a. let l = w.3 j a in omega (arith, e, l) }

    back : IsColumn name header k → column_of name header ≡ Some k
    back c = column_found name 0 header k c.there c.first ∙ ap Some (let e : 0 + k ≡ k = omega arith in e)

no_column : (name : Text) (header : List Text) → ((k : ℕ) → IsColumn name header k → ⊥) → column_of name header ≡ None
no_column name header h = by (column_of name header) refl
  where
    by : (o : Option ℕ) → column_of name header ≡ o → o ≡ None
    by None e = refl
    by (Some k) e = absurd (h k ((column_iff name header k).0 e))

-- ---- fields

-- the first bad field, from the k-th column on
record IsBad (c : Columns) (k : ℕ) (fs : List Text) (n : ℕ) : Type 0 where
  i : ℕ
  place : n ≡ k + i
  field : Text
  there : slice_get fs i ≡ Some field
  bad : is_good c (k + i) field ≡ false
  before : (j : ℕ) (f : Text) → j < i → slice_get fs j ≡ Some f → is_good c (k + j) f ≡ true

bad_is : (c : Columns) (k : ℕ) (fs : List Text) (n : ℕ) → bad_from c k fs ≡ Some n → IsBad c k fs n
bad_is c k [] n h = no_some n h
bad_is c k (f ∷ fs) n h = by (is_good c k f) refl (bad_is c (k + 1) fs n) h
  where
    same : k + 0 ≡ k
    same = omega arith

    by : (b : Bool) → is_good c k f ≡ b → (bad_from c (k + 1) fs ≡ Some n → IsBad c (k + 1) fs n) → cond b (bad_from c (k + 1) fs) (Some k) ≡ Some n → IsBad c k (f ∷ fs) n
    by false e rest g = record {
      i = zero;
      place = (let s : k ≡ n = some_is k n g in omega arith);
      field = f;
      there = refl;
      bad = ap (λ m. is_good c m f) same ∙ e;
      before = λ j x l a. absurd (omega arith);
    }
    by true e rest g =
        let w = rest g in
        let next : (i : ℕ) → k + suc i ≡ k + 1 + i = λ i. omega arith in
        record {
          i = suc w.i;
          place = (let s = w.place in omega (arith, s));
          field = w.field;
          there = w.there;
          bad = ap (λ m. is_good c m w.field) (next w.i) ∙ w.bad;
          before = before w;
        }
      where
        before : (w : IsBad c (k + 1) fs n) (j : ℕ) (x : Text) → j < suc w.i → slice_get (f ∷ fs) j ≡ Some x → is_good c (k + j) x ≡ true
        before w zero x l a = ap (λ t. is_good c (k + 0) t) (sym (some_is f x a)) ∙ ap (λ m. is_good c m f) same ∙ e
        before w (suc j) x l a = ap (λ m. is_good c m x) (let q : k + suc j ≡ k + 1 + j = omega arith in q) ∙ w.before j x (omega arith) a

bad_found : (c : Columns) (k : ℕ) (fs : List Text) (i : ℕ) (field : Text) → slice_get fs i ≡ Some field → is_good c (k + i) field ≡ false
    → ((j : ℕ) (f : Text) → j < i → slice_get fs j ≡ Some f → is_good c (k + j) f ≡ true) → bad_from c k fs ≡ Some (k + i)
bad_found c k [] i field a bad before = no_some field a
bad_found c k (f ∷ fs) zero field a bad before =
    let same : k + 0 ≡ k = omega arith in
    ap (λ b. cond b (bad_from c (k + 1) fs) (Some k)) (ap (λ t. is_good c k t) (some_is f field a) ∙ ap (λ m. is_good c m field) (sym same) ∙ bad) ∙ ap Some (sym same)
bad_found c k (f ∷ fs) (suc i) field a bad before =
    let same : k + 0 ≡ k = omega arith in
    let next : (j : ℕ) → k + suc j ≡ k + 1 + j = λ j. omega arith in
    ap (λ b. cond b (bad_from c (k + 1) fs) (Some k)) (ap (λ m. is_good c m f) (sym same) ∙ before zero f (omega arith) refl)
    ∙ bad_found c (k + 1) fs i field a (ap (λ m. is_good c m field) (sym (next i)) ∙ bad) (λ j x l b. ap (λ m. is_good c m x) (sym (next j)) ∙ before (suc j) x (omega arith) b)
    ∙ ap Some (sym (next i))

none_bad : (c : Columns) (k : ℕ) (fs : List Text) → ((j : ℕ) (f : Text) → slice_get fs j ≡ Some f → is_good c (k + j) f ≡ true) → bad_from c k fs ≡ None
none_bad c k [] h = refl
none_bad c k (f ∷ fs) h =
    ap (λ b. cond b (bad_from c (k + 1) fs) (Some k)) (ap (λ m. is_good c m f) (let e : k ≡ k + 0 = omega arith in e) ∙ h zero f refl)
    ∙ none_bad c (k + 1) fs (λ j x a. ap (λ m. is_good c m x) (let e : k + 1 + j ≡ k + suc j = omega arith in e) ∙ h (suc j) x a)

all_good : (c : Columns) (k : ℕ) (fs : List Text) → bad_from c k fs ≡ None → (j : ℕ) (f : Text) → slice_get fs j ≡ Some f → is_good c (k + j) f ≡ true
all_good c k [] h j f a = no_some f a
all_good c k (g ∷ fs) h j f a = by (is_good c k g) refl (λ n i. all_good c (k + 1) fs n i f) h j a
  where
    by : (b : Bool) → is_good c k g ≡ b → (bad_from c (k + 1) fs ≡ None → (i : ℕ) → slice_get fs i ≡ Some f → is_good c (k + 1 + i) f ≡ true) → cond b (bad_from c (k + 1) fs) (Some k) ≡ None → (j : ℕ) → slice_get (g ∷ fs) j ≡ Some f → is_good c (k + j) f ≡ true
    by false e rest n j a = no_some k (sym n)
    by true e rest n zero a = ap (λ m. is_good c m f) (let q : k + 0 ≡ k = omega arith in q) ∙ ap (is_good c k) (sym (some_is g f a)) ∙ e
    by true e rest n (suc j) a = ap (λ m. is_good c m f) (let q : k + suc j ≡ k + 1 + j = omega arith in q) ∙ rest n j a

-- ---- a record

is_there : {A : Type 0} (o : Option A) → is_some o ≡ true → (a : A) × (o ≡ Some a)
is_there None h = false_true h
is_there (Some a) h = (a, refl)

day_there : (same other : Bool) (o : Option ℕ) → same ≡ true → ((not same || is_some o) && other) ≡ true → (d : ℕ) × (o ≡ Some d)
day_there true other o e h = is_there o (and_parts (is_some o) other h).0
day_there false other o e h = false_true e

amount_there : (other same : Bool) (o : Option ℤ) → same ≡ true → (other && (not same || is_some o)) ≡ true → (z : ℤ) × (o ≡ Some z)
amount_there other true o e h = is_there o (and_parts other (is_some o) h).1
amount_there other false o e h = false_true e

is_good_by : (a b day amount : Bool) → (a ≡ true → day ≡ true) → (b ≡ true → amount ≡ true) → ((not a || day) && (not b || amount)) ≡ true
is_good_by true true day amount f g = rw (f refl, g refl) refl
is_good_by true false day amount f g = rw (f refl) refl
is_good_by false true day amount f g = g refl
is_good_by false false day amount f g = refl

module _ (c : Columns) (width : ℕ) (here : c.date < width) (paid : c.amount < width) where
  good_is : (fs : List Text) → length fs ≡ width → bad_from c 0 fs ≡ None → IsEntry c width fs (entry_of c fs)
  good_is fs w h =
      let date = index_at fs c.date (omega (arith, here, w)) in
      let amount = index_at fs c.amount (omega (arith, paid, w)) in
      let good : (k : ℕ) → slice_get fs k ≡ Some (field fs k) → is_good c k (field fs k) ≡ true = λ k a. ap (λ m. is_good c m (field fs k)) (let e : k ≡ 0 + k = omega arith in e) ∙ all_good c 0 fs h k (field fs k) a in
      let d = day_there (c.date == c.date) (not (c.date == c.amount) || is_some (amount_of_text (field fs c.date))) (day_of_text (field fs c.date)) (eq-eqb c.date c.date refl) (good c.date date) in
      let z = amount_there (not (c.amount == c.date) || is_some (day_of_text (field fs c.amount))) (c.amount == c.amount) (amount_of_text (field fs c.amount)) (eq-eqb c.amount c.amount refl) (good c.amount amount) in
      record {
        len = w;
        date = (field fs c.date, date, d.1 ∙ ap (λ n. Some n) (sym (ap (λ o. unwrap_or o 0) d.1)));
        amount = (field fs c.amount, amount, z.1 ∙ ap (λ n. Some n) (sym (ap (λ o. unwrap_or o (pos 0)) z.1)));
        payee = refl;
        notes = refl;
        id = refl;
      }

  entry_good : (fs : List Text) (e : Entry) → IsEntry c width fs e → bad_from c 0 fs ≡ None
  entry_good fs e h = none_bad c 0 fs (λ j f a. is_good_by (0 + j == c.date) (0 + j == c.amount) (is_some (day_of_text f)) (is_some (amount_of_text f))
      (λ s. let same : c.date ≡ j = (let q = eqb-true (0 + j) c.date s in omega (arith, q)) in
      ap (λ t. is_some (day_of_text t)) (some_is f h.date.0 (sym a ∙ ap (slice_get fs) (sym same) ∙ h.date.1)) ∙ ap is_some h.date.2)
      (λ s. let same : c.amount ≡ j = (let q = eqb-true (0 + j) c.amount s in omega (arith, q)) in
      ap (λ t. is_some (amount_of_text t)) (some_is f h.amount.0 (sym a ∙ ap (slice_get fs) (sym same) ∙ h.amount.1)) ∙ ap is_some h.amount.2))

  entry_is : (fs : List Text) (e : Entry) → IsEntry c width fs e → entry_of c fs ≡ e
  entry_is fs e h =
      let date : unwrap_or (day_of_text (field fs c.date)) 0 ≡ e.date = ap (λ t. unwrap_or (day_of_text t) 0) (index_is fs c.date h.date.0 h.date.1) ∙ ap (λ o. unwrap_or o 0) h.date.2 in
      let amount : unwrap_or (amount_of_text (field fs c.amount)) (pos 0) ≡ e.amount = ap (λ t. unwrap_or (amount_of_text t) (pos 0)) (index_is fs c.amount h.amount.0 h.amount.1) ∙ ap (λ o. unwrap_or o (pos 0)) h.amount.2 in
      ap (λ n. record (entry_of c fs) { date = n }) date
      ∙ ap (λ z. record (entry_of c fs) { date = e.date; amount = z }) amount
      ∙ ap (λ (t : Option Text). record (entry_of c fs) { date = e.date; amount = e.amount; payee = t }) (sym h.payee)
      ∙ ap (λ (t : Option Text). record (entry_of c fs) { date = e.date; amount = e.amount; payee = e.payee; notes = t }) (sym h.notes)
      ∙ ap (λ (t : Option Text). record (entry_of c fs) { date = e.date; amount = e.amount; payee = e.payee; notes = e.notes; id = t }) (sym h.id)

  abbrev judged : ℕ → List Text → Bool → Reads Entry
  judged row fs b = cond b (entry_unless c row fs (bad_from c 0 fs)) (Err (bad_place row (length fs)))

  record_is : (row : ℕ) (fs : List Text) (e : Entry) → read_record c width row fs ≡ Ok e → IsEntry c width fs e
  record_is row fs e h = by (length fs == width) refl h
    where
      unless : (o : Option ℕ) → bad_from c 0 fs ≡ o → length fs ≡ width → entry_unless c row fs o ≡ Ok e → IsEntry c width fs e
      unless None g w k = subst (λ (x : Entry). IsEntry c width fs x) (inside _ _ k) (good_is fs w g)
      unless (Some at) g w k = fault_ok (bad_place row at) e k

      by : (b : Bool) → (length fs == width) ≡ b → judged row fs b ≡ Ok e → IsEntry c width fs e
      by true w k = unless (bad_from c 0 fs) refl (eqb-true (length fs) width w) k
      by false w k = fault_ok (bad_place row (length fs)) e k

  record_read : (row : ℕ) (fs : List Text) (e : Entry) → IsEntry c width fs e → read_record c width row fs ≡ Ok e
  record_read row fs e h =
      ap (judged row fs) (eq-eqb (length fs) width h.len)
      ∙ ap (entry_unless c row fs) (entry_good fs e h)
      ∙ ap Ok (entry_is fs e h)

  record_bad : (row : ℕ) (fs : List Text) (fault : EditFault) → read_record c width row fs ≡ Err fault → (k : ℕ) × IsBadAt c width fs k × (fault ≡ bad_place row k)
  record_bad row fs fault h = by (length fs == width) refl h
    where
      unless : (o : Option ℕ) → bad_from c 0 fs ≡ o → length fs ≡ width → entry_unless c row fs o ≡ Err fault → (k : ℕ) × IsBadAt c width fs k × (fault ≡ bad_place row k)
      unless None g w k = fault_ok fault (entry_of c fs) (sym k)
      unless (Some at) g w k =
          let b = bad_is c 0 fs at g in
          let same : (j : ℕ) → 0 + j ≡ j = λ j. omega arith in
          let is : at ≡ b.i = b.place ∙ same b.i in (
            b.i,
            inr (w, record { field = b.field; there = b.there; bad = ap (λ m. is_good c m b.field) (sym (same b.i)) ∙ b.bad; before = λ j f l a. ap (λ m. is_good c m f) (sym (same j)) ∙ b.before j f l a }),
            sym (fault_is (bad_place row at) fault k) ∙ ap (bad_place row) is,
          )

      by : (b : Bool) → (length fs == width) ≡ b → judged row fs b ≡ Err fault → (k : ℕ) × IsBadAt c width fs k × (fault ≡ bad_place row k)
      by true w k = unless (bad_from c 0 fs) refl (eqb-true (length fs) width w) k
      by false w k = (length fs, inl (eqb-false (length fs) width w, refl), sym (fault_is (bad_place row (length fs)) fault k))

  record_refused : (row : ℕ) (fs : List Text) (k : ℕ) → IsBadAt c width fs k → read_record c width row fs ≡ Err (bad_place row k)
  record_refused row fs k h = ⊎_elim
      (λ w. ap (judged row fs) (ne_eqb (length fs) width w.0) ∙ ap (λ n. Err (bad_place row n)) (sym w.1))
      (λ w. let b = w.1 in
      let same : (j : ℕ) → 0 + j ≡ j = λ j. omega arith in
      ap (judged row fs) (eq-eqb (length fs) width w.0)
      ∙ ap (entry_unless c row fs) (bad_found c 0 fs k b.field b.there (ap (λ m. is_good c m b.field) (same k) ∙ b.bad) (λ j f l a. ap (λ m. is_good c m f) (same j) ∙ b.before j f l a))
      ∙ ap (λ n. Err (bad_place row n)) (same k)) h

  -- ---- all records

  abbrev AreRead : List (List Text) → List Entry → Type 0
  AreRead rows es = (i : ℕ) (fs : List Text) (e : Entry) → slice_get rows i ≡ Some fs → slice_get es i ≡ Some e → IsEntry c width fs e

  one_more : (fs : List Text) (rows : List (List Text)) (e : Entry) (es : List Entry) → IsEntry c width fs e → AreEntries c width rows es → AreEntries c width (fs ∷ rows) (e ∷ es)
  one_more fs rows e es h k = record { len = ap suc k.len; each = each }
    where
      each : AreRead (fs ∷ rows) (e ∷ es)
      each zero gs x a b = subst (λ (t : List Text). IsEntry c width t x) (some_is fs gs a) (subst (λ (y : Entry). IsEntry c width fs y) (some_is e x b) h)
      each (suc i) gs x a b = k.each i gs x a b

  records_are : (rows : List (List Text)) (row : ℕ) (es : List Entry) → read_records c width row rows ≡ Ok es → AreEntries c width rows es
  records_are [] row es h = subst (AreEntries c width []) (inside _ _ h) (record { len = refl; each = λ i fs e a b. no_some fs a })
  records_are (fs ∷ rows) row es h =
      let p = passed (read_record c width row fs) _ _ h in
      let q = passed (read_records c width (row + 1) rows) _ _ p.2 in
      subst (AreEntries c width (fs ∷ rows)) (inside _ _ q.2) (one_more fs rows p.0 q.0 (record_is row fs p.0 p.1) (records_are rows (row + 1) q.0 q.1))

  abbrev and_rest : ℕ → List (List Text) → Reads Entry → Reads (List Entry)
  and_rest row rows r = r >>= (λ e. read_records c width (row + 1) rows >>= (λ es. Ok (e ∷ es)))

  records_read : (rows : List (List Text)) (row : ℕ) (es : List Entry) → AreEntries c width rows es → read_records c width row rows ≡ Ok es
  records_read [] row [] h = refl
  records_read [] row (e ∷ es) h = absurd (let bad : suc (length es) ≡ zero = h.len in cc)
  records_read (fs ∷ rows) row [] h = absurd (let bad : zero ≡ suc (length rows) = h.len in cc)
  records_read (fs ∷ rows) row (e ∷ es) h =
      ap (and_rest row rows) (record_read row fs e (h.each zero fs e refl refl))
      ∙ ap (λ r. r >>= (λ xs. Ok (e ∷ xs))) (records_read rows (row + 1) es (record { len = (let q : suc (length es) ≡ suc (length rows) = h.len in cc); each = λ i gs x a b. h.each (suc i) gs x a b }))

  -- the first bad record, the first of them being this row
  record IsBadRow (row : ℕ) (rows : List (List Text)) (fault : EditFault) : Type 0 where
    i : ℕ
    k : ℕ
    fields : List Text
    there : slice_get rows i ≡ Some fields
    bad : IsBadAt c width fields k
    before : (j : ℕ) (fs : List Text) → j < i → slice_get rows j ≡ Some fs → (e : Entry) × IsEntry c width fs e
    told : fault ≡ bad_place (row + i) k

  records_bad : (rows : List (List Text)) (row : ℕ) (fault : EditFault) → read_records c width row rows ≡ Err fault → IsBadRow row rows fault
  records_bad [] row fault h = fault_ok fault [] (sym h)
  records_bad (fs ∷ rows) row fault h = ⊎_elim
      (λ b. let w = record_bad row fs fault b in
      record { i = zero; k = w.0; fields = fs; there = refl; bad = w.1; before = λ j gs l a. absurd (omega arith); told = w.2 ∙ ap (λ r. bad_place r w.0) (let e : row ≡ row + 0 = omega arith in e) })
      (λ p. ⊎_elim (λ g. later p.0 p.1 (records_bad rows (row + 1) fault g)) (λ q. fault_ok fault (p.0 ∷ q.0) (sym q.2)) (failed (read_records c width (row + 1) rows) _ fault p.2))
      (failed (read_record c width row fs) _ fault h)
    where
      later : (e : Entry) → read_record c width row fs ≡ Ok e → IsBadRow (row + 1) rows fault → IsBadRow row (fs ∷ rows) fault
      later e r w = record { i = suc w.i; k = w.k; fields = w.fields; there = w.there; bad = w.bad; before = before; told = w.told ∙ ap (λ n. bad_place n w.k) (let g : row + 1 + w.i ≡ row + suc w.i = omega arith in g) }
        where
          before : (j : ℕ) (gs : List Text) → j < suc w.i → slice_get (fs ∷ rows) j ≡ Some gs → (e : Entry) × IsEntry c width gs e
          before zero gs l a = (e, subst (λ (t : List Text). IsEntry c width t e) (some_is fs gs a) (record_is row fs e r))
          before (suc j) gs l a = w.before j gs (omega arith) a

  records_refused : (rows : List (List Text)) (row i k : ℕ) (fields : List Text) → slice_get rows i ≡ Some fields → IsBadAt c width fields k
      → ((j : ℕ) (fs : List Text) → j < i → slice_get rows j ≡ Some fs → (e : Entry) × IsEntry c width fs e) → read_records c width row rows ≡ Err (bad_place (row + i) k)
  records_refused [] row i k fields a bad before = no_some fields a
  records_refused (fs ∷ rows) row zero k fields a bad before =
      ap (and_rest row rows) (record_refused row fs k (subst (λ (t : List Text). IsBadAt c width t k) (sym (some_is fs fields a)) bad)) ∙ ap (λ r. Err (bad_place r k)) (let e : row ≡ row + 0 = omega arith in e)
  records_refused (fs ∷ rows) row (suc i) k fields a bad before =
      let e = before zero fs (omega arith) refl in
      ap (and_rest row rows) (record_read row fs e.0 e.1)
      ∙ ap (λ r. r >>= (λ xs. Ok (e.0 ∷ xs))) (records_refused rows (row + 1) i k fields a bad (λ j gs l b. before (suc j) gs (omega arith) b))
      ∙ ap (λ n. Err (bad_place n k)) (let g : row + 1 + i ≡ row + suc i = omega arith in g)

-- ---- under a header

there_below : (fs : List Text) (k : ℕ) (f : Text) → slice_get fs k ≡ Some f → k < length fs
there_below [] k f h = no_some f h
there_below (g ∷ fs) zero f h = omega arith
there_below (g ∷ fs) (suc k) f h = let l = there_below fs k f h in omega (arith, l)

under : (header : List Text) (date amount : ℕ) (rows : List (List Text)) → IsColumn (codes "date") header date → IsColumn (codes "amount") header amount
    → read_rows (header ∷ rows) ≡ read_records (columns_of header date amount) (length header) 1 rows
under header date amount rows d a =
    ap (λ o. read_under header o (column_of (codes "amount") header) rows) ((column_iff (codes "date") header date).1 d)
    ∙ ap (λ o. read_under header (Some date) o rows) ((column_iff (codes "amount") header amount).1 a)

lacking : (header : List Text) (rows : List (List Text)) → ((k : ℕ) → IsColumn (codes "date") header k → ⊥) ⊎ ((k : ℕ) → IsColumn (codes "amount") header k → ⊥)
    → read_rows (header ∷ rows) ≡ Err (bad_place 0 (length header))
lacking header rows h = ⊎_elim
    (λ d. ap (λ o. read_under header o (column_of (codes "amount") header) rows) (no_column (codes "date") header d))
    (λ a. ap (λ o. read_under header (column_of (codes "date") header) o rows) (no_column (codes "amount") header a) ∙ no_amount (column_of (codes "date") header)) h
  where
    no_amount : (o : Option ℕ) → read_under header o None rows ≡ Err (bad_place 0 (length header))
    no_amount None = refl
    no_amount (Some date) = refl

pub law_of_reading : LawOfReading
law_of_reading = record {
  column = column_iff;
  header = lacking;
  read = λ header date amount rows es d a.
      let c = columns_of header date amount in
      let n = length header in
      let here = there_below header date (codes "date") d.there in
      let paid = there_below header amount (codes "amount") a.there in
      let is = under header date amount rows d a in
      (λ h. records_are c n here paid rows 1 es (sym is ∙ h), λ h. is ∙ records_read c n here paid rows 1 es h);
  refused = λ header date amount rows fault d a.
      let c = columns_of header date amount in
      let n = length header in
      let here = there_below header date (codes "date") d.there in
      let paid = there_below header amount (codes "amount") a.there in
      let is = under header date amount rows d a in (
        λ h. let w = records_bad c n here paid rows 1 fault (sym is ∙ h) in
            record { row = w.i; column = w.k; fields = w.fields; there = w.there; bad = w.bad; before = w.before; told = w.told },
        λ w. is ∙ records_refused c n here paid rows 1 w.row w.column w.fields w.there w.bad w.before ∙ ap Err (sym w.told),
      );
}
