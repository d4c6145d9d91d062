-- The dates of a statement's entries are days.
use Rattle.std.proofs.Common.{◌≡◌, ℕ, zero, suc, ◌+◌, ◌<◌, Bool, true, false, cond, List, [], ◌∷◌, Option, Some, None, Result, Ok, Err, refl, sym, subst, ap, ◌∙◌, arith}
use Rattle.std.specs.Prelude.{◌&&◌, ◌||◌, ◌==◌, not, is_some, length, unwrap_or, codes}
use Rattle.std.specs.List.{slice_get}
use Rattle.std.proofs.lemmas.Bool.{and_parts, eq-eqb, eqb-true}
use Rattle.finite_sums.specs.Maps.{Text}
use Rattle.book_rows.specs.Kinds.{is_day}
use Rattle.book_rows.specs.declared.fault.EditFault.{EditFault}
use Rattle.book_edits.proofs.Valid.{inside, passed}
use Rattle.rule_engine.specs.Days.{has_form, digits_number, day_of_text}
use Rattle.std.specs.Str.{bytes_eq}
use Rattle.bank_import.specs.declared.entry.Entry.{Entry}
use Rattle.bank_import.specs.declared.entry.Columns.{Columns}
use Rattle.bank_import.specs.Statement.{amount_of_text, column_from, column_of, columns_of, is_good, bad_from, bad_place, field, entry_of, entry_unless, read_record, read_records, read_under, read_rows, rows_in, statement}

no_some : {X P : Type 0} (x : X) → None ≡ Some x → P
no_some x h = absurd (clash h)
  where
    clash : None ≡ Some x → ⊥
    clash h = cc

some_is : {X : Type 0} (x y : X) → Some x ≡ Some y → x ≡ y
some_is x y h = cc

fault_ok : {A P : Type 0} (f : EditFault) (a : A) → ◌≡◌ {A = Result A EditFault} (Err f) (Ok a) → P
fault_ok {A = A} f a h = absurd (clash h)
  where
    clash : ◌≡◌ {A = Result A EditFault} (Err f) (Ok a) → ⊥
    clash h = cc

chosen : {X : Type 0} (b : Bool) (x : Option X) (n : X) → cond b x None ≡ Some n → (b ≡ true) × (x ≡ Some n)
chosen true x n h = (refl, h)
chosen false x n h = no_some n h

-- a text that writes a day
day_is : (t : Text) (d : ℕ) → day_of_text t ≡ Some d → is_day d ≡ true
unfolding day_of_text
day_is t d h =
    let c = chosen (has_form t && is_day (digits_number t)) (Some (digits_number t)) d h in
    ap is_day (sym (some_is _ _ c.1)) ∙ (and_parts _ _ c.0).1

read_day : (o : Option ℕ) → is_some o ≡ true → ((d : ℕ) → o ≡ Some d → is_day d ≡ true) → is_day (unwrap_or o 0) ≡ true
read_day None h f = absurd (let bad : false ≡ true = h in cc)
read_day (Some d) h f = f d refl

-- where no field is bad, that at each place is good
good_at : (c : Columns) (k : ℕ) (fs : List Text) → bad_from c k fs ≡ None → (i : ℕ) → i < length fs → is_good c (k + i) (field fs i) ≡ true
good_at c k [] h i l = absurd (omega arith)
good_at c k (f ∷ fs) h i l = by (is_good c k f) refl (good_at c (k + 1) fs) h i l
  where
    by : (b : Bool) → is_good c k f ≡ b → (bad_from c (k + 1) fs ≡ None → (i : ℕ) → i < length fs → is_good c (k + 1 + i) (field fs i) ≡ true) → cond b (bad_from c (k + 1) fs) (Some k) ≡ None → (i : ℕ) → i < length (f ∷ fs) → is_good c (k + i) (field (f ∷ fs) i) ≡ true
    by false e rest g i l = no_some k (sym g)
    by true e rest g zero l = ap (λ n. is_good c n f) (let q : k + 0 ≡ k = omega arith in q) ∙ e
    by true e rest g (suc i) l = ap (λ n. is_good c n (field fs i)) (let q : k + suc i ≡ k + 1 + i = omega arith in q) ∙ rest g i (omega arith)

column_below : (name : Text) (k : ℕ) (fs : List Text) (n : ℕ) → column_from name k fs ≡ Some n → n < k + length fs
column_below name k [] n h = no_some n h
column_below name k (f ∷ fs) n h = by (bytes_eq f name) (column_below name (k + 1) fs n) h
  where
    by : (b : Bool) → (column_from name (k + 1) fs ≡ Some n → n < k + 1 + length fs) → cond b (Some k) (column_from name (k + 1) fs) ≡ Some n → n < k + suc (length fs)
    by true rest e = let s : k ≡ n = some_is k n e in omega (arith, s)
    by false rest e = let l = rest e in omega (arith, l)

test_day : (same other : Bool) (day : Bool) → same ≡ true → ((not same || day) && other) ≡ true → day ≡ true
test_day true other true e h = refl
test_day true other false e h = absurd (let bad : false ≡ true = h in cc)
test_day false other day e h = absurd (let bad : false ≡ true = e in cc)

entry_day : (c : Columns) (fs : List Text) → bad_from c 0 fs ≡ None → c.date < length fs → is_day (entry_of c fs).date ≡ true
entry_day c fs h l =
    let t = field fs c.date in
    let good : is_good c c.date t ≡ true = ap (λ n. is_good c n t) (let q : c.date ≡ 0 + c.date = omega arith in q) ∙ good_at c 0 fs h c.date l in
    read_day (day_of_text t) (test_day (c.date == c.date) (not (c.date == c.amount) || is_some (amount_of_text t)) (is_some (day_of_text t)) (eq-eqb c.date c.date refl) good) (day_is t)

abbrev IsDated : Entry → Type 0
IsDated e = is_day e.date ≡ true

record_dated : (c : Columns) (width row : ℕ) (fs : List Text) (e : Entry) → c.date < width → read_record c width row fs ≡ Ok e → IsDated e
record_dated c width row fs e l h = by (length fs == width) refl h
  where
    unless : (o : Option ℕ) → bad_from c 0 fs ≡ o → length fs ≡ width → entry_unless c row fs o ≡ Ok e → IsDated e
    unless None g w k = subst IsDated (inside _ _ k) (entry_day c fs g (omega (arith, l, w)))
    unless (Some at) g w k = fault_ok (bad_place row at) e k

    by : (b : Bool) → (length fs == width) ≡ b → cond b (entry_unless c row fs (bad_from c 0 fs)) (Err (bad_place row (length fs))) ≡ Ok e → IsDated e
    by true w k = unless (bad_from c 0 fs) refl (eqb-true (length fs) width w) k
    by false w k = fault_ok (bad_place row (length fs)) e k

abbrev AreDated : List Entry → Type 0
AreDated es = (i : ℕ) (e : Entry) → slice_get es i ≡ Some e → is_day e.date ≡ true

one_dated : (x : Entry) (xs : List Entry) → IsDated x → AreDated xs → AreDated (x ∷ xs)
one_dated x xs h k zero e a = subst IsDated (some_is x e a) h
one_dated x xs h k (suc i) e a = k i e a

records_dated : (rows : List (List Text)) (c : Columns) (width row : ℕ) (es : List Entry) → c.date < width → read_records c width row rows ≡ Ok es → AreDated es
records_dated [] c width row es l h = subst AreDated (inside _ _ h) (λ i e a. no_some e a)
records_dated (fs ∷ rows) c width row es l h =
    let p = passed (read_record c width row fs) _ _ h in
    let q = passed (read_records c width (row + 1) rows) _ _ p.2 in
    subst AreDated (inside _ _ q.2) (one_dated p.0 q.0 (record_dated c width row fs p.0 l p.1) (records_dated rows c width (row + 1) q.0 l q.1))

under_dated : (header : List Text) (date amount : Option ℕ) (rows : List (List Text)) (es : List Entry) → ((d : ℕ) → date ≡ Some d → d < length header) → read_under header date amount rows ≡ Ok es → AreDated es
under_dated header None amount rows es l h = fault_ok (bad_place 0 (length header)) es h
under_dated header (Some date) None rows es l h = fault_ok (bad_place 0 (length header)) es h
under_dated header (Some date) (Some amount) rows es l h = records_dated rows (columns_of header date amount) (length header) 1 es (l date refl) h

rows_dated : (rows : List (List Text)) (es : List Entry) → read_rows rows ≡ Ok es → AreDated es
rows_dated [] es h = fault_ok (bad_place 0 0) es h
rows_dated (header ∷ rows) es h =
    under_dated header (column_of (codes "date") header) (column_of (codes "amount") header) rows es
    (λ d e. let l = column_below (codes "date") 0 header d e in omega (arith, l)) h

-- whatever the text says
pub statement_dated : (text : Text) (es : List Entry) → statement text ≡ Ok es → (i : ℕ) (e : Entry) → slice_get es i ≡ Some e → is_day e.date ≡ true
unfolding statement
statement_dated text es h = rows_dated (rows_in text) es h
