-- What the columns of a statement mean, where a bad place is, and plain texts.
use Rattle.std.proofs.Common.{◌≡◌, ℕ, suc, ◌<◌, ◌≤◌, ◌==◌, Bool, true, false, List, [], ◌∷◌, ◌++◌, Option, Some, None, refl, sym, ap, ap₂, ◌∙◌, arith, append_assoc}
use lib.IntN.{ℤ}
use Rattle.std.specs.Prelude.{◌≢◌, ◌↔◌, ◌&&◌, ◌||◌, not, is_some, unwrap_or, min, flat_map, if◌then◌else◌, codes}
use Rattle.std.specs.List.{Contains, slice_get, list_any}
use Rattle.std.proofs.lemmas.Option.{unwrap_or-slice_get}
use Rattle.std.proofs.lemmas.Bool.{and_parts, and_from, eq-eqb, eqb-true, ne_eqb}
use Rattle.finite_sums.specs.Maps.{Text}
use Rattle.book_rows.specs.declared.fault.EditFault.TheVariants.{BadStatement}
use Rattle.rule_engine.specs.Days.{day_of_text}
use Rattle.csv.specs.declared.parser.State.TheVariants as st
use Rattle.csv.specs.Machine.{next_record}
use Rattle.csv.specs.Quoting.{needs_byte}
use Rattle.csv.specs.Reading.{default_config, strip_bom, Reached, records}
use Rattle.csv.specs.Writing.{default_writer, field_text, fields_text, is_blank, row_text, read_back}
use Rattle.csv.proofs.RoundTrip.{read-write, rows_text}
use Rattle.bank_import.specs.Statement.{amount_of_text, column_of, is_good, field, or_none, text_in, columns_of, rows_in}
use Rattle.bank_import.specs.Read.{IsColumn}
use Rattle.bank_import.proofs.Csv.{records_are}
use Rattle.bank_import.proofs.Read.{law_of_reading}
use Rattle.kept_pairs.specs.Columns.{IsNamed, ColumnsAreNamed, ColumnsAreTold, IsPlain, IsPlainRow, line, PlainTextsReadBack}
use Rattle.kept_pairs.proofs.Near.{some_is, none_some}

-- ---- columns

named : (name : Text) (header : List Text) → IsNamed name header (column_of name header)
named name header = record {
  there = λ k. law_of_reading.column name header k;
  none = (λ h k c. none_some k (sym h ∙ (law_of_reading.column name header k).1 c), λ h. by (column_of name header) refl h);
}
  where
    by : (o : Option ℕ) → column_of name header ≡ o → ((k : ℕ) → IsColumn name header k → ⊥) → o ≡ None
    by None e h = refl
    by (Some k) e h = absurd (h k ((law_of_reading.column name header k).0 e))

columns_named : (header : List Text) (date amount : ℕ) → ColumnsAreNamed header date amount
columns_named header date amount = record { days = refl; amounts = refl; payees = named (codes "payee") header; notes = named (codes "notes") header; ids = named (codes "id") header }

field_is : (fs : List Text) (k : ℕ) → field fs k ≡ unwrap_or (slice_get fs k) []
field_is fs k = sym (unwrap_or-slice_get fs k [])

some_or : (t u : Text) → or_none t ≡ Some u → (t ≡ u) × (u ≢ [])
some_or [] u h = none_some u h
some_or (b ∷ bs) u h = let e : b ∷ bs ≡ u = some_is (b ∷ bs) u h in (e, λ none. clash b bs (e ∙ none))
  where
    clash : (b : ℕ) (bs : Text) → b ∷ bs ≡ [] → ⊥
    clash b bs e = cc

or_some : (t : Text) → t ≢ [] → or_none t ≡ Some t
or_some [] h = absurd (h refl)
or_some (b ∷ bs) h = refl

text_so : (k : ℕ) (fs : List Text) (t : Text) → text_in (Some k) fs ≡ Some t → (slice_get fs k ≡ Some t) × (t ≢ [])
text_so k fs t h = by (slice_get fs k) refl
  where
    by : (o : Option Text) → slice_get fs k ≡ o → (o ≡ Some t) × (t ≢ [])
    by None e = let w = some_or [] t (ap or_none (sym (field_is fs k ∙ ap (λ o. unwrap_or o []) e)) ∙ h) in absurd (w.1 (sym w.0))
    by (Some f) e = let w = some_or f t (ap or_none (sym (field_is fs k ∙ ap (λ o. unwrap_or o []) e)) ∙ h) in (ap Some w.0, w.1)

so_text : (k : ℕ) (fs : List Text) (t : Text) → slice_get fs k ≡ Some t → t ≢ [] → text_in (Some k) fs ≡ Some t
so_text k fs t e some = ap or_none (field_is fs k ∙ ap (λ o. unwrap_or o []) e) ∙ or_some t some

-- ---- fields

there : {A : Type 0} (o : Option A) → is_some o ≡ true → (x : A) × (o ≡ Some x)
there None h = cc
there (Some x) h = (x, refl)

asked : {A : Type 0} (k n : ℕ) (o : Option A) → (not (k == n) || is_some o) ≡ true → k ≡ n → (x : A) × (o ≡ Some x)
asked k n o h e = there o (sym (ap (λ b. not b || is_some o) (eq-eqb k n e)) ∙ h)

answers : {A : Type 0} (k n : ℕ) (o : Option A) → (k ≡ n → (x : A) × (o ≡ Some x)) → (not (k == n) || is_some o) ≡ true
answers k n o h = by (k == n) refl
  where
    by : (b : Bool) → (k == n) ≡ b → (not b || is_some o) ≡ true
    by true e = let w = h (eqb-true k n e) in ap is_some w.1
    by false e = refl

good_is : (header : List Text) (date amount k : ℕ) (f : Text) → (is_good (columns_of header date amount) k f ≡ true) ↔ ((k ≡ date → (n : ℕ) × (day_of_text f ≡ Some n)) × (k ≡ amount → (z : ℤ) × (amount_of_text f ≡ Some z)))
good_is header date amount k f = (
  λ h. let p = and_parts (not (k == date) || is_some (day_of_text f)) (not (k == amount) || is_some (amount_of_text f)) h in (asked k date (day_of_text f) p.0, asked k amount (amount_of_text f) p.1),
  λ h. and_from (not (k == date) || is_some (day_of_text f)) (not (k == amount) || is_some (amount_of_text f)) (answers k date (day_of_text f) h.0) (answers k amount (amount_of_text f) h.1),
)

-- ---- places

near : (n : ℕ) → n < 4_294_967_296 → min n 4_294_967_295 ≡ n
near n h = omega arith

far : (n : ℕ) → 4_294_967_296 ≤ n → min n 4_294_967_295 ≡ 4_294_967_295
far n h = omega arith

pub columns_told : ColumnsAreTold
columns_told = record {
  columns = columns_named;
  text = λ k fields t. (text_so k fields t, λ h. so_text k fields t h.0 h.1);
  no_column = λ fields. refl;
  good = good_is;
  place = λ row column h k. ap₂ (λ a b. BadStatement a b) (near row h) (near column k);
  far_row = λ row column h k. ap₂ (λ a b. BadStatement a b) (far row h) (near column k);
  far_column = λ row column h k. ap₂ (λ a b. BadStatement a b) (near row h) (far column k);
}

-- ---- plain texts

-- no byte of a plain field calls for quotes
pub calm : (f : Text) → IsPlain f → list_any (needs_byte default_writer) f ≡ false
calm [] h = refl
calm (b ∷ bs) h =
    let p = h b (0, omega arith, refl) in
    let own : needs_byte default_writer b ≡ false = quiet b (ne_eqb b 44 p.0) (ne_eqb b 34 p.1) (ne_eqb b 13 p.2) (ne_eqb b 10 p.3) in
    ap (λ t. t || list_any (needs_byte default_writer) bs) own ∙ calm bs (λ c m. h c (suc m.0, omega (arith, m.1), m.2))
  where
    quiet : (b : ℕ) → (b == 44) ≡ false → (b == 34) ≡ false → (b == 13) ≡ false → (b == 10) ≡ false → needs_byte default_writer b ≡ false
    quiet b c q r n = rw (c, q, r, n) refl

plain_field : (f : Text) → IsPlain f → field_text default_writer f ≡ f
plain_field f h = rw (calm f h) refl

-- the text of a row is its line
rest_line : (f : Text) (fs : List Text) → ((h : Text) → Contains (f ∷ fs) h → IsPlain h) → field_text default_writer f ++ (fields_text default_writer fs ++ (10 ∷ [])) ≡ line (f ∷ fs)
unfolding fields_text
rest_line f [] h = ap (λ t. t ++ 10 ∷ []) (plain_field f (h f (0, omega arith, refl)))
rest_line f (g ∷ fs) h =
    ap (λ t. t ++ ((44 ∷ (field_text default_writer g ++ fields_text default_writer fs)) ++ (10 ∷ []))) (plain_field f (h f (0, omega arith, refl)))
    ∙ ap (λ t. f ++ 44 ∷ t) (append_assoc (field_text default_writer g) (fields_text default_writer fs) (10 ∷ []) ∙ rest_line g fs (λ x m. h x (suc m.0, omega (arith, m.1), m.2)))

row_line : (row : List Text) → IsPlainRow row → (row_text default_writer row ≡ line row) × (read_back row ≡ row)
unfolding is_blank
row_line [] h = absurd h
row_line (f ∷ []) h = absurd h
row_line (f ∷ g ∷ fs) h = (append_assoc (field_text default_writer f) (fields_text default_writer (g ∷ fs)) (10 ∷ []) ∙ rest_line f (g ∷ fs) h, refl)

texts_are : (rows : List (List Text)) → ((row : List Text) → Contains rows row → IsPlainRow row) → rows_text rows ≡ flat_map line rows
unfolding rows_text
texts_are [] h = refl
texts_are (row ∷ rows) h = ap₂ (λ a b. a ++ b) (row_line row (h row (0, omega arith, refl))).0 (texts_are rows (λ r m. h r (suc m.0, omega (arith, m.1), m.2)))

-- the rows of the text are read one after the other
reached : (rows : List (List Text)) → ((row : List Text) → Contains rows row → IsPlainRow row) → Reached default_config st.StartRecord (rows_text rows) rows st.StartRecord []
unfolding Reached rows_text
reached [] h = (refl, refl)
reached (row ∷ rows) h = (
  (read_back row, st.StartRecord, rows_text rows),
  read-write row (rows_text rows),
  sym (row_line row (h row (0, omega arith, refl))).1,
  reached rows (λ r m. h r (suc m.0, omega (arith, m.1), m.2)),
)

nothing_more : next_record default_config st.StartRecord [] [] [] ≡ None
unfolding next_record
nothing_more = refl

-- a text that doesn't begin with 239 has no byte order mark
no_mark : (t : Text) → ((rest : Text) → t ≢ 239 ∷ rest) → strip_bom t ≡ t
unfolding strip_bom
no_mark [] h = refl
no_mark (a ∷ []) h = refl
no_mark (a ∷ b ∷ []) h = refl
no_mark (a ∷ b ∷ c ∷ rest) h = by (a == 239) refl
  where
    by : (e : Bool) → (a == 239) ≡ e → (if (a == 0xEF) && (b == 0xBB) && (c == 0xBF) then rest else a ∷ b ∷ c ∷ rest) ≡ a ∷ b ∷ c ∷ rest
    by true e = absurd (h (b ∷ c ∷ rest) (ap (λ x. x ∷ b ∷ c ∷ rest) (eqb-true a 239 e)))
    by false e = rw e refl

pub plain_back : PlainTextsReadBack
unfolding rows_in
plain_back rows plain start =
    let text = flat_map line rows in
    let is = texts_are rows plain in
    ap (records default_config) (no_mark text start ∙ sym is)
    ∙ sym (records_are default_config (rows_text rows) rows (st.StartRecord, [], reached rows plain, nothing_more))
