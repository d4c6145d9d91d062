-- Where no field is given two values, a change that is judged to govern does govern: in the end the row is new, or tells another thing.
use Rattle.std.proofs.Common.{◌≡◌, Bool, true, false, not, cond, List, [], ◌∷◌, Option, Some, None, refl, ap, sym, ◌∙◌, if◌then◌else◌, inl, inr, true≢false, nat_eq}
use Rattle.std.specs.Prelude.{◌&&◌, ◌||◌, ◌⊎◌, is_some, unwrap_or}
use Rattle.std.specs.Cmp.Lexicographic.{pointwise}
use Rattle.std.specs.Option.{option_map}
use Rattle.std.specs.List.{list_any, AllByRecursion}
use Rattle.std.specs.Ordering.{eq_by_cmp}
use Rattle.std.specs.FinMap.{get, insert, get-insert}
use Rattle.field_values.specs.declared.value.Value.{Value}
use Rattle.field_values.specs.Names.{FieldNames, names_eq}
use Rattle.finite_sums.specs.Maps.{Text, Texts, text_cmp, some_and}
use Rattle.finite_sums.proofs.Texts.{text_total}
use Rattle.book_rows.specs.declared.rows.Rows.{Rows}
use Rattle.book_rows.specs.declared.column.Dataset.{Dataset}
use Rattle.book_rows.specs.declared.column.Column.{Column}
use Rattle.book_rows.specs.Columns.{dataset_of, column_of}
use Rattle.book_rows.specs.Tables.{Table, blank_row, with_column}
use Rattle.book_rows.specs.Rows.{with_known, with_cell, with_field, dataset_kind}
use Rattle.book_rows.proofs.Naming.{is_text_itself, dataset_named, column_named}
use Rattle.envelope_cells.proofs.Among.{same_texts, itself}
use Rattle.dirty_cells.specs.Changes.{Change, with_fields, AreDifferent, governs}
use Rattle.dirty_cells.specs.Bound.{turns}

or_first : (a b : Bool) → (a || b) ≡ false → a ≡ false
or_first true b h = absurd (true≢false h)
or_first false b h = refl

or_second : (a b : Bool) → (a || b) ≡ false → b ≡ false
or_second true b h = absurd (true≢false h)
or_second false b h = h

-- two fields of the same names, as a book knows them
same_field : (d : Dataset) (k : Column) (f h : FieldNames) → dataset_of f.dataset ≡ Some d → column_of f.column ≡ Some k → dataset_of h.dataset ≡ Some d → column_of h.column ≡ Some k → eq_by_cmp text_cmp f.row h.row ≡ true → names_eq f h ≡ true
same_field d k f h fd fk hd hk e =
    let one : f.dataset ≡ h.dataset = dataset_named f.dataset d fd ∙ sym (dataset_named h.dataset d hd) in
    let two : f.row ≡ h.row = same_texts f.row h.row e in
    let three : f.column ≡ h.column = column_named f.column k fk ∙ sym (column_named h.column k hk) in
    ap (λ x. pointwise nat_eq f.dataset x && (pointwise nat_eq f.row h.row && pointwise nat_eq f.column h.column)) (sym one)
    ∙ ap (λ x. pointwise nat_eq f.dataset f.dataset && (pointwise nat_eq f.row x && pointwise nat_eq f.column h.column)) (sym two)
    ∙ ap (λ x. pointwise nat_eq f.dataset f.dataset && (pointwise nat_eq f.row f.row && pointwise nat_eq f.column x)) (sym three)
    ∙ ap (λ b. b && (pointwise nat_eq f.row f.row && pointwise nat_eq f.column f.column)) (is_text_itself f.dataset)
    ∙ ap (λ b. b && pointwise nat_eq f.column f.column) (is_text_itself f.row)
    ∙ is_text_itself f.column

-- ---- a table of a book, one dataset's, and what its rows tell by one column
module _ {Row : Type 0} (t : Table Row) (d : Dataset) (rows_of : Rows → Texts Row) (kinds : (j : Column) → dataset_kind d j ≡ t.kind j)
    (own : (j : Column) (id : Text) (v : Value) (s : Rows) → rows_of (with_cell d id j v s) ≡ with_column t id j v (rows_of s))
    (others : (e : Dataset) → (e ≡ d) ⊎ ((j : Column) (id : Text) (v : Value) (s : Rows) → rows_of (with_cell e id j v s) ≡ rows_of s)) where
  abbrev put_row : Rows → Text → Column → Value → Row
  put_row s id j v = t.set j v (unwrap_or (get (rows_of s) id) (blank_row t id))

  -- ---- a row that is there stays there
  there_at : (s : Rows) (id row : Text) (j : Column) (v : Value) → is_some (get (rows_of s) id) ≡ true → (b : Bool) → is_some (get (if b then insert (rows_of s) row (t.set j v (unwrap_or (get (rows_of s) row) (blank_row t row))) else rows_of s) id) ≡ true
  there_at s id row j v h true = ap is_some (get-insert text_total (rows_of s) row (t.set j v (unwrap_or (get (rows_of s) row) (blank_row t row))) id) ∙ by (eq_by_cmp text_cmp id row)
    where
      by : (b : Bool) → is_some (cond b (Some (t.set j v (unwrap_or (get (rows_of s) row) (blank_row t row)))) (get (rows_of s) id)) ≡ true
      by true = refl
      by false = h
  there_at s id row j v h false = h

  there_known : (s : Rows) (id row : Text) (v : Value) → is_some (get (rows_of s) id) ≡ true → (o : Option Dataset) (k : Option Column) → is_some (get (rows_of (with_known o k row v s)) id) ≡ true
  there_known s id row v h None k = h
  there_known s id row v h (Some e) None = h
  there_known s id row v h (Some e) (Some j) = by (others e)
    where
      by : (e ≡ d) ⊎ ((j : Column) (id : Text) (v : Value) (s : Rows) → rows_of (with_cell e id j v s) ≡ rows_of s) → is_some (get (rows_of (with_cell e row j v s)) id) ≡ true
      by (inl same) = ap (λ z. is_some (get (rows_of (with_cell z row j v s)) id)) same ∙ ap (λ m. is_some (get m id)) (own j row v s) ∙ there_at s id row j v h (is_some (t.kind j))
      by (inr apart) = ap (λ m. is_some (get m id)) (apart j row v s) ∙ h

  pub there_stays : (cs : List Change) (s : Rows) (id : Text) → is_some (get (rows_of s) id) ≡ true → is_some (get (rows_of (with_fields s cs)) id) ≡ true
  there_stays [] s id h = h
  there_stays (c ∷ cs) s id h = there_stays cs (with_field s c.0 c.1) id (there_known s id c.0.row c.1 h (dataset_of c.0.dataset) (column_of c.0.column))

  -- a value of one of its columns makes the row
  abbrev pub IsOf : Change → Column → Type 0
  IsOf c j = (dataset_of c.0.dataset ≡ Some d) × (column_of c.0.column ≡ Some j) × (is_some (dataset_kind d j) ≡ true)

  set_is : (s : Rows) (c : Change) (j : Column) → IsOf c j → get (rows_of (with_field s c.0 c.1)) c.0.row ≡ Some (put_row s c.0.row j c.1)
  set_is s c j h =
      ap (λ o. get (rows_of (with_known o (column_of c.0.column) c.0.row c.1 s)) c.0.row) h.0
      ∙ ap (λ k. get (rows_of (with_known (Some d) k c.0.row c.1 s)) c.0.row) h.1
      ∙ ap (λ m. get m c.0.row) (own j c.0.row c.1 s)
      ∙ ap (λ (b : Bool). get (if b then insert (rows_of s) c.0.row (t.set j c.1 (unwrap_or (get (rows_of s) c.0.row) (blank_row t c.0.row))) else rows_of s) c.0.row) (ap is_some (sym (kinds j)) ∙ h.2)
      ∙ get-insert text_total (rows_of s) c.0.row (t.set j c.1 (unwrap_or (get (rows_of s) c.0.row) (blank_row t c.0.row))) c.0.row
      ∙ ap (λ b. cond b (Some (t.set j c.1 (unwrap_or (get (rows_of s) c.0.row) (blank_row t c.0.row)))) (get (rows_of s) c.0.row)) (itself c.0.row)

  pub there_then : (cs : List Change) (s : Rows) → AllByRecursion (λ c. (j : Column) → IsOf c j → is_some (get (rows_of (with_fields s cs)) c.0.row) ≡ true) cs
  there_then [] s = tt
  there_then (c ∷ cs) s = ((λ j h. there_stays cs (with_field s c.0 c.1) c.0.row (ap is_some (set_is s c j h))), there_then cs (with_field s c.0 c.1))

  -- ---- what a row tells by one column
  module _ {A : Type 0} (k : Column) (read : Row → A) (val : Value → A) (kind : is_some (dataset_kind d k) ≡ true) (sets : (v : Value) (x : Row) → read (t.set k v x) ≡ val v)
      (keeps : (j : Column) → (j ≡ k) ⊎ ((v : Value) (x : Row) → read (t.set j v x) ≡ read x)) where
    abbrev pub told : Rows → Text → Option A
    told s id = option_map read (get (rows_of s) id)

    module _ (f : FieldNames) (at_dataset : dataset_of f.dataset ≡ Some d) (at_column : column_of f.column ≡ Some k) (a : A) where
      module _ (s : Rows) (h : FieldNames) (v : Value) (apart : names_eq f h ≡ false) (was : told s f.row ≡ Some a) where
        own_row : (j : Column) → dataset_of h.dataset ≡ Some d → column_of h.column ≡ Some j → eq_by_cmp text_cmp f.row h.row ≡ true → (o : Option Row) → option_map read o ≡ Some a
            → (j ≡ k) ⊎ ((v : Value) (x : Row) → read (t.set j v x) ≡ read x) → Some (read (t.set j v (unwrap_or o (blank_row t h.row)))) ≡ Some a
        own_row j e c same o p (inl is) = absurd (true≢false (sym (same_field d k f h at_dataset at_column e (c ∙ ap Some is) same) ∙ apart))
        own_row j e c same None p (inr stays) = absurd (cc)
        own_row j e c same (Some x) p (inr stays) = ap Some (stays v x) ∙ p

        here : (j : Column) → dataset_of h.dataset ≡ Some d → column_of h.column ≡ Some j → (b : Bool) → eq_by_cmp text_cmp f.row h.row ≡ b
            → option_map read (cond b (Some (t.set j v (unwrap_or (get (rows_of s) h.row) (blank_row t h.row)))) (get (rows_of s) f.row)) ≡ Some a
        here j e c true same = own_row j e c same (get (rows_of s) h.row) (ap (told s) (sym (same_texts f.row h.row same)) ∙ was) (keeps j)
        here j e c false same = was

        in_table : (j : Column) → dataset_of h.dataset ≡ Some d → column_of h.column ≡ Some j → (b : Bool)
            → option_map read (get (if b then insert (rows_of s) h.row (t.set j v (unwrap_or (get (rows_of s) h.row) (blank_row t h.row))) else rows_of s) f.row) ≡ Some a
        in_table j e c true = ap (option_map read) (get-insert text_total (rows_of s) h.row (t.set j v (unwrap_or (get (rows_of s) h.row) (blank_row t h.row))) f.row) ∙ here j e c (eq_by_cmp text_cmp f.row h.row) refl
        in_table j e c false = was

        stays_known : (o : Option Dataset) (j : Option Column) → dataset_of h.dataset ≡ o → column_of h.column ≡ j → told (with_known o j h.row v s) f.row ≡ Some a
        stays_known None j p q = was
        stays_known (Some e) None p q = was
        stays_known (Some e) (Some j) p q = by (others e)
          where
            by : (e ≡ d) ⊎ ((j : Column) (id : Text) (v : Value) (s : Rows) → rows_of (with_cell e id j v s) ≡ rows_of s) → option_map read (get (rows_of (with_cell e h.row j v s)) f.row) ≡ Some a
            by (inl same) = ap (λ z. option_map read (get (rows_of (with_cell z h.row j v s)) f.row)) same ∙ ap (λ m. option_map read (get m f.row)) (own j h.row v s) ∙ in_table j (p ∙ ap Some same) q (is_some (t.kind j))
            by (inr off) = ap (λ m. option_map read (get m f.row)) (off j h.row v s) ∙ was

        told_stays : told (with_field s h v) f.row ≡ Some a
        told_stays = stays_known (dataset_of h.dataset) (column_of h.column) refl refl

      all_stay : (cs : List Change) (s : Rows) → list_any (λ c. names_eq f c.0) cs ≡ false → told s f.row ≡ Some a → told (with_fields s cs) f.row ≡ Some a
      all_stay [] s h was = was
      all_stay (c ∷ cs) s h was = all_stay cs (with_field s c.0 c.1) (or_second (names_eq f c.0) (list_any (λ c. names_eq f c.0) cs) h) (told_stays s c.0 c.1 (or_first (names_eq f c.0) (list_any (λ c. names_eq f c.0) cs) h) was)

    told_set : (s : Rows) (c : Change) → dataset_of c.0.dataset ≡ Some d → column_of c.0.column ≡ Some k → told (with_field s c.0 c.1) c.0.row ≡ Some (val c.1)
    told_set s c e h = ap (option_map read) (set_is s c k (e, h, kind)) ∙ ap Some (sets c.1 (unwrap_or (get (rows_of s) c.0.row) (blank_row t c.0.row)))

    -- in the end the row tells what it was given
    pub told_then : (cs : List Change) (s : Rows) → AreDifferent cs → AllByRecursion (λ c. dataset_of c.0.dataset ≡ Some d → column_of c.0.column ≡ Some k → told (with_fields s cs) c.0.row ≡ Some (val c.1)) cs
    told_then [] s h = tt
    told_then (c ∷ cs) s h = ((λ e j. all_stay c.0 e j (val c.1) cs (with_field s c.0 c.1) h.0 (told_set s c e j)), told_then cs (with_field s c.0 c.1) h.1)

    -- ---- so it governs
    module _ (tests : Column → Bool) (only : (j : Column) → tests j ≡ true → j ≡ k) (test : Row → Value → Bool) (same : Row → Row → Bool)
        (differs : (x y : Row) (v : Value) → test x v ≡ true → read y ≡ val v → same x y ≡ false) (r s : Rows) where
      and_first : (a b : Bool) → (a && b) ≡ true → a ≡ true
      and_first true b h = refl
      and_first false b h = absurd (true≢false (sym h))

      and_second : (a b : Bool) → (a && b) ≡ true → b ≡ true
      and_second true b h = h
      and_second false b h = absurd (true≢false (sym h))

      some_same : (a b : A) → Some a ≡ Some b → a ≡ b
      some_same a b h = cc

      new_row : (id : Text) (o : Option Row) → is_some o ≡ true → get (rows_of r) id ≡ None → some_and (λ y. not (some_and (λ x. same x y) (get (rows_of r) id))) o ≡ true
      new_row id None h e = absurd (true≢false (sym h))
      new_row id (Some y) h e = ap (λ p. not (some_and (λ x. same x y) p)) e

      other_row : (id : Text) (x : Row) (v : Value) → test x v ≡ true → get (rows_of r) id ≡ Some x → (o : Option Row) → option_map read o ≡ Some (val v) → some_and (λ y. not (some_and (λ x. same x y) (get (rows_of r) id))) o ≡ true
      other_row id x v t e None h = absurd (cc)
      other_row id x v t e (Some y) h = ap (λ p. not (some_and (λ x. same x y) p)) e ∙ ap not (differs x y v t (some_same (read y) (val v) h))

      pub turns_by : (c : Change) (j : Column) → IsOf c j → is_some (get (rows_of s) c.0.row) ≡ true
          → (dataset_of c.0.dataset ≡ Some d → column_of c.0.column ≡ Some k → told s c.0.row ≡ Some (val c.1))
          → governs tests test (rows_of r) c.0.row j c.1 ≡ true → turns same (rows_of r) (rows_of s) c.0.row ≡ true
      turns_by c j is there tells g = by (get (rows_of r) c.0.row) refl g
        where
          by : (o : Option Row) → get (rows_of r) c.0.row ≡ o → elim o as (λ _. Bool) [ None ↦ true | Some x ↦ tests j && test x c.1 ] ≡ true → turns same (rows_of r) (rows_of s) c.0.row ≡ true
          by None e h = new_row c.0.row (get (rows_of s) c.0.row) there e
          by (Some x) e h = other_row c.0.row x c.1 (and_second (tests j) (test x c.1) h) e (get (rows_of s) c.0.row) (tells is.0 (is.1 ∙ ap Some (only j (and_first (tests j) (test x c.1) h))))
