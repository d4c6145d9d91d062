-- What the undo of an edit leaves of the rows that were there before it.
use Rattle.std.proofs.Common.{◌≡◌, Bool, true, false, cond, List, [], ◌∷◌, Option, Some, None, inl, inr, refl, sym, ap, ap₂, subst, ◌∙◌, map as list_map}
use lib.IntN.{pos}
use Rattle.std.specs.Prelude.{◌⊎◌, ◌&&◌, ◌||◌, not, is_some, unwrap_or, if◌then◌else◌}
use Rattle.std.specs.List.{AllByRecursion, list_any}
use Rattle.std.specs.FinMap.{get, same_map}
use Rattle.field_values.specs.declared.value.Value.{Value}
use Rattle.field_values.specs.declared.value.Value.TheVariants.{Null, Number}
use Rattle.field_values.specs.Names.{FieldNames, field_of, names_eq}
use Rattle.finite_sums.specs.Maps.{Text, Texts, some_and}
use Rattle.finite_sums.proofs.Texts.{text_total, text_same}
use Rattle.book_rows.specs.declared.column.Column.{Column}
use Rattle.book_rows.specs.declared.column.Column.TheVariants.{Tombstone}
use Rattle.book_rows.specs.declared.column.Dataset.{Dataset}
use Rattle.book_rows.specs.declared.kind.Kind.{Kind}
use Rattle.book_rows.specs.declared.kind.Kind.TheVariants.{Flag, Int, Day, Text as Words}
use Rattle.book_rows.specs.Columns.{dataset_name, column_name, column_of, all_columns}
use Rattle.book_rows.specs.Tables.{Table, blank_row, has_column, row_at}
use Rattle.book_rows.specs.Rows.{Values, with_value, values_at, AreTableOf, dataset_kind, known_kind, kind_of, has_tombstone, has_row}
use Rattle.book_rows.proofs.Naming.{dataset_found, column_found, no_column, some_column}
use Rattle.edit_history.specs.declared.before.Before.{Before}
use Rattle.edit_history.specs.Undo.{first_of_each, before_of, entry_over, tombstone_of, blank_of, undo_to, undo_of, undo_values}
use Rattle.edit_history.specs.Laws.{with_values, ReadsAsNone, HasNone}
use Rattle.edit_history.proofs.Basics.{bool_cases, true_false, option_cases, none_some, both, both_parts, same}
use Rattle.edit_history.proofs.Listing.{all_first, all_map}
use Rattle.edit_history.proofs.UndoLaw.{entries_undo}
use Rattle.book_laws.specs.Undone.{undone_values, AreAgain, SayTheSame, MakeNone}
use Rattle.book_laws.proofs.Columns.{ReadAlike, ReadsColumns}

-- a write of a value into a field
abbrev FieldWrite : Type 0
FieldWrite = FieldNames × Value

-- ---- lists and options

pub one_of : {X : Type 0} (p : X → Bool) (xs : List X) → list_any p xs ≡ true → (x : X) × (p x ≡ true)
one_of p [] h = true_false false h refl
one_of p (x ∷ xs) h = bool_cases (p x) (λ t. (x, t)) (λ f. one_of p xs (ap (λ b. b || list_any p xs) (sym f) ∙ h))

pub the_value : {X : Type 0} (o : Option X) → is_some o ≡ true → (x : X) × (o ≡ Some x)
the_value None h = true_false false h refl
the_value (Some x) h = (x, refl)

-- ---- how columns read

alike : (k : Option Kind) (v : Value) → ReadAlike k v v
alike (Some Flag) v = refl
alike (Some Int) v = refl
alike (Some Words) v = refl
alike (Some Day) v = refl
alike None v = tt

as_none : (k : Option Kind) (v : Value) → ReadsAsNone k v → ReadAlike k v Null
as_none (Some Flag) v h = h
as_none (Some Int) v h = h
as_none (Some Words) v h = h
as_none (Some Day) v h = h
as_none None v h = tt

kind_is : (d : Dataset) (c : Column) → kind_of (dataset_name d) (column_name c) ≡ dataset_kind d c
kind_is d c = ap (λ o. known_kind o (column_of (column_name c))) (dataset_found d) ∙ ap (known_kind (Some d)) (column_found c)

pub tombstone_is : (d : Dataset) → has_tombstone (dataset_name d) ≡ is_some (dataset_kind d Tombstone)
tombstone_is d = ap is_some (kind_is d Tombstone)

-- ---- rows in which nothing is written

-- two fields are of one row
abbrev InRow : FieldNames → FieldNames → Type 0
InRow f g = (f.dataset ≡ g.dataset) × (f.row ≡ g.row)

-- none of the writes is into the row of a field
abbrev pub SparesRow : FieldNames → List FieldWrite → Type 0
SparesRow g ws = AllByRecursion (λ (w : FieldWrite). InRow w.0 g → ⊥) ws

spared : (values : Values) (ws : List FieldWrite) (g : FieldNames) → SparesRow g ws → with_values values ws g ≡ values g
spared values [] g h = refl
spared values (w ∷ ws) g h =
    spared (with_value values w.0 w.1) ws g h.1
    ∙ ap (λ b. cond b (Some w.1) (values g)) (bool_cases (names_eq g w.0) (λ t. let e : g ≡ w.0 = same g w.0 t in absurd (h.0 (ap (λ (f : FieldNames). f.dataset) (sym e), ap (λ (f : FieldNames). f.row) (sym e)))) (λ f. f))

-- an undo writes into the rows of the edit alone
into_row : (f : FieldNames) (there : Bool) (o : Option Value) → InRow (undo_to f there o).0 f
into_row f there (Some v) = (refl, refl)
into_row f there None = by (not there && has_tombstone f.dataset)
  where
    by : (b : Bool) → InRow (cond {A = FieldWrite} b (tombstone_of f, Number (pos 1)) (f, blank_of (kind_of f.dataset f.column))).0 f
    by true = (refl, refl)
    by false = (refl, refl)

undo_spares : (values : Values) (ws : List FieldWrite) (g : FieldNames) → SparesRow g ws → SparesRow g (undo_values (entry_over values (list_map (λ w. w.0) ws)))
undo_spares values ws g h =
    let fields = list_map (λ (w : FieldWrite). w.0) ws in
    let firsts = first_of_each (λ (f : FieldNames). f) fields in
    let entry = list_map (before_of values) firsts in
    all_first (λ (w : FieldWrite). InRow w.0 g → ⊥) (λ w. w.0) (list_map undo_of entry)
    (all_map (λ (w : FieldWrite). InRow w.0 g → ⊥) (λ (b : Before). InRow b.field g → ⊥) undo_of entry
    (λ b k in_row. let own = into_row b.field b.was_there b.value in k (sym own.0 ∙ in_row.0, sym own.1 ∙ in_row.1))
    (all_map (λ (b : Before). InRow b.field g → ⊥) (λ (f : FieldNames). InRow f g → ⊥) (before_of values) firsts (λ f k. k)
    (all_first (λ (f : FieldNames). InRow f g → ⊥) (λ f. f) fields
    (all_map (λ (f : FieldNames). InRow f g → ⊥) (λ (w : FieldWrite). InRow w.0 g → ⊥) (λ w. w.0) ws (λ w k. k) h))))

pub undone_spared : (values : Values) (ws : List FieldWrite) (g : FieldNames) → SparesRow g ws → undone_values values ws g ≡ values g
undone_spared values ws g h = spared (with_values values ws) (undo_values (entry_over values (list_map (λ w. w.0) ws))) g (undo_spares values ws g h) ∙ spared values ws g h

-- ---- the rows of a dataset

module _ {Row : Type 0} (t : Table Row) (d : Dataset) (kinds : (c : Column) → dataset_kind d c ≡ t.kind c) (reads : ReadsColumns t) where
  row_is : (values : Values) (id : Text) (column : Text) → has_row values (field_of (dataset_name d) id column) ≡ has_column t.kind (values_at values d id)
  row_is values id column =
      ap (some_and (λ (e : Dataset). has_column (dataset_kind e) (values_at values e id))) (dataset_found d)
      ∙ ap (λ k. has_column k (values_at values d id)) (λ i c. kinds c i)

  -- a row or the blank one says what the values do
  whole : (values : Values) (rows : Texts Row) (id : Text) → AreTableOf t d values rows → unwrap_or (get rows id) (blank_row t id) ≡ t.row id (λ c. unwrap_or (values_at values d id c) Null)
  whole values rows id are = ap (λ o. unwrap_or o (blank_row t id)) (are id) ∙ by (has_column t.kind (values_at values d id)) refl
    where
      nothing : (c : Column) (k : Option Kind) → t.kind c ≡ k → (is_some k && is_some (values_at values d id c)) ≡ false → ReadAlike k Null (unwrap_or (values_at values d id c) Null)
      nothing c None e h = tt
      nothing c (Some k) e h = option_cases (values_at values d id c)
          (λ none. subst (λ (o : Option Value). ReadAlike (Some k) Null (unwrap_or o Null)) (sym none) (alike (Some k) Null))
          (λ v there. true_false (is_some (values_at values d id c)) (ap is_some there) h)

      by : (b : Bool) → has_column t.kind (values_at values d id) ≡ b
          → unwrap_or (if b then Some (t.row id (λ c. unwrap_or (values_at values d id c) Null)) else None) (blank_row t id) ≡ t.row id (λ c. unwrap_or (values_at values d id c) Null)
      by true h = refl
      by false h = reads id (λ c. Null) (λ c. unwrap_or (values_at values d id c) Null) (λ c.
          nothing c (t.kind c) refl (no_column (λ (c : Column). is_some (t.kind c) && is_some (values_at values d id c)) h c))

  module _ (values : Values) (ws : List FieldWrite) where
    abbrev undone : Values
    undone = undone_values values ws

    -- a column reads as it did, where its row was there or can't be deleted
    column_again : (id : Text) (c : Column) → (has_column t.kind (values_at values d id) ≡ true) ⊎ (has_tombstone (dataset_name d) ≡ false)
        → ReadAlike (t.kind c) (unwrap_or (values_at undone d id c) Null) (unwrap_or (values_at values d id c) Null)
    column_again id c visible = option_cases (values_at values d id c)
        (λ none. subst (λ (o : Option Value). ReadAlike (t.kind c) (unwrap_or (values_at undone d id c) Null) (unwrap_or o Null)) (sym none) (empty ((entries_undo values ws).unvalued f none (seen visible))))
        (λ v there. subst (λ (o : Option Value). ReadAlike (t.kind c) (unwrap_or (values_at undone d id c) Null) (unwrap_or o Null)) (sym there)
        (subst (λ (o : Option Value). ReadAlike (t.kind c) (unwrap_or o Null) v) (sym ((entries_undo values ws).valued f v there)) (alike (t.kind c) v)))
      where
        f : FieldNames
        f = field_of (dataset_name d) id (column_name c)

        seen : (has_column t.kind (values_at values d id) ≡ true) ⊎ (has_tombstone (dataset_name d) ≡ false) → (has_row values f ≡ true) ⊎ (has_tombstone f.dataset ≡ false)
        seen (inl h) = inl (row_is values id (column_name c) ∙ h)
        seen (inr h) = inr h

        empty : HasNone undone f → ReadAlike (t.kind c) (unwrap_or (values_at undone d id c) Null) Null
        empty (inl none) = subst (λ (o : Option Value). ReadAlike (t.kind c) (unwrap_or o Null) Null) (sym none) (alike (t.kind c) Null)
        empty (inr h) = subst (λ (o : Option Value). ReadAlike (t.kind c) (unwrap_or o Null) Null) (sym h.1)
            (as_none (t.kind c) h.0 (subst (λ (k : Option Kind). ReadsAsNone k h.0) (kind_is d c ∙ kinds c) h.2))

    -- a row that was there is there
    still_there : (id : Text) → has_column t.kind (values_at values d id) ≡ true → has_column t.kind (values_at undone d id) ≡ true
    still_there id h =
        let one = one_of (λ (c : Column). is_some (t.kind c) && is_some (values_at values d id c)) all_columns h in
        let parts = both_parts (is_some (t.kind one.0)) (is_some (values_at values d id one.0)) one.1 in
        let value = the_value (values_at values d id one.0) parts.1 in
        some_column (λ (c : Column). is_some (t.kind c) && is_some (values_at undone d id c)) one.0
        (both _ _ parts.0 (ap is_some ((entries_undo values ws).valued (field_of (dataset_name d) id (column_name one.0)) value.0 value.1)))

    some_if : {X : Type 0} (b : Bool) (x y : X) → (if b then Some x else None) ≡ Some y → (b ≡ true) × (x ≡ y)
    some_if true x y h = (refl, cc)
    some_if false x y h = none_some None y h refl

    none_if : {X : Type 0} (b : Bool) (x : X) → (if b then Some x else None) ≡ None → b ≡ false
    none_if true x h = none_some None x (sym h) refl
    none_if false x h = refl

    module _ (r u : Texts Row) (is_r : AreTableOf t d values r) (is_u : AreTableOf t d undone u) where
      pub again : AreAgain r u
      again id x there =
          let was = some_if (has_column t.kind (values_at values d id)) (t.row id (λ c. unwrap_or (values_at values d id c) Null)) x (sym (is_r id) ∙ there) in
          is_u id
          ∙ ap (λ b. if b then Some (t.row id (λ c. unwrap_or (values_at undone d id c) Null)) else None) (still_there id was.0)
          ∙ ap (λ (y : Row). Some y) (reads id (λ c. unwrap_or (values_at undone d id c) Null) (λ c. unwrap_or (values_at values d id c) Null) (λ c. column_again id c (inl was.0)) ∙ was.1)

      -- a row that can't be deleted says what it said
      pub say_the_same : has_tombstone (dataset_name d) ≡ false → SayTheSame t r u
      say_the_same lasts id =
          whole undone u id is_u
          ∙ reads id (λ c. unwrap_or (values_at undone d id c) Null) (λ c. unwrap_or (values_at values d id c) Null) (λ c. column_again id c (inr lasts))
          ∙ sym (whole values r id is_r)

      -- a row that was not there isn't, where no row is made
      spares : (id : Text) (vs : List FieldWrite) → has_tombstone (dataset_name d) ≡ true → has_column t.kind (values_at values d id) ≡ false → MakeNone values vs → (column : Text) → SparesRow (field_of (dataset_name d) id column) vs
      spares id [] mortal none made column = tt
      spares id (w ∷ vs) mortal none made column = (
        λ in_row.
            let there : has_row values w.0 ≡ true = made.0 (ap has_tombstone in_row.0 ∙ mortal) in
            let where_it_is : has_row values w.0 ≡ has_row values (field_of (dataset_name d) id column) = ap₂ (λ (a b : Text). has_row values (field_of a b column)) in_row.0 in_row.1 in
            true_false (has_row values w.0) there (where_it_is ∙ row_is values id column ∙ none),
        spares id vs mortal none made.1 column,
      )

      pub no_more : has_tombstone (dataset_name d) ≡ true → MakeNone values ws → u ≡ r
      no_more mortal made = same_map text_total text_same u r (λ id. option_cases (get r id)
          (λ none.
          let absent = none_if (has_column t.kind (values_at values d id)) (t.row id (λ c. unwrap_or (values_at values d id c) Null)) (sym (is_r id) ∙ none) in
          let untouched : values_at undone d id ≡ values_at values d id = λ i c. undone_spared values ws (field_of (dataset_name d) id (column_name c)) (spares id ws mortal absent made (column_name c)) i in
          is_u id ∙ ap (row_at t id) untouched ∙ sym (is_r id))
          (λ x there. again id x there ∙ sym there))
