-- Which rows of values are there.
use Rattle.std.proofs.Common.{◌≡◌, Bool, true, false, List, [], ◌∷◌, Option, Some, None, refl, ap, ap₂, sym, ◌∙◌}
use Rattle.std.specs.Prelude.{◌&&◌, ◌||◌, is_some}
use Rattle.std.specs.List.{list_any}
use Rattle.field_values.specs.declared.value.Value.{Value}
use Rattle.field_values.specs.Names.{FieldNames, field_of}
use Rattle.finite_sums.specs.Maps.{Text, some_and}
use Rattle.book_rows.specs.declared.column.Column.{Column}
use Rattle.book_rows.specs.declared.column.Dataset.{Dataset}
use Rattle.book_rows.specs.declared.kind.Kind.{Kind}
use Rattle.book_rows.specs.Columns.{dataset_name, column_name, all_columns, dataset_of, column_of}
use Rattle.book_rows.specs.Tables.{has_column}
use Rattle.book_rows.specs.Rows.{Values, values_at, dataset_kind, known_kind, kind_of, has_row}
use Rattle.book_rows.proofs.Naming.{dataset_named, column_named, some_column}
use Rattle.edit_history.proofs.Basics.{both, both_parts, bool_cases, true_false, second_false, or_left, none_some}

-- ---- the values of a row

-- the row is there, where its dataset is this one
in_dataset : (values : Values) (f : FieldNames) (d : Dataset) → dataset_of f.dataset ≡ Some d → has_row values f ≡ has_column (dataset_kind d) (values_at values d f.row)
in_dataset values f d e = ap (some_and (λ (d : Dataset). has_column (dataset_kind d) (values_at values d f.row))) e

-- a row of which a known column has a value is there
pub row_of : (values : Values) (f : FieldNames) (k : Kind) (v : Value) → kind_of f.dataset f.column ≡ Some k → values f ≡ Some v → has_row values f ≡ true
row_of values f k v known h = by (dataset_of f.dataset) (column_of f.column) refl refl
  where
    by : (d : Option Dataset) (c : Option Column) → dataset_of f.dataset ≡ d → column_of f.column ≡ c → has_row values f ≡ true
    by None c is_d is_c = none_some None k (sym (ap (λ d. known_kind d (column_of f.column)) is_d) ∙ known) refl
    by (Some d) None is_d is_c = none_some None k (sym (ap₂ known_kind is_d is_c) ∙ known) refl
    by (Some d) (Some c) is_d is_c =
        let kind : dataset_kind d c ≡ Some k = sym (ap₂ known_kind is_d is_c) ∙ known in
        let at : values_at values d f.row c ≡ Some v =
        ap₂ (λ (a b : Text). values (field_of a f.row b)) (sym (dataset_named f.dataset d is_d)) (sym (column_named f.column c is_c)) ∙ h in
        in_dataset values f d is_d
        ∙ some_column (λ (c : Column). is_some (dataset_kind d c) && is_some (values_at values d f.row c)) c (both _ _ (ap is_some kind) (ap is_some at))

-- ---- a row that is there in later values alone

any_both : {X : Type 0} (p q : X → Bool) (xs : List X) → list_any p xs ≡ true → list_any q xs ≡ false → (x : X) × (p x ≡ true) × (q x ≡ false)
any_both p q [] h k = true_false false h refl
any_both p q (x ∷ xs) h k = bool_cases (q x)
    (λ t. true_false _ (or_left _ _ t) k)
    (λ n. bool_cases (p x)
    (λ t. (x, t, n))
    (λ f. any_both p q xs (ap (λ b. b || list_any p xs) (sym f) ∙ h) (ap (λ b. b || list_any q xs) (sym n) ∙ k)))

-- a field of the row that has got a value
pub record HasGot (before after : Values) (f : FieldNames) : Type 0 where
  pub column : Text
  pub none : before (field_of f.dataset f.row column) ≡ None
  pub some : is_some (after (field_of f.dataset f.row column)) ≡ true

no_value : {X : Type 0} (o : Option X) → is_some o ≡ false → o ≡ None
no_value None h = refl
no_value (Some v) h = true_false true refl h

pub has_got : (before after : Values) (f : FieldNames) → has_row before f ≡ false → has_row after f ≡ true → HasGot before after f
has_got before after f new there = by (dataset_of f.dataset) refl
  where
    by : (d : Option Dataset) → dataset_of f.dataset ≡ d → HasGot before after f
    by None is = true_false false (sym (ap (some_and (λ (d : Dataset). has_column (dataset_kind d) (values_at after d f.row))) is) ∙ there) refl
    by (Some d) is =
        let got = any_both (λ (c : Column). is_some (dataset_kind d c) && is_some (values_at after d f.row c)) (λ (c : Column). is_some (dataset_kind d c) && is_some (values_at before d f.row c)) all_columns
        (sym (in_dataset after f d is) ∙ there) (sym (in_dataset before f d is) ∙ new) in
        let parts = both_parts _ _ got.1 in
        let name : f.dataset ≡ dataset_name d = dataset_named f.dataset d is in
        record {
          column = column_name got.0;
          none = ap (λ (a : Text). before (field_of a f.row (column_name got.0))) name ∙ no_value _ (second_false _ _ parts.0 got.2);
          some = ap (λ (a : Text). is_some (after (field_of a f.row (column_name got.0)))) name ∙ parts.1;
        }
