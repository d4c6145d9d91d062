-- The months that ids name, and the numbers that are added up.
use Rattle.std.proofs.Common.{◌≡◌, Bool, true, false, List, [], ◌∷◌, refl, ap, sym, ◌∙◌, if◌then◌else◌}
use Rattle.std.specs.Prelude.{◌||◌, is_some, unwrap_or}
use Rattle.std.specs.declared.cmp.Ordering.{Ordering}
use Rattle.std.specs.declared.cmp.Ordering.TheVariants.{Less, Equal, Greater}
use Rattle.std.specs.List.{list_any}
use Rattle.std.specs.FinMap as map
use Rattle.std.specs.FinMap.{put}
use Rattle.std.specs.FinMap.Entries.{by_order}
use Rattle.field_values.specs.declared.value.Value.{Value}
use Rattle.field_values.specs.declared.value.Value.TheVariants.{Null, Number, Text as IsText, Other}
use Rattle.field_values.specs.Value.{HoldsNumber, IsValue}
use Rattle.std.proofs.Common.{arith}
use Rattle.std.proofs.lemmas.Int.{ints}
use Rattle.finite_sums.specs.Maps.{Text, Texts, text_cmp}
use Rattle.finite_sums.proofs.Texts.{text_total, text_same}
use Rattle.book_rows.specs.Kinds.{int_of}
use Rattle.book_rows.specs.Tables.{Table, blank_row, with_column}
use Rattle.book_rows.specs.declared.column.Column.{Column}

or_twice : (a b : Bool) → (a || b) ≡ (a || (a || b))
or_twice true b = refl
or_twice false b = refl

or_swap : (a b c : Bool) → (a || (b || c)) ≡ (b || (a || c))
or_swap true true c = refl
or_swap true false c = refl
or_swap false true c = refl
or_swap false false c = refl

module _ {X : Type 0} (p : Text → Bool) where
  put_by : (k : Text) (v : X) (e : Text × X) (es : List (Text × X)) → list_any (λ e. p e.0) (put text_cmp k v es) ≡ (p k || list_any (λ e. p e.0) es)
      → (r : Ordering) → text_cmp k e.0 ≡ r → list_any (λ e. p e.0) (by_order r ((k, v) ∷ e ∷ es) ((e.0, v) ∷ es) (e ∷ put text_cmp k v es)) ≡ (p k || list_any (λ e. p e.0) (e ∷ es))
  put_by k v e es h Less tie = refl
  put_by k v e es h Equal tie = or_twice (p e.0) (list_any (λ e. p e.0) es) ∙ ap (λ q. p q || (p e.0 || list_any (λ e. p e.0) es)) (sym (text_same k e.0 tie))
  put_by k v e es h Greater tie = ap (λ b. p e.0 || b) h ∙ or_swap (p e.0) (p k) (list_any (λ e. p e.0) es)

  any_put : (k : Text) (v : X) (es : List (Text × X)) → list_any (λ e. p e.0) (put text_cmp k v es) ≡ (p k || list_any (λ e. p e.0) es)
  any_put k v [] = refl
  any_put k v (e ∷ es) = put_by k v e es (any_put k v es) (text_cmp k e.0) refl

  -- a row more, and whether some id passes
  pub any_key-insert : (m : Texts X) (k : Text) (v : X) → list_any (λ e. p e.0) (map.entries (map.insert m k v)) ≡ (p k || list_any (λ e. p e.0) (map.entries m))
  any_key-insert m k v = ap (list_any (λ e. p e.0)) (map.entries-insert text_total m k v) ∙ any_put k v (map.entries m)

  -- a column of the dataset is set
  pub any_key-set : (table : Table X) (id : Text) (column : Column) (value : Value) (m n : Texts X) → is_some (table.kind column) ≡ true → n ≡ with_column table id column value m
      → list_any (λ e. p e.0) (map.entries n) ≡ (p id || list_any (λ e. p e.0) (map.entries m))
  any_key-set table id column value m n known set_one =
      let row = table.set column value (unwrap_or (map.get m id) (blank_row table id)) in
      let put_one : n ≡ map.insert m id row = set_one ∙ ap (λ b. if b then map.insert m id row else m) known in
      ap (λ x. list_any (λ e. p e.0) (map.entries x)) put_one ∙ any_key-insert m id row

pub or_first : (x a b new old : Bool) → new ≡ (x || old) → old ≡ (a || b) → new ≡ ((x || a) || b)
or_first x a b new old h k = h ∙ ap (λ o. x || o) k ∙ assoc x
  where
    assoc : (x : Bool) → (x || (a || b)) ≡ ((x || a) || b)
    assoc true = refl
    assoc false = refl

pub or_second : (x a b new old : Bool) → new ≡ (x || old) → old ≡ (a || b) → new ≡ (a || (x || b))
or_second x a b new old h k = h ∙ ap (λ o. x || o) k ∙ swap x a
  where
    swap : (x a : Bool) → (x || (a || b)) ≡ (a || (x || b))
    swap true true = refl
    swap true false = refl
    swap false true = refl
    swap false false = refl

-- the number of a value may be held
pub held : (v : Value) → IsValue v → HoldsNumber (int_of v)
held Null h = record { low = omega (arith, ints); high = omega (arith, ints) }
held (Number n) h = h
held (IsText t) h = record { low = omega (arith, ints); high = omega (arith, ints) }
held (Other t) h = record { low = omega (arith, ints); high = omega (arith, ints) }
