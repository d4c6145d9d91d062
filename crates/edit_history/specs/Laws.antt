-- What an entry tells, and what an undo restores.
use Rattle.std.specs.Prelude.{◌≡◌, ◌↔◌, ◌⊎◌, pos, false, true, List, [], ◌∷◌, map, Option, None, Some}
use Rattle.std.specs.List.{Contains, IsDistinct}
use Rattle.field_values.specs.declared.value.Value.{Value}
use Rattle.field_values.specs.declared.value.Value.TheVariants.{Null, Number}
use Rattle.field_values.specs.Names.{FieldNames, names_eq}
use Rattle.book_rows.specs.declared.kind.Kind.{Kind}
use Rattle.book_rows.specs.declared.kind.Kind.TheVariants.{Flag, Int, Text, Day}
use Rattle.book_rows.specs.Kinds.{flag_of, int_of, text_of, day_of}
use Rattle.book_rows.specs.Rows.{Values, with_value, kind_of, has_tombstone, has_row}
use Rattle.edit_history.specs.declared.before.Before.{Before}
use Rattle.edit_history.specs.Undo.{before_of, entry_over, tombstone_of, undo_values}

-- an entry tells each field that is written, once, and no other field, each as it is before
pub record TellsBefore (values : Values) (fs : List FieldNames) (entry : List Before) : Type 0 where
  pub once : IsDistinct names_eq (map (λ b. b.field) entry)
  pub exactly : (f : FieldNames) → Contains (map (λ b. b.field) entry) f ↔ Contains fs f
  pub as_before : (b : Before) → Contains entry b → b ≡ before_of values b.field

-- so does each entry, and no field is written twice by what undoes one
pub record EntriesAreTold : Type 0 where
  pub entries : (values : Values) (fs : List FieldNames) → TellsBefore values fs (entry_over values fs)
  pub undone_once : (entry : List Before) → IsDistinct names_eq (map (λ w. w.0) (undo_values entry))

-- the values with others in fields, which are written one after the other
abbrev pub with_values : Values → List (FieldNames × Value) → Values
with_values values [] = values
with_values values (w ∷ ws) = with_values (with_value values w.0 w.1) ws

-- an edit between the values before and after it makes the row of the field, which can be deleted
pub record MakesRow (before after : Values) (f : FieldNames) : Type 0 where
  pub new : has_row before f ≡ false
  pub there : has_row after f ≡ true
  pub mortal : has_tombstone f.dataset ≡ true

-- a book reads the value in a column of this kind as it reads a column without a value; of a column that no book reads, the value is null
abbrev pub ReadsAsNone : Option Kind → Value → Type 0
ReadsAsNone (Some Flag) v = flag_of v ≡ flag_of Null
ReadsAsNone (Some Int) v = int_of v ≡ int_of Null
ReadsAsNone (Some Text) v = text_of v ≡ text_of Null
ReadsAsNone (Some Day) v = day_of v ≡ day_of Null
ReadsAsNone None v = v ≡ Null

-- the field has no value, or one that reads as none
abbrev pub HasNone : Values → FieldNames → Type 0
HasNone values f = (values f ≡ None) ⊎ ((v : Value) × (values f ≡ Some v) × ReadsAsNone (kind_of f.dataset f.column) v)

-- an edit was undone
pub record IsUndone (before after undone : Values) : Type 0 where
  -- each field that had a value has it again
  pub valued : (f : FieldNames) (v : Value) → before f ≡ Some v → undone f ≡ Some v
  -- each field that had none reads as one without a value, where its row was there or can't be deleted
  pub unvalued : (f : FieldNames) → before f ≡ None → (has_row before f ≡ true) ⊎ (has_tombstone f.dataset ≡ false) → HasNone undone f
  -- each row that the edit made is deleted
  pub made : (f : FieldNames) → MakesRow before after f → undone (tombstone_of f) ≡ Some (Number (pos 1))

-- what an edit writes over undoes it
abbrev pub EntriesUndo : Type 0
EntriesUndo = (values : Values) (ws : List (FieldNames × Value)) →
    IsUndone values (with_values values ws) (with_values (with_values values ws) (undo_values (entry_over values (map (λ w. w.0) ws))))
