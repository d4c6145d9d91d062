-- What an edit writes over, and the writes that undo it.
use Rattle.std.specs.Prelude.{◌&&◌, not, pos, Bool, List, [], ◌∷◌, map, filter, Option, None, Some, if◌then◌else◌, codes}
use Rattle.field_values.specs.declared.value.Value.{Value}
use Rattle.field_values.specs.declared.value.Value.TheVariants.{Null, Number}
use Rattle.field_values.specs.Names.{FieldNames, field_of, names_eq}
use Rattle.book_rows.specs.declared.kind.Kind.{Kind}
use Rattle.book_rows.specs.declared.kind.Kind.TheVariants.{Flag, Int, Text, Day}
use Rattle.book_rows.specs.declared.write.RowName.TheVariants.{Given}
use Rattle.book_rows.specs.declared.write.WriteValue.TheVariants.{Plain}
use Rattle.book_rows.specs.declared.write.Write.{Write}
use Rattle.book_rows.specs.Rows.{Values, kind_of, has_tombstone, has_row}
use Rattle.edit_history.specs.declared.before.Before.{Before}

-- of those with one field, the first
abbrev pub first_of_each : {X : Type 0} → (X → FieldNames) → List X → List X
first_of_each field [] = []
first_of_each field (x ∷ xs) = x ∷ filter (λ y. not (names_eq (field x) (field y))) (first_of_each field xs)

-- what a field has, if it has a value, and whether its row is there
abbrev pub before_of : Values → FieldNames → Before
before_of values f = record { field = f; value = values f; was_there = has_row values f }

-- an entry: what an edit writes over, each field once, in the order of its writes
abbrev pub entry_over : Values → List FieldNames → List Before
entry_over values fs = map (before_of values) (first_of_each (λ f. f) fs)

-- the field that says whether the row of a field is deleted
abbrev pub tombstone_of : FieldNames → FieldNames
tombstone_of f = field_of f.dataset f.row (codes "tombstone")

-- what stands for no value in a column: 0 where it is a flag or a number, and else null
abbrev pub blank_of : Option Kind → Value
blank_of (Some Flag) = Number (pos 0)
blank_of (Some Int) = Number (pos 0)
blank_of (Some Text) = Null
blank_of (Some Day) = Null
blank_of None = Null

-- a field that had no value: its row is deleted, where it was not there and can be deleted; else the field gets what stands for no value
abbrev pub undo_none : FieldNames → Bool → FieldNames × Value
undo_none f was_there =
    if not was_there && has_tombstone f.dataset then (tombstone_of f, Number (pos 1)) else (f, blank_of (kind_of f.dataset f.column))

-- a field that had a value gets it back
abbrev pub undo_to : FieldNames → Bool → Option Value → FieldNames × Value
undo_to f was_there (Some v) = (f, v)
undo_to f was_there None = undo_none f was_there

abbrev pub undo_of : Before → FieldNames × Value
undo_of b = undo_to b.field b.was_there b.value

-- the fields that undo an entry, and the value that each of them gets: no field twice
abbrev pub undo_values : List Before → List (FieldNames × Value)
undo_values bs = first_of_each (λ e. e.0) (map undo_of bs)

-- the write of a value into a field
abbrev pub write_of : FieldNames × Value → Write
write_of e = record { dataset = e.0.dataset; row = Given e.0.row; column = e.0.column; value = Plain e.1 }

-- the writes that undo an entry
abbrev pub undo_writes : List Before → List Write
undo_writes bs = map write_of (undo_values bs)
