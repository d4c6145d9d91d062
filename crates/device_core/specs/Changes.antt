-- What messages change that join: the fields whose latest message is then another one.
use Rattle.std.specs.Prelude.{◌≡◌, ◌≢◌, List, [], ◌∷◌, true, false, Option, None, Some, is_some}
use Rattle.std.specs.List.{AllByRecursion, IsDistinct, list_any}
use Rattle.std.specs.BTreeSet.{BTreeSet, contains}
use Rattle.field_values.specs.declared.value.Value.{Value}
use Rattle.field_values.specs.Names.{FieldNames, names_cmp, names_eq}
use Rattle.field_merge.specs.declared.message.Message.{Message}
use Rattle.field_merge.specs.Log.{latest, value_in}
use Rattle.field_merge.specs.Stored.{MarksChanged}
use Rattle.dirty_cells.specs.Changes.{Change, AreDifferent}

-- each field whose latest message is another one in `new` than in `old`, once, with the value that it has in `new`, and no other field
pub record AreChangesOf (old new : List Message) (changes : List Change) : Type 0 where
  pub once : AreDifferent changes
  pub changed : AllByRecursion (λ c. latest old c.0 ≢ latest new c.0) changes
  pub valued : AllByRecursion (λ c. value_in new c.0 ≡ Some c.1) changes
  pub others : (f : FieldNames) → list_any (λ c. names_eq f c.0) changes ≡ false → latest old f ≡ latest new f

-- on the way from the messages `before` to `now`, the marked fields are those whose latest message is another one
pub record Marks (before now : List Message) (marked : BTreeSet FieldNames) : Type 0 where
  pub changed : MarksChanged before now marked
  pub there : (f : FieldNames) → contains names_cmp marked f ≡ true → is_some (latest now f) ≡ true
  pub others : (f : FieldNames) → contains names_cmp marked f ≡ false → latest before f ≡ latest now f

-- these are the fields whose latest message is another one in `new` than in `old`, each once
pub record AreOthers (old new : List Message) (fields : List FieldNames) : Type 0 where
  pub once : IsDistinct names_eq fields
  pub differ : AllByRecursion (λ f. latest old f ≢ latest new f) fields
  pub there : AllByRecursion (λ f. is_some (latest new f) ≡ true) fields
  pub others : (f : FieldNames) → list_any (names_eq f) fields ≡ false → latest old f ≡ latest new f

-- a field with a value, if there is one
abbrev pub given : FieldNames → Option Value → List Change
given f None = []
given f (Some v) = (f, v) ∷ []

-- a field with the value that messages give it, if they do
abbrev pub change_of : List Message → FieldNames → List Change
change_of ms f = given f (value_in ms f)
