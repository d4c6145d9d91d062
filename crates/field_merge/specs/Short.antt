-- Names that stand in place.
use Rattle.field_values.specs.Names.{FieldNames}
use Rattle.field_merge.specs.declared.short.ShortTexts.{ShortTexts}
use Rattle.field_merge.specs.declared.short.Held.{Held}
use Rattle.field_merge.specs.declared.short.Held.TheVariants.{Here, There}
use Rattle.field_merge.specs.declared.short.HeldTexts.{HeldTexts}
use Rattle.field_merge.specs.declared.short.HeldTexts.TheVariants.{Here as TextsHere, There as TextsThere}

-- the names that stand in place, or those of the field
abbrev pub names_in : Held → FieldNames
names_in (Here names) = names
names_in (There field) = field

-- three texts as names
abbrev pub names_of_texts : ShortTexts → FieldNames
names_of_texts texts = record { dataset = texts.dataset; row = texts.row; column = texts.column }

-- the names that are copied, or those of the field
abbrev pub texts_in : HeldTexts → FieldNames
texts_in (TextsHere texts) = names_of_texts texts
texts_in (TextsThere field) = field.now
